-- For the prover: the parts that are asked for make up the steps of the system.
use Rattle.std.proofs.Common.{inl, inr, ap, subst, sym, ◌∙◌}
use Rattle.std.specs.Prelude.{◌≡◌, ℕ, true, List, Option, Some, None, slice_get, refl}
use Rattle.states_core.specs.States.{Values}
use Rattle.names_terms.specs.declared.spec.Spec.{Spec}
use Rattle.logs_updates.specs.declared.line.Line.{Line}
use Rattle.logs_updates.specs.declared.line.Log.{Log}
use Rattle.steps_lines_defs.specs.Says.{BothHold}
use Rattle.steps_lines_defs.specs.Asks.{AreSeen, HasNoEvent, act_of}
use Rattle.steps_lines_defs.specs.Logs.{Asked, OfLine}
use Rattle.states_verdicts.specs.Asks.{IsComposed, IsLineStep}
use Rattle.judge_pairs.specs.Filling.{pair_asks}

abbrev line_or : Line → Option Line → Line
line_or l None = l
line_or l (Some m) = m

same_line : (lines : List Line) (n : ℕ) (l m : Line) → slice_get lines n ≡ Some l → slice_get lines n ≡ Some m → m ≡ l
same_line lines n l m e h = ap (line_or l) (sym h ∙ e)

-- what holds of the line of that number, of whichever line it is
of_that : (lines : List Line) (n : ℕ) (l : Line) → slice_get lines n ≡ Some l → (P : Line → Type 0) → OfLine lines n P → P l
of_that lines n l e P o = subst P (same_line lines n l o.0 e o.1) o.2

module _ (g : Spec) (log : Log) (asked : Asked) where
  to_parts : (n : ℕ) (s t : Values) → (pair_asks g log asked).system.Step n s t → IsLineStep (pair_asks g log asked) n s t
  to_parts n s t h = elim h.2.1 [
    | inl b ↦ inl (record { moves = (h.0, h.1, (h.2.0, b.0)); acts = (h.0, h.1, b.1); shows = (h.0, h.1, b.2) })
    | inr b ↦ inr (record { allowed = (h.0, h.1, b.0); same = b.1; moves = (h.0, h.1, (h.2.0, b.2)); shows = (h.0, h.1, b.3) })
  ]

  from_parts : (n : ℕ) (s t : Values) → IsLineStep (pair_asks g log asked) n s t → (pair_asks g log asked).system.Step n s t
  from_parts n s t (inl h) = (
    h.moves.0,
    h.moves.1,
    (
      h.moves.2.0,
      inl (h.moves.2.1, of_that log.lines n h.moves.0 h.moves.1 (λ l. BothHold g (act_of l.event) s t) h.acts, of_that log.lines n h.moves.0 h.moves.1 (λ l. AreSeen l.sees t) h.shows),
    ),
  )
  from_parts n s t (inr h) = (
    h.moves.0,
    h.moves.1,
    (
      h.moves.2.0,
      inr (of_that log.lines n h.moves.0 h.moves.1 (λ l. (asked.stutter ≡ true) × HasNoEvent l.event) h.allowed, h.same, h.moves.2.1, of_that log.lines n h.moves.0 h.moves.1 (λ l. AreSeen l.sees t) h.shows),
    ),
  )

  pub composed : IsComposed (pair_asks g log asked)
  composed = record { step = λ n s t. (to_parts n s t, from_parts n s t); state = λ s. refl }
