-- What is given of a line, and what it is given under.
use Rattle.std.proofs.Common.{◌≡◌, sym, subst, ◌∙◌, ap, ℕ, List}
use Rattle.std.proofs.lemmas.Option.{slice_get_within, get_or_from_slice_get}
use Rattle.std.proofs.lemmas.List.Elements.{All-get_or}
use Rattle.std.specs.Prelude.{All, Option, Some, Result, Ok, Err, Vec, slice_get}
use Rattle.std.specs.declared.alloc.Global.{Global}
use Rattle.states_core.specs.States.{Values}
use Rattle.states_core.specs.declared.fault.Fault.{Fault}
use Rattle.logs_updates.specs.declared.line.Line.{Line}
use Rattle.steps_lines_defs.specs.Logs.{OfLine, place_of_line}
use Rattle.states_layers.specs.Gives.{Gives}
use Rattle.states_layers.specs.declared.steps.StepFault.{StepFault}
use Rattle.states_layers.specs.declared.steps.StepFault.TheVariants.{Eval, TooMany, NoMemory}

some_same : (l m : Line) → ◌≡◌ {A = Option Line} (Some l) (Some m) → l ≡ m
some_same l m e = cc

-- of the line of that number, and of no other
module _ (lines : List Line) (n : ℕ) (l : Line) (at : slice_get lines n ≡ Some l) where
  of_line : (P : Line → Type 0) → P l → OfLine lines n P
  of_line P p = (l, at, p)

  from_line : (P : Line → Type 0) → OfLine lines n P → P l
  from_line P o = subst P (some_same o.0 l (sym o.1 ∙ at)) o.2

  pub line_place : l.at ≡ place_of_line (slice_get lines n)
  line_place = sym (ap place_of_line at)

  pub line_has : (P : Line → Type 0) → All P lines → P l
  line_has P all = subst P (get_or_from_slice_get lines n l l at) (All-get_or P lines n l (slice_get_within lines n l at) all)

  pub gives_of_line : (P : Line → Values → Type 0) (Bad : Line → Values → Fault → Type 0) (Seen : Line → Values → Type 0) (bound : ℕ) (r : Result (Vec Values Global) StepFault)
      → Gives (P l) (Bad l) (Seen l) bound r
      → Gives (λ t. OfLine lines n (λ m. P m t)) (λ t f. OfLine lines n (λ m. Bad m t f)) (λ t. OfLine lines n (λ m. Seen m t)) bound r
  gives_of_line P Bad Seen bound (Ok listed) h = (
    record {
      are = record { distinct = h.0.are.distinct; members = λ t i. of_line (λ m. P m t) (h.0.are.members t i) };
      all = λ t o. h.0.all t (from_line (λ m. P m t) o);
    },
    λ t f bad seen. h.1 t f (from_line (λ m. Bad m t f) bad) (from_line (λ m. Seen m t) seen),
  )
  gives_of_line P Bad Seen bound (Err (Eval f)) h = (h.0, of_line (λ m. Bad m h.0 f) h.1)
  gives_of_line P Bad Seen bound (Err TooMany) h = (h.0, record { distinct = h.1.distinct; members = λ t i. of_line (λ m. P m t) (h.1.members t i) }, h.2)
  gives_of_line P Bad Seen bound (Err NoMemory) h = tt
