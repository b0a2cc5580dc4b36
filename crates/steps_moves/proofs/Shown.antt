-- The values of a state as filled places, and what is seen of them.
use Rattle.std.proofs.Common.{◌≡◌, inl, inr, ℕ, ◌<◌, length, map, get_or, Option, Some, None, ap, sym, ◌∙◌, subst, arith}
use Rattle.std.specs.Prelude.{option_map, slice_get}
use Rattle.std.proofs.lemmas.List.{length-map}
use Rattle.std.proofs.lemmas.Option.{slice_get-map, slice_get_cases, same_Some}
use Rattle.values_core.specs.Data.{Val}
use Rattle.states_core.specs.States.{Values}
use Rattle.eval_meanings.specs.Contexts.{Places}
use Rattle.logs_updates.specs.Changes.{LeadsTo}
use Rattle.logs_updates.specs.declared.update.See.{See}
use Rattle.steps_lines_defs.specs.Asks.{IsSeen}
use Rattle.steps_moves.specs.Laws.{ShownAgrees, WholeShows}

unmapped : (o : Option Val) (v : Val) → option_map (λ (w : Val). Some w) o ≡ Some (Some v) → o ≡ Some v
unmapped None v e = absurd (cc)
unmapped (Some w) v e = same_Some (Some w) (Some v) e

pub placed : (t : Values) (x : ℕ) (v : Val) → slice_get t x ≡ Some v → slice_get (map Some t) x ≡ Some (Some v)
placed t x v e = slice_get-map (λ (w : Val). Some w) t x ∙ ap (λ (o : Option Val). option_map (λ (w : Val). Some w) o) e

pub from_placed : (t : Values) (x : ℕ) (v : Val) → slice_get (map Some t) x ≡ Some (Some v) → slice_get t x ≡ Some v
from_placed t x v e = unmapped (slice_get t x) v (sym (slice_get-map (λ (w : Val). Some w) t x) ∙ e)

pub whole_shows : WholeShows
whole_shows sees p t e within agree k d l =
    let see : See = get_or sees k d in
    let there : see.path.variable.0 < length t = omega (arith, within k d l, ap length e, length-map t (λ (w : Val). Some w)) in
    let cases = (slice_get_cases t see.path.variable.0).1 in
    elim cases [
      | inl q ↦
          let place : slice_get p see.path.variable.0 ≡ Some (Some q.0) = subst (λ (r : Places). slice_get r see.path.variable.0 ≡ Some (Some q.0)) e (placed t see.path.variable.0 q.0 q.2) in
          (q.0, q.2, agree k d l q.0 place)
      | inr q ↦ absurd (omega (arith, q.0, there))
    ]

pub shown_agrees : ShownAgrees
shown_agrees sees p t c shown k d l v e =
    let see : See = get_or sees k d in
    let h : IsSeen t see = shown k d l in
    let same : h.0 ≡ v = same_Some h.0 v (sym h.1 ∙ from_placed t see.path.variable.0 v (c.has see.path.variable.0 v e)) in
    subst (λ (w : Val). LeadsTo see.path.keys w see.value) same h.2
