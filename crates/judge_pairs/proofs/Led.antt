-- Where a state completes what a line's updates make, they lead to it.
use Rattle.std.proofs.Common.{◌≡◌, ◌↔◌, sym, ap, subst, ◌∙◌, ℕ, Bool, List, length, map}
use Rattle.std.proofs.lemmas.Option.{slice_get-map}
use Rattle.std.specs.Prelude.{IsTrue, Option, Some, None, option_map, slice_get}
use Rattle.std.specs.Option.{IfSome}
use Rattle.values_core.specs.Data.{Val}
use Rattle.states_core.specs.States.{Values}
use Rattle.eval_meanings.specs.Contexts.{Places}
use Rattle.logs_updates.specs.declared.update.Update.{Update}
use Rattle.steps_lines_defs.specs.Says.{IsState}
use Rattle.steps_lines_defs.specs.Asks.{Moves}
use Rattle.actions_meanings.specs.Filled.{Completes}
use Rattle.judge_pairs.specs.Telling.{HasAll}

-- the place of a variable that has a value

place_of : (t : Values) (x : ℕ) (v : Val) → slice_get t x ≡ Some v → slice_get (map Some t) x ≡ Some (Some v)
place_of t x v e = slice_get-map Some t x ∙ ap (option_map Some) e

of_place : (o : Option Val) (v : Val) → ◌≡◌ {A = Option (Option Val)} (option_map Some o) (Some (Some v)) → o ≡ Some v
of_place None v e = absurd (differ e)
  where
    differ : ◌≡◌ {A = Option (Option Val)} None (Some (Some v)) → ⊥
    differ h = cc
of_place (Some u) v e = cc

value_of : (t : Values) (x : ℕ) (v : Val) → slice_get (map Some t) x ≡ Some (Some v) → slice_get t x ≡ Some v
value_of t x v e = of_place (slice_get t x) v (sym (slice_get-map Some t x) ∙ e)

some_of : {A : Type 0} (o : Option A) (x : A) (P : A → Type 0) → o ≡ Some x → IfSome o P → P x
some_of o x P e h = subst (λ q. IfSome q P) e h

pub led_so : (us : List Update) (s t : Values) → IsState (length s) t → (o : Option Places) (p : Places) → o ≡ Some p → IfSome o (λ q. length q ≡ length s)
    → IfSome o (λ q. (u : Values) → Completes q u ↔ (IsState (length s) u × Moves us s u)) → (b : Bool) → IsTrue b ↔ HasAll p t → IsTrue b ↔ Moves us s t
led_so us s t to o p e long exact b h =
    let as_long : length p ≡ length s = some_of o p (λ q. length q ≡ length s) e long in
    let just = some_of o p (λ q. (u : Values) → Completes q u ↔ (IsState (length s) u × Moves us s u)) e exact t in
    (λ y. (just.0 (record { long = to.long ∙ sym as_long; has = λ x v k. place_of t x v (h.0 y x v k); values = to.values })).1, λ m. h.1 (λ x v k. value_of t x v ((just.1 (to, m)).has x v k)))
