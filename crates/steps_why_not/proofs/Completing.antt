-- Places of values are completed by some state.
use Rattle.std.proofs.Common.{◌≡◌, refl, ap, arith, zero, suc, true, [], ◌∷◌, length, map}
use Rattle.std.specs.Prelude.{Option, Some, None}
use Rattle.std.specs.List.{AllByRecursion}
use Rattle.values_core.specs.Data.{Val, truth}
use Rattle.values_core.specs.IsValue.{IsValue}
use Rattle.values_core.specs.Ascending.{head_in, tail_in}
use Rattle.states_core.specs.States.{Values}
use Rattle.eval_meanings.specs.Contexts.{Places}
use Rattle.eval_meanings.specs.Laws.{HoldValues, IsWithin}
use Rattle.actions_meanings.specs.Filled.{Completes}
use Rattle.steps_found_states.proofs.Lists.{all_by_place}

abbrev fill : Places → Values
fill [] = []
fill (None ∷ p) = truth true ∷ fill p
fill (Some v ∷ p) = v ∷ fill p

fill_long : (p : Places) → length (fill p) ≡ length p
fill_long [] = refl
fill_long (None ∷ p) = ap suc (fill_long p)
fill_long (Some v ∷ p) = ap suc (fill_long p)

no_place : (v : Val) → ◌≡◌ {A = Option (Option Val)} None (Some (Some v)) → ⊥
no_place v e = cc

pub no_value : (v : Val) → ◌≡◌ {A = Option (Option Val)} (Some None) (Some (Some v)) → ⊥
no_value v e = cc

fill_has : (p : Places) → IsWithin p (map Some (fill p))
fill_has [] x v e = absurd (no_place v e)
fill_has (None ∷ p) zero v e = absurd (no_value v e)
fill_has (Some u ∷ p) zero v e = e
fill_has (None ∷ p) (suc x) v e = fill_has p x v e
fill_has (Some u ∷ p) (suc x) v e = fill_has p x v e

fill_values : (p : Places) → HoldValues p → AllByRecursion IsValue (fill p)
fill_values [] h = tt
fill_values (None ∷ p) h = (record { canonical = tt; shallow = omega arith }, fill_values p (λ v m. h v (tail_in None p (Some v) m)))
fill_values (Some u ∷ p) h = (h u (head_in (Some u) p), fill_values p (λ v m. h v (tail_in (Some u) p (Some v) m)))

pub possible : (p : Places) → HoldValues p → (t : Values) × Completes p t
possible p h = (fill p, record { long = fill_long p; has = fill_has p; values = all_by_place IsValue (fill p) (fill_values p h) })
