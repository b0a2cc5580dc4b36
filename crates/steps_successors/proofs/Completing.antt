-- Places that are whole, and states that complete places.
use Rattle.std.proofs.Common.{◌≡◌, refl, sym, ◌∙◌, ap, arith, ℕ, zero, suc, ◌<◌, true, [], ◌∷◌, length, map}
use Rattle.std.specs.Prelude.{Contains, Option, Some, None, replicate, slice_get}
use Rattle.std.specs.List.{AllByRecursion}
use Rattle.values_core.specs.Data.{Val, truth}
use Rattle.values_core.specs.IsValue.{IsValue}
use Rattle.values_core.specs.Ascending.{head_in, tail_in}
use Rattle.states_core.specs.States.{Values}
use Rattle.eval_meanings.specs.Contexts.{Places}
use Rattle.eval_meanings.specs.Laws.{HoldValues, IsWithin}
use Rattle.steps_lines_defs.specs.Says.{IsState}
use Rattle.actions_meanings.specs.Filled.{Completes}
use Rattle.steps_found_states.proofs.Lists.{all_by_place}
use Rattle.states_layers.proofs.Members.{in_get}

same_place : (o : Option Val) (u v : Val) → ◌≡◌ {A = Option (Option Val)} (Some o) (Some (Some v)) → ◌≡◌ {A = Option (Option Val)} (Some (Some u)) (Some (Some v)) → o ≡ Some u
same_place o u v e f = cc

same_value : (u v : Val) → ◌≡◌ {A = Option (Option Val)} (Some (Some u)) (Some (Some v)) → v ≡ u
same_value u v e = cc

same_some : (u v : Val) → ◌≡◌ {A = Option Val} (Some u) (Some v) → u ≡ v
same_some u v e = cc

-- places with a value each are the state that completes them
pub whole_is : (q : Places) (t : Values) → length t ≡ length q → IsWithin q (map Some t) → ((x : ℕ) → x < length q → (v : Val) × (slice_get q x ≡ Some (Some v))) → q ≡ map Some t
whole_is [] [] e w f = refl
whole_is [] (u ∷ t) e w f = absurd (omega (arith, e))
whole_is (o ∷ q) [] e w f = absurd (omega (arith, e))
whole_is (o ∷ q) (u ∷ t) e w f =
    let h = f zero (omega arith) in
    let head : o ≡ Some u = same_place o u h.0 h.1 (w zero h.0 h.1) in
    let rest : q ≡ map Some t = whole_is q t (omega (arith, e)) (λ x v k. w (suc x) v k) (λ x l. f (suc x) (omega (arith, l))) in
    λ i. head i ∷ rest i

-- a state that completes the places of another is that
pub same_state : (s t : Values) → length t ≡ length s → IsWithin (map Some s) (map Some t) → t ≡ s
same_state [] [] e w = refl
same_state [] (u ∷ t) e w = absurd (omega (arith, e))
same_state (v ∷ s) [] e w = absurd (omega (arith, e))
same_state (v ∷ s) (u ∷ t) e w =
    let head : u ≡ v = sym (same_value u v (w zero v refl)) in
    let rest : t ≡ s = same_state s t (omega (arith, e)) (λ x z k. w (suc x) z k) in
    λ i. head i ∷ rest i

pub map_long : (t : Values) → length (map (λ v. Some v) t) ≡ length t
map_long [] = refl
map_long (v ∷ t) = ap suc (map_long t)

-- some state that completes places of values
abbrev fill : Places → Values
fill [] = []
fill (None ∷ p) = truth true ∷ fill p
fill (Some v ∷ p) = v ∷ fill p

fill_long : (p : Places) → length (fill p) ≡ length p
fill_long [] = refl
fill_long (None ∷ p) = ap suc (fill_long p)
fill_long (Some v ∷ p) = ap suc (fill_long p)

no_place : (v : Val) → ◌≡◌ {A = Option (Option Val)} None (Some (Some v)) → ⊥
no_place v e = cc

no_value : (v : Val) → ◌≡◌ {A = Option (Option Val)} (Some None) (Some (Some v)) → ⊥
no_value v e = cc

fill_has : (p : Places) → IsWithin p (map Some (fill p))
fill_has [] x v e = absurd (no_place v e)
fill_has (None ∷ p) zero v e = absurd (no_value v e)
fill_has (Some u ∷ p) zero v e = e
fill_has (None ∷ p) (suc x) v e = fill_has p x v e
fill_has (Some u ∷ p) (suc x) v e = fill_has p x v e

fill_values : (p : Places) → HoldValues p → AllByRecursion IsValue (fill p)
fill_values [] h = tt
fill_values (None ∷ p) h = (record { canonical = tt; shallow = omega arith }, fill_values p (λ v m. h v (tail_in None p (Some v) m)))
fill_values (Some u ∷ p) h = (h u (head_in (Some u) p), fill_values p (λ v m. h v (tail_in (Some u) p (Some v) m)))

pub possible : (p : Places) → HoldValues p → (t : Values) × Completes p t
possible p h = (fill p, record { long = fill_long p; has = fill_has p; values = all_by_place IsValue (fill p) (fill_values p h) })

-- where no place has a value, each state completes them

empty_long : (n : ℕ) → length (replicate {A = Option Val} n None) ≡ n
empty_long zero = refl
empty_long (suc n) = ap suc (empty_long n)

empty_at : (n x : ℕ) (v : Val) → slice_get (replicate {A = Option Val} n None) x ≡ Some (Some v) → ⊥
empty_at zero x v e = no_place v e
empty_at (suc n) zero v e = no_value v e
empty_at (suc n) (suc x) v e = empty_at n x v e

pub empty_completed : (n : ℕ) (t : Values) → Completes (replicate n None) t → IsState n t
empty_completed n t k = record { long = k.long ∙ empty_long n; values = k.values }

pub completes_empty : (n : ℕ) (t : Values) → IsState n t → Completes (replicate n None) t
completes_empty n t k = record { long = k.long ∙ sym (empty_long n); has = λ x v e. absurd (empty_at n x v e); values = k.values }

empty_holds : (n : ℕ) (v : Val) → Contains (replicate {A = Option Val} n None) (Some v) → ⊥
empty_holds n v m = let r = in_get (replicate {A = Option Val} n None) (Some v) m in empty_at n r.0 v r.1

pub empty_values : (n : ℕ) → HoldValues (replicate n None)
empty_values n v m = absurd (empty_holds n v m)

pub long_of_empty : (n : ℕ) → length (replicate {A = Option Val} n None) ≡ n
long_of_empty n = empty_long n
