-- Copies of lemmas that `steps_found_states` has and keeps to itself (`set_within` of its Filling; `one_listed`, `one_set_at` and `one_list_at` of its Simple).
-- They are to be joined with those as soon as that crate is changed anyway, since all above it is then proved anew.
use Rattle.std.proofs.Common.{◌≡◌, inr, sym, ◌∙◌, ap, ℕ, zero, suc, [], ◌∷◌, length, refl}
use Rattle.std.specs.Prelude.{Option, None, Some, Ok, Err, slice_get, slice_set}
use Rattle.base_core.specs.declared.place.Place.{Place}
use Rattle.values_core.specs.Data.{Val}
use Rattle.values_sets.specs.DescribedSets.{Described, Listed}
use Rattle.values_sets.specs.Listings.{IsListed, Lists}
use Rattle.values_sets.proofs.Outcomes.{lists_one_way}
use Rattle.eval_meanings.specs.Contexts.{Places}
use Rattle.eval_meanings.specs.Laws.{IsWithin}
use Rattle.eval_meanings.specs.Sets.{list_at, set_at}
use Rattle.eval_meanings.proofs.AtMostOne.{One, one_gives}
use Rattle.eval_laws.proofs.Fine.{one_operated}
use Rattle.eval_laws.proofs.OneAnswer.{HasOneAnswer}
use Rattle.steps_why_branches.proofs.Elements.{get_nil}

-- places

filled_no_gap : (v : Val) → ◌≡◌ {A = Option (Option Val)} (Some None) (Some (Some v)) → ⊥
filled_no_gap v e = cc

pub set_within : (p : Places) (n : ℕ) (v : Val) → slice_get p n ≡ Some None → IsWithin p (slice_set p n (Some v))
set_within [] n v e x w h = absurd (get_nil x (Some w) h)
set_within (o ∷ p) zero v e zero w h = absurd (filled_no_gap w (sym e ∙ h))
set_within (o ∷ p) zero v e (suc x) w h = h
set_within (o ∷ p) (suc n) v e zero w h = h
set_within (o ∷ p) (suc n) v e (suc x) w h = set_within p n v e x w h

pub set_length : (p : Places) (n : ℕ) (v : Option Val) → length (slice_set p n v) ≡ length p
set_length [] n v = refl
set_length (o ∷ p) zero v = refl
set_length (o ∷ p) (suc n) v = ap suc (set_length p n v)

pub set_there : (p : Places) (n : ℕ) (v : Val) → slice_get p n ≡ Some None → slice_get (slice_set p n (Some v)) n ≡ Some (Some v)
set_there [] n v e = absurd (get_nil n None e)
set_there (o ∷ p) zero v e = refl
set_there (o ∷ p) (suc n) v e = set_there p n v e

-- the set that a value means, and its list

one_listed : (v : Val) → HasOneAnswer (IsListed v)
one_listed v (Ok d) (Ok e) h g = inr (inr (ap Ok (h.1 ∙ sym g.1)))
one_listed v (Ok d) (Err f) h g = absurd (g.0 h.0)
one_listed v (Err e) (Ok d) h g = absurd (h.0 g.0)
one_listed v (Err e) (Err f) h g = inr (inr (ap Err (h.1 ∙ sym g.1)))

pub one_set_at : (at : Place) (S : Described) → One (set_at at S)
one_set_at at (Listed v) = one_operated (IsListed v) (λ n. at) (one_listed v)
one_set_at at S = one_gives S

pub one_list_at : (at : Place) (S : Described) → One (list_at at S)
one_list_at at (Listed v) = one_gives v
one_list_at at S = one_operated (Lists S) (λ n. at) (lists_one_way S)
