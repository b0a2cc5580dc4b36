-- Two lists that are gone through together: the units of a program, and its instances.
use Rattle.std.proofs.Common.{◌≡◌, ◌∙◌, sym, ap, refl, List, [], ◌∷◌, ◌++◌, length, ◌<◌, ◌≤◌, arith, add-one, append_assoc, append-nil}
use Rattle.std.specs.Prelude.{ℕ, zero, suc, ◌+◌, Option, Some, None, drop, get_or, slice_get}
use Rattle.reading_trees.specs.declared.module.Instance.{Instance as ModuleInstance}
use Rattle.reading_trees.specs.declared.module.Program.{Program}
use Rattle.reading_trees.specs.declared.module.Unit.{Unit as ModuleUnit}
use Rattle.reading_trees.specs.declared.module.Unit.TheVariants.{Variables, Constants, Recursive, Define, Instance, Assume, Passed}
use Rattle.names_program.specs.Names.{first_of}
use Rattle.names_program.proofs.Cuts.{cut_at, cut_end}
use Rattle.names_resolving.specs.declared.fault.ResolveFault.{ResolveFault}
use Rattle.names_whole_programs.specs.Expanded.{left_by, next_of}
use Rattle.names_whole_programs.specs.InstanceFaults.{unit_fault, units_fault}
use Rattle.names_whole_programs.specs.Steps.{steps_of}
use Rattle.names_whole_programs.specs.Wide.{left_of, wide_units}

-- a unit, and what it makes
pub one_and_more : (old mid new made : List ModuleUnit) (u x : ModuleUnit) → x ≡ u → mid ≡ old ++ x ∷ [] → new ≡ mid ++ made → new ≡ old ++ u ∷ made
one_and_more old mid new made u x e m n =
    n ∙ ap (λ (l : List ModuleUnit). l ++ made) m ∙ append_assoc old (x ∷ []) made ∙ ap (λ (y : ModuleUnit). old ++ y ∷ made) e

-- the next instance is the one of that index
pub next_is : (is : List ModuleInstance) (k : ℕ) → next_of (drop k is) ≡ slice_get is k
next_is [] zero = refl
next_is [] (suc k) = refl
next_is (i ∷ is) zero = refl
next_is (i ∷ is) (suc k) = next_is is k

drop_one : (is : List ModuleInstance) (k : ℕ) → drop 1 (drop k is) ≡ drop (suc k) is
drop_one [] zero = refl
drop_one [] (suc k) = refl
drop_one (i ∷ is) zero = refl
drop_one (i ∷ is) (suc k) = drop_one is k

one_less : (is : List ModuleInstance) (k : ℕ) → drop 1 (drop k is) ≡ drop (k + 1) is
one_less is k = rw add-one (drop_one is k)

none_more : (is : List ModuleInstance) (k : ℕ) → drop k is ≡ drop (k + 0) is
none_more is k = (let same : k ≡ k + 0 = omega arith in ap (λ (j : ℕ). drop j is) same)

pub left_is : (u : ModuleUnit) (is : List ModuleInstance) (k : ℕ) → left_by u (drop k is) ≡ drop (k + steps_of u) is
left_is (Instance m) is k = one (drop k is) ∙ one_less is k
  where
    one : (xs : List ModuleInstance) → left_by (Instance m) xs ≡ drop 1 xs
    one [] = refl
    one (x ∷ xs) = refl
left_is (Variables ds) is k = none_more is k
left_is (Constants ds) is k = none_more is k
left_is (Define d) is k = none_more is k
left_is (Recursive rs) is k = none_more is k
left_is (Assume e) is k = none_more is k
left_is Passed is k = none_more is k

pub few_steps : (u : ModuleUnit) → steps_of u ≤ 1
few_steps (Instance m) = omega arith
few_steps (Variables ds) = omega arith
few_steps (Constants ds) = omega arith
few_steps (Define d) = omega arith
few_steps (Recursive rs) = omega arith
few_steps (Assume e) = omega arith
few_steps Passed = omega arith

module _ (p : Program) (us : List ModuleUnit) (is : List ModuleInstance) (i k r : ℕ) (u : ModuleUnit) (o : Option ModuleInstance) (lt : i < length us) (at : u ≡ get_or us i u) (next : o ≡ slice_get is k) (step : r ≡ steps_of u) where
  left_here : left_by u (drop k is) ≡ drop (k + r) is
  left_here = left_is u is k ∙ ap (λ (n : ℕ). drop (k + n) is) (sym step)

  here : next_of (drop k is) ≡ o
  here = next_is is k ∙ sym next

  rest_is : wide_units p (drop i us) (drop k is) ≡ left_of p u o ++ wide_units p (drop (i + 1) us) (drop (k + r) is)
  rest_is =
      ap (λ (l : List ModuleUnit). wide_units p l (drop k is)) (cut_at us i u lt at)
      ∙ ap (λ (x : Option ModuleInstance). left_of p u x ++ wide_units p (drop (i + 1) us) (left_by u (drop k is))) here
      ∙ ap (λ (l : List ModuleInstance). left_of p u o ++ wide_units p (drop (i + 1) us) l) left_here

  pub expanded_on : (old new target : List ModuleUnit) → new ≡ old ++ left_of p u o → old ++ wide_units p (drop i us) (drop k is) ≡ target → new ++ wide_units p (drop (i + 1) us) (drop (k + r) is) ≡ target
  expanded_on old new target n t =
      ap (λ (l : List ModuleUnit). l ++ wide_units p (drop (i + 1) us) (drop (k + r) is)) n
      ∙ append_assoc old (left_of p u o) (wide_units p (drop (i + 1) us) (drop (k + r) is))
      ∙ ap (λ (l : List ModuleUnit). old ++ l) (sym rest_is)
      ∙ t

  fault_is : units_fault p (drop i us) (drop k is) ≡ first_of (unit_fault p u o) (units_fault p (drop (i + 1) us) (drop (k + r) is))
  fault_is =
      ap (λ (l : List ModuleUnit). units_fault p l (drop k is)) (cut_at us i u lt at)
      ∙ ap (λ (x : Option ModuleInstance). first_of (unit_fault p u x) (units_fault p (drop (i + 1) us) (left_by u (drop k is)))) here
      ∙ ap (λ (l : List ModuleInstance). first_of (unit_fault p u o) (units_fault p (drop (i + 1) us) l)) left_here

  pub fault_on : (target : Option ResolveFault) → unit_fault p u o ≡ None → units_fault p (drop i us) (drop k is) ≡ target → units_fault p (drop (i + 1) us) (drop (k + r) is) ≡ target
  fault_on target none t =
      sym (fault_is ∙ ap (λ (x : Option ResolveFault). first_of x (units_fault p (drop (i + 1) us) (drop (k + r) is))) none) ∙ t

pub fault_found : (p : Program) (us : List ModuleUnit) (is : List ModuleInstance) (i k : ℕ) (u : ModuleUnit) (o : Option ModuleInstance) (f : ResolveFault) (target : Option ResolveFault) → i < length us → u ≡ get_or us i u → o ≡ slice_get is k → unit_fault p u o ≡ Some f
    → units_fault p (drop i us) (drop k is) ≡ target → Some f ≡ target
fault_found p us is i k u o f target lt at next some t =
    sym (fault_is p us is i k (steps_of u) u o lt at next refl ∙ ap (λ (x : Option ResolveFault). first_of x (units_fault p (drop (i + 1) us) (drop (k + steps_of u) is))) some) ∙ t

pub expanded_end : (p : Program) (us : List ModuleUnit) (is : List ModuleInstance) (i k : ℕ) (old target : List ModuleUnit) → length us ≤ i → old ++ wide_units p (drop i us) (drop k is) ≡ target → old ≡ target
expanded_end p us is i k old target le t =
    sym (append-nil old) ∙ ap (λ (l : List ModuleUnit). old ++ wide_units p l (drop k is)) (sym (cut_end us i le)) ∙ t

pub fault_end : (p : Program) (us : List ModuleUnit) (is : List ModuleInstance) (i k : ℕ) (target : Option ResolveFault) → length us ≤ i → units_fault p (drop i us) (drop k is) ≡ target → None ≡ target
fault_end p us is i k target le t = ap (λ (l : List ModuleUnit). units_fault p l (drop k is)) (sym (cut_end us i le)) ∙ t
