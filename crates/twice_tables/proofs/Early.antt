-- What is refused by the names of a program and by what the configuration gives alone has one first fault.
use Rattle.std.proofs.Common.{◌≡◌, ◌∙◌, sym, refl, subst, ℕ, ◌<◌, inl, inr, arith}
use Rattle.std.specs.Prelude.{◌⊎◌, nat_lt, Bool, true, false, Option, Some, None, slice_get}
use Rattle.std.proofs.lemmas.Bool.Decides.{nat_tests}
use Rattle.reading_trees.specs.declared.config.Config.{Config}
use Rattle.reading_trees.specs.declared.module.Declared.{Declared}
use Rattle.reading_trees.specs.declared.module.Program.{Program}
use Rattle.reading_trees.specs.declared.module.Unit.{Unit as ModuleUnit}
use Rattle.reading_trees.specs.declared.module.Unit.TheVariants.{Variables, Constants, Recursive, Define, Instance, Assume, Passed}
use Rattle.names_meanings.specs.declared.fault.NameFault.{NameFault}
use Rattle.names_meanings.specs.Complaints.{Takes, complaint, with_names}
use Rattle.names_program.specs.InUnits.{constants_in, definitions_in}
use Rattle.names_program.specs.Recursion.{MeetsRecursion}
use Rattle.names_tables.specs.NameFaults.{UnitFault, IsNameFaultAt, IsFirstNameFault, declared_complaints, definitions_before}
use Rattle.names_tables.specs.Values.{HasNoValue, IsFirstWithoutValue}
use Rattle.names_tables.proofs.UnitPlaces.{known_is}

-- two numbers of which neither is below the other
pub neither_below : (i j : ℕ) → (i < j → ⊥) → (j < i → ⊥) → i ≡ j
neither_below i j p q = one (nat_lt i j) (nat_lt j i) refl refl
  where
    one : (s t : Bool) → nat_lt i j ≡ s → nat_lt j i ≡ t → i ≡ j
    one true t a b = (let lt : i < j = grind (arith, nat_tests) in absurd (p lt))
    one false true a b = (let lt : j < i = grind (arith, nat_tests) in absurd (q lt))
    one false false a b = grind (arith, nat_tests)

pub some_one : {A : Type 0} (o : Option A) (x y : A) → o ≡ Some x → o ≡ Some y → x ≡ y
some_one None x y p q = absurd (cc)
some_one (Some z) x y p q = cc

either_fault : (p : Program) (c : Config) (i : ℕ) (u : Type 0) (r f g : NameFault) (o : Option NameFault) → (u × (f ≡ r)) ⊎ ((¬ u) × (o ≡ Some f)) → (u × (g ≡ r)) ⊎ ((¬ u) × (o ≡ Some g)) → f ≡ g
either_fault p c i u r f g o (inl x) (inl y) = x.1 ∙ sym y.1
either_fault p c i u r f g o (inl x) (inr y) = absurd (y.0 x.0)
either_fault p c i u r f g o (inr x) (inl y) = absurd (x.0 y.0)
either_fault p c i u r f g o (inr x) (inr y) = some_one o f g x.1 y.1

unit_fault_one : (p : Program) (c : Config) (k : Takes) (i : ℕ) (u : ModuleUnit) (f g : NameFault) → UnitFault p c k i u f → UnitFault p c k i u g → f ≡ g
unit_fault_one p c k i (Define d) f g x y = either_fault p c i (MeetsRecursion p c i) _ f g (complaint (with_names k d.params) d.body) x y
unit_fault_one p c k i (Assume e) f g x y = some_one (complaint k e) f g x y
unit_fault_one p c k i (Variables ds) f g x y = absurd x
unit_fault_one p c k i (Constants ds) f g x y = absurd x
unit_fault_one p c k i (Recursive rs) f g x y = some_one (declared_complaints (definitions_in p.units) rs) f g x y
unit_fault_one p c k i (Instance m) f g x y = absurd x
unit_fault_one p c k i Passed f g x y = absurd x

name_fault_at_one : (p : Program) (c : Config) (k : ℕ) (f g : NameFault) → IsNameFaultAt p c k f → IsNameFaultAt p c k g → f ≡ g
name_fault_at_one p c k f g x y =
    let same : x.unit ≡ y.unit = some_one (slice_get p.units k) x.unit y.unit x.stands y.stands in
    let known : x.known ≡ y.known = known_is p c x.are.0 x.known x.are.1 x.are ∙ sym (known_is p c x.are.0 y.known x.are.1 y.are) in
    unit_fault_one p c y.known (definitions_before p.units k) y.unit f g (subst (λ (u : ModuleUnit). UnitFault p c y.known (definitions_before p.units k) u f) same (subst (λ (t : Takes). UnitFault p c t (definitions_before p.units k) x.unit f) known x.wrong)) y.wrong

pub name_fault_one : (p : Program) (c : Config) (f g : NameFault) → IsFirstNameFault p c f → IsFirstNameFault p c g → f ≡ g
name_fault_one p c f g x y =
    let same : x.index ≡ y.index = neither_below x.index y.index (λ lt. y.none_before x.index f lt x.is) (λ lt. x.none_before y.index g lt y.is) in
    name_fault_at_one p c y.index f g (subst (λ (k : ℕ). IsNameFaultAt p c k f) same x.is) y.is

pub without_value_one : (p : Program) (c : Config) (d e : Declared) → IsFirstWithoutValue p c d → IsFirstWithoutValue p c e → d ≡ e
without_value_one p c d e x y =
    let same : x.index ≡ y.index = neither_below x.index y.index (λ lt. y.none_before x.index d lt x.is) (λ lt. x.none_before y.index e lt y.is) in
    let here : HasNoValue p c y.index d = subst (λ (k : ℕ). HasNoValue p c k d) same x.is in
    some_one (slice_get (constants_in p.units) y.index) d e here.stands y.is.stands
