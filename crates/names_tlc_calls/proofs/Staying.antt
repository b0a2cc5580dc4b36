-- What stays where calls are spelled out.
use Rattle.std.proofs.Common.{◌≡◌, ◌∙◌, ℕ, List, [], ◌∷◌, ◌++◌, ap, map, refl}
use Rattle.std.specs.Prelude.{Bool, true, false}
use Rattle.reading_trees.specs.declared.module.Declared.{Declared}
use Rattle.reading_trees.specs.declared.module.DeclaredOperator.{DeclaredOperator}
use Rattle.reading_trees.specs.declared.module.Unit.{Unit as ModuleUnit}
use Rattle.reading_trees.specs.declared.module.Unit.TheVariants.{Variables, Constants, Recursive, Define, Instance, Assume, Passed}
use Rattle.names_program.specs.InUnits.{constants_in, definitions_in, recursive_in, variables_in}
use Rattle.names_program.specs.Names.{names_defined}
use Rattle.names_tlc_calls.specs.Laws.{ConstantsStay, NamesStay, OperatorsStay, VariablesStay, UnitCallsNone, UnitsCallNone, WithoutCallsStays, WithoutTlcStays}
use Rattle.reading_trees.specs.Trees.{Tree}
use Rattle.names_tlc_calls.specs.Programs.{extends_tlc, own_names, spelled_unit, units_by}
use Rattle.names_tlc_calls.proofs.Quiet.{stays}

module _ (own : List (List ℕ)) where
  variables : (us : List ModuleUnit) → variables_in (map (spelled_unit own) us) ≡ variables_in us
  variables [] = refl
  variables (Variables ds ∷ us) = ap (λ (rest : List Declared). ds ++ rest) (variables us)
  variables (Constants ds ∷ us) = variables us
  variables (Define d ∷ us) = variables us
  variables (Assume e ∷ us) = variables us
  variables (Recursive rs ∷ us) = variables us
  variables (Instance m ∷ us) = variables us
  variables (Passed ∷ us) = variables us

  constants : (us : List ModuleUnit) → constants_in (map (spelled_unit own) us) ≡ constants_in us
  constants [] = refl
  constants (Variables ds ∷ us) = constants us
  constants (Constants ds ∷ us) = ap (λ (rest : List Declared). ds ++ rest) (constants us)
  constants (Define d ∷ us) = constants us
  constants (Assume e ∷ us) = constants us
  constants (Recursive rs ∷ us) = constants us
  constants (Instance m ∷ us) = constants us
  constants (Passed ∷ us) = constants us

  operators : (us : List ModuleUnit) → recursive_in (map (spelled_unit own) us) ≡ recursive_in us
  operators [] = refl
  operators (Variables ds ∷ us) = operators us
  operators (Constants ds ∷ us) = operators us
  operators (Define d ∷ us) = operators us
  operators (Assume e ∷ us) = operators us
  operators (Recursive rs ∷ us) = ap (λ (rest : List DeclaredOperator). rs ++ rest) (operators us)
  operators (Instance m ∷ us) = operators us
  operators (Passed ∷ us) = operators us

  names : (us : List ModuleUnit) → names_defined (definitions_in (map (spelled_unit own) us)) ≡ names_defined (definitions_in us)
  names [] = refl
  names (Variables ds ∷ us) = names us
  names (Constants ds ∷ us) = names us
  names (Define d ∷ us) = ap (λ (rest : List (List ℕ)). d.name ∷ rest) (names us)
  names (Assume e ∷ us) = names us
  names (Recursive rs ∷ us) = names us
  names (Instance m ∷ us) = names us
  names (Passed ∷ us) = names us

variables_by : (extends : Bool) (own : List (List ℕ)) (us : List ModuleUnit) → variables_in (units_by extends own us) ≡ variables_in us
variables_by false own us = refl
variables_by true own us = variables own us

constants_by : (extends : Bool) (own : List (List ℕ)) (us : List ModuleUnit) → constants_in (units_by extends own us) ≡ constants_in us
constants_by false own us = refl
constants_by true own us = constants own us

operators_by : (extends : Bool) (own : List (List ℕ)) (us : List ModuleUnit) → recursive_in (units_by extends own us) ≡ recursive_in us
operators_by false own us = refl
operators_by true own us = operators own us

names_by : (extends : Bool) (own : List (List ℕ)) (us : List ModuleUnit) → names_defined (definitions_in (units_by extends own us)) ≡ names_defined (definitions_in us)
names_by false own us = refl
names_by true own us = names own us

pub variables_stay : VariablesStay
variables_stay p c unread = variables_by (extends_tlc p) (own_names p c unread) p.units

pub constants_stay : ConstantsStay
constants_stay p c unread = constants_by (extends_tlc p) (own_names p c unread) p.units

pub operators_stay : OperatorsStay
operators_stay p c unread = operators_by (extends_tlc p) (own_names p c unread) p.units

pub names_stay : NamesStay
names_stay p c unread = names_by (extends_tlc p) (own_names p c unread) p.units

pub without_tlc : WithoutTlcStays
without_tlc p c unread e = ap (λ (extends : Bool). record p { units = units_by extends (own_names p c unread) p.units }) e

-- ---- programs that call none of them

unit_stays : (own : List (List ℕ)) (u : ModuleUnit) → UnitCallsNone own u → spelled_unit own u ≡ u
unit_stays own (Define d) h = ap (λ (e : Tree). Define (record d { body = e })) (stays (own ++ d.params) d.body h)
unit_stays own (Assume e) h = ap (λ (x : Tree). Assume x) (stays own e h)
unit_stays own (Variables ds) h = refl
unit_stays own (Constants ds) h = refl
unit_stays own (Recursive rs) h = refl
unit_stays own (Instance m) h = refl
unit_stays own Passed h = refl

units_stay : (own : List (List ℕ)) (us : List ModuleUnit) → UnitsCallNone own us → map (spelled_unit own) us ≡ us
units_stay own [] h = refl
units_stay own (u ∷ us) h =
    ap (λ (v : ModuleUnit). v ∷ map (spelled_unit own) us) (unit_stays own u h.0) ∙ ap (λ (vs : List ModuleUnit). u ∷ vs) (units_stay own us h.1)

stay_by : (extends : Bool) (own : List (List ℕ)) (us : List ModuleUnit) → UnitsCallNone own us → units_by extends own us ≡ us
stay_by false own us h = refl
stay_by true own us h = units_stay own us h

pub without_calls : WithoutCallsStays
without_calls p c unread h = ap (λ (us : List ModuleUnit). record p { units = us }) (stay_by (extends_tlc p) (own_names p c unread) p.units h)
