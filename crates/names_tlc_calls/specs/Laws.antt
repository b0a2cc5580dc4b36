-- What stays where calls are spelled out.
use Rattle.std.specs.Prelude.{◌≡◌, ℕ, Bool, true, false, ◌||◌, List, [], ◌∷◌, ◌++◌, codes}
use Rattle.std.specs.Str.{bytes_eq}
use Rattle.reading_trees.specs.declared.config.Config.{Config}
use Rattle.reading_trees.specs.declared.module.Program.{Program}
use Rattle.reading_trees.specs.declared.module.Unit.{Unit as ModuleUnit}
use Rattle.reading_trees.specs.declared.module.Unit.TheVariants.{Variables, Constants, Recursive, Define, Instance, Assume, Passed}
use Rattle.names_program.specs.InUnits.{constants_in, definitions_in, recursive_in, variables_in}
use Rattle.names_program.specs.Names.{names_defined}
use Rattle.names_scopes.specs.Mentions.{is_one_of, mentions}
use Rattle.names_tlc_calls.specs.Programs.{extends_tlc, own_names, spelled_out}

-- what is declared
abbrev pub VariablesStay : Type 0
VariablesStay = (p : Program) (c : Config) (unread : List (List ℕ)) → variables_in (spelled_out p c unread).units ≡ variables_in p.units

abbrev pub ConstantsStay : Type 0
ConstantsStay = (p : Program) (c : Config) (unread : List (List ℕ)) → constants_in (spelled_out p c unread).units ≡ constants_in p.units

abbrev pub OperatorsStay : Type 0
OperatorsStay = (p : Program) (c : Config) (unread : List (List ℕ)) → recursive_in (spelled_out p c unread).units ≡ recursive_in p.units

-- the names of definitions
abbrev pub NamesStay : Type 0
NamesStay = (p : Program) (c : Config) (unread : List (List ℕ)) → names_defined (definitions_in (spelled_out p c unread).units) ≡ names_defined (definitions_in p.units)

-- a program that does not extend TLC
abbrev pub WithoutTlcStays : Type 0
WithoutTlcStays = (p : Program) (c : Config) (unread : List (List ℕ)) → extends_tlc p ≡ false → spelled_out p c unread ≡ p

abbrev pub is_of_tlc : List ℕ → Bool
is_of_tlc n = bytes_eq n (codes "Assert") || (bytes_eq n (codes "Print") || (bytes_eq n (codes "PrintT") || bytes_eq n (codes "TLCEval")))

-- no such name is free in what the unit defines or assumes, but for those that mean something of the program's own
abbrev pub UnitCallsNone : List (List ℕ) → ModuleUnit → Type 0
UnitCallsNone own (Define d) = (n : List ℕ) → is_of_tlc n ≡ true → is_one_of n (own ++ d.params) ≡ false → mentions n d.body ≡ false
UnitCallsNone own (Assume e) = (n : List ℕ) → is_of_tlc n ≡ true → is_one_of n own ≡ false → mentions n e ≡ false
UnitCallsNone own (Variables ds) = Unit {0}
UnitCallsNone own (Constants ds) = Unit {0}
UnitCallsNone own (Recursive rs) = Unit {0}
UnitCallsNone own (Instance m) = Unit {0}
UnitCallsNone own Passed = Unit {0}

abbrev pub UnitsCallNone : List (List ℕ) → List ModuleUnit → Type 0
UnitsCallNone own [] = Unit {0}
UnitsCallNone own (u ∷ us) = UnitCallsNone own u × UnitsCallNone own us

-- a program that calls none of them
abbrev pub WithoutCallsStays : Type 0
WithoutCallsStays = (p : Program) (c : Config) (unread : List (List ℕ)) → UnitsCallNone (own_names p c unread) p.units → spelled_out p c unread ≡ p
