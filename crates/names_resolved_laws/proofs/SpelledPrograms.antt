-- A program with such calls spelled out is as the reader gives it, where it was.
use Rattle.std.proofs.Common.{◌≢◌, ℕ, List, [], ◌∷◌, ◌++◌, map, subst, sym}
use Rattle.std.specs.Prelude.{All, AllPairs, Bool, true, false}
use Rattle.reading_trees.specs.declared.module.Declared.{Declared}
use Rattle.reading_trees.specs.declared.module.Unit.{Unit as ModuleUnit}
use Rattle.reading_trees.specs.declared.module.Unit.TheVariants.{Variables, Constants, Recursive, Define, Instance, Assume, Passed}
use Rattle.names_program.specs.Names.{names_declared}
use Rattle.names_specification_laws.specs.Formed.{UnitIsFormed, UnitsAreFormed}
use Rattle.names_tlc_calls.specs.Laws.{NamesStay, VariablesStay}
use Rattle.names_tlc_calls.specs.Programs.{extends_tlc, own_names, spelled_unit, units_by}
use Rattle.names_resolved_laws.specs.Pruning.{SpelledIsWellFormed}
use Rattle.names_resolved_laws.proofs.SpelledTrees.{formed}

unit_formed : (own : List (List ℕ)) (u : ModuleUnit) → UnitIsFormed u → UnitIsFormed (spelled_unit own u)
unit_formed own (Define d) h = formed (own ++ d.params) d.body h
unit_formed own (Assume e) h = formed own e h
unit_formed own (Variables ds) h = h
unit_formed own (Constants ds) h = h
unit_formed own (Recursive rs) h = h
unit_formed own (Instance m) h = h
unit_formed own Passed h = h

units_formed : (own : List (List ℕ)) (us : List ModuleUnit) → UnitsAreFormed us → UnitsAreFormed (map (spelled_unit own) us)
units_formed own [] h = h
units_formed own (u ∷ us) h = (unit_formed own u h.0, units_formed own us h.1)

formed_by : (extends : Bool) (own : List (List ℕ)) (us : List ModuleUnit) → UnitsAreFormed us → UnitsAreFormed (units_by extends own us)
formed_by false own us h = h
formed_by true own us h = units_formed own us h

abbrev Differ : List (List ℕ) → Type 0
Differ = AllPairs (λ a b. a ≢ b)

pub spelled_formed : VariablesStay → NamesStay → SpelledIsWellFormed
spelled_formed variables names p c unread h = record {
  formed = formed_by (extends_tlc p) (own_names p c unread) p.units h.formed;
  variables_differ = subst (λ (ds : List Declared). Differ (names_declared ds)) (sym (variables p c unread)) h.variables_differ;
  definitions_differ = subst Differ (sym (names p c unread)) h.definitions_differ;
  definitions_named = subst (All (λ n. n ≢ [])) (sym (names p c unread)) h.definitions_named;
}
