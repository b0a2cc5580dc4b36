use Rattle.std.proofs.Common.{◌≡◌, ℕ, ◌<◌, ◌≤◌}
use Rattle.names_terms.specs.Lists.{terms_list}
use Rattle.names_term_parts.specs.declared.fault.LevelFault.{LevelFault}
use Rattle.names_program.specs.Names.{numbers_of}
use Rattle.names_tables.specs.NameFaults.{definitions_before}
use Rattle.names_resolving.specs.UnitLevels.{IsLevelFaultAt, assumptions_before}
use Rattle.names_resolving.proofs.unit_levels.first_level_fault.Given as goal

abbrev pub invariant-loop-unit : goal.invariant-loop-unit
invariant-loop-unit l = record {
  defined : l.definitions ≡ definitions_before l.program.units l.unit-index;
  assumed : l.assumptions ≡ assumptions_before l.program.units l.unit-index;
  few : l.definitions ≤ l.unit-index;
  few_assumed : l.assumptions ≤ l.unit-index;
  fine : (j : ℕ) (f : LevelFault) → j < l.unit-index → ¬ IsLevelFaultAt l.program (numbers_of l.table.numbers.items) l.table.operators (terms_list l.assumes) j f;
}
