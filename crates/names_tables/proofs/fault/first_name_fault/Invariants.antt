use Rattle.std.proofs.Common.{◌≡◌, ℕ, List, ◌<◌, ◌≤◌, length}
use Rattle.std.specs.Prelude.{Bool}
use Rattle.names_term_parts.specs.Slots.{UsesSmaller}
use Rattle.names_meanings.specs.declared.fault.NameFault.{NameFault}
use Rattle.names_meanings.specs.Outcomes.{takes_of}
use Rattle.names_scopes.specs.Standing.{AreIn}
use Rattle.names_program.specs.Recursion.{AreLevelsOf}
use Rattle.names_tables.specs.NameFaults.{IsNameFaultAt, definitions_before, takes_in_program}
use Rattle.names_tables.proofs.fault.first_name_fault.Given as goal

abbrev pub invariant-loop-unit : goal.invariant-loop-unit
invariant-loop-unit l = record {
  counted : l.index ≡ definitions_before l.program.units l.unit-index;
  few : l.index ≤ l.unit-index;
  known : AreIn (length l.table) l.names;
  smaller : UsesSmaller l.table;
  takes : (bs : List Bool) → AreLevelsOf l.program l.config bs → takes_of l.table l.names ≡ takes_in_program l.program l.config bs;
  fine : (j : ℕ) (f : NameFault) → j < l.unit-index → ¬ IsNameFaultAt l.program l.config j f;
}
