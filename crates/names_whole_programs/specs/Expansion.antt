-- What comes of a whole program before its names are resolved, with `--wide` and without it. Too many variables are refused first. Without the word the first
-- thing that is wrong with an instance is refused then; else it is the program that has what the instances make.
use Rattle.std.specs.Prelude.{◌≡◌, Bool, true, false, Some, None, Result, Ok, Err, slice_get}
use Rattle.reading_trees.specs.declared.module.Declared.{Declared}
use Rattle.reading_trees.specs.declared.module.Program.{Program}
use Rattle.reading_trees.specs.declared.module.WholeProgram.{WholeProgram}
use Rattle.names_program.specs.InUnits.{variables_in}
use Rattle.names_resolving.specs.Resolved.{HasFewVariables}
use Rattle.names_resolving.specs.declared.fault.ResolveFault.{ResolveFault}
use Rattle.names_resolving.specs.declared.fault.ResolveFault.TheVariants.{NoMemory, TooManyVariables}
use Rattle.names_whole_programs.specs.Expanded.{expanded}
use Rattle.names_whole_programs.specs.InstanceFaults.{first_instance_fault}
use Rattle.names_whole_programs.specs.Wide.{expanded_wide}

pub data IsExpansion (w : WholeProgram) : Result Program ResolveFault → Type 0 where
  too_many_variables : (d : Declared) → slice_get (variables_in w.program.units) 64 ≡ Some d → IsExpansion w (Err (TooManyVariables d.at))
  wrong_instance : (f : ResolveFault) → HasFewVariables w.program → first_instance_fault w ≡ Some f → IsExpansion w (Err f)
  expands : HasFewVariables w.program → first_instance_fault w ≡ None → IsExpansion w (Ok (expanded w))

pub data IsWideExpansion (w : WholeProgram) : Result Program ResolveFault → Type 0 where
  too_many_with_it : (d : Declared) → slice_get (variables_in w.program.units) 64 ≡ Some d → IsWideExpansion w (Err (TooManyVariables d.at))
  expands_with_it : HasFewVariables w.program → IsWideExpansion w (Ok (expanded_wide w))

-- with the word `--wide`, and without it
abbrev pub ExpansionBy : Bool → WholeProgram → Result Program ResolveFault → Type 0
ExpansionBy true = IsWideExpansion
ExpansionBy false = IsExpansion

-- nothing of this is wrong with the program
pub record IsExpandable (w : WholeProgram) : Type 0 where
  pub few : HasFewVariables w.program
  pub fine : first_instance_fault w ≡ None

abbrev pub IsExpandableBy : Bool → WholeProgram → Type 0
IsExpandableBy true w = HasFewVariables w.program
IsExpandableBy false w = IsExpandable w

-- what a refusal tells: that it comes of the program, or that memory is wanting
abbrev pub ExpansionRefused : Bool → WholeProgram → ResolveFault → Type 0
ExpansionRefused wide w NoMemory = Unit {0}
ExpansionRefused wide w f = ExpansionBy wide w (Err f)
