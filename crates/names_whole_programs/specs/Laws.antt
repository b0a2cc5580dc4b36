-- Of each whole program one thing comes before its names are resolved, and only one, with `--wide` and without it. A program without instances is what it
-- expands to, and what is expanded without the word is so with it.
use Rattle.std.specs.Prelude.{◌≡◌, Bool, false, Result, Ok}
use Rattle.reading_trees.specs.declared.module.Program.{Program}
use Rattle.reading_trees.specs.declared.module.WholeProgram.{WholeProgram}
use Rattle.names_resolving.specs.declared.fault.ResolveFault.{ResolveFault}
use Rattle.names_whole_programs.specs.Expanded.{expanded, has_instances}
use Rattle.names_whole_programs.specs.Expansion.{ExpansionBy, IsExpansion, IsWideExpansion}
use Rattle.names_whole_programs.specs.Wide.{expanded_wide}

abbrev pub OneExpansion : Type 0
OneExpansion = (wide : Bool) (w : WholeProgram) (r s : Result Program ResolveFault) → ExpansionBy wide w r → ExpansionBy wide w s → r ≡ s

abbrev pub AnExpansionExists : Type 0
AnExpansionExists = (wide : Bool) (w : WholeProgram) → (r : Result Program ResolveFault) × ExpansionBy wide w r

abbrev pub StrictIsWide : Type 0
StrictIsWide = (w : WholeProgram) (p : Program) → IsExpansion w (Ok p) → IsWideExpansion w (Ok p)

-- a program without instances
abbrev pub PlainProgramsStay : Type 0
PlainProgramsStay = (w : WholeProgram) → has_instances w.program.units ≡ false → (expanded w ≡ w.program) × (expanded_wide w ≡ w.program)
