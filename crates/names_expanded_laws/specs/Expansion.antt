-- What a program is that is loaded, with `--wide` or without it, when it has what its instances make.
use Rattle.std.specs.Prelude.{ℕ, Bool, List, Option, Ok}
use Rattle.base_core.specs.Device.{File}
use Rattle.reading_trees.specs.declared.module.Program.{Program}
use Rattle.reading_modules.specs.declared.loading.Loaded.{Loaded}
use Rattle.reading_modules.specs.Loads.{LoadsBy}
use Rattle.names_resolved_laws.specs.InOrder.{IsWellFormed}
use Rattle.names_whole_programs.specs.Expansion.{ExpansionBy}
use Rattle.reading_wide_modules.specs.declared.unread.Unread.{Unread}
use Rattle.reading_wide_modules.specs.Wide.{reading_by}

-- it is one as the reader gives it, as the program alone is
abbrev pub ExpandedAreWellFormed : Type 0
ExpandedAreWellFormed =
    (wide : Bool) (holds : Option (List File)) (before now : ℕ) (path : List ℕ) (l : Loaded Unread) → LoadsBy (reading_by wide) holds before now path (Ok l) → (p : Program) → ExpansionBy wide l.program (Ok p) → IsWellFormed p
