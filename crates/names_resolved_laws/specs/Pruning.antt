-- What is left of a program as the reader gives it is one as the reader gives it, and so is the program with calls of TLC's operators spelled out.
use Rattle.std.specs.Prelude.{ℕ, List}
use Rattle.reading_trees.specs.declared.config.Config.{Config}
use Rattle.reading_trees.specs.declared.module.Program.{Program}
use Rattle.reading_trees.specs.declared.module.Unit.{Unit as ModuleUnit}
use Rattle.names_resolved_laws.specs.InOrder.{IsWellFormed}
use Rattle.names_tlc_calls.specs.Programs.{spelled_out}
use Rattle.names_pruning.specs.Laws.{IsLeft}

abbrev pub LeftIsWellFormed : Type 0
LeftIsWellFormed = (p : Program) (c : Config) (unread roots : List (List ℕ)) (q : Program) (over : List ModuleUnit) → IsLeft p c unread roots q over
    → IsWellFormed p → IsWellFormed q

abbrev pub SpelledIsWellFormed : Type 0
SpelledIsWellFormed = (p : Program) (c : Config) (unread : List (List ℕ)) → IsWellFormed p → IsWellFormed (spelled_out p c unread)
