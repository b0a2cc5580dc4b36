-- What pruning answers: the program as it was, where something that is needed is bad, or what is left of it.
use Rattle.std.specs.Prelude.{◌≡◌, ℕ, List}
use Rattle.reading_trees.specs.declared.config.Config.{Config}
use Rattle.reading_trees.specs.declared.module.Program.{Program}
use Rattle.names_pruning.specs.declared.program.Pruning.{Pruning}
use Rattle.names_pruning.specs.declared.program.Pruning.TheVariants.{Refused, Left}
use Rattle.names_pruning.specs.Pruning.{NeedsBad, Pruned}

abbrev pub IsPruning : Program → Config → List (List ℕ) → List (List ℕ) → Pruning → Type 0
IsPruning p c unread roots (Refused q) = (q ≡ p) × NeedsBad p c unread roots
IsPruning p c unread roots (Left l) = Pruned p c unread roots l.program l.passed_over
