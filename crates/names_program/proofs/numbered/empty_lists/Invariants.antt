use Rattle.std.proofs.Common.{◌≡◌, length}
use Rattle.std.specs.Prelude.{ℕ, [], get_or}
use Rattle.names_program.proofs.numbered.empty_lists.Given as goal

abbrev pub invariant-loop-made : goal.invariant-loop-made
invariant-loop-made l = (length l.lists.items ≡ l.made) × ((i : ℕ) → get_or l.lists.items i [] ≡ [])
