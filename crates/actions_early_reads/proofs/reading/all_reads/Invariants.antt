use Rattle.std.proofs.Common.{◌≡◌, ◌≤◌, ℕ, length}
use Rattle.actions_early_reads.specs.Keeping.{AreKept}
use Rattle.actions_early_reads.proofs.reading.all_reads.Given as goal

abbrev pub invariant-loop-operator : goal.invariant-loop-operator
invariant-loop-operator l = (length l.kept.items ≡ l.operator-index) × ((v : ℕ) → v ≤ 64 → AreKept l.operators v l.kept.items)
