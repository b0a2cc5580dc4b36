use Rattle.std.proofs.Common.{◌≡◌, ℕ, ◌-◌, ◌+◌, length}
use Rattle.names_term_parts.specs.Marks.{has}
use Rattle.names_term_parts.proofs.slots.Slots.add.Given as goal

abbrev pub invariant-loop-self : goal.invariant-loop-self
invariant-loop-self l = (i : ℕ) → has l.self-inside.marks.items i ≡ has l.initial.self-inside.marks.items i

abbrev pub decreases-loop-self : goal.decreases-loop-self
decreases-loop-self l = (l.slot + 1) - length l.self-inside.marks.items
