use Rattle.std.proofs.Common.{◌≡◌, ◌<◌, ℕ, true}
use Rattle.names_term_parts.specs.Marks.{has}
use Rattle.names_term_parts.proofs.slots.Slots.lacks.Given as goal

abbrev pub invariant-loop-slot : goal.invariant-loop-slot
invariant-loop-slot l = (i : ℕ) → i < l.slot → has l.other i ≡ true → has l.self i ≡ true
