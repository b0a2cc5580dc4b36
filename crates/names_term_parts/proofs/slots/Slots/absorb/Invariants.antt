use Rattle.names_term_parts.specs.Marks.{Absorbs}
use Rattle.names_term_parts.proofs.slots.Slots.absorb.Given as goal

abbrev pub invariant-loop-slot : goal.invariant-loop-slot
invariant-loop-slot l = Absorbs l.slot l.initial.self l.other l.self
