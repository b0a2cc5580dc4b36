use Rattle.names_meanings.proofs.AroundLemmas.{around_slots}
use Rattle.names_meanings.proofs.walk.Walk.bind.Goals as goal

pub invariant_of-self : goal.invariant_of-self
invariant_of-self c = around_slots c.self.inside.names.now c.self.inside.scope c.bind.new.self c.self.inside.table c.bind.ensures.slots c.self.invariant
