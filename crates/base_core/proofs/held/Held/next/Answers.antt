use Rattle.base_core.proofs.Filling.{taken_of}
use Rattle.base_core.proofs.held.Held.next.Goals as goal

pub returns-clause-taken : goal.returns-clause-taken
returns-clause-taken c =
    let file = c.in-Some-get.field-0.now in
    let lookup = c.in-Some-get.ensures.lookup in
    taken_of _ _ _ _ _ _ _ _ _ _ file c.in-Some.is c.deref.ensures.value lookup.3.0 lookup.1 c.deref-2.ensures.value c.saturating_add-from.ensures c.fill-count.ensures.taken
