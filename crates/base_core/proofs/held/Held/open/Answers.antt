use Rattle.base_core.proofs.Filling.{opened}
use Rattle.base_core.proofs.held.Held.open.Goals as goal

pub returns-in-Some-clause-finds : goal.returns-in-Some-clause-finds
returns-in-Some-clause-finds c = opened _ _ _ _ c.deref.ensures.value c.in-Some.ensures
