use Rattle.values_core.specs.SetLaws.{members-vals_of}
use Rattle.values_core.proofs.value.Value.members.Goals as goal

pub returns-in-Set : goal.returns-in-Set
returns-in-Set c = rw (← c.self.view_is, c.in-Set.is, members-vals_of, ← c.deref.ensures) c.as_slice.ensures.value
