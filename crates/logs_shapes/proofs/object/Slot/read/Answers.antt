use Rattle.std.proofs.Common.{refl}
use Rattle.serde_json.specs.View.{view}
use Rattle.logs_shapes.proofs.object.Slot.read.Goals as goal

pub returns-clause-read : goal.returns-clause-read
returns-clause-read c = (view c.reread_value.new.place, refl, c.in_ok-reread_value.ensures.read)
