use Rattle.logs_shapes.proofs.KeyLemmas.{reads-args, reads-clock, reads-event, reads-init, reads-see, reads-update}
use Rattle.logs_shapes.proofs.object.LineObject.read_at.Goals as goal

pub returns-in-Init-clause-read : goal.returns-in-Init-clause-read
returns-in-Init-clause-read c = rw c.in-Init.is (reads-init _ _ _ _ _ _ _ _ _ _ c.read.ensures.read)

pub returns-in-Event-clause-read : goal.returns-in-Event-clause-read
returns-in-Event-clause-read c = rw c.in-Event.is (reads-event _ _ _ _ _ _ _ _ _ _ c.read-in-Event.ensures.read)

pub returns-in-Args-clause-read : goal.returns-in-Args-clause-read
returns-in-Args-clause-read c = rw c.in-Args.is (reads-args _ _ _ _ _ _ _ _ _ _ c.read-in-Args.ensures.read)

pub returns-in-Clock-clause-read : goal.returns-in-Clock-clause-read
returns-in-Clock-clause-read c = rw c.in-Clock.is (reads-clock _ _ _ _ _ _ _ _ _ _ c.read-in-Clock.ensures.read)

pub returns-in-Update-clause-read : goal.returns-in-Update-clause-read
returns-in-Update-clause-read c = rw c.in-Update.is (reads-update _ _ _ _ _ _ _ _ _ _ c.read-in-Update.ensures.read)

pub returns-in-See-clause-read : goal.returns-in-See-clause-read
returns-in-See-clause-read c = rw c.in-See.is (reads-see _ _ _ _ _ _ _ _ _ _ c.read-in-See.ensures.read)
