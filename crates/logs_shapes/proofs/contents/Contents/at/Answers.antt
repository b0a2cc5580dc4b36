use Rattle.std.proofs.Common.{sym}
use Rattle.logs_shapes.proofs.KeyLemmas.{keyed-args, keyed-clock, keyed-event, keyed-init, keyed-see, keyed-update}
use Rattle.logs_shapes.proofs.contents.Contents.at.Goals as goal

pub returns-in-Init : goal.returns-in-Init
returns-in-Init c = rw c.in-Init.is (sym (keyed-init _ _ _ _ _ _))

pub returns-in-Event : goal.returns-in-Event
returns-in-Event c = rw c.in-Event.is (sym (keyed-event _ _ _ _ _ _))

pub returns-in-Args : goal.returns-in-Args
returns-in-Args c = rw c.in-Args.is (sym (keyed-args _ _ _ _ _ _))

pub returns-in-Clock : goal.returns-in-Clock
returns-in-Clock c = rw c.in-Clock.is (sym (keyed-clock _ _ _ _ _ _))

pub returns-in-Update : goal.returns-in-Update
returns-in-Update c = rw c.in-Update.is (sym (keyed-update _ _ _ _ _ _))

pub returns-in-See : goal.returns-in-See
returns-in-See c = rw c.in-See.is (sym (keyed-see _ _ _ _ _ _))
