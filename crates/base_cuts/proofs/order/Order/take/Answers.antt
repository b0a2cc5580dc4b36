use Rattle.base_cuts.specs.Cuts.{next}
use Rattle.base_cuts.proofs.Ends.{ready_inside, ready_room}
use Rattle.base_cuts.proofs.order.Order.take.Goals as goal

pub with_one-requires-clause-inside : goal.with_one-requires-clause-inside
with_one-requires-clause-inside c = ready_inside c.args.self.now c.requires.made c.args.cut.now (next c.args.cut.now c.args.file) c.requires.ready

pub with_one-requires-clause-room : goal.with_one-requires-clause-room
with_one-requires-clause-room c = ready_room c.args.self.now c.requires.made c.requires.countable c.args.cut.now c.args.file c.requires.ready
