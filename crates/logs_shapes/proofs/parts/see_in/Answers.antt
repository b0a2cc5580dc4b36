use Rattle.std.proofs.Common.{sym}
use Rattle.logs_shapes.proofs.PartLemmas.{see_of_other_length}
use Rattle.logs_shapes.proofs.parts.see_in.Goals as goal

pub returns-then-items-ne2 : goal.returns-then-items-ne2
returns-then-items-ne2 c = sym (see_of_other_length c.args.items.now c.if-items-ne2.true)
