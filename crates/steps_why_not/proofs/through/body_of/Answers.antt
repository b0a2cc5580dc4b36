use Rattle.std.proofs.Common.{refl}
use Rattle.steps_why_not.proofs.Passing.{defined}
use Rattle.steps_why_not.proofs.through.body_of.Goals as goal

pub returns : goal.returns
returns c =
    let o = c.index-items-number.result in
    (o, defined c.args.spec.now.operators c.items.result.now c.args.number o c.items.ensures c.requires c.index-items-number.is, refl)
