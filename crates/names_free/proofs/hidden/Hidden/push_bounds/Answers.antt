use Rattle.names_free.proofs.Items.{names_end}
use Rattle.names_free.proofs.hidden.Hidden.push_bounds.Goals as goal

pub returns : goal.returns
returns c =
    names_end c.loop-bound.self c.args.self.now c.items-bound-items.result.now c.loop-bound.bound-index c.args.bounds.now c.loop-bound-test.false c.items-bound-items.ensures c.loop-bound.invariant
