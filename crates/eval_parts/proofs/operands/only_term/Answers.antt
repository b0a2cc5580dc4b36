use Rattle.std.proofs.Common.{ap, sym, ◌∙◌, length}
use Rattle.eval_parts.proofs.Loops.{items_are, one_item}
use Rattle.eval_parts.proofs.operands.only_term.Goals as goal

pub returns : goal.returns
returns c =
    let are = items_are c.items-items.result.now c.args.terms.now c.items-items.ensures in
    are ∙ one_item c.items-items.result.now c.index-items-0.result (ap length (sym are) ∙ c.requires) c.index-items-0.is
