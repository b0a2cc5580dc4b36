use Rattle.names_term_parts.proofs.Lists.{operands_checked}
use Rattle.names_term_parts.proofs.limits.in_operands.Goals as goal

pub returns : goal.returns
returns c =
    operands_checked c.args.found c.held-found.result c.in_others.result c.args.at c.first_place.result c.args.operator c.infix_allows-allowed.result c.level_here.result c.parts.result.0.now c.parts.result.1.now c.args.operands.now c.parts.ensures c.first_place.ensures c.infix_allows-allowed.ensures c.level_here.ensures c.held-found.ensures c.in_others.ensures
