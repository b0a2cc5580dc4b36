use Rattle.names_terms.specs.TermViews.{node_view}
use Rattle.names_term_parts.proofs.Below.{own_let}
use Rattle.names_term_parts.proofs.ordered.is_own_below.Goals as goal

pub returns-in-Let : goal.returns-in-Let
returns-in-Let c = own_let c.args.count (node_view c.args.node.now) c.in-Let.numbers.now c.in-Let.ensures.0 c.are_below.result c.in-Let.ensures.1 c.are_below.ensures
