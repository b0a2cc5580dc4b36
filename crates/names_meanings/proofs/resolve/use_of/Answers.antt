use Rattle.names_terms.specs.TermViews.{node_view}
use Rattle.names_meanings.proofs.Rows.{use_is}
use Rattle.names_meanings.proofs.resolve.use_of.Goals as goal

pub returns-clause-fine : goal.returns-clause-fine
returns-clause-fine c =
    use_is c.args.walk.now c.args.name.now c.args.at c.in_ok-meant.meant (node_view c.used.result) c.new.result c.new.ensures c.used.ensures c.in_ok-meant.ensures.means c.in_ok-meant.ensures.within
