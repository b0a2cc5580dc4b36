use Rattle.run_why.proofs.Reaching.{contains_by_search}
use Rattle.run_why.proofs.within.is_among.Goals as goal

pub returns : goal.returns
returns c =
    rw c.is_ok.ensures.value (contains_by_search c.args.entries.now c.args.state.now c.binary_search.result c.requires c.binary_search.ensures.bound c.binary_search.ensures.position)
