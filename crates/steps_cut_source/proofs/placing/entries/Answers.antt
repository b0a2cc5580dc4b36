use Rattle.steps_cut_source.proofs.Placed.{only_placed}
use Rattle.steps_cut_source.specs.Listing.{at_cut}
use Rattle.std.proofs.Common.{map}
use Rattle.steps_cut_source.proofs.placing.entries.Goals as goal

pub returns : goal.returns
returns c = only_placed c.new-none.result.items (map (at_cut c.args.cut.now) c.args.states.items) c.push_at.result c.new-none.ensures.items c.push_at.ensures
