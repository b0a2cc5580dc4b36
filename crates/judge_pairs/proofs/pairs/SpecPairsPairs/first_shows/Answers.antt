use Rattle.std.proofs.Common.{◌↔◌, subst, List}
use Rattle.std.specs.Prelude.{IsTrue}
use Rattle.logs_updates.specs.declared.update.See.{See}
use Rattle.steps_lines_defs.specs.Asks.{AreSeen}
use Rattle.judge_pairs.proofs.pairs.SpecPairsPairs.first_shows.Goals as goal

pub returns : goal.returns
returns c = subst (λ (sees : List See). IsTrue c.are_seen.result ↔ AreSeen sees c.args.state.now) c.items.ensures c.are_seen.ensures
