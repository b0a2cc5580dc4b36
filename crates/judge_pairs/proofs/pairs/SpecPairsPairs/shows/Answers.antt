use Rattle.std.proofs.Common.{◌↔◌, subst, List}
use Rattle.std.specs.Prelude.{IsTrue}
use Rattle.logs_updates.specs.declared.update.See.{See}
use Rattle.steps_lines_defs.specs.Asks.{AreSeen}
use Rattle.judge_pairs.proofs.Lines.{line_tests}
use Rattle.judge_pairs.proofs.pairs.SpecPairsPairs.shows.Goals as goal

pub returns : goal.returns
returns c =
    line_tests c.args.self.now.log.now.lines c.args.line c.line_of-line.result.now c.line_of-line.ensures (λ l. AreSeen l.sees c.args.to.now) c.are_seen.result
    (subst (λ (sees : List See). IsTrue c.are_seen.result ↔ AreSeen sees c.args.to.now) c.items.ensures c.are_seen.ensures)
