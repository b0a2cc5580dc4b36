use Rattle.std.proofs.Common.{sym, ap, ◌∙◌}
use Rattle.reading_junctions.specs.Summary.{summary_reaches}
use Rattle.reading_junctions.proofs.Summaries.{reaches-summary}
use Rattle.reading_junctions.proofs.stack.Stack.reaches.Goals as goal

pub returns : goal.returns
returns c = c.reaches.ensures ∙ ap (summary_reaches c.args.operand c.args.kind.now) c.summary.ensures ∙ sym (reaches-summary c.args.operand c.args.kind.now c.args.self.now)
