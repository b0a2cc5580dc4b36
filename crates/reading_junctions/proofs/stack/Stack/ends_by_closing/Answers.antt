use Rattle.std.proofs.Common.{sym, ap, ◌∙◌}
use Rattle.reading_junctions.specs.Summary.{summary_closes}
use Rattle.reading_junctions.proofs.Summaries.{ends_by_closing-summary}
use Rattle.reading_junctions.proofs.stack.Stack.ends_by_closing.Goals as goal

pub returns : goal.returns
returns c = c.ends_by_closing.ensures ∙ ap (summary_closes c.args.operand c.args.kind.now) c.summary.ensures ∙ sym (ends_by_closing-summary c.args.operand c.args.kind.now c.args.self.now)
