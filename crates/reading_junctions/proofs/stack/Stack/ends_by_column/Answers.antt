use Rattle.std.proofs.Common.{sym, ap, ◌∙◌}
use Rattle.reading_junctions.specs.declared.summary.Summary.{Summary}
use Rattle.reading_junctions.specs.Summary.{list_ends}
use Rattle.reading_junctions.proofs.Summaries.{ends_by_column-summary}
use Rattle.reading_junctions.proofs.stack.Stack.ends_by_column.Goals as goal

pub returns : goal.returns
returns c = c.ends_by_column.ensures ∙ ap (λ (s : Summary). list_ends c.args.col s.list) c.summary.ensures ∙ sym (ends_by_column-summary c.args.col c.args.self.now)
