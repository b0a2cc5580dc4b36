use Rattle.std.proofs.Common.{sym, ap, ◌∙◌}
use Rattle.reading_junctions.specs.declared.summary.Summary.{Summary}
use Rattle.reading_junctions.specs.Summary.{at_or_left}
use Rattle.reading_junctions.proofs.Summaries.{is_left-summary}
use Rattle.reading_junctions.proofs.stack.Stack.is_left.Goals as goal

pub returns : goal.returns
returns c = c.is_left.ensures ∙ ap (λ (s : Summary). at_or_left c.args.col s.holding) c.summary.ensures ∙ sym (is_left-summary c.args.col c.args.self.now)
