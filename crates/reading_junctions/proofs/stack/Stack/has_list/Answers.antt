use Rattle.std.proofs.Common.{sym, ap, ◌∙◌}
use Rattle.reading_junctions.specs.declared.summary.Summary.{Summary}
use Rattle.std.specs.Prelude.{is_some}
use Rattle.reading_junctions.proofs.Summaries.{some_list-summary}
use Rattle.reading_junctions.proofs.stack.Stack.has_list.Goals as goal

pub returns : goal.returns
returns c = c.has_list.ensures ∙ ap (λ (s : Summary). is_some s.rightmost) c.summary.ensures ∙ sym (some_list-summary c.args.self.now)
