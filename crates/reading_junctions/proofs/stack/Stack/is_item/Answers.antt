use Rattle.std.proofs.Common.{sym, ap, ◌∙◌}
use Rattle.reading_junctions.specs.declared.summary.Summary.{Summary}
use Rattle.reading_junctions.specs.Summary.{list_has}
use Rattle.reading_junctions.proofs.Summaries.{is_item-summary}
use Rattle.reading_junctions.proofs.stack.Stack.is_item.Goals as goal

pub returns : goal.returns
returns c = c.is_item.ensures ∙ ap (λ (s : Summary). list_has c.args.token.now s.list) c.summary.ensures ∙ sym (is_item-summary c.args.token.now c.args.self.now)
