use Rattle.std.proofs.Common.{ap, sym, ◌∙◌}
use Rattle.actions_meanings.specs.Forms.{meaning_form}
use Rattle.names_terms.specs.TermViews.{node_view}
use Rattle.names_terms.specs.declared.term.TermNode.{TermNode}
use Rattle.actions_rows.specs.Rows.{setting}
use Rattle.actions_rows.proofs.row.node_row.Goals as goal

pub returns-in-Infix : goal.returns-in-Infix
returns-in-Infix c = λ at.
    let g = setting c.args.stage in
    let n = c.args.slots in
    c.infix_row.ensures c.args.slots at
    ∙ ap (λ (x : TermNode). meaning_form g n at (node_view x)) (sym c.in-Infix.is)
