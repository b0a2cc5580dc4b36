use Rattle.std.proofs.Common.{◌≡◌, ◌+◌, ◌*◌, ◌<◌, arith, sym, ap, ◌∙◌}
use Rattle.reading_trees.specs.TreeSizes.{tree_size}
use Rattle.reading_trees.specs.TreeViews.{node_view}
use Rattle.reading_open_rows.proofs.JoinedChains.{begins_so, begins_no_name, begins_no_member, first_falls}
use Rattle.reading_open_rows.proofs.joining.+begins_member.Goals.{else-is_member-via-then-is_member+else-is_name, else-is_member-via-else-is_member}
use Rattle.reading_open_rows.proofs.joining.+begins_member.Goals as goal

pub returns-then-is_name : goal.returns-then-is_name
returns-then-is_name t c =
    begins_so c.args.e.now c.e.inside.at c.in-Infix.o c.in-Infix.operands c.parts.result.0.now c.in-Infix.field-2 c.parts.result.1.now
    (ap (node_view c.e.inside.at) (sym c.in-Infix.is ∙ c.deref.ensures) ∙ c.e.view_is) c.parts.ensures (sym c.if-is_member.true ∙ c.is_member.ensures) (sym c.if-is_name.true ∙ c.is_name.ensures)

pub begins_member-requires : goal.begins_member-requires
begins_member-requires t c =
    let less = first_falls c.args.e.now c.e.inside.at c.in-Infix.o c.in-Infix.operands c.parts.result.0.now c.in-Infix.field-2 c.parts.result.1.now (ap (node_view c.e.inside.at) (sym c.in-Infix.is ∙ c.deref.ensures) ∙ c.e.view_is) c.parts.ensures in
    let size : 3 * (tree_size c.args.e.now + 1) + 0 ≡ t = c.decreases in
    let below : 3 * (tree_size c.parts.result.0.now + 1) + 0 < t = omega (arith, less, size) in
    (below, tt)

pub returns-else-is_member : goal.returns-else-is_member
returns-else-is_member t c =
    c.begins_member.ensures ∙ (elim c.else-is_member.branch [
      | else-is_member-via-then-is_member+else-is_name w ↦
          begins_no_name c.args.e.now c.e.inside.at c.in-Infix.o c.in-Infix.operands c.parts.result.0.now c.in-Infix.field-2 c.parts.result.1.now (ap (node_view c.e.inside.at) (sym c.in-Infix.is ∙ c.deref.ensures) ∙ c.e.view_is) c.parts.ensures (sym w.is_name.ensures ∙ w.if-is_name.false)
      | else-is_member-via-else-is_member w ↦
          begins_no_member c.args.e.now c.e.inside.at c.in-Infix.o c.in-Infix.operands c.parts.result.0.now c.in-Infix.field-2 c.parts.result.1.now (ap (node_view c.e.inside.at) (sym c.in-Infix.is ∙ c.deref.ensures) ∙ c.e.view_is) c.parts.ensures (sym c.is_member.ensures ∙ w.if-is_member.false)
    ])
