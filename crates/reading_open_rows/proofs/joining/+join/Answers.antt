use Rattle.std.proofs.Common.{◌≡◌, ◌+◌, ◌*◌, ◌<◌, IfOk, arith, sym, ap, subst, ◌∙◌}
use Rattle.reading_trees.specs.Trees.{Tree}
use Rattle.reading_trees.specs.TreeSizes.{tree_size}
use Rattle.reading_trees.specs.TreeViews.{node_view}
use Rattle.reading_open_rows.specs.Does.{joined_view}
use Rattle.reading_machine.specs.Machine.{Joined}
use Rattle.reading_open_rows.proofs.JoinedChains.{first_falls, joined_below}
use Rattle.reading_open_rows.proofs.joining.+join.Goals as goal

pub join-requires : goal.join-requires
join-requires t c =
    let less = first_falls c.args.e c.into_parts-node.result.0 c.in-Infix.o c.in-Infix.operands c.into_parts-first.result.0 c.in-Infix.last c.into_parts-first.result.1.items (ap (node_view c.into_parts-node.result.0) (sym c.in-Infix.is) ∙ c.into_parts-node.ensures) c.into_parts-first.ensures in
    let size : 3 * (tree_size c.args.e + 1) + 0 ≡ t = c.decreases in
    let below : 3 * (tree_size c.into_parts-first.result.0 + 1) + 0 < t = omega (arith, less, size) in
    (below, tt)

pub returns-in_ok-joined-in-Infix : goal.returns-in_ok-joined-in-Infix
returns-in_ok-joined-in-Infix t c =
    subst (λ (j : Joined Tree). IfOk c.rejoin.result (λ k. joined_view k ≡ j))
    (joined_below c.args.name c.args.q c.into_parts-node.result.0 c.in-Infix.o c.in-Infix.operands c.args.e c.into_parts-first.result.0 c.in-Infix.last c.into_parts-first.result.1.items (joined_view c.in_ok-joined-in-Infix.joined)
    (ap (node_view c.into_parts-node.result.0) (sym c.in-Infix.is) ∙ c.into_parts-node.ensures) c.into_parts-first.ensures (sym c.infix_above.ensures ∙ c.if-infix_above.false) (sym c.infix_above-in-Infix.ensures ∙ c.if-not-infix_above.false) c.in_ok-joined-in-Infix.ensures)
    c.rejoin.ensures
