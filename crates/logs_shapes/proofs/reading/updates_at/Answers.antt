use Rattle.std.proofs.Common.{◌≡◌, None, Bool, subst, sym}
use Rattle.serde_json.specs.View.{view}
use Rattle.logs_shapes.specs.Objects.{contents_in}
use Rattle.logs_shapes.specs.Shapes.{updates_at}
use Rattle.logs_shapes.proofs.ShapeLemmas.{no_updates}
use Rattle.logs_shapes.proofs.reading.updates_at.Goals as goal

pub returns-else-are_updates : goal.returns-else-are_updates
returns-else-are_updates c =
    let ms = contents_in c.args.contents in
    subst (λ (init : Bool). updates_at init ms ≡ None) (sym c.if-init.false)
    (no_updates ms (view c.in-Some.json.now) c.in_ok-items.items.now.items c.as_slice.result.now c.in-Some.ensures c.in_ok-items.ensures c.as_slice.ensures.value c.if-are_updates.ensures)
