use Rattle.serde_json.specs.View.{view}
use Rattle.logs_shapes.specs.Objects.{contents_in}
use Rattle.logs_shapes.proofs.ShapeLemmas.{no_sees}
use Rattle.logs_shapes.proofs.reading.sees_at.Goals as goal

pub returns-else-are_sees : goal.returns-else-are_sees
returns-else-are_sees c =
    no_sees (contents_in c.args.contents) (view c.in-Some.json.now) c.in_ok-items.items.now.items c.as_slice.result.now c.in-Some.ensures c.in_ok-items.ensures c.as_slice.ensures.value c.if-are_sees.ensures
