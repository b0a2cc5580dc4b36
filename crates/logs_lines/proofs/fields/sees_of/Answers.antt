use Rattle.serde_json.specs.View.{items_view}
use Rattle.logs_shapes.specs.Parts.{see_of}
use Rattle.logs_lines.specs.Values.{SeeReads}
use Rattle.logs_lines.proofs.ItemLemmas.{found_each}
use Rattle.logs_lines.proofs.fields.sees_of.Goals as goal

pub returns : goal.returns
returns g c =
    found_each see_of (SeeReads (g.N.SpecNames.setting c.args.names.now)) (items_view c.args.shape.now.sees.now) c.read_sees.result c.args.shape.now.sees_whole c.read_sees.ensures
