use Rattle.serde_json.specs.View.{items_view}
use Rattle.logs_shapes.specs.Parts.{update_of}
use Rattle.logs_lines.specs.Values.{UpdateReads}
use Rattle.logs_lines.proofs.ItemLemmas.{found_each}
use Rattle.logs_lines.proofs.fields.updates_of.Goals as goal

pub returns : goal.returns
returns g c =
    found_each update_of (UpdateReads (g.N.SpecNames.setting c.args.names.now)) (items_view c.args.shape.now.updates.now) c.read_updates.result c.args.shape.now.updates_whole c.read_updates.ensures
