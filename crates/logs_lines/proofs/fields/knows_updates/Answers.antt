use Rattle.std.proofs.Common.{◌∙◌}
use Rattle.logs_shapes.specs.Parts.{update_of}
use Rattle.logs_lines.proofs.ItemLemmas.{known_names}
use Rattle.logs_lines.proofs.fields.knows_updates.Goals as goal

pub returns : goal.returns
returns g c =
    c.are_known_updates.ensures ∙ known_names (g.N.SpecNames.setting c.args.names.now) update_of (λ u. u.path) c.args.shape.now.updates.now c.args.shape.now.updates_whole
