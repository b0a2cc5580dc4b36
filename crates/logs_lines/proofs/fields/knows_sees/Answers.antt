use Rattle.std.proofs.Common.{◌∙◌}
use Rattle.logs_shapes.specs.Parts.{see_of}
use Rattle.logs_lines.proofs.ItemLemmas.{known_names}
use Rattle.logs_lines.proofs.fields.knows_sees.Goals as goal

pub returns : goal.returns
returns g c =
    c.are_known_sees.ensures ∙ known_names (g.N.SpecNames.setting c.args.names.now) see_of (λ s. s.path) c.args.shape.now.sees.now c.args.shape.now.sees_whole
