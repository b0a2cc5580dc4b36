use Rattle.logs_shapes.specs.Objects.{members_in}
use Rattle.logs_lines.proofs.ObjectLemmas.{object_says}
use Rattle.logs_lines.proofs.reading.kept_line.Goals as goal

pub returns : goal.returns
returns g c =
    object_says (g.N.SpecNames.setting c.args.names.now) c.args.at.now c.args.text.now (members_in c.args.object.now) c.object_line.result c.requires.utf8 c.requires.object
    c.object_line.ensures
