use Rattle.logs_shapes.specs.Seen.{shape_seen}
use Rattle.logs_lines.proofs.StageLemmas.{form_had}
use Rattle.logs_lines.proofs.step.step_form.Goals as goal

pub returns : goal.returns
returns g c =
    let formed = rw c.if-not-formed.false at c.in_ok-formed.ensures in
    form_had (g.N.SpecNames.setting c.args.names.now) c.args.at.now (shape_seen c.args.shape.now) c.args.parts c.args.clock c.form_after.result c.event_with.result formed
    c.requires c.form_after.ensures c.event_with.ensures
