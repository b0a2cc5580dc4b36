use Rattle.std.proofs.Common.{sym}
use Rattle.logs_shapes.specs.Seen.{shape_seen}
use Rattle.logs_lines.proofs.StageLemmas.{names_known, see_unknown, update_unknown}
use Rattle.logs_lines.proofs.step.step_names.Goals as goal

pub returns-then-not-knows_updates : goal.returns-then-not-knows_updates
returns-then-not-knows_updates g c =
    update_unknown (g.N.SpecNames.setting c.args.names.now) c.args.at.now (shape_seen c.args.shape.now) c.args.parts (sym c.if-not-knows_updates.ensures)

pub returns-then-not-knows_sees : goal.returns-then-not-knows_sees
returns-then-not-knows_sees g c =
    see_unknown (g.N.SpecNames.setting c.args.names.now) c.args.at.now (shape_seen c.args.shape.now) c.args.parts (sym c.if-not-knows_updates.ensures) (sym c.if-not-knows_sees.ensures)

pub returns : goal.returns
returns g c =
    names_known (g.N.SpecNames.setting c.args.names.now) c.args.at.now (shape_seen c.args.shape.now) c.args.parts c.step_form.result (sym c.if-not-knows_updates.ensures) (sym c.if-not-knows_sees.ensures) c.step_form.ensures
