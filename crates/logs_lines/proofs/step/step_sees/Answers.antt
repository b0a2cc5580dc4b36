use Rattle.logs_shapes.specs.Seen.{shape_seen}
use Rattle.logs_lines.proofs.StageLemmas.{sees_read, sees_unread}
use Rattle.logs_lines.proofs.step.step_sees.Goals as goal

pub returns-in-Some : goal.returns-in-Some
returns-in-Some g c =
    let read = rw c.in-Some.is at c.in_ok-sees.ensures in
    sees_read (g.N.SpecNames.setting c.args.names.now) c.args.at.now (shape_seen c.args.shape.now) c.args.event c.args.args c.args.updates c.in-Some.sees c.step_tests.result read c.step_tests.ensures

pub returns-in-None : goal.returns-in-None
returns-in-None g c =
    let none = rw c.in-None.is at c.in_ok-sees.ensures in
    sees_unread (g.N.SpecNames.setting c.args.names.now) c.args.at.now (shape_seen c.args.shape.now) c.args.event c.args.args c.args.updates none
