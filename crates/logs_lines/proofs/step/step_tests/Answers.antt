use Rattle.std.proofs.Common.{sym, ◌∙◌}
use Rattle.logs_shapes.specs.Seen.{shape_seen}
use Rattle.logs_lines.proofs.StageLemmas.{args_counted}
use Rattle.logs_lines.proofs.step.step_tests.Goals as goal

pub returns : goal.returns
returns g c =
    let counted = sym c.len-found.ensures ∙ c.if-found-needed.false ∙ c.params_of-needed.ensures in
    args_counted (g.N.SpecNames.setting c.args.names.now) c.args.at.now (shape_seen c.args.shape.now) c.args.parts c.step_clock.result counted c.step_clock.ensures
