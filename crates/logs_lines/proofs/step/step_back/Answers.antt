use Rattle.std.proofs.Common.{inl, refl}
use Rattle.logs_shapes.specs.Seen.{shape_seen}
use Rattle.logs_lines.specs.Lines.{NamesSay}
use Rattle.logs_lines.proofs.StageLemmas.{not_back}
use Rattle.logs_lines.proofs.step.step_back.Goals as goal

pub returns-in-Some : goal.returns-in-Some
returns-in-Some g c = let falls = rw c.in-Some.is at c.in_ok-fall.ensures in inl (c.in-Some.kind, falls, refl)

pub returns-in-None : goal.returns-in-None
returns-in-None g c =
    let no_lower = rw c.in-None.is at c.in_ok-fall.ensures in
    not_back c.args.at.now.clock c.args.clock (NamesSay (g.N.SpecNames.setting c.args.names.now) c.args.at.now (shape_seen c.args.shape.now) c.args.parts) c.step_names.result no_lower c.step_names.ensures
