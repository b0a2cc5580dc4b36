use Rattle.std.proofs.Common.{refl, sym, true≢false}
use Rattle.logs_shapes.specs.Seen.{shape_seen}
use Rattle.logs_lines.proofs.StageLemmas.{clock_other, clock_read}
use Rattle.logs_lines.proofs.step.step_clock.Goals as goal

pub returns-then-is_other_form : goal.returns-then-is_other_form
returns-then-is_other_form g c =
    clock_other (g.N.SpecNames.setting c.args.names.now) c.args.at.now (shape_seen c.args.shape.now) c.args.parts (λ m. true≢false (sym (c.if-is_clock_missing.ensures.1 m)))
    (c.if-is_other_form.ensures.0 refl)

pub returns : goal.returns
returns g c =
    clock_read (g.N.SpecNames.setting c.args.names.now) c.args.at.now (shape_seen c.args.shape.now) c.args.parts c.in_ok-clock.clock c.step_back.result
    (λ m. true≢false (sym (c.if-is_clock_missing.ensures.1 m))) (λ m. true≢false (sym (c.if-is_other_form.ensures.1 m))) c.in_ok-clock.ensures c.step_back.ensures
