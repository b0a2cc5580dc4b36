use Rattle.std.proofs.Common.{◌∙◌}
use Rattle.names_tlc_calls.proofs.Turning.{one_walked}
use Rattle.names_tlc_calls.proofs.program.spelled_from_end.Goals as goal

pub loop-unit-preserved : goal.loop-unit-preserved
loop-unit-preserved c = (
  one_walked c.args.own.now c.loop-unit.own c.loop-unit.units c.pop.new.self c.in-Some.unit c.in_ok-unit.unit c.loop-unit.spelled c.push.new.self _ c.in-Some.ensures.taken
      c.in_ok-unit.ensures.spelled c.loop-unit.invariant.1 c.in_ok-push.ensures.pushed c.loop-unit.invariant.0,
  c.in_ok-unit.ensures.own ∙ c.loop-unit.invariant.1,
)
