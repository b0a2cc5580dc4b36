use Rattle.std.proofs.Common.{take}
use Rattle.steps_why_not.specs.Whys.{AreReasons}
use Rattle.steps_why_not.proofs.reasons.reasons.Given as goal

abbrev pub invariant-loop-end : goal.invariant-loop-end
invariant-loop-end l = AreReasons l.sees (take l.end-index l.ends) l.whys.items
