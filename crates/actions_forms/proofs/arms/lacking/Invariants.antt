use Rattle.std.proofs.Common.{◌≡◌, map, drop}
use Rattle.actions_meanings.specs.Outcomes.{lacking}
use Rattle.actions_forms.specs.Arms.{arm_of}
use Rattle.actions_early_reads.specs.Sets.{shown}
use Rattle.actions_forms.proofs.arms.lacking.Given as goal

abbrev pub invariant-loop-arm : goal.invariant-loop-arm
invariant-loop-arm l = lacking l.variables (shown l.all) (map arm_of (drop l.arm-index l.arms)) ≡ lacking l.variables (shown l.all) (map arm_of l.arms)
