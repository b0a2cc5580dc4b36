use Rattle.std.proofs.Common.{◌≡◌, map, drop}
use Rattle.actions_meanings.specs.Outcomes.{fixed_by_some}
use Rattle.actions_meanings.specs.Reads.{united}
use Rattle.actions_forms.specs.Arms.{arm_of}
use Rattle.actions_early_reads.specs.Sets.{shown}
use Rattle.actions_forms.proofs.arms.fixed_by_some.Given as goal

abbrev pub invariant-loop-arm : goal.invariant-loop-arm
invariant-loop-arm l = united (shown l.all) (fixed_by_some (map arm_of (drop l.arm-index l.arms))) ≡ fixed_by_some (map arm_of l.arms)
