-- What an arm of the code stands for.
use Rattle.actions_meanings.specs.Outcomes.{Arm}
use Rattle.actions_forms.specs.declared.arms.Arm.{Arm as Ended}
use Rattle.actions_early_reads.specs.Sets.{shown}

abbrev pub arm_of : Ended → Arm
arm_of a = record { at = a.at; set = shown a.set }
