-- What the clauses of `run` say of a call of these words that ended so: the counts of faults of the files and of the sink were so before and are so now, and the sink
-- held this before and holds that now.
use Rattle.std.specs.Prelude.{◌≡◌, ◌≢◌, ℕ, List, Option}
use Rattle.base_core.specs.Device.{File}
use Rattle.run_call.specs.Run.{HasFailed, HoldsPart, HoldsReport}
use Rattle.run_call.specs.declared.call.Status.{Status}
use Rattle.run_call.specs.declared.call.Status.TheVariants.{Device, Memory}

pub record Ends (words : List (List ℕ)) (holds : Option (List File)) (before now out_before out_now : ℕ) (old new : Option (List ℕ)) (end : Status) : Type 0 where
  pub report : end ≢ Device → end ≢ Memory → HoldsReport words holds before now end old new
  pub part : HoldsPart words holds before now old new
  pub device : end ≡ Device → HasFailed words holds before now out_before out_now old new
