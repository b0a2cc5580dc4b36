-- What the search asks of sizes.
use Rattle.std.proofs.Common.{◌≤◌, ℕ, Bool, arith}
use Rattle.names_terms.specs.declared.spec.Spec.{Spec}
use Rattle.base_cuts.specs.Cuts.{total}
use Rattle.base_cuts.specs.Orders.{sizes}
use Rattle.states_layers.specs.Gives.{IsSmall}
use Rattle.steps_ready_defs.specs.Beside.{asked, total_limit}
use Rattle.logs_tied.specs.declared.logs.Logs.{Logs}
use Rattle.steps_tied.specs.Tied.{tied_system}

enough : total_limit ≤ 2000000
enough = omega arith

pub is_small : (g : Spec) (logs : Logs) (stutter : Bool) (within limit : ℕ) → total (sizes logs.order) ≤ 200000 → 1 ≤ within → within ≤ 8 → limit ≤ 100000
    → IsSmall (tied_system g logs (asked stutter within limit))
is_small g logs stutter within limit lines some steps layers = record { lines = lines; some = some; within = steps; limit = layers; total = enough }
