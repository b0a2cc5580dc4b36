-- What the search asks of sizes.
use Rattle.std.proofs.Common.{◌≤◌, ℕ, Bool, arith, length}
use Rattle.names_terms.specs.declared.spec.Spec.{Spec}
use Rattle.logs_updates.specs.declared.line.Log.{Log}
use Rattle.steps_lines_defs.specs.Logs.{system}
use Rattle.states_layers.specs.Gives.{IsSmall}
use Rattle.steps_ready_defs.specs.Beside.{asked, total_limit}

enough : total_limit ≤ 2000000
enough = omega arith

pub is_small : (g : Spec) (log : Log) (stutter : Bool) (within limit : ℕ) → length log.lines ≤ 200000 → 1 ≤ within → within ≤ 8 → limit ≤ 100000 → IsSmall (system g log (asked stutter within limit))
is_small g log stutter within limit lines some steps layers = record { lines = lines; some = some; within = steps; limit = layers; total = enough }
