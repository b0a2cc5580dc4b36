use Rattle.std.proofs.Common.{◌≡◌, string_bytes}
use Rattle.run_ring.specs.Ring.{count_lines}
use Rattle.run_ring.proofs.log.ring_log.Given as goal

abbrev pub invariant-loop-passed : goal.invariant-loop-passed
invariant-loop-passed l = string_bytes l.text ≡ count_lines l.passed
