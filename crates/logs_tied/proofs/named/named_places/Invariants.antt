use Rattle.std.proofs.Common.{◌≡◌, ◌++◌, drop}
use Rattle.logs_tied.specs.Named.{names}
use Rattle.logs_tied.proofs.named.named_places.Given as goal

abbrev pub invariant-loop-shown : goal.invariant-loop-shown
invariant-loop-shown l = l.places.items ++ names (drop l.shown-index l.states) ≡ names l.states
