use Rattle.std.proofs.Common.{All}
use Rattle.values_core.specs.IsValue.{IsValue}
use Rattle.states_files.proofs.UpTo.{UpTo}
use Rattle.states_files.proofs.known.known_values.Given as goal

abbrev pub invariant-loop-shown : goal.invariant-loop-shown
invariant-loop-shown l = UpTo (λ x. All IsValue x.state) l.states l.shown-index
