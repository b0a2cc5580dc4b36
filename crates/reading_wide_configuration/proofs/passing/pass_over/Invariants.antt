use Rattle.std.proofs.Common.{◌≡◌, ◌++◌, length}
use Rattle.reading_wide_configuration.specs.Passed.{remaining, remaining_in, told, told_in}
use Rattle.reading_wide_configuration.proofs.passing.pass_over.Given as goal

abbrev pub invariant-loop-token : goal.invariant-loop-token
invariant-loop-token l = record {
  left : l.left.items ++ remaining_in l.inside l.rest ≡ remaining l.tokens;
  lines : l.lines ++ told_in l.inside l.rest ≡ told l.tokens;
}

abbrev pub decreases-loop-token : goal.decreases-loop-token
decreases-loop-token l = length l.rest
