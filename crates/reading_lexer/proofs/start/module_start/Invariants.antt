use Rattle.std.proofs.Common.{◌≡◌, ◌≤◌, ◌-◌, drop, length}
use Rattle.reading_tokens.specs.Tokens.{module_start}
use Rattle.reading_lexer.proofs.Starts.{further}
use Rattle.reading_lexer.proofs.start.module_start.Given as goal

abbrev pub invariant-loop-at : goal.invariant-loop-at
invariant-loop-at l = (l.at ≤ length l.text) × (module_start l.text ≡ further l.at (module_start (drop l.at l.text)))

abbrev pub decreases-loop-at : goal.decreases-loop-at
decreases-loop-at l = length l.text - l.at
