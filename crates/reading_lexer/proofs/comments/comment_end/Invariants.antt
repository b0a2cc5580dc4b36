use Rattle.std.proofs.Common.{◌≡◌, ◌≤◌, ◌-◌, ◌+◌, drop, length}
use Rattle.reading_tokens.specs.Shapes.{after_comment}
use Rattle.reading_lexer.proofs.comments.comment_end.Given as goal

abbrev pub invariant-loop-at : goal.invariant-loop-at
invariant-loop-at l = (1 ≤ l.depth) × (l.at ≤ length l.text) × (l.depth ≤ l.at + 1) × (after_comment l.depth (drop l.at l.text) ≡ after_comment 1 l.text)

abbrev pub decreases-loop-at : goal.decreases-loop-at
decreases-loop-at l = length l.text - l.at
