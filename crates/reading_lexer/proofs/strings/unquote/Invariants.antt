use Rattle.std.proofs.Common.{◌≡◌, ◌≤◌, ◌-◌, drop, length}
use Rattle.reading_tokens.specs.Shapes.{after_quote}
use Rattle.reading_lexer.proofs.Quotes.{with_characters}
use Rattle.reading_lexer.proofs.strings.unquote.Given as goal

abbrev pub invariant-loop-at : goal.invariant-loop-at
invariant-loop-at l = (l.at ≤ length l.text) × (after_quote l.text ≡ with_characters l.content.items (after_quote (drop l.at l.text)))

abbrev pub decreases-loop-at : goal.decreases-loop-at
decreases-loop-at l = length l.text - l.at
