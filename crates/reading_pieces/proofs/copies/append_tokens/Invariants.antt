use Rattle.std.proofs.Common.{◌≡◌, ◌++◌, drop}
use Rattle.reading_pieces.proofs.copies.append_tokens.Given as goal

abbrev pub invariant-loop-token : goal.invariant-loop-token
invariant-loop-token l = l.tokens.items ++ drop l.token-index l.more ≡ l.fn.tokens.items ++ l.more
