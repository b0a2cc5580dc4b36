use Rattle.std.proofs.Common.{◌≡◌, ◌++◌, drop}
use Rattle.reading_pieces.specs.Names.{names_in}
use Rattle.reading_pieces.proofs.names.add_names.Given as goal

abbrev pub invariant-loop-token : goal.invariant-loop-token
invariant-loop-token l = l.names ++ names_in (drop l.token-index l.tokens) ≡ l.fn.names ++ names_in l.tokens
