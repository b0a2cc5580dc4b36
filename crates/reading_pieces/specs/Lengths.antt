-- For the prover: how many tokens a piece goes on with.
use Rattle.std.specs.Prelude.{ℕ, suc, ◌-◌, if◌then◌else◌, List, [], ◌∷◌}
use Rattle.reading_tokens.specs.declared.token.Token.{Token}
use Rattle.reading_pieces.specs.declared.within.Within.{Within}
use Rattle.reading_pieces.specs.Within.{begins_behind, behind}

unfoldable pub length_behind : Within → List Token → ℕ
length_behind w [] = 0
length_behind w (t ∷ ts) = if begins_behind w (t ∷ ts) then 0 else suc (length_behind (behind w (t ∷ ts)) ts)
