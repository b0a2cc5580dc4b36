-- Lists with no End.
use Rattle.std.proofs.Common.{◌≡◌, false, List, [], ◌∷◌, ◌++◌}
use Rattle.reading_tokens.specs.declared.token.Token.{Token}
use Rattle.reading_trees.specs.Opens.{is_end}
use Rattle.reading_trees.specs.Laid.{NoEnd}

pub NoEnd-push : (ts : List Token) (t : Token) → NoEnd ts → is_end t.kind ≡ false → NoEnd (ts ++ t ∷ [])
NoEnd-push [] t h e = (e, tt)
NoEnd-push (u ∷ ts) t h e = (h.0, NoEnd-push ts t h.1 e)
