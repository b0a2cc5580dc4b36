-- A list with no End has none when another token is put behind it.
use Rattle.std.specs.Prelude.{◌≡◌, false, List, [], ◌∷◌, ◌++◌}
use Rattle.reading_trees.specs.declared.laid.Laid.{Laid}
use Rattle.reading_trees.specs.declared.laid.Laid.TheVariants.{Plain, ListOpen, ListItem, ListClose}
use Rattle.reading_tokens.specs.declared.token.Token.{Token}
use Rattle.reading_trees.specs.Opens.{is_end}
use Rattle.reading_trees.specs.Modules.{NoLaidEnd}

pub NoLaidEnd-push : (xs : List Laid) (t : Token) → NoLaidEnd xs → is_end t.kind ≡ false → NoLaidEnd (xs ++ Plain t ∷ [])
NoLaidEnd-push [] t h e = (e, tt)
NoLaidEnd-push (Plain u ∷ xs) t h e = (h.0, NoLaidEnd-push xs t h.1 e)
NoLaidEnd-push (ListOpen b at ∷ xs) t h e = NoLaidEnd-push xs t h e
NoLaidEnd-push (ListItem b at ∷ xs) t h e = NoLaidEnd-push xs t h e
NoLaidEnd-push (ListClose at ∷ xs) t h e = NoLaidEnd-push xs t h e
