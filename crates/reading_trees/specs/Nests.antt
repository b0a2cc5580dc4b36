-- How lists stand inside each other, by their columns alone.
use Rattle.std.specs.Prelude.{◌≡◌, ℕ, ◌<◌, List, [], ◌∷◌}
use Rattle.reading_trees.specs.declared.laid.Bullet.{Bullet}
use Rattle.reading_trees.specs.declared.laid.Laid.{Laid}
use Rattle.reading_trees.specs.declared.laid.Laid.TheVariants.{Plain, ListOpen, ListItem, ListClose}
use Rattle.reading_tokens.specs.declared.token.Token.{Token}
use Rattle.reading_trees.specs.Laid.{IsLaid}

-- The symbols and columns of the lists around a token, the innermost first.
abbrev pub Lists : Type 0
Lists = List (Bullet × ℕ)

-- a column is right of all these lists
abbrev pub IsRightOf : ℕ → Lists → Type 0
IsRightOf col [] = Unit {0}
IsRightOf col (l ∷ ls) = (l.1 < col) × IsRightOf col ls

-- Each list that is opened is closed, the innermost first. Every token inside a list stands right of it, except the
-- list's own items, which have its symbol and its column.
abbrev pub Nests : Lists → List Laid → Type 0
Nests ls [] = ls ≡ []
Nests ls (Plain t ∷ xs) = IsRightOf t.place.col ls × Nests ls xs
Nests ls (ListOpen b at ∷ xs) = IsRightOf at.col ls × Nests ((b, at.col) ∷ ls) xs
Nests [] (ListItem b at ∷ xs) = ⊥
Nests (l ∷ ls) (ListItem b at ∷ xs) = (b ≡ l.0) × (at.col ≡ l.1) × IsRightOf at.col ls × Nests (l ∷ ls) xs
Nests [] (ListClose at ∷ xs) = ⊥
Nests (l ∷ ls) (ListClose at ∷ xs) = Nests ls xs

-- Marked lists nest.
abbrev pub LaidNests : Type 0
LaidNests = (tokens : List Token) (laid : List Laid) → IsLaid tokens laid → Nests [] laid
