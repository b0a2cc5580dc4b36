-- The names of the language.
use Rattle.std.specs.Prelude.{◌≡◌, ℕ, List, Some}
use Rattle.reading_tokens.specs.declared.token.Kind.TheVariants as kinds
use Rattle.reading_tokens.specs.declared.piece.Shape.TheVariants.{Spelled}
use Rattle.reading_tokens.specs.Shapes.{shape_of}

-- the bytes as a whole are one token of TLA+, and this token is a name
abbrev pub IsName : List ℕ → Type 0
IsName name = shape_of name ≡ Some (Spelled (kinds.Name name))
