-- The pieces of a module: its heading with what it extends, and behind it the pieces that begin with a word of a unit, at a definition
-- or at dashes. Each goes up to the next, and together they are the tokens.
use Rattle.std.specs.Prelude.{◌≡◌, ◌⊎◌, Bool, true, false, List, [], ◌∷◌, ◌++◌}
use Rattle.std.specs.List.{list_any}
use Rattle.reading_tokens.specs.declared.token.Token.{Token}
use Rattle.reading_pieces.specs.declared.mark.Mark.{Mark}
use Rattle.reading_pieces.specs.declared.mark.Mark.TheVariants.{Dashes, Nested}
use Rattle.reading_pieces.specs.declared.within.Within.{Within}
use Rattle.reading_pieces.specs.Marks.{mark_of}
use Rattle.reading_pieces.specs.Within.{begins_behind, begun_with, behind}

-- a piece ends before these tokens: another begins there, or there are none
abbrev pub Ends : Within → List Token → Type 0
Ends w rest = (rest ≡ []) ⊎ (begins_behind w rest ≡ true)

-- a piece goes on with these tokens, at none of which another begins, and ends before those behind them
abbrev pub GoesOn : Within → List Token → List Token → Type 0
GoesOn w [] rest = Ends w rest
GoesOn w (t ∷ ts) rest = (begins_behind w ((t ∷ ts) ++ rest) ≡ false) × GoesOn (behind w ((t ∷ ts) ++ rest)) ts rest

-- these tokens, and not those behind them, are a piece
abbrev pub IsPiece : List Token → List Token → Type 0
IsPiece [] rest = ⊥
IsPiece (t ∷ ts) rest = GoesOn (begun_with (mark_of t)) ts rest

-- these are the heading: dashes, MODULE, a name and dashes, and all up to the first piece
abbrev pub IsHeading : List Token → List Token → Type 0
IsHeading (a ∷ b ∷ c ∷ d ∷ ts) rest = GoesOn (begun_with Dashes) ts rest
IsHeading _ rest = ⊥

abbrev pub joined : List (List Token) → List Token
joined [] = []
joined (p ∷ ps) = p ++ joined ps

-- each is a piece, up to the next
abbrev pub ArePieces : List (List Token) → Type 0
ArePieces [] = Unit {0}
ArePieces (p ∷ ps) = IsPiece p (joined ps) × ArePieces ps

-- MODULE stands among the tokens, behind the heading of the module that they are of
abbrev pub is_nested : Mark → Bool
is_nested Nested = true
is_nested _ = false

abbrev pub has_module : List Token → Bool
has_module tokens = list_any (λ t. is_nested (mark_of t)) tokens
