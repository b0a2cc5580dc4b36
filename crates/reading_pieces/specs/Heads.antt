-- Where a definition begins: at a name with `==` behind it, or with `==` behind the parentheses or brackets behind it.
--
-- In these no `==` stands, and no more than 100 are open at once; what is nested deeper is never read.
use Rattle.std.specs.Prelude.{ℕ, ◌+◌, ◌-◌, Bool, true, false, ◌==◌, nat_lt, if◌then◌else◌, List, [], ◌∷◌}
use Rattle.reading_tokens.specs.declared.token.Token.{Token}
use Rattle.reading_pieces.specs.declared.mark.Mark.{Mark}
use Rattle.reading_pieces.specs.declared.mark.Mark.TheVariants.{Name, Defined, Open, Close}
use Rattle.reading_pieces.specs.Marks.{mark_of}

abbrev pub is_defined : Mark → Bool
is_defined Defined = true
is_defined _ = false

abbrev pub is_open : Mark → Bool
is_open Open = true
is_open _ = false

abbrev pub is_name : Mark → Bool
is_name Name = true
is_name _ = false

-- `==` begins the tokens
unfoldable pub begins_defined : List Token → Bool
begins_defined [] = false
begins_defined (t ∷ ts) = is_defined (mark_of t)

-- a token inside so many open brackets: whether `==` stands behind the last of them, by what is so of the tokens behind it
abbrev pub inside_with : Mark → ℕ → Bool → (ℕ → Bool) → Bool
inside_with Open depth ends rest = if nat_lt depth 100 then rest (depth + 1) else false
inside_with Close depth ends rest = if depth == 1 then ends else rest (depth - 1)
inside_with Defined depth ends rest = false
inside_with _ depth ends rest = rest depth

-- the brackets that are open, so many, close again, and `==` stands behind them
unfoldable pub closes_defined : ℕ → List Token → Bool
closes_defined depth [] = false
closes_defined depth (t ∷ ts) = inside_with (mark_of t) depth (begins_defined ts) (λ d. closes_defined d ts)

-- behind a name: `==`, or brackets and `==`
unfoldable pub begins_rest : List Token → Bool
begins_rest [] = false
begins_rest (t ∷ ts) = if is_open (mark_of t) then closes_defined 1 ts else is_defined (mark_of t)

-- a definition begins the tokens
unfoldable pub begins_definition : List Token → Bool
begins_definition [] = false
begins_definition (t ∷ ts) = if is_name (mark_of t) then begins_rest ts else false
