-- What is passed over among the tokens of a configuration: each statement that says something of a search alone. It is one of the words for that, where a name
-- follows that begins no statement, and the names up to the next word that begins one, or to what is no name. Where `=` or `<-` follows the first of the names,
-- that is a constant's, and the word before it is no such word.
use Rattle.std.specs.Prelude.{List, [], ◌∷◌, ◌++◌, Bool, true, false, not, ◌&&◌, Option, Some, None, if◌then◌else◌, ℕ}
use Rattle.reading_tokens.specs.declared.token.Kind.{Kind}
use Rattle.reading_tokens.specs.declared.token.Kind.TheVariants as kinds
use Rattle.reading_tokens.specs.declared.token.Symbol.{Symbol}
use Rattle.reading_tokens.specs.declared.token.Symbol.TheVariants as symbol
use Rattle.reading_tokens.specs.declared.token.Token.{Token}
use Rattle.reading_wide_configuration.specs.declared.bounds.Bound.{Bound}
use Rattle.reading_wide_configuration.specs.Bounds.{begins_any, bound_of, line_of}

-- a name that begins no statement, as each behind such a word is
abbrev pub is_listed : Kind → Bool
is_listed (kinds.Name text) = not (begins_any text)
is_listed k = false

abbrev pub bound_in : Kind → Option Bound
bound_in (kinds.Name text) = bound_of text
bound_in k = None

abbrev pub is_sign_symbol : Symbol → Bool
is_sign_symbol symbol.Equal = true
is_sign_symbol symbol.LeftArrow = true
is_sign_symbol s = false

abbrev pub is_sign : Kind → Bool
is_sign (kinds.Symbol s) = is_sign_symbol s
is_sign k = false

abbrev pub begins_sign : List Token → Bool
begins_sign [] = false
begins_sign (t ∷ ts) = is_sign t.kind

-- the first of the names comes next
abbrev pub begins_list : List Token → Bool
begins_list [] = false
begins_list (t ∷ ts) = is_listed t.kind && not (begins_sign ts)

-- what the statement says that begins at a token, before those behind it
abbrev pub begun : Token → List Token → Option Bound
begun t behind = if begins_list behind then bound_in t.kind else None

-- what the statement says that a token is in, where one is passed over; `inside` is what that of the token before it says
abbrev pub word_at : Option Bound → Token → List Token → Option Bound
word_at inside t behind = if is_listed t.kind then inside else begun t behind

-- a token stays where it is in no such statement
abbrev pub kept : Option Bound → Token → List Token → List Token
kept (Some b) t rest = rest
kept None t rest = t ∷ rest

abbrev pub remaining_in : Option Bound → List Token → List Token
remaining_in inside [] = []
remaining_in inside (t ∷ ts) = kept (word_at inside t ts) t (remaining_in (word_at inside t ts) ts)

-- of each name that is passed over a line is told
abbrev pub line_at : Bound → Kind → List (List ℕ)
line_at b (kinds.Name text) = if begins_any text then [] else line_of b text ∷ []
line_at b k = []

abbrev pub lines_at : Option Bound → Token → List (List ℕ)
lines_at (Some b) t = line_at b t.kind
lines_at None t = []

abbrev pub told_in : Option Bound → List Token → List (List ℕ)
told_in inside [] = []
told_in inside (t ∷ ts) = lines_at inside t ++ told_in (word_at inside t ts) ts

-- the tokens that remain, and the lines that are told of the others
abbrev pub remaining : List Token → List Token
remaining ts = remaining_in None ts

abbrev pub told : List Token → List (List ℕ)
told ts = told_in None ts
