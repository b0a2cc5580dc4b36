-- What the lexer's functions say of their parts.
use Rattle.std.specs.Prelude.{◌≡◌, ◌≢◌, ℕ, ◌≤◌, Bool, false, ◌&&◌, List, [], ◌∷◌, ◌++◌, length, drop, Result, Ok, Err, Vec}
use Rattle.std.specs.Str.{IsUtf8}
use Rattle.std.specs.declared.alloc.Global.{Global}
use Rattle.base_core.specs.declared.place.Place.{Place}
use Rattle.reading_tokens.specs.declared.token.Kind.TheVariants.{End}
use Rattle.reading_tokens.specs.declared.token.Token.{Token}
use Rattle.reading_tokens.specs.Shapes.{after_quote, is_blank, is_digit, is_word_start, is_base, opens_comment, begins_four}
use Rattle.reading_tokens.specs.Tokens.{Outcome, LexedFrom, Tokens, token_at}
use Rattle.reading_lexer.specs.declared.fault.LexFault.{LexFault}
use Rattle.reading_lexer.specs.declared.fault.LexFault.TheVariants.{Refused, NoMemory}
use Rattle.reading_lexer.specs.declared.strings.Quoted.{Quoted}
use Rattle.reading_lexer.specs.declared.strings.Quoted.TheVariants.{Closed, Broken}

-- the bytes are the end of a text of UTF-8
abbrev pub InUtf8 : List ℕ → Type 0
InUtf8 text = (before : List ℕ) × IsUtf8 (before ++ text)

-- this holds of the outcome that was answered; or memory was wanting
abbrev pub Answers : (Outcome → Type 0) → Result (Vec Token Global) LexFault → Type 0
Answers P (Ok tokens) = P (Ok tokens.items)
Answers P (Err (Refused why at)) = P (Err (why, at))
Answers P (Err NoMemory) = Unit {0}

-- what was answered is the outcome of the pieces of the text from a place on
abbrev pub Reads : Bool → Place → List ℕ → Result (Vec Token Global) LexFault → Type 0
Reads framed at text result = Answers (LexedFrom framed at 0 text) result

-- what was answered is the end alone, at a place
abbrev pub EndsAlone : Place → Result (Vec Token Global) LexFault → Type 0
EndsAlone at result = Answers (λ o. o ≡ Ok (token_at End at ∷ [])) result

-- what was answered is the text's outcome; or memory was wanting
abbrev pub Lexes : Bool → ℕ → List ℕ → Result (Vec Token Global) LexFault → Type 0
Lexes framed file text result = Answers (Tokens framed file text) result

-- what stands behind an opening quote, and how many bytes that takes
abbrev pub IsQuoted : List ℕ → Quoted → Type 0
IsQuoted text (Closed content size) = (size ≤ length text) × (after_quote text ≡ record { content = Ok content.items; rest = drop size text })
IsQuoted text (Broken why size) = (size ≤ length text) × (after_quote text ≡ record { content = Err why; rest = drop size text })

-- the first byte begins no blank, number, word or string, and is no backslash
abbrev pub IsOther : List ℕ → Type 0
IsOther [] = Unit {0}
IsOther (b ∷ bs) = (is_blank b ≡ false) × (is_digit b ≡ false) × (is_word_start b ≡ false) × (b ≢ 34) × (b ≢ 92)

-- no comment, dashes or equals signs begin the bytes
pub record IsPlain (text : List ℕ) : Type 0 where
  pub comment : opens_comment text ≡ false
  pub dashes : begins_four 45 text ≡ false
  pub equals : begins_four 61 text ≡ false

-- b, o or h and a digit stand behind the first byte
abbrev pub begins_base : List ℕ → Bool
begins_base (b ∷ c ∷ d ∷ bs) = is_base c && is_digit d
begins_base bs = false
