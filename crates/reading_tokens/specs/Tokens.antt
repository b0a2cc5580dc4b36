-- The tokens of a text, or why and where it has none.
use Rattle.std.specs.Prelude.{◌≡◌, ℕ, ◌+◌, ◌*◌, ◌/◌, Bool, true, false, ◌&&◌, ◌||◌, ◌==◌, nat_lt, nat_le, if◌then◌else◌, List, [], ◌∷◌, ◌++◌, length, take, drop, Option, Some, None, Result, Ok, Err, MatchBool, MatchOption}
use Rattle.std.specs.Str.{is_utf8}
use Rattle.std.specs.Str.Lossy.{utf8_valid_len}
use Rattle.base_core.specs.declared.place.Place.{Place}
use Rattle.reading_tokens.specs.declared.token.Kind.{Kind}
use Rattle.reading_tokens.specs.declared.token.Kind.TheVariants as kinds
use Rattle.reading_tokens.specs.declared.token.Word.TheVariants as word
use Rattle.reading_tokens.specs.declared.token.Token.{Token}
use Rattle.reading_tokens.specs.declared.piece.LexKind.{LexKind}
use Rattle.reading_tokens.specs.declared.piece.LexKind.TheVariants.{NotUtf8, TooManyTokens}
use Rattle.reading_tokens.specs.declared.piece.Shape.{Shape}
use Rattle.reading_tokens.specs.declared.piece.Shape.TheVariants.{Blank, Spelled, Bad}
use Rattle.reading_tokens.specs.Shapes.{IsPiece, is_dash, is_word, begins_four}

pub record Piece : Type 0 where
  pub bytes : List ℕ
  pub shape : Shape

abbrev pub text_of : List Piece → List ℕ
text_of [] = []
text_of (p ∷ ps) = p.bytes ++ text_of ps

-- each piece is something, and could not be longer
abbrev pub ArePieces : List Piece → Type 0
ArePieces [] = Unit {0}
ArePieces (p ∷ ps) = IsPiece (p.bytes ++ text_of ps) (length p.bytes) p.shape × ArePieces ps

-- the place of the first character
abbrev pub start_of : ℕ → Place
start_of file = record { file = file; line = 1; col = 1 }

-- the place after one byte: a line feed begins a line, a tab leads to the next column of the form 8k + 1,
-- and the later bytes of a character stand at its place
abbrev pub place_after : Place → ℕ → Place
place_after at b =
    if b == 10 then record { file = at.file; line = at.line + 1; col = 1 }
    else if b == 9 then record { file = at.file; line = at.line; col = 8 * ((at.col + 7) / 8) + 1 }
    else if nat_le 128 b && nat_lt b 192 then at
    else record { file = at.file; line = at.line; col = at.col + 1 }

abbrev pub place_behind : Place → List ℕ → Place
place_behind at [] = at
place_behind at (b ∷ bs) = place_behind (place_after at b) bs

-- the tokens, or why there are none, and where
abbrev pub Outcome : Type 0
Outcome = Result (List Token) (LexKind × Place)

abbrev pub token_at : Kind → Place → Token
token_at kind at = record { kind = kind; place = at }

abbrev pub with_front : Token → Outcome → Outcome
with_front t (Ok ts) = Ok (t ∷ ts)
with_front t (Err e) = Err e

-- these tokens before what comes of the rest
abbrev pub with_all : List Token → Outcome → Outcome
with_all ts (Ok us) = Ok (ts ++ us)
with_all ts (Err e) = Err e

abbrev pub is_equals : Kind → Bool
is_equals kinds.Equals = true
is_equals kind = false

-- the second token of a module is the word MODULE of its heading
abbrev pub kind_at : Bool → ℕ → Kind → Kind
kind_at framed count kind = if framed && count == 1 then kinds.Word word.Module else kind

-- a token behind so many others: of a module the first of four or more equals signs is the last one
abbrev pub with_token : Bool → Kind → Place → Place → ℕ → (ℕ → Outcome) → Outcome
with_token framed kind at next count rest =
    if count == 200000 then Err (TooManyTokens, at)
    else if framed && is_equals kind then Ok (token_at kind at ∷ token_at kinds.End next ∷ [])
    else with_front (token_at (kind_at framed count kind) at) (rest (count + 1))

-- one piece, from its place to the next and behind so many tokens, before what comes of the rest
abbrev pub with_piece : Bool → Shape → Place → Place → ℕ → (ℕ → Outcome) → Outcome
with_piece framed Blank at next count rest = rest count
with_piece framed (Spelled kind) at next count rest = with_token framed kind at next count rest
with_piece framed (Bad why) at next count rest = Err (why, at)

-- what comes of the pieces from a place on, behind so many tokens
abbrev pub outcome_of : Bool → List Piece → Place → ℕ → Outcome
outcome_of framed [] at count = Ok (token_at kinds.End at ∷ [])
outcome_of framed (p ∷ ps) at count =
    with_piece framed p.shape at (place_behind at p.bytes) count (outcome_of framed ps (place_behind at p.bytes))

-- the text is a list of pieces, and this comes of them
pub record LexedFrom (framed : Bool) (at : Place) (count : ℕ) (text : List ℕ) (outcome : Outcome) : Type 0 where
  pub pieces : List Piece
  pub whole : text ≡ text_of pieces
  pub longest : ArePieces pieces
  pub gives : outcome ≡ outcome_of framed pieces at count

-- a space or a tab
abbrev pub is_space : ℕ → Bool
is_space b = b == 32 || b == 9

abbrev pub without_front : (ℕ → Bool) → List ℕ → List ℕ
without_front p [] = []
without_front p (b ∷ bs) = if p b then without_front p bs else b ∷ bs

abbrev pub begins_word : List ℕ → Bool
begins_word [] = false
begins_word (b ∷ bs) = is_word b

-- MODULE as a whole word begins the bytes
abbrev pub begins_heading : List ℕ → Bool
begins_heading (a ∷ b ∷ c ∷ d ∷ e ∷ f ∷ bs) =
    a == 77 && b == 79 && c == 68 && d == 85 && e == 76 && f == 69 && (if begins_word bs then false else true)
begins_heading bs = false

-- four or more dashes, any number of spaces and tabs, and the word MODULE begin the bytes
abbrev pub begins_module : List ℕ → Bool
begins_module text =
    begins_four 45 text && begins_heading (without_front is_space (without_front is_dash text))

abbrev pub one_further : Option ℕ → Option ℕ
one_further None = None
one_further (Some n) = Some (n + 1)

-- how many bytes stand before the first place where a module begins
unfoldable pub module_start : List ℕ → Option ℕ
module_start [] = None
module_start (b ∷ bs) = if begins_module (b ∷ bs) then Some 0 else one_further (module_start bs)

-- the outcome of the module in a text: what is before it is passed over, and with no module there is the
-- end alone
abbrev pub LexedModule : ℕ → List ℕ → Outcome → Type 0
LexedModule file text outcome =
    MatchOption (module_start text) (outcome ≡ Ok (token_at kinds.End (place_behind (start_of file) text) ∷ []))
    (λ n. LexedFrom true (place_behind (start_of file) (take n text)) 0 (drop n text) outcome)

abbrev pub LexedText : Bool → ℕ → List ℕ → Outcome → Type 0
LexedText true file text outcome = LexedModule file text outcome
LexedText false file text outcome = LexedFrom false (start_of file) 0 text outcome

-- the outcome of a text, as a module or as a whole: where it is no UTF-8, that comes before all else
abbrev pub Tokens : Bool → ℕ → List ℕ → Outcome → Type 0
Tokens framed file text outcome =
    MatchBool (is_utf8 text) (LexedText framed file text outcome)
    (outcome ≡ Err (NotUtf8, place_behind (start_of file) (take (utf8_valid_len text) text)))

-- one text has one outcome
abbrev pub OneOutcome : Type 0
OneOutcome = (framed : Bool) (file : ℕ) (text : List ℕ) (a b : Outcome) → Tokens framed file text a → Tokens framed file text b → a ≡ b

-- and it has one
abbrev pub SomeOutcome : Type 0
SomeOutcome = (framed : Bool) (file : ℕ) (text : List ℕ) → (a : Outcome) × Tokens framed file text a
