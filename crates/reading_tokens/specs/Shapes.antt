-- What the pieces of a text are, each by its bytes alone.
use Rattle.std.specs.Prelude.{◌≡◌, ℕ, ◌+◌, ◌-◌, ◌*◌, ◌^◌, ◌<◌, ◌≤◌, Bool, true, false, ◌&&◌, ◌||◌, ◌==◌, nat_lt, nat_le, if◌then◌else◌, List, [], ◌∷◌, length, take, drop, Option, Some, None, Result, Ok, Err, pos}
use Rattle.std.specs.List.{list_any}
use Rattle.reading_tokens.specs.declared.token.Kind.{Kind}
use Rattle.reading_tokens.specs.declared.token.Kind.TheVariants as kinds
use Rattle.reading_tokens.specs.declared.token.Symbol.TheVariants as symbol
use Rattle.reading_tokens.specs.declared.piece.LexKind.{LexKind}
use Rattle.reading_tokens.specs.declared.piece.LexKind.TheVariants.{BadCharacter, OpenString, OpenComment, NumberTooLarge}
use Rattle.reading_tokens.specs.declared.piece.Shape.{Shape}
use Rattle.reading_tokens.specs.declared.piece.Shape.TheVariants.{Blank, Spelled, Bad}
use Rattle.reading_tokens.specs.Spellings.{words, runs, signs, kind_in}

-- space, tab, line feed, carriage return, form feed
abbrev pub is_blank : ℕ → Bool
is_blank b = b == 32 || b == 9 || b == 10 || b == 13 || b == 12

abbrev pub is_digit : ℕ → Bool
is_digit b = nat_le 48 b && nat_lt b 58

-- an ASCII letter
abbrev pub is_letter : ℕ → Bool
is_letter b = (nat_le 65 b && nat_lt b 91) || (nat_le 97 b && nat_lt b 123)

-- a letter or `_`
abbrev pub is_word_start : ℕ → Bool
is_word_start b = is_letter b || b == 95

-- a letter, a digit or `_`
abbrev pub is_word : ℕ → Bool
is_word b = is_word_start b || is_digit b

-- anything but a line feed
abbrev pub in_line : ℕ → Bool
in_line b = if b == 10 then false else true

-- `-` and `=`
abbrev pub is_dash : ℕ → Bool
is_dash b = b == 45

abbrev pub is_equal : ℕ → Bool
is_equal b = b == 61

-- b, o and h in either case, which begin numbers of other bases
abbrev pub is_base : ℕ → Bool
is_base b = b == 98 || b == 111 || b == 104 || b == 66 || b == 79 || b == 72

abbrev pub is_empty : List ℕ → Bool
is_empty [] = true
is_empty (b ∷ bs) = false

-- every byte passes
abbrev pub each : (ℕ → Bool) → List ℕ → Bool
each p [] = true
each p (b ∷ bs) = if p b then each p bs else false

abbrev pub only_if : Bool → Shape → Option Shape
only_if true s = Some s
only_if false s = None

-- the number that decimal digits spell, behind the digits that spell n
abbrev pub number_from : ℕ → List ℕ → ℕ
number_from n [] = n
number_from n (b ∷ bs) = number_from (n * 10 + (b - 48)) bs

-- digits are the number that they spell, if it is below 2^63
abbrev pub number_shape : List ℕ → Shape
number_shape digits =
    if nat_lt (number_from 0 digits) (2 ^ 63) then Spelled (kinds.Number (pos (number_from 0 digits))) else Bad NumberTooLarge

-- the token of the table, else a name; a name has a letter
abbrev pub named_shape : Option Kind → List ℕ → Shape
named_shape (Some kind) word = Spelled kind
named_shape None word = if list_any is_letter word then Spelled (kinds.Name word) else Bad BadCharacter

-- `WF_` or `SF_` begins the bytes
abbrev pub begins_fair : List ℕ → Bool
begins_fair (a ∷ b ∷ c ∷ bs) = (a == 87 || a == 83) && b == 70 && c == 95
begins_fair bs = false

-- a reserved word, a foreign word or a name; of what begins with `WF_` or `SF_` these three bytes alone
abbrev pub word_shape : List ℕ → Option Shape
word_shape word = if begins_fair word then only_if (length word == 3) (Spelled kinds.Fair)
    else Some (named_shape (kind_in words word) word)

-- the character that an escape stands for
abbrev pub escaped : ℕ → Option ℕ
escaped c = if c == 34 then Some 34
    else if c == 92 then Some 92
    else if c == 116 then Some 9
    else if c == 110 then Some 10
    else if c == 102 then Some 12
    else if c == 114 then Some 13
    else None

-- behind an opening quote: the characters of the string, or why there is none, and what stands behind
pub record Quoted : Type 0 where
  pub content : Result (List ℕ) LexKind
  pub rest : List ℕ

abbrev pub closed : List ℕ → Quoted
closed bs = record { content = Ok []; rest = bs }

abbrev pub broken : LexKind → List ℕ → Quoted
broken why bs = record { content = Err why; rest = bs }

abbrev pub with_byte : ℕ → Result (List ℕ) LexKind → Result (List ℕ) LexKind
with_byte b (Ok bs) = Ok (b ∷ bs)
with_byte b (Err why) = Err why

abbrev pub with_character : ℕ → Quoted → Quoted
with_character b q = record { content = with_byte b q.content; rest = q.rest }

-- behind a backslash in a string: one of the escapes, before what comes of the rest
abbrev pub with_escape : Option ℕ → List ℕ → Quoted → Quoted
with_escape (Some c) bs q = with_character c q
with_escape None bs q = broken BadCharacter bs

-- a string ends at the next `"` of its line that no backslash escapes
unfoldable pub after_quote : List ℕ → Quoted
after_quote [] = broken OpenString []
after_quote (b ∷ []) = if b == 34 then closed [] else broken OpenString []
after_quote (b ∷ c ∷ bs) =
    if b == 34 then closed (c ∷ bs)
    else if b == 10 || b == 13 then broken OpenString (c ∷ bs)
    else if b == 92 then with_escape (escaped c) bs (after_quote bs)
    else with_character b (after_quote (c ∷ bs))

abbrev pub content_shape : Result (List ℕ) LexKind → Shape
content_shape (Ok text) = Spelled (kinds.Str text)
content_shape (Err why) = Bad why

abbrev pub string_shape : Quoted → Option Shape
string_shape q = only_if (is_empty q.rest) (content_shape q.content)

-- `(*` begins the bytes
abbrev pub opens_comment : List ℕ → Bool
opens_comment (b ∷ c ∷ bs) = b == 40 && c == 42
opens_comment bs = false

abbrev pub closes_comment : List ℕ → Bool
closes_comment (b ∷ c ∷ bs) = b == 42 && c == 41
closes_comment bs = false

-- what stands behind the end of a comment inside which depth comments are open, where it ends
unfoldable pub after_comment : ℕ → List ℕ → Option (List ℕ)
after_comment depth [] = None
after_comment depth (b ∷ []) = None
after_comment depth (b ∷ c ∷ bs) =
    if opens_comment (b ∷ c ∷ bs) then after_comment (depth + 1) bs
    else if closes_comment (b ∷ c ∷ bs) then (if nat_lt 1 depth then after_comment (depth - 1) bs else Some bs)
    else after_comment depth (c ∷ bs)

-- `(*` and these bytes: a comment that ends with them, or one that is still open there
abbrev pub comment_shape : Option (List ℕ) → Option Shape
comment_shape None = Some (Bad OpenComment)
comment_shape (Some rest) = only_if (is_empty rest) Blank

-- this byte four times begins the bytes
abbrev pub begins_four : ℕ → List ℕ → Bool
begins_four x (a ∷ b ∷ c ∷ d ∷ bs) = a == x && b == x && c == x && d == x
begins_four x bs = false

abbrev pub is_one_digit : List ℕ → Bool
is_one_digit (d ∷ []) = is_digit d
is_one_digit bs = false

abbrev pub run_shape : Bool → Option Kind → Option Shape
run_shape true (Some kind) = Some (Spelled kind)
run_shape true None = None
run_shape false kind = None

-- a backslash and these bytes: a comment to the end of the line, `\/`, a number of another base, a token
-- that is spelled by letters, or the backslash alone
abbrev pub backslash_shape : List ℕ → Option Shape
backslash_shape [] = Some (Spelled (kinds.Symbol symbol.Difference))
backslash_shape (c ∷ cs) =
    if c == 42 then only_if (each in_line cs) Blank
    else if c == 47 then only_if (is_empty cs) (Spelled (kinds.Symbol symbol.Or))
    else if is_base c && is_one_digit cs then Some (Bad BadCharacter)
    else run_shape (each is_letter (c ∷ cs)) (kind_in runs (c ∷ cs))

-- a token that signs spell, or a single byte that is none
abbrev pub sign_shape : Option Kind → List ℕ → Option Shape
sign_shape (Some kind) rest = Some (Spelled kind)
sign_shape None [] = Some (Bad BadCharacter)
sign_shape None (b ∷ bs) = None

-- what these bytes are as a whole, by the first of them
abbrev pub shape_of : List ℕ → Option Shape
shape_of [] = None
shape_of (b ∷ bs) =
    if is_blank b then only_if (is_empty bs) Blank
    else if is_digit b then only_if (each is_digit bs) (number_shape (b ∷ bs))
    else if is_word_start b then (if each is_word bs then word_shape (b ∷ bs) else None)
    else if b == 34 then string_shape (after_quote bs)
    else if b == 92 then backslash_shape bs
    else if opens_comment (b ∷ bs) then comment_shape (after_comment 1 (drop 1 bs))
    else if begins_four 45 (b ∷ bs) then only_if (each is_dash bs) (Spelled kinds.Dashes)
    else if begins_four 61 (b ∷ bs) then only_if (each is_equal bs) (Spelled kinds.Equals)
    else sign_shape (kind_in signs (b ∷ bs)) bs

-- a letter begins the bytes
abbrev pub begins_letter : List ℕ → Bool
begins_letter [] = false
begins_letter (b ∷ bs) = is_letter b

-- a backslash and letters
abbrev pub is_run : List ℕ → Bool
is_run (b ∷ c ∷ cs) = b == 92 && each is_letter (c ∷ cs)
is_run bs = false

-- what the first n bytes of a text are there: a backslash and letters are nothing where a letter follows,
-- since the letters behind a backslash are read as a whole
abbrev pub front_shape : List ℕ → ℕ → Option Shape
front_shape text n =
    if is_run (take n text) && begins_letter (drop n text) then None else shape_of (take n text)

-- one piece stands at the front of the text: it is something there, and nothing longer is
pub record IsPiece (text : List ℕ) (size : ℕ) (shape : Shape) : Type 0 where
  pub some : 0 < size
  pub within : size ≤ length text
  pub whole : front_shape text size ≡ Some shape
  pub longest : (more : ℕ) → size < more → more ≤ length text → front_shape text more ≡ None
