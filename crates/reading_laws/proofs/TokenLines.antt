-- Names have letters, digits and underscores alone, and so no line feed.
use Rattle.std.proofs.Common.{◌≡◌, ◌≢◌, ℕ, ◌+◌, Bool, true, false, ◌&&◌, ◌||◌, List, [], ◌∷◌, ◌++◌, length, take, drop, Option, Some, None, Result, Ok, Err, refl, sym, subst}
use Rattle.std.proofs.lemmas.List.Elements.{All-nil, All-cons}
use Rattle.std.specs.Prelude.{MatchBool, if◌then◌else◌, nat_lt, ◌==◌, nat_eq, ◌^◌}
use Rattle.std.specs.Str.{is_utf8}
use Rattle.std.specs.List.{list_any}
use Rattle.std.specs.Cmp.Lexicographic.{pointwise}
use Rattle.base_core.specs.declared.place.Place.{Place}
use Rattle.reading_tokens.specs.declared.token.Kind.{Kind}
use Rattle.reading_tokens.specs.declared.token.Kind.TheVariants as kinds
use Rattle.reading_tokens.specs.declared.token.Word.TheVariants as word
use Rattle.reading_tokens.specs.declared.token.Symbol.TheVariants as symbol
use Rattle.reading_tokens.specs.declared.token.Token.{Token}
use Rattle.reading_tokens.specs.declared.piece.LexKind.{LexKind}
use Rattle.reading_tokens.specs.declared.piece.LexKind.TheVariants.{BadCharacter}
use Rattle.reading_tokens.specs.declared.piece.Shape.{Shape}
use Rattle.reading_tokens.specs.declared.piece.Shape.TheVariants.{Blank, Spelled, Bad}
use Rattle.reading_tokens.specs.Spellings.{Spelling, words, runs, signs, kind_in}
use Rattle.reading_tokens.specs.Shapes.{shape_of, IsPiece, only_if, is_blank, is_digit, is_letter, is_word_start, is_word, is_dash, is_equal, is_base, is_run, begins_letter, is_empty, each, in_line, number_shape, number_from, named_shape, begins_fair, word_shape, after_quote, content_shape, opens_comment, after_comment, comment_shape, begins_four, is_one_digit, run_shape, backslash_shape, sign_shape}
use Rattle.reading_tokens.specs.Tokens.{Piece, ArePieces, text_of, Outcome, with_front, with_token, with_piece, outcome_of, kind_at, is_equals, token_at, place_behind, LexedFrom, LexedText, Tokens, start_of}
use Rattle.reading_laws.specs.Telling.{HasNoFeed}

-- if the token is a name, no line feed stands in it
abbrev pub Holds : Kind → Type 0
Holds (kinds.Name n) = HasNoFeed n
Holds _ = Unit {0}

abbrev pub AllHold : List Token → Type 0
AllHold [] = Unit {0}
AllHold (t ∷ ts) = Holds t.kind × AllHold ts

abbrev ShapeHolds : Shape → Type 0
ShapeHolds Blank = Unit {0}
ShapeHolds (Spelled kind) = Holds kind
ShapeHolds (Bad why) = Unit {0}

abbrev MayHold : Option Shape → Type 0
MayHold (Some s) = ShapeHolds s
MayHold None = Unit {0}

abbrev KindMayHold : Option Kind → Type 0
KindMayHold (Some k) = Holds k
KindMayHold None = Unit {0}

either_shape : (b : Bool) (x y : Option Shape) → (b ≡ true → MayHold x) → MayHold y → MayHold (if b then x else y)
either_shape true x y p q = p refl
either_shape false x y p q = q

either_one : (b : Bool) (x y : Shape) → ShapeHolds x → ShapeHolds y → ShapeHolds (if b then x else y)
either_one true x y p q = p
either_one false x y p q = q

either_kind : (b : Bool) (x y : Option Kind) → KindMayHold x → KindMayHold y → KindMayHold (if b then x else y)
either_kind true x y p q = p
either_kind false x y p q = q

only : (b : Bool) (s : Shape) → ShapeHolds s → MayHold (only_if b s)
only true s p = p
only false s p = tt

-- ---- tables

abbrev is_name : Kind → Bool
is_name (kinds.Name n) = true
is_name _ = false

no_name : (k : Kind) → is_name k ≡ false → Holds k
no_name (kinds.Name n) e = cc
no_name (kinds.Number z) e = tt
no_name (kinds.Str s) e = tt
no_name kinds.Dashes e = tt
no_name kinds.Equals e = tt
no_name kinds.Fair e = tt
no_name (kinds.Word w) e = tt
no_name (kinds.Symbol s) e = tt
no_name (kinds.Foreign f) e = tt
no_name kinds.End e = tt

-- no spelling of a table is a name's
abbrev none_names : List Spelling → Bool
none_names [] = true
none_names (s ∷ ss) = if is_name s.kind then false else none_names ss

first_not : (b rest : Bool) → (if b then false else rest) ≡ true → b ≡ false
first_not true rest e = cc
first_not false rest e = refl

rest_not : (b rest : Bool) → (if b then false else rest) ≡ true → rest ≡ true
rest_not true rest e = cc
rest_not false rest e = e

table_holds : (t : List Spelling) (bytes : List ℕ) → none_names t ≡ true → KindMayHold (kind_in t bytes)
unfolding kind_in
table_holds [] bytes e = tt
table_holds (s ∷ ss) bytes e =
    either_kind (pointwise nat_eq s.bytes bytes) (Some s.kind) (kind_in ss bytes) (no_name s.kind (first_not (is_name s.kind) (none_names ss) e))
    (table_holds ss bytes (rest_not (is_name s.kind) (none_names ss) e))

words_none : none_names words ≡ true
unfolding words
words_none = refl

runs_none : none_names runs ≡ true
unfolding runs
runs_none = refl

signs_none : none_names signs ≡ true
unfolding signs
signs_none = refl

-- ---- words

first_passes : (x y : Bool) → (if x then y else false) ≡ true → x ≡ true
first_passes true y e = refl
first_passes false y e = cc

rest_passes : (x y : Bool) → (if x then y else false) ≡ true → y ≡ true
rest_passes true y e = e
rest_passes false y e = cc

-- a test that a line feed does not pass
abbrev IsTest : (ℕ → Bool) → Type 0
IsTest p = p 10 ≡ false

passes_no_feed : (p : ℕ → Bool) (b : ℕ) → IsTest p → p b ≡ true → b ≢ 10
passes_no_feed p b t e f = unlike (p 10) t (subst (λ n. p n ≡ true) f e)
  where
    unlike : (x : Bool) → x ≡ false → x ≡ true → ⊥
    unlike true e f = cc
    unlike false e f = cc

feedless : (p : ℕ → Bool) (w : List ℕ) → IsTest p → each p w ≡ true → HasNoFeed w
feedless p [] t e = All-nil (λ b. b ≢ 10)
feedless p (b ∷ bs) t e =
    All-cons (λ x. x ≢ 10) b bs (passes_no_feed p b t (first_passes (p b) (each p bs) e)) (feedless p bs t (rest_passes (p b) (each p bs) e))

-- by a test of each byte
pub tested : (text : List ℕ) → each in_line text ≡ true → HasNoFeed text
tested text e = feedless in_line text refl e

begun : (x y : Bool) → x ≡ true → (x || y) ≡ true
begun true y e = refl
begun false y e = cc

both : (x y : Bool) → x ≡ true → y ≡ true → (if x then y else false) ≡ true
both true y e f = f
both false y e f = cc

-- ---- shapes

named : (k : Option Kind) (w : List ℕ) → HasNoFeed w → KindMayHold k → ShapeHolds (named_shape k w)
named (Some k) w h p = p
named None w h p = either_one (list_any is_letter w) (Spelled (kinds.Name w)) (Bad BadCharacter) h tt

spelled : (w : List ℕ) → HasNoFeed w → MayHold (word_shape w)
spelled w h = either_shape (begins_fair w) _ _ (λ e. only (length w == 3) (Spelled kinds.Fair) tt)
    (named (kind_in words w) w h (table_holds words w words_none))

content : (r : Result (List ℕ) LexKind) → ShapeHolds (content_shape r)
content (Ok text) = tt
content (Err why) = tt

comment : (o : Option (List ℕ)) → MayHold (comment_shape o)
comment None = tt
comment (Some rest) = only (is_empty rest) Blank tt

run : (b : Bool) (k : Option Kind) → KindMayHold k → MayHold (run_shape b k)
run true (Some k) p = p
run true None p = tt
run false k p = tt

sign : (k : Option Kind) (rest : List ℕ) → KindMayHold k → MayHold (sign_shape k rest)
sign (Some k) rest p = p
sign None [] p = tt
sign None (b ∷ bs) p = tt

backslash : (bs : List ℕ) → MayHold (backslash_shape bs)
backslash [] = tt
backslash (c ∷ cs) =
    either_shape (c == 42) _ _ (λ e. only (each in_line cs) Blank tt)
    (either_shape (c == 47) _ _ (λ e. only (is_empty cs) (Spelled (kinds.Symbol symbol.Or)) tt)
    (either_shape (is_base c && is_one_digit cs) _ _ (λ e. tt)
    (run (each is_letter (c ∷ cs)) (kind_in runs (c ∷ cs)) (table_holds runs (c ∷ cs) runs_none))))

shape_holds : (bytes : List ℕ) → MayHold (shape_of bytes)
shape_holds [] = tt
shape_holds (b ∷ bs) =
    either_shape (is_blank b) _ _ (λ e. only (is_empty bs) Blank tt)
    (either_shape (is_digit b) _ _ (λ e. only (each is_digit bs) (number_shape (b ∷ bs)) (either_one (nat_lt (number_from 0 (b ∷ bs)) (2 ^ 63)) _ _ tt tt))
    (either_shape (is_word_start b) _ _ (λ e. either_shape (each is_word bs) _ _ (λ f. spelled (b ∷ bs) (feedless is_word (b ∷ bs) refl (both (is_word b) (each is_word bs) (begun (is_word_start b) (is_digit b) e) f))) tt)
    (either_shape (b == 34) _ _ (λ e. only (is_empty (after_quote bs).rest) (content_shape (after_quote bs).content) (content (after_quote bs).content))
    (either_shape (b == 92) _ _ (λ e. backslash bs)
    (either_shape (opens_comment (b ∷ bs)) _ _ (λ e. comment (after_comment 1 (drop 1 bs)))
    (either_shape (begins_four 45 (b ∷ bs)) _ _ (λ e. only (each is_dash bs) (Spelled kinds.Dashes) tt)
    (either_shape (begins_four 61 (b ∷ bs)) _ _ (λ e. only (each is_equal bs) (Spelled kinds.Equals) tt)
    (sign (kind_in signs (b ∷ bs)) bs (table_holds signs (b ∷ bs) signs_none)))))))))

piece_holds : (text : List ℕ) (size : ℕ) (shape : Shape) → IsPiece text size shape → ShapeHolds shape
piece_holds text size shape p =
    subst MayHold p.whole (either_shape (is_run (take size text) && begins_letter (drop size text)) None (shape_of (take size text)) (λ e. tt)
    (shape_holds (take size text)))

-- ---- texts

-- if there are tokens, no line feed stands in their names
abbrev TokensHold : Outcome → Type 0
TokensHold (Ok ts) = AllHold ts
TokensHold (Err e) = Unit {0}

either_outcome : (b : Bool) (x y : Outcome) → TokensHold x → TokensHold y → TokensHold (if b then x else y)
either_outcome true x y p q = p
either_outcome false x y p q = q

front : (t : Token) (o : Outcome) → Holds t.kind → TokensHold o → TokensHold (with_front t o)
front t (Ok ts) h k = (h, k)
front t (Err e) h k = tt

kind_holds : (b : Bool) (kind : Kind) → Holds kind → Holds (if b then kinds.Word word.Module else kind)
kind_holds true kind h = tt
kind_holds false kind h = h

token_holds : (framed : Bool) (kind : Kind) (at next : Place) (count : ℕ) (rest : ℕ → Outcome) → Holds kind
    → ((n : ℕ) → TokensHold (rest n)) → TokensHold (with_token framed kind at next count rest)
token_holds framed kind at next count rest h r =
    either_outcome (count == 200000) _ _ tt
    (either_outcome (framed && is_equals kind) _ _ (h, (tt, tt))
    (front (token_at (kind_at framed count kind) at) (rest (count + 1)) (kind_holds (framed && count == 1) kind h) (r (count + 1))))

piece_tokens : (framed : Bool) (shape : Shape) (at next : Place) (count : ℕ) (rest : ℕ → Outcome) → ShapeHolds shape
    → ((n : ℕ) → TokensHold (rest n)) → TokensHold (with_piece framed shape at next count rest)
piece_tokens framed Blank at next count rest h r = r count
piece_tokens framed (Spelled kind) at next count rest h r = token_holds framed kind at next count rest h r
piece_tokens framed (Bad why) at next count rest h r = tt

pieces_hold : (framed : Bool) (ps : List Piece) (at : Place) (count : ℕ) → ArePieces ps → TokensHold (outcome_of framed ps at count)
pieces_hold framed [] at count are = (tt, tt)
pieces_hold framed (p ∷ ps) at count are =
    piece_tokens framed p.shape at (place_behind at p.bytes) count (outcome_of framed ps (place_behind at p.bytes))
    (piece_holds (p.bytes ++ text_of ps) (length p.bytes) p.shape are.0) (λ n. pieces_hold framed ps (place_behind at p.bytes) n are.1)

from_holds : (framed : Bool) (at : Place) (text : List ℕ) (o : Outcome) → LexedFrom framed at 0 text o → TokensHold o
from_holds framed at text o l = subst TokensHold (sym l.gives) (pieces_hold framed l.pieces at 0 l.longest)

utf8_holds : (b : Bool) (file : ℕ) (text : List ℕ) (tokens : List Token) (e : LexKind × Place)
    → MatchBool b (LexedText false file text (Ok tokens)) (◌≡◌ {A = Outcome} (Ok tokens) (Err e)) → AllHold tokens
utf8_holds true file text tokens e l = from_holds false (start_of file) text (Ok tokens) l
utf8_holds false file text tokens e l = absurd cc

pub tokens_hold : (file : ℕ) (text : List ℕ) (tokens : List Token) → Tokens false file text (Ok tokens) → AllHold tokens
tokens_hold file text tokens t = utf8_holds (is_utf8 text) file text tokens _ t
