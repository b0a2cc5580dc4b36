-- What the tokens of a text hold: a name is some bytes of words, names and strings are UTF-8, numbers are below 2^63, and there are no more than a text may have.
use Rattle.std.proofs.Common.{◌≡◌, ◌≢◌, ℕ, ◌+◌, ◌^◌, ◌<◌, ◌≤◌, Bool, true, false, ◌&&◌, ◌||◌, cond, eqb, List, [], ◌∷◌, ◌++◌, length, take, drop, Option, Some, None, Result, Ok, Err, refl, sym, ap, subst, ◌∙◌, arith, append_assoc}
use Rattle.std.proofs.lemmas.List.{take-append-drop}
use Rattle.std.proofs.lemmas.Bool.Decides.{nat_tests}
use Rattle.std.proofs.lemmas.Str.{IsUtf8-from_is_utf8}
use Rattle.std.specs.Prelude.{pos, MatchBool, MatchOption, if◌then◌else◌, nat_lt, ◌==◌, nat_eq}
use Rattle.std.specs.Str.{IsUtf8, is_utf8}
use Rattle.std.specs.List.{list_any}
use Rattle.std.specs.Cmp.Lexicographic.{pointwise}
use Rattle.base_core.specs.declared.place.Place.{Place}
use Rattle.reading_tokens.specs.declared.token.Kind.{Kind}
use Rattle.reading_tokens.specs.declared.token.Kind.TheVariants as kinds
use Rattle.reading_tokens.specs.declared.token.Word.TheVariants as word
use Rattle.reading_tokens.specs.declared.token.Symbol.TheVariants as symbol
use Rattle.reading_tokens.specs.declared.token.Token.{Token}
use Rattle.reading_tokens.specs.declared.piece.LexKind.{LexKind}
use Rattle.reading_tokens.specs.declared.piece.LexKind.TheVariants.{BadCharacter, OpenString}
use Rattle.reading_tokens.specs.declared.piece.Shape.{Shape}
use Rattle.reading_tokens.specs.declared.piece.Shape.TheVariants.{Blank, Spelled, Bad}
use Rattle.reading_tokens.specs.Spellings.{Spelling, words, runs, signs, kind_in}
use Rattle.reading_tokens.specs.Shapes.{shape_of, IsPiece, only_if, is_blank, is_digit, is_letter, is_word_start, is_word, is_dash, is_equal, is_base, is_run, begins_letter, is_empty, each, in_line, number_shape, number_from, named_shape, begins_fair, word_shape, Quoted, escaped, after_quote, closed, broken, with_byte, with_character, with_escape, content_shape, string_shape, opens_comment, after_comment, comment_shape, begins_four, is_one_digit, run_shape, backslash_shape, sign_shape}
use Rattle.reading_tokens.specs.Tokens.{Piece, ArePieces, text_of, Outcome, with_front, with_token, with_piece, outcome_of, kind_at, is_equals, token_at, place_behind, LexedFrom, LexedText, Tokens, start_of, module_start}
use Rattle.reading_lexer.specs.Lexer.{InUtf8}
use Rattle.reading_lexer.proofs.Ends.{string_utf8}
use Rattle.reading_lexer.proofs.Fronts.{first_of, or_true, words_utf8}

-- what a token of this kind holds
abbrev pub Holds : Kind → Type 0
Holds (kinds.Name n) = (n ≢ []) × IsUtf8 n × (each is_word n ≡ true)
Holds (kinds.Number z) = (n : ℕ) × (z ≡ pos n) × (n < 2 ^ 63)
Holds (kinds.Str s) = IsUtf8 s
Holds _ = Unit {0}

abbrev pub AllHold : List Token → Type 0
AllHold [] = Unit {0}
AllHold (t ∷ ts) = Holds t.kind × AllHold ts

abbrev ShapeHolds : Shape → Type 0
ShapeHolds Blank = Unit {0}
ShapeHolds (Spelled kind) = Holds kind
ShapeHolds (Bad why) = Unit {0}

abbrev MayHold : Option Shape → Type 0
MayHold (Some s) = ShapeHolds s
MayHold None = Unit {0}

abbrev KindMayHold : Option Kind → Type 0
KindMayHold (Some k) = Holds k
KindMayHold None = Unit {0}

either_shape : (b : Bool) (x y : Option Shape) → (b ≡ true → MayHold x) → MayHold y → MayHold (if b then x else y)
either_shape true x y p q = p refl
either_shape false x y p q = q

either_one : (b : Bool) (x y : Shape) → (b ≡ true → ShapeHolds x) → ShapeHolds y → ShapeHolds (if b then x else y)
either_one true x y p q = p refl
either_one false x y p q = q

either_kind : (b : Bool) (x y : Option Kind) → KindMayHold x → KindMayHold y → KindMayHold (if b then x else y)
either_kind true x y p q = p
either_kind false x y p q = q

only : (b : Bool) (s : Shape) → ShapeHolds s → MayHold (only_if b s)
only true s p = p
only false s p = tt

-- ---- tables

-- the kind is no name, number or string
abbrev is_fixed : Kind → Bool
is_fixed (kinds.Name n) = false
is_fixed (kinds.Number z) = false
is_fixed (kinds.Str s) = false
is_fixed _ = true

fixed : (k : Kind) → is_fixed k ≡ true → Holds k
fixed (kinds.Name n) e = cc
fixed (kinds.Number z) e = cc
fixed (kinds.Str s) e = cc
fixed kinds.Dashes e = tt
fixed kinds.Equals e = tt
fixed kinds.Fair e = tt
fixed (kinds.Word w) e = tt
fixed (kinds.Symbol s) e = tt
fixed (kinds.Foreign f) e = tt
fixed kinds.End e = tt

abbrev all_fixed : List Spelling → Bool
all_fixed [] = true
all_fixed (s ∷ ss) = if is_fixed s.kind then all_fixed ss else false

first_fixed : (b rest : Bool) → (if b then rest else false) ≡ true → b ≡ true
first_fixed true rest e = refl
first_fixed false rest e = cc

rest_fixed : (b rest : Bool) → (if b then rest else false) ≡ true → rest ≡ true
rest_fixed true rest e = e
rest_fixed false rest e = cc

table_holds : (t : List Spelling) (bytes : List ℕ) → all_fixed t ≡ true → KindMayHold (kind_in t bytes)
unfolding kind_in
table_holds [] bytes e = tt
table_holds (s ∷ ss) bytes e =
    either_kind (pointwise nat_eq s.bytes bytes) (Some s.kind) (kind_in ss bytes) (fixed s.kind (first_fixed (is_fixed s.kind) (all_fixed ss) e))
    (table_holds ss bytes (rest_fixed (is_fixed s.kind) (all_fixed ss) e))

words_fixed : all_fixed words ≡ true
unfolding words
words_fixed = refl

runs_fixed : all_fixed runs ≡ true
unfolding runs
runs_fixed = refl

signs_fixed : all_fixed signs ≡ true
unfolding signs
signs_fixed = refl

-- ---- shapes

named : (k : Option Kind) (w : List ℕ) → w ≢ [] → IsUtf8 w → each is_word w ≡ true → KindMayHold k → ShapeHolds (named_shape k w)
named (Some k) w s u i p = p
named None w s u i p = either_one (list_any is_letter w) (Spelled (kinds.Name w)) (Bad BadCharacter) (λ e. (s, u, i)) tt

spelled : (w : List ℕ) → w ≢ [] → IsUtf8 w → each is_word w ≡ true → MayHold (word_shape w)
spelled w s u i = either_shape (begins_fair w) _ _ (λ e. only (length w == 3) (Spelled kinds.Fair) tt)
    (named (kind_in words w) w s u i (table_holds words w words_fixed))

of_word : (b : ℕ) (bs : List ℕ) → each is_word (b ∷ bs) ≡ true → MayHold (word_shape (b ∷ bs))
of_word b bs i = spelled (b ∷ bs) (λ n. cc) (words_utf8 (b ∷ bs) i) i

number : (digits : List ℕ) → ShapeHolds (number_shape digits)
number digits = either_one (nat_lt (number_from 0 digits) (2 ^ 63)) _ _ (λ e. (number_from 0 digits, refl, below (number_from 0 digits) (2 ^ 63) e)) tt
  where
    below : (m n : ℕ) → nat_lt m n ≡ true → m < n
    below m n e = grind (arith, nat_tests)

comment : (o : Option (List ℕ)) → MayHold (comment_shape o)
comment None = tt
comment (Some rest) = only (is_empty rest) Blank tt

run : (b : Bool) (k : Option Kind) → KindMayHold k → MayHold (run_shape b k)
run true (Some k) p = p
run true None p = tt
run false k p = tt

sign : (k : Option Kind) (rest : List ℕ) → KindMayHold k → MayHold (sign_shape k rest)
sign (Some k) rest p = p
sign None [] p = tt
sign None (b ∷ bs) p = tt

backslash : (bs : List ℕ) → MayHold (backslash_shape bs)
backslash [] = tt
backslash (c ∷ cs) =
    either_shape (c == 42) _ _ (λ e. only (each in_line cs) Blank tt)
    (either_shape (c == 47) _ _ (λ e. only (is_empty cs) (Spelled (kinds.Symbol symbol.Or)) tt)
    (either_shape (is_base c && is_one_digit cs) _ _ (λ e. tt)
    (run (each is_letter (c ∷ cs)) (kind_in runs (c ∷ cs)) (table_holds runs (c ∷ cs) runs_fixed))))

-- ---- strings

-- where the first has a content, the other has the same
abbrev Extends : Quoted → Quoted → Type 0
Extends q r = (content : List ℕ) → q.content ≡ Ok content → r.content ≡ Ok content

inner : (b : ℕ) (r : Result (List ℕ) LexKind) (content : List ℕ) → with_byte b r ≡ Ok content → (k : List ℕ) × (r ≡ Ok k) × (b ∷ k ≡ content)
inner b (Ok k) content e = (k, refl, cc)
inner b (Err why) content e = cc

character_more : (b : ℕ) (q r : Quoted) → Extends q r → Extends (with_character b q) (with_character b r)
character_more b q r h content e =
    let i = inner b q.content content e in
    ap (with_byte b) (h i.0 i.1) ∙ ap Ok i.2

escape_more : (o : Option ℕ) (bs cs : List ℕ) (q r : Quoted) → Extends q r → Extends (with_escape o bs q) (with_escape o cs r)
escape_more (Some c) bs cs q r h = character_more c q r h
escape_more None bs cs q r h = λ content e. cc

two_more : (b c : ℕ) (x y z : Bool) (bs cs : List ℕ) (q r s t : Quoted) → Extends q r → Extends s t → Extends (cond x (closed (c ∷ bs)) (cond y (broken OpenString (c ∷ bs)) (cond z (with_escape (escaped c) bs q) (with_character b s)))) (cond x (closed (c ∷ cs)) (cond y (broken OpenString (c ∷ cs)) (cond z (with_escape (escaped c) cs r) (with_character b t))))
two_more b c true y z bs cs q r s t h k = λ content e. e
two_more b c false true z bs cs q r s t h k = λ content e. cc
two_more b c false false true bs cs q r s t h k = escape_more (escaped c) bs cs q r h
two_more b c false false false bs cs q r s t h k = character_more b s t k

one_more : (x : Bool) (bs cs : List ℕ) (why : LexKind) (r : Quoted) → Extends (cond x (closed bs) (broken why bs)) (cond x (closed cs) r)
one_more true bs cs why r = λ content e. e
one_more false bs cs why r = λ content e. cc

quoted_more : (cs more : List ℕ) → Extends (after_quote cs) (after_quote (cs ++ more))
unfolding after_quote
quoted_more [] more = λ content e. cc
quoted_more (b ∷ []) [] = one_more (eqb b 34) [] [] OpenString (broken OpenString [])
quoted_more (b ∷ []) (m ∷ more) = one_more (eqb b 34) [] (m ∷ more) OpenString _
quoted_more (b ∷ c ∷ bs) more = two_more b c (eqb b 34) (eqb b 10 || eqb b 13) (eqb b 92) bs (bs ++ more) _ _ _ _ (quoted_more bs more) (quoted_more (c ∷ bs) more)

quote_byte : (b : ℕ) → (b == 34) ≡ true → b ≡ 34
quote_byte b e = grind (arith, nat_tests)

content_utf8 : (b : ℕ) (bs more content : List ℕ) → b ≡ 34 → InUtf8 (b ∷ bs ++ more) → (after_quote bs).content ≡ Ok content → IsUtf8 content
content_utf8 b bs more content e u q =
    let r = quoted_more bs more content q in
    let f = λ (k : Result (List ℕ) LexKind). record (after_quote (bs ++ more)) { content = k } in
    string_utf8 (b ∷ bs ++ more) (bs ++ more) content content (after_quote (bs ++ more)).rest (omega arith) e refl u (ap f r) refl

quoted : (q : Quoted) → ((content : List ℕ) → q.content ≡ Ok content → IsUtf8 content) → MayHold (string_shape q)
quoted q h = only (is_empty q.rest) (content_shape q.content) (known q.content refl)
  where
    known : (r : Result (List ℕ) LexKind) → q.content ≡ r → ShapeHolds (content_shape r)
    known (Ok text) e = h text e
    known (Err why) e = tt

-- ---- pieces

shape_holds : (bytes more : List ℕ) → InUtf8 (bytes ++ more) → MayHold (shape_of bytes)
shape_holds [] more u = tt
shape_holds (b ∷ bs) more u =
    either_shape (is_blank b) _ _ (λ e. only (is_empty bs) Blank tt)
    (either_shape (is_digit b) _ _ (λ e. only (each is_digit bs) (number_shape (b ∷ bs)) (number (b ∷ bs)))
    (either_shape (is_word_start b) _ _ (λ e. either_shape (each is_word bs) _ _ (λ f. of_word b bs (first_of (is_word b) (each is_word bs) false (or_true (is_word_start b) (is_digit b) e) ∙ f)) tt)
    (either_shape (b == 34) _ _ (λ e. quoted (after_quote bs) (λ content q. content_utf8 b bs more content (quote_byte b e) u q))
    (either_shape (b == 92) _ _ (λ e. backslash bs)
    (either_shape (opens_comment (b ∷ bs)) _ _ (λ e. comment (after_comment 1 (drop 1 bs)))
    (either_shape (begins_four 45 (b ∷ bs)) _ _ (λ e. only (each is_dash bs) (Spelled kinds.Dashes) tt)
    (either_shape (begins_four 61 (b ∷ bs)) _ _ (λ e. only (each is_equal bs) (Spelled kinds.Equals) tt)
    (sign (kind_in signs (b ∷ bs)) bs (table_holds signs (b ∷ bs) signs_fixed)))))))))

piece_holds : (text : List ℕ) (size : ℕ) (shape : Shape) → IsPiece text size shape → InUtf8 text → ShapeHolds shape
piece_holds text size shape p u =
    subst MayHold p.whole (either_shape (is_run (take size text) && begins_letter (drop size text)) None (shape_of (take size text)) (λ e. tt)
    (shape_holds (take size text) (drop size text) (subst InUtf8 (sym (take-append-drop size text)) u)))

-- ---- texts

-- the tokens that come behind so many, if there are any
abbrev TokensHold : ℕ → Outcome → Type 0
TokensHold count (Ok ts) = AllHold ts × (length ts + count ≤ 200001)
TokensHold count (Err e) = Unit {0}

either_outcome : (b : Bool) (n : ℕ) (x y : Outcome) → TokensHold n x → (b ≡ false → TokensHold n y) → TokensHold n (if b then x else y)
either_outcome true n x y p q = p
either_outcome false n x y p q = q refl

front : (t : Token) (n : ℕ) (o : Outcome) → Holds t.kind → TokensHold (n + 1) o → TokensHold n (with_front t o)
front t n (Ok ts) h k = ((h, k.0), omega (arith, k.1))
front t n (Err e) h k = tt

kind_holds : (b : Bool) (kind : Kind) → Holds kind → Holds (if b then kinds.Word word.Module else kind)
kind_holds true kind h = tt
kind_holds false kind h = h

fewer : (n : ℕ) → n ≤ 200000 → (n == 200000) ≡ false → n + 1 ≤ 200000
fewer n h e = grind (arith, nat_tests)

token_holds : (framed : Bool) (kind : Kind) (at next : Place) (n : ℕ) (rest : ℕ → Outcome) → n ≤ 200000 → Holds kind
    → (n + 1 ≤ 200000 → TokensHold (n + 1) (rest (n + 1))) → TokensHold n (with_token framed kind at next n rest)
token_holds framed kind at next n rest l h r =
    either_outcome (n == 200000) n _ _ tt
    (λ e. let m = fewer n l e in either_outcome (framed && is_equals kind) n _ _ ((h, (tt, tt)), omega (arith, m))
    (λ f. front (token_at (kind_at framed n kind) at) n (rest (n + 1)) (kind_holds (framed && n == 1) kind h) (r m)))

piece_tokens : (framed : Bool) (shape : Shape) (at next : Place) (n : ℕ) (rest : ℕ → Outcome) → n ≤ 200000 → ShapeHolds shape
    → ((m : ℕ) → m ≤ 200000 → TokensHold m (rest m)) → TokensHold n (with_piece framed shape at next n rest)
piece_tokens framed Blank at next n rest l h r = r n l
piece_tokens framed (Spelled kind) at next n rest l h r = token_holds framed kind at next n rest l h (λ m. r (n + 1) m)
piece_tokens framed (Bad why) at next n rest l h r = tt

behind_utf8 : (front rest : List ℕ) → InUtf8 (front ++ rest) → InUtf8 rest
behind_utf8 front rest u = (u.0 ++ front, subst IsUtf8 (sym (append_assoc u.0 front rest)) u.1)

pieces_hold : (framed : Bool) (ps : List Piece) (at : Place) (n : ℕ) → n ≤ 200000 → InUtf8 (text_of ps) → ArePieces ps → TokensHold n (outcome_of framed ps at n)
pieces_hold framed [] at n l u are = ((tt, tt), omega (arith, l))
pieces_hold framed (p ∷ ps) at n l u are =
    piece_tokens framed p.shape at (place_behind at p.bytes) n (outcome_of framed ps (place_behind at p.bytes)) l
    (piece_holds (p.bytes ++ text_of ps) (length p.bytes) p.shape are.0 u)
    (λ m k. pieces_hold framed ps (place_behind at p.bytes) m k (behind_utf8 p.bytes (text_of ps) u) are.1)

from_holds : (framed : Bool) (at : Place) (text : List ℕ) (o : Outcome) → InUtf8 text → LexedFrom framed at 0 text o → TokensHold 0 o
from_holds framed at text o u l = subst (TokensHold 0) (sym l.gives) (pieces_hold framed l.pieces at 0 (omega arith) (subst InUtf8 l.whole u) l.longest)

module_holds : (start : Option ℕ) (file : ℕ) (text : List ℕ) (o : Outcome) → InUtf8 text
    → MatchOption start (o ≡ Ok (token_at kinds.End (place_behind (start_of file) text) ∷ []))
    (λ n. LexedFrom true (place_behind (start_of file) (take n text)) 0 (drop n text) o) → TokensHold 0 o
module_holds None file text o u e = subst (TokensHold 0) (sym e) ((tt, tt), omega arith)
module_holds (Some n) file text o u l = from_holds true _ (drop n text) o (behind_utf8 (take n text) (drop n text) (subst InUtf8 (sym (take-append-drop n text)) u)) l

text_holds : (framed : Bool) (file : ℕ) (text : List ℕ) (o : Outcome) → InUtf8 text → LexedText framed file text o → TokensHold 0 o
text_holds true file text o u l = module_holds (module_start text) file text o u l
text_holds false file text o u l = from_holds false (start_of file) text o u l

utf8_holds : (b framed : Bool) (file : ℕ) (text : List ℕ) (tokens : List Token) (e : LexKind × Place) → is_utf8 text ≡ b
    → MatchBool b (LexedText framed file text (Ok tokens)) (◌≡◌ {A = Outcome} (Ok tokens) (Err e)) → AllHold tokens × (length tokens ≤ 200001)
utf8_holds true framed file text tokens e b l = let h = text_holds framed file text (Ok tokens) ([], IsUtf8-from_is_utf8 text b) l in (h.0, omega (arith, h.1))
utf8_holds false framed file text tokens e b l = absurd cc

pub tokens_hold : (framed : Bool) (file : ℕ) (text : List ℕ) (tokens : List Token) → Tokens framed file text (Ok tokens) → AllHold tokens × (length tokens ≤ 200001)
tokens_hold framed file text tokens t = utf8_holds (is_utf8 text) framed file text tokens _ refl t
