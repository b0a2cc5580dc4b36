-- Of the tokens of a text the last is the End, and no other is.
use Rattle.std.proofs.Common.{◌≡◌, ℕ, ◌+◌, Bool, true, false, ◌&&◌, List, [], ◌∷◌, ◌++◌, length, take, drop, Option, Some, None, Result, Ok, Err, refl, sym, ap, subst}
use Rattle.std.specs.Prelude.{MatchBool, MatchOption, if◌then◌else◌, nat_lt, ◌==◌, ◌^◌}
use Rattle.std.specs.Str.{is_utf8}
use Rattle.base_core.specs.declared.place.Place.{Place}
use Rattle.reading_tokens.specs.declared.token.Kind.{Kind}
use Rattle.reading_tokens.specs.declared.token.Kind.TheVariants as kinds
use Rattle.reading_tokens.specs.declared.token.Word.TheVariants as word
use Rattle.reading_tokens.specs.declared.token.Symbol.TheVariants as symbol
use Rattle.reading_tokens.specs.declared.token.Token.{Token}
use Rattle.reading_tokens.specs.declared.piece.LexKind.{LexKind}
use Rattle.reading_tokens.specs.declared.piece.LexKind.TheVariants.{BadCharacter}
use Rattle.reading_tokens.specs.declared.piece.Shape.{Shape}
use Rattle.reading_tokens.specs.declared.piece.Shape.TheVariants.{Blank, Spelled, Bad}
use Rattle.reading_trees.specs.Opens.{is_end}
use Rattle.reading_trees.specs.Laid.{EndsOnce}
use Rattle.reading_tokens.specs.Spellings.{Spelling, words, runs, signs, kind_in}
use Rattle.std.specs.Cmp.Lexicographic.{pointwise}
use Rattle.std.specs.Prelude.{nat_eq}
use Rattle.std.specs.List.{list_any}
use Rattle.reading_tokens.specs.Shapes.{shape_of, IsPiece, only_if, is_blank, is_digit, is_letter, is_word_start, is_word, is_dash, is_equal, is_base, is_run, begins_letter, is_empty, each, in_line, number_shape, number_from, named_shape, begins_fair, word_shape, after_quote, content_shape, opens_comment, after_comment, comment_shape, begins_four, is_one_digit, run_shape, backslash_shape, sign_shape}
use Rattle.reading_tokens.specs.Tokens.{Piece, ArePieces, text_of, Outcome, with_front, with_token, with_piece, outcome_of, kind_at, is_equals, token_at, place_behind, LexedFrom, LexedText, Tokens, start_of, module_start}

-- what is spelled is not the End
abbrev NotEnd : Shape → Type 0
NotEnd Blank = Unit {0}
NotEnd (Spelled kind) = is_end kind ≡ false
NotEnd (Bad why) = Unit {0}

abbrev NotEnds : Option Shape → Type 0
NotEnds (Some s) = NotEnd s
NotEnds None = Unit {0}

abbrev KindNotEnd : Option Kind → Type 0
KindNotEnd (Some k) = is_end k ≡ false
KindNotEnd None = Unit {0}

either_shape : (b : Bool) (x y : Option Shape) → NotEnds x → NotEnds y → NotEnds (if b then x else y)
either_shape true x y p q = p
either_shape false x y p q = q

either_one : (b : Bool) (x y : Shape) → NotEnd x → NotEnd y → NotEnd (if b then x else y)
either_one true x y p q = p
either_one false x y p q = q

either_kind : (b : Bool) (x y : Option Kind) → KindNotEnd x → KindNotEnd y → KindNotEnd (if b then x else y)
either_kind true x y p q = p
either_kind false x y p q = q

only : (b : Bool) (s : Shape) → NotEnd s → NotEnds (only_if b s)
only true s p = p
only false s p = tt

-- no spelling of a table is the End's
abbrev none_ends : List Spelling → Bool
none_ends [] = true
none_ends (s ∷ ss) = if is_end s.kind then false else none_ends ss

first_not : (b rest : Bool) → (if b then false else rest) ≡ true → b ≡ false
first_not true rest e = cc
first_not false rest e = refl

rest_not : (b rest : Bool) → (if b then false else rest) ≡ true → rest ≡ true
rest_not true rest e = cc
rest_not false rest e = e

table_not_end : (t : List Spelling) (bytes : List ℕ) → none_ends t ≡ true → KindNotEnd (kind_in t bytes)
unfolding kind_in
table_not_end [] bytes e = tt
table_not_end (s ∷ ss) bytes e =
    either_kind (pointwise nat_eq s.bytes bytes) (Some s.kind) (kind_in ss bytes) (first_not (is_end s.kind) (none_ends ss) e)
    (table_not_end ss bytes (rest_not (is_end s.kind) (none_ends ss) e))

words_none : none_ends words ≡ true
unfolding words
words_none = refl

runs_none : none_ends runs ≡ true
unfolding runs
runs_none = refl

signs_none : none_ends signs ≡ true
unfolding signs
signs_none = refl

named : (k : Option Kind) (w : List ℕ) → KindNotEnd k → NotEnd (named_shape k w)
named (Some k) w p = p
named None w p = either_one (list_any is_letter w) (Spelled (kinds.Name w)) (Bad BadCharacter) refl tt

content : (r : Result (List ℕ) LexKind) → NotEnd (content_shape r)
content (Ok text) = refl
content (Err why) = tt

comment : (o : Option (List ℕ)) → NotEnds (comment_shape o)
comment None = tt
comment (Some rest) = only (is_empty rest) Blank tt

run : (b : Bool) (k : Option Kind) → KindNotEnd k → NotEnds (run_shape b k)
run true (Some k) p = p
run true None p = tt
run false k p = tt

sign : (k : Option Kind) (rest : List ℕ) → KindNotEnd k → NotEnds (sign_shape k rest)
sign (Some k) rest p = p
sign None [] p = tt
sign None (b ∷ bs) p = tt

backslash : (bs : List ℕ) → NotEnds (backslash_shape bs)
backslash [] = refl
backslash (c ∷ cs) =
    either_shape (c == 42) _ _ (only (each in_line cs) Blank tt)
    (either_shape (c == 47) _ _ (only (is_empty cs) (Spelled (kinds.Symbol symbol.Or)) refl)
    (either_shape (is_base c && is_one_digit cs) _ _ tt
    (run (each is_letter (c ∷ cs)) (kind_in runs (c ∷ cs)) (table_not_end runs (c ∷ cs) runs_none))))

spelled : (w : List ℕ) → NotEnds (word_shape w)
spelled w = either_shape (begins_fair w) _ _ (only (length w == 3) (Spelled kinds.Fair) refl)
    (named (kind_in words w) w (table_not_end words w words_none))

shape_not_end : (bytes : List ℕ) → NotEnds (shape_of bytes)
shape_not_end [] = tt
shape_not_end (b ∷ bs) =
    either_shape (is_blank b) _ _ (only (is_empty bs) Blank tt)
    (either_shape (is_digit b) _ _ (only (each is_digit bs) (number_shape (b ∷ bs))
    (either_one (nat_lt (number_from 0 (b ∷ bs)) (2 ^ 63)) _ _ refl tt))
    (either_shape (is_word_start b) _ _ (either_shape (each is_word bs) _ _ (spelled (b ∷ bs)) tt)
    (either_shape (b == 34) _ _ (only (is_empty (after_quote bs).rest) (content_shape (after_quote bs).content) (content (after_quote bs).content))
    (either_shape (b == 92) _ _ (backslash bs)
    (either_shape (opens_comment (b ∷ bs)) _ _ (comment (after_comment 1 (drop 1 bs)))
    (either_shape (begins_four 45 (b ∷ bs)) _ _ (only (each is_dash bs) (Spelled kinds.Dashes) refl)
    (either_shape (begins_four 61 (b ∷ bs)) _ _ (only (each is_equal bs) (Spelled kinds.Equals) refl)
    (sign (kind_in signs (b ∷ bs)) bs (table_not_end signs (b ∷ bs) signs_none)))))))))

piece_not_end : (text : List ℕ) (size : ℕ) (shape : Shape) → IsPiece text size shape → NotEnd shape
piece_not_end text size shape p =
    subst NotEnds p.whole (either_shape (is_run (take size text) && begins_letter (drop size text)) None (shape_of (take size text)) tt
    (shape_not_end (take size text)))

-- if there are tokens, they end once
abbrev Ends : Outcome → Type 0
Ends (Ok ts) = EndsOnce ts
Ends (Err e) = Unit {0}

either_outcome : (b : Bool) (x y : Outcome) → Ends x → Ends y → Ends (if b then x else y)
either_outcome true x y p q = p
either_outcome false x y p q = q

end_alone : (at : Place) → EndsOnce (token_at kinds.End at ∷ [])
end_alone at = record { before = []; last = token_at kinds.End at; whole = refl; is_last = refl; once = tt }

front : (t : Token) (o : Outcome) → is_end t.kind ≡ false → Ends o → Ends (with_front t o)
front t (Ok ts) n e = record { before = t ∷ e.before; last = e.last; whole = ap (λ (us : List Token). t ∷ us) e.whole; is_last = e.is_last; once = (n, e.once) }
front t (Err x) n e = tt

kind_not : (b : Bool) (kind : Kind) → is_end kind ≡ false → is_end (if b then kinds.Word word.Module else kind) ≡ false
kind_not true kind n = refl
kind_not false kind n = n

token_ends : (framed : Bool) (kind : Kind) (at next : Place) (count : ℕ) (rest : ℕ → Outcome) → is_end kind ≡ false
    → ((c : ℕ) → Ends (rest c)) → Ends (with_token framed kind at next count rest)
token_ends framed kind at next count rest n r =
    either_outcome (count == 200000) _ _ tt
    (either_outcome (framed && is_equals kind) _ _ (front (token_at kind at) (Ok (token_at kinds.End next ∷ [])) n (end_alone next))
    (front (token_at (kind_at framed count kind) at) (rest (count + 1)) (kind_not (framed && count == 1) kind n) (r (count + 1))))

piece_ends : (framed : Bool) (shape : Shape) (at next : Place) (count : ℕ) (rest : ℕ → Outcome) → NotEnd shape
    → ((c : ℕ) → Ends (rest c)) → Ends (with_piece framed shape at next count rest)
piece_ends framed Blank at next count rest n r = r count
piece_ends framed (Spelled kind) at next count rest n r = token_ends framed kind at next count rest n r
piece_ends framed (Bad why) at next count rest n r = tt

pieces_end : (framed : Bool) (ps : List Piece) (at : Place) (count : ℕ) → ArePieces ps → Ends (outcome_of framed ps at count)
pieces_end framed [] at count are = end_alone at
pieces_end framed (p ∷ ps) at count are =
    piece_ends framed p.shape at (place_behind at p.bytes) count (outcome_of framed ps (place_behind at p.bytes))
    (piece_not_end (p.bytes ++ text_of ps) (length p.bytes) p.shape are.0) (λ c. pieces_end framed ps (place_behind at p.bytes) c are.1)

from_ends : (framed : Bool) (at : Place) (count : ℕ) (text : List ℕ) (o : Outcome) → LexedFrom framed at count text o → Ends o
from_ends framed at count text o l = subst Ends (sym l.gives) (pieces_end framed l.pieces at count l.longest)

module_ends : (start : Option ℕ) (file : ℕ) (text : List ℕ) (o : Outcome)
    → MatchOption start (o ≡ Ok (token_at kinds.End (place_behind (start_of file) text) ∷ []))
    (λ n. LexedFrom true (place_behind (start_of file) (take n text)) 0 (drop n text) o) → Ends o
module_ends None file text o e = subst Ends (sym e) (end_alone (place_behind (start_of file) text))
module_ends (Some n) file text o l = from_ends true _ 0 (drop n text) o l

text_ends : (framed : Bool) (file : ℕ) (text : List ℕ) (o : Outcome) → LexedText framed file text o → Ends o
text_ends true file text o l = module_ends (module_start text) file text o l
text_ends false file text o l = from_ends false (start_of file) 0 text o l

utf8_ends : (b framed : Bool) (file : ℕ) (text : List ℕ) (tokens : List Token) (e : LexKind × Place)
    → MatchBool b (LexedText framed file text (Ok tokens)) (◌≡◌ {A = Outcome} (Ok tokens) (Err e)) → EndsOnce tokens
utf8_ends true framed file text tokens e l = text_ends framed file text (Ok tokens) l
utf8_ends false framed file text tokens e l = absurd cc

pub tokens_end : (framed : Bool) (file : ℕ) (text : List ℕ) (tokens : List Token) → Tokens framed file text (Ok tokens) → EndsOnce tokens
tokens_end framed file text tokens t = utf8_ends (is_utf8 text) framed file text tokens _ t
