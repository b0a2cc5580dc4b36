-- One piece more of a text.
use Rattle.std.proofs.Common.{◌≡◌, ◌≢◌, ℕ, ◌+◌, Bool, true, false, ◌&&◌, eqb, List, [], ◌∷◌, ◌++◌, length, take, drop, Option, Some, None, Result, Ok, Err, refl, sym, ap, subst, ◌∙◌, arith, append_assoc}
use Rattle.std.proofs.lemmas.List.{take-append-drop}
use Rattle.std.proofs.lemmas.Bool.Decides.{nat_tests}
use Rattle.std.proofs.lemmas.Str.{IsUtf8-from_is_utf8, is_utf8-from_IsUtf8}
use Rattle.std.specs.Prelude.{MatchBool, MatchOption, Vec}
use Rattle.std.specs.Str.{IsUtf8, is_utf8}
use Rattle.std.specs.Str.Lossy.{utf8_valid_len}
use Rattle.std.specs.declared.alloc.Global.{Global}
use Rattle.base_core.specs.declared.place.Place.{Place}
use Rattle.reading_tokens.specs.declared.token.Kind.{Kind}
use Rattle.reading_tokens.specs.declared.token.Kind.TheVariants.{End}
use Rattle.reading_tokens.specs.declared.token.Token.{Token}
use Rattle.reading_tokens.specs.declared.piece.LexKind.{LexKind}
use Rattle.reading_tokens.specs.declared.piece.LexKind.TheVariants.{TooManyTokens, NotUtf8}
use Rattle.reading_tokens.specs.declared.piece.Shape.{Shape}
use Rattle.reading_tokens.specs.declared.piece.Shape.TheVariants.{Blank, Spelled, Bad}
use Rattle.reading_tokens.specs.Shapes.{IsPiece}
use Rattle.reading_tokens.specs.Tokens.{Outcome, LexedFrom, LexedText, Tokens, module_start, start_of, with_front, with_all, place_behind, token_at, kind_at, is_equals}
use Rattle.reading_tokens.proofs.Cuts.{piece, cut_step, some_cut}
use Rattle.reading_lexer.specs.Lexer.{InUtf8, Answers}
use Rattle.reading_lexer.specs.declared.fault.LexFault.{LexFault}
use Rattle.reading_lexer.specs.declared.fault.LexFault.TheVariants.{Refused, NoMemory}
use Rattle.reading_lexer.proofs.Fronts.{first_of, rest_of}

not_equal : (a b : ℕ) → a ≢ b → eqb a b ≡ false
not_equal a b h = grind (arith, nat_tests)

pub lexed_end : (framed : Bool) (at : Place) (count : ℕ) (text : List ℕ) → length text ≡ 0 → LexedFrom framed at count text (Ok (token_at End at ∷ []))
lexed_end framed at count [] h = record { pieces = []; whole = refl; longest = tt; gives = refl }
lexed_end framed at count (b ∷ bs) h = absurd (omega arith)

pub with_all_none : (o : Outcome) → with_all [] o ≡ o
with_all_none (Ok us) = refl
with_all_none (Err e) = refl

pub with_all_more : (ts : List Token) (t : Token) (o : Outcome) → with_all (ts ++ t ∷ []) o ≡ with_all ts (with_front t o)
with_all_more ts t (Ok us) = ap Ok (append_assoc ts (t ∷ []) us)
with_all_more ts t (Err e) = refl

pub utf8_after : (text front after : List ℕ) (size : ℕ) → front ≡ take size text → after ≡ drop size text → InUtf8 text → InUtf8 after
utf8_after text front after size f a u =
    let split : text ≡ front ++ after = sym (take-append-drop size text) ∙ ap (λ t. t ++ drop size text) (sym f) ∙ ap (λ t. front ++ t) (sym a) in
    (u.0 ++ front, subst IsUtf8 (ap (λ t. u.0 ++ t) split ∙ sym (append_assoc u.0 front after)) u.1)

-- what comes of a text whose first piece is known
module _ (framed : Bool) (at : Place) (count : ℕ) (text : List ℕ) (size : ℕ) (shape : Shape) (h : IsPiece text size shape) where
  pub lexed_bad : (why : LexKind) → shape ≡ Bad why → LexedFrom framed at count text (Err (why, at))
  lexed_bad why s =
      let c = some_cut (length (drop size text)) (drop size text) (omega arith) in
      let both = cut_step text size (Bad why) (subst (IsPiece text size) s h) c.0 c.1 c.2 in
      record { pieces = piece (take size text) (Bad why) ∷ c.0; whole = both.0; longest = both.1; gives = refl }

  pub lexed_full : (kind : Kind) → shape ≡ Spelled kind → count ≡ 200000 → LexedFrom framed at count text (Err (TooManyTokens, at))
  lexed_full kind s e =
      let c = some_cut (length (drop size text)) (drop size text) (omega arith) in
      let both = cut_step text size (Spelled kind) (subst (IsPiece text size) s h) c.0 c.1 c.2 in
      record { pieces = piece (take size text) (Spelled kind) ∷ c.0; whole = both.0; longest = both.1; gives = rw e refl }

  module _ (front after : List ℕ) (next : Place) (f : front ≡ take size text) (a : after ≡ drop size text) (n : next ≡ place_behind at front) where
    next_is : next ≡ place_behind at (take size text)
    next_is = n ∙ ap (place_behind at) f

    carried : (m : ℕ) (o : Outcome) → LexedFrom framed next m after o → LexedFrom framed (place_behind at (take size text)) m (drop size text) o
    carried m o k = subst (λ t. LexedFrom framed (place_behind at (take size text)) m t o) a (subst (λ p. LexedFrom framed p m after o) next_is k)

    pub lexed_last : (kind : Kind) → shape ≡ Spelled kind → count ≢ 200000 → (framed && is_equals kind) ≡ true → LexedFrom framed at count text (Ok (token_at kind at ∷ token_at End next ∷ []))
    lexed_last kind s e l =
        let c = some_cut (length (drop size text)) (drop size text) (omega arith) in
        let both = cut_step text size (Spelled kind) (subst (IsPiece text size) s h) c.0 c.1 c.2 in
        record {
          pieces = piece (take size text) (Spelled kind) ∷ c.0;
          whole = both.0;
          longest = both.1;
          gives = ap (λ p. Ok (token_at kind at ∷ token_at End p ∷ [])) next_is ∙ sym (rest_of (eqb count 200000) _ _ (not_equal count 200000 e) ∙ first_of (framed && is_equals kind) _ _ l);
        }

    pub lexed_blank : shape ≡ Blank → (o : Outcome) → LexedFrom framed next count after o → LexedFrom framed at count text o
    lexed_blank s o k =
        let d = carried count o k in
        let both = cut_step text size Blank (subst (IsPiece text size) s h) d.pieces d.whole d.longest in
        record { pieces = piece (take size text) Blank ∷ d.pieces; whole = both.0; longest = both.1; gives = d.gives }

    pub lexed_token : (kind : Kind) → shape ≡ Spelled kind → count ≢ 200000 → (framed && is_equals kind) ≡ false → (found : Kind) → found ≡ kind_at framed count kind → (m : ℕ) → m ≡ count + 1 → (o : Outcome) → LexedFrom framed next m after o → LexedFrom framed at count text (with_front (token_at found at) o)
    lexed_token kind s e l found g m c o k =
        let d = carried (count + 1) o (subst (λ x. LexedFrom framed next x after o) c k) in
        let both = cut_step text size (Spelled kind) (subst (IsPiece text size) s h) d.pieces d.whole d.longest in
        record {
          pieces = piece (take size text) (Spelled kind) ∷ d.pieces;
          whole = both.0;
          longest = both.1;
          gives = ap (λ x. with_front (token_at x at) o) g ∙ ap (with_front (token_at (kind_at framed count kind) at)) d.gives ∙ sym (rest_of (eqb count 200000) _ _ (not_equal count 200000 e) ∙ rest_of (framed && is_equals kind) _ _ l);
        }

-- what is known of every outcome is known of the one that was answered
pub answers_by : (P Q : Outcome → Type 0) (r : Result (Vec Token Global) LexFault) → ((o : Outcome) → P o → Q o) → Answers P r → Answers Q r
answers_by P Q (Ok tokens) f h = f _ h
answers_by P Q (Err (Refused why at)) f h = f _ h
answers_by P Q (Err NoMemory) f h = tt

utf8_test_by : (bs : List ℕ) (b : Bool) → is_utf8 bs ≡ b → (IsUtf8 bs → ⊥) → b ≡ false
utf8_test_by bs true e h = absurd (h (IsUtf8-from_is_utf8 bs e))
utf8_test_by bs false e h = refl

match_true : (b : Bool) (P Q : Type 0) → b ≡ true → P → MatchBool b P Q
match_true true P Q e h = h
match_true false P Q e h = cc

match_false : (b : Bool) (P Q : Type 0) → b ≡ false → Q → MatchBool b P Q
match_false true P Q e h = cc
match_false false P Q e h = h

pub tokens_utf8 : (framed : Bool) (file : ℕ) (text : List ℕ) (o : Outcome) → IsUtf8 text → LexedText framed file text o → Tokens framed file text o
tokens_utf8 framed file text o u h = match_true (is_utf8 text) _ _ (is_utf8-from_IsUtf8 text u) h

pub tokens_not_utf8 : (framed : Bool) (file : ℕ) (text front : List ℕ) (n : ℕ) (at : Place) → (IsUtf8 text → ⊥) → n ≡ utf8_valid_len text → front ≡ take n text → at ≡ place_behind (start_of file) front → Tokens framed file text (Err (NotUtf8, at))
tokens_not_utf8 framed file text front n at u v f e =
    match_false (is_utf8 text) _ _ (utf8_test_by text (is_utf8 text) refl u) (ap (λ p. Err (NotUtf8, p)) (e ∙ ap (place_behind (start_of file)) (f ∙ ap (λ m. take m text) v)))

match_some : (start : Option ℕ) (P : Type 0) (Q : ℕ → Type 0) (n : ℕ) → Some n ≡ start → Q n → MatchOption start P Q
match_some start P Q n e h = subst (λ o. MatchOption o P Q) e h

match_none : (start : Option ℕ) (P : Type 0) (Q : ℕ → Type 0) → None ≡ start → P → MatchOption start P Q
match_none start P Q e h = subst (λ o. MatchOption o P Q) e h

pub module_found : (file : ℕ) (text before after : List ℕ) (n : ℕ) (at : Place) (o : Outcome) → Some n ≡ module_start text → before ≡ take n text → after ≡ drop n text → at ≡ place_behind (start_of file) before → LexedFrom true at 0 after o → LexedText true file text o
module_found file text before after n at o s b a p h =
    let q : at ≡ place_behind (start_of file) (take n text) = p ∙ ap (place_behind (start_of file)) b in
    match_some (module_start text) _ _ n s (subst (λ t. LexedFrom true (place_behind (start_of file) (take n text)) 0 t o) a (subst (λ p. LexedFrom true p 0 after o) q h))

pub module_missing : (file : ℕ) (text : List ℕ) (at : Place) (o : Outcome) → None ≡ module_start text → at ≡ place_behind (start_of file) text → o ≡ Ok (token_at End at ∷ []) → LexedText true file text o
module_missing file text at o s p h = match_none (module_start text) _ _ s (h ∙ ap (λ p. Ok (token_at End p ∷ [])) p)

pub utf8_whole : (text : List ℕ) → IsUtf8 text → InUtf8 text
utf8_whole text u = ([], u)

pub utf8_split : (text before after : List ℕ) (n : ℕ) → before ≡ take n text → after ≡ drop n text → IsUtf8 text → InUtf8 after
utf8_split text before after n b a u = utf8_after text before after n b a (utf8_whole text u)
