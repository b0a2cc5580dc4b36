-- The tokens that signs spell, at the front of a text.
use Rattle.std.proofs.Common.{◌≡◌, ◌≢◌, ℕ, zero, suc, ◌-◌, ◌<◌, ◌≤◌, ◌⊎◌, inl, inr, Bool, true, false, cond, eqb, List, [], ◌∷◌, length, get_or, take, Some, None, refl, sym, ap, ◌∙◌, arith, length-take}
use Rattle.std.specs.Prelude.{nat_eq, nat_le}
use Rattle.std.specs.Cmp.Lexicographic.{pointwise, same_text}
use Rattle.std.proofs.lemmas.Bool.Decides.{nat_tests}
use Rattle.reading_tokens.specs.declared.token.Kind.{Kind}
use Rattle.reading_tokens.specs.declared.piece.LexKind.TheVariants.{BadCharacter}
use Rattle.reading_tokens.specs.declared.piece.Shape.TheVariants.{Spelled, Bad}
use Rattle.reading_tokens.specs.Spellings.{Spelling, signs, kind_in}
use Rattle.reading_tokens.specs.Shapes.{IsPiece, shape_of, sign_shape, is_blank, is_digit, is_word_start, opens_comment, begins_four}
use Rattle.reading_lexer.specs.Lexer.{IsOther, IsPlain}
use Rattle.reading_lexer.proofs.Fronts.{made, no_run, rest_of}

-- no spelling of the table has more than four bytes
short : List Spelling → Bool
short [] = true
short (s ∷ ss) = cond (nat_le (length s.bytes) 4) (short ss) false

signs_short : short signs ≡ true
unfolding short signs
signs_short = refl

other_length : (xs ys : List ℕ) (b : Bool) → b ≡ pointwise nat_eq xs ys → length xs ≢ length ys → b ≡ false
other_length xs ys true e h = absurd (h (ap length (same_text xs ys e)))
other_length xs ys false e h = refl

too_long_at : (s : Spelling) (ss : List Spelling) (bytes : List ℕ) (b : Bool) → nat_le (length s.bytes) 4 ≡ b → cond b (short ss) false ≡ true → (short ss ≡ true → kind_in ss bytes ≡ None) → 4 < length bytes → kind_in (s ∷ ss) bytes ≡ None
unfolding kind_in
too_long_at s ss bytes true e f g h =
    let n : length s.bytes ≤ 4 = grind (arith, nat_tests) in
    rest_of (pointwise nat_eq s.bytes bytes) _ _ (other_length s.bytes bytes _ refl (λ q. omega arith)) ∙ g f
too_long_at s ss bytes false e f g h = cc

too_long : (table : List Spelling) (bytes : List ℕ) → short table ≡ true → 4 < length bytes → kind_in table bytes ≡ None
unfolding kind_in short
too_long [] bytes e h = refl
too_long (s ∷ ss) bytes e h = too_long_at s ss bytes (nat_le (length s.bytes) 4) refl e (λ f. too_long ss bytes f h) h

-- no front of the text that is longer is spelled by signs
abbrev pub SignsAbove : List ℕ → ℕ → Type 0
SignsAbove text size = (more : ℕ) → size < more → more ≤ length text → kind_in signs (take more text) ≡ None

pub above_start : (text : List ℕ) (size : ℕ) → ((more : ℕ) → size < more → more ≤ length text → 4 < more) → SignsAbove text size
above_start text size h = λ more k w. too_long signs (take more text) signs_short (omega (arith, length-take more text, h more k w))

eq_or_above : (n m : ℕ) → n - 1 < m → (m ≡ n) ⊎ (n < m)
eq_or_above n m h = grind arith

pub above_down : (text : List ℕ) (size : ℕ) → SignsAbove text size → None ≡ kind_in signs (take size text) → SignsAbove text (size - 1)
above_down text size h e = λ more k w.
    elim (eq_or_above size more k) [ inl q ↦ ap (λ n. kind_in signs (take n text)) q ∙ sym e | inr q ↦ h more q w ]

not_equal : (a b : ℕ) → a ≢ b → eqb a b ≡ false
not_equal a b h = grind (arith, nat_tests)

sign_is : (b : ℕ) (ys : List ℕ) → IsOther (b ∷ ys) → IsPlain (b ∷ ys) → shape_of (b ∷ ys) ≡ sign_shape (kind_in signs (b ∷ ys)) ys
sign_is b ys o p =
    rest_of (is_blank b) _ _ o.0 ∙ rest_of (is_digit b) _ _ o.1 ∙ rest_of (is_word_start b) _ _ o.2 ∙ rest_of (eqb b 34) _ _ (not_equal b 34 o.3) ∙ rest_of (eqb b 92) _ _ (not_equal b 92 o.4)
    ∙ rest_of (opens_comment (b ∷ ys)) _ _ p.comment ∙ rest_of (begins_four 45 (b ∷ ys)) _ _ p.dashes ∙ rest_of (begins_four 61 (b ∷ ys)) _ _ p.equals

opens_comment-take : (n : ℕ) (w : List ℕ) → opens_comment w ≡ false → opens_comment (take n w) ≡ false
opens_comment-take zero w e = refl
opens_comment-take (suc n) [] e = refl
opens_comment-take (suc zero) (a ∷ w) e = refl
opens_comment-take (suc (suc n)) (a ∷ []) e = refl
opens_comment-take (suc (suc n)) (a ∷ b ∷ w) e = e

begins_four-take : (x n : ℕ) (w : List ℕ) → begins_four x w ≡ false → begins_four x (take n w) ≡ false
begins_four-take x zero w e = refl
begins_four-take x (suc n) [] e = refl
begins_four-take x (suc zero) (a ∷ w) e = refl
begins_four-take x (suc (suc n)) (a ∷ []) e = refl
begins_four-take x (suc (suc zero)) (a ∷ b ∷ w) e = refl
begins_four-take x (suc (suc (suc n))) (a ∷ b ∷ []) e = refl
begins_four-take x (suc (suc (suc zero))) (a ∷ b ∷ c ∷ w) e = refl
begins_four-take x (suc (suc (suc (suc n)))) (a ∷ b ∷ c ∷ []) e = refl
begins_four-take x (suc (suc (suc (suc n)))) (a ∷ b ∷ c ∷ d ∷ w) e = e

plain_front : (n : ℕ) (w : List ℕ) → IsPlain w → IsPlain (take n w)
plain_front n w p = record { comment = opens_comment-take n w p.comment; dashes = begins_four-take 45 n w p.dashes; equals = begins_four-take 61 n w p.equals }

sign_none : (ys : List ℕ) → 0 < length ys → sign_shape None ys ≡ None
sign_none [] h = absurd (omega arith)
sign_none (y ∷ ys) h = refl

sign_longer : (b : ℕ) (bs : List ℕ) (size : ℕ) → IsOther (b ∷ bs) → IsPlain (b ∷ bs) → SignsAbove (b ∷ bs) size → 1 ≤ size → (more : ℕ) → size < more → more ≤ length (b ∷ bs) → shape_of (take more (b ∷ bs)) ≡ None
sign_longer b bs size o p h s zero k w = absurd (omega arith)
sign_longer b bs size o p h s (suc m) k w =
    sign_is b (take m bs) o (plain_front (suc m) (b ∷ bs) p) ∙ ap (λ r. sign_shape r (take m bs)) (h (suc m) k w) ∙ sign_none (take m bs) (omega (arith, length-take m bs))

sign_whole : (b : ℕ) (bs : List ℕ) (size : ℕ) (kind : Kind) → IsOther (b ∷ bs) → IsPlain (b ∷ bs) → 1 ≤ size → Some kind ≡ kind_in signs (take size (b ∷ bs)) → shape_of (take size (b ∷ bs)) ≡ Some (Spelled kind)
sign_whole b bs zero kind o p s e = absurd (omega arith)
sign_whole b bs (suc m) kind o p s e = sign_is b (take m bs) o (plain_front (suc m) (b ∷ bs) p) ∙ ap (λ r. sign_shape r (take m bs)) (sym e)

pub sign_piece : (text : List ℕ) (size : ℕ) (kind : Kind) → 0 < length text → IsOther text → IsPlain text → 1 ≤ size → size ≤ length text → SignsAbove text size → Some kind ≡ kind_in signs (take size text) → IsPiece text size (Spelled kind)
sign_piece [] size kind l o p s w h e = absurd (omega arith)
sign_piece (b ∷ bs) size kind l o p s w h e =
    made (b ∷ bs) size _ (omega arith) w (no_run b bs (not_equal b 92 o.4)) (sign_whole b bs size kind o p s e) (sign_longer b bs size o p h s)

pub no_sign_piece : (text : List ℕ) → 0 < length text → IsOther text → IsPlain text → SignsAbove text 1 → None ≡ kind_in signs (take 1 text) → IsPiece text 1 (Bad BadCharacter)
no_sign_piece [] l o p h e = absurd (omega arith)
no_sign_piece (b ∷ bs) l o p h e =
    made (b ∷ bs) 1 _ (omega arith) (omega arith) (no_run b bs (not_equal b 92 o.4))
    (sign_is b [] o (plain_front 1 (b ∷ bs) p) ∙ ap (λ r. sign_shape r []) (sym e))
    (sign_longer b bs 1 o p h (omega arith))

pub is_other : (text : List ℕ) → 0 < length text → is_blank (get_or text 0 0) ≡ false → is_digit (get_or text 0 0) ≡ false → is_word_start (get_or text 0 0) ≡ false → get_or text 0 0 ≢ 34 → get_or text 0 0 ≢ 92 → IsOther text
is_other [] l e f g h k = tt
is_other (b ∷ bs) l e f g h k = (e, f, g, h, k)
