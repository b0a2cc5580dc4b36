-- A text is cut into pieces in one way.
use Rattle.std.proofs.Common.{◌≡◌, ℕ, zero, suc, ◌<◌, ◌≤◌, ◌⊎◌, inl, inr, Bool, true, false, List, [], ◌∷◌, ◌++◌, length, take, drop, Option, Some, None, Ok, refl, sym, ap, subst, ◌∙◌, cond, eqb, arith, length-append, length-take, length-drop}
use Rattle.std.proofs.lemmas.List.{take_at, drop_at, take-append-drop}
use Rattle.std.specs.Prelude.{MatchBool, MatchOption}
use Rattle.std.specs.Str.{is_utf8}
use Rattle.base_core.specs.declared.place.Place.{Place}
use Rattle.reading_tokens.specs.declared.token.Kind.{Kind}
use Rattle.reading_tokens.specs.declared.token.Kind.TheVariants.{End}
use Rattle.reading_tokens.specs.declared.piece.Shape.{Shape}
use Rattle.reading_tokens.specs.Spellings.{signs, kind_in}
use Rattle.reading_tokens.specs.Shapes.{IsPiece, front_shape, shape_of, sign_shape, after_quote, is_blank, is_digit, is_word_start}
use Rattle.reading_tokens.specs.Tokens.{Piece, text_of, ArePieces, Outcome, outcome_of, LexedFrom, LexedText, Tokens, place_behind, start_of, token_at, module_start}

-- two pieces at the front of one text are one
no_longer : (text : List ℕ) (m n : ℕ) (a b : Shape) → IsPiece text m a → IsPiece text n b → m < n → ⊥
no_longer text m n a b p q h = let e : Some b ≡ None = sym q.whole ∙ p.longest n h q.within in cc

eq_or_above : (n m : ℕ) → n < m → (m ≡ suc n) ⊎ (suc n < m)
eq_or_above n m h = grind arith

size_from : {m n : ℕ} → (m < n → ⊥) → (n < m → ⊥) → m ≡ n
size_from f g = omega (arith, f, g)

same_size : (text : List ℕ) (m n : ℕ) (a b : Shape) → IsPiece text m a → IsPiece text n b → m ≡ n
same_size text m n a b p q = size_from (λ h. no_longer text m n a b p q h) (λ h. no_longer text n m b a q p h)

same_shape : (text : List ℕ) (m n : ℕ) (a b : Shape) → IsPiece text m a → IsPiece text n b → a ≡ b
same_shape text m n a b p q =
    let e = same_size text m n a b p q in
    let s : Some a ≡ Some b = sym p.whole ∙ ap (front_shape text) e ∙ q.whole in cc

abbrev pub piece : List ℕ → Shape → Piece
piece b s = record { bytes = b; shape = s }

cons_same : (p q : Piece) (ps qs : List Piece) → p.bytes ≡ q.bytes → p.shape ≡ q.shape → ps ≡ qs → p ∷ ps ≡ q ∷ qs
cons_same p q ps qs b s r = ap (λ t. piece t p.shape ∷ ps) b ∙ ap (λ t. piece q.bytes t ∷ ps) s ∙ ap (λ t. q ∷ t) r

-- two cuts of one text are one
pub one_cut : (ps qs : List Piece) → text_of ps ≡ text_of qs → ArePieces ps → ArePieces qs → ps ≡ qs
one_cut [] [] e h k = refl
one_cut [] (q ∷ qs) e h k = absurd (omega (arith, ap length e, length-append q.bytes (text_of qs), k.0.some))
one_cut (p ∷ ps) [] e h k = absurd (omega (arith, ap length e, length-append p.bytes (text_of ps), h.0.some))
one_cut (p ∷ ps) (q ∷ qs) e h k =
    let text = p.bytes ++ text_of ps in
    let kq : IsPiece text (length q.bytes) q.shape = subst (λ t. IsPiece t (length q.bytes) q.shape) (sym e) k.0 in
    let n = same_size text (length p.bytes) (length q.bytes) p.shape q.shape h.0 kq in
    let s = same_shape text (length p.bytes) (length q.bytes) p.shape q.shape h.0 kq in
    let b : p.bytes ≡ q.bytes =
    sym (take_at p.bytes (text_of ps) (length p.bytes) refl) ∙ ap (take (length p.bytes)) e ∙ take_at q.bytes (text_of qs) (length p.bytes) (sym n)
    in
    let r : text_of ps ≡ text_of qs =
    sym (drop_at p.bytes (text_of ps) (length p.bytes) refl) ∙ ap (drop (length p.bytes)) e ∙ drop_at q.bytes (text_of qs) (length p.bytes) (sym n)
    in
    let rest = one_cut ps qs r h.1 k.1 in
    cons_same p q ps qs b s rest

one_lexed : (framed : Bool) (at : Place) (text : List ℕ) (a b : Outcome) → LexedFrom framed at 0 text a → LexedFrom framed at 0 text b → a ≡ b
one_lexed framed at text a b h k =
    let e = one_cut h.pieces k.pieces (sym h.whole ∙ k.whole) h.longest k.longest in
    h.gives ∙ ap (λ ps. outcome_of framed ps at 0) e ∙ sym k.gives

one_module : (start : Option ℕ) (end : Place) (from : ℕ → Place) (text : List ℕ) (a b : Outcome) → MatchOption start (a ≡ Ok (token_at End end ∷ [])) (λ n. LexedFrom true (from n) 0 (drop n text) a) → MatchOption start (b ≡ Ok (token_at End end ∷ [])) (λ n. LexedFrom true (from n) 0 (drop n text) b) → a ≡ b
one_module None end from text a b h k = h ∙ sym k
one_module (Some n) end from text a b h k = one_lexed true (from n) (drop n text) a b h k

one_text : (framed : Bool) (file : ℕ) (text : List ℕ) (a b : Outcome) → LexedText framed file text a → LexedText framed file text b → a ≡ b
one_text true file text a b h k = one_module (module_start text) _ (λ n. place_behind (start_of file) (take n text)) text a b h k
one_text false file text a b h k = one_lexed false _ text a b h k

one_of : (b : Bool) (P Q : Outcome → Type 0) → ((x y : Outcome) → P x → P y → x ≡ y) → ((x y : Outcome) → Q x → Q y → x ≡ y) → (x y : Outcome) → MatchBool b (P x) (Q x) → MatchBool b (P y) (Q y) → x ≡ y
one_of true P Q f g x y h k = f x y h k
one_of false P Q f g x y h k = g x y h k

pub one_outcome : (framed : Bool) (file : ℕ) (text : List ℕ) (a b : Outcome) → Tokens framed file text a → Tokens framed file text b → a ≡ b
one_outcome framed file text a b h k =
    one_of (is_utf8 text) (LexedText framed file text) (λ o. o ≡ _) (one_text framed file text) (λ x y p q. p ∙ sym q) a b h k

abbrev HasShape : Option Shape → Type 0
HasShape r = (s : Shape) × (r ≡ Some s)

either_shape : (b : Bool) (u v : Option Shape) → HasShape u → HasShape v → HasShape (cond b u v)
either_shape true u v h k = h
either_shape false u v h k = k

single_sign : (s : Option Kind) → HasShape (sign_shape s [])
single_sign None = (_, refl)
single_sign (Some s) = (_, refl)

-- each byte is something
single_shape : (b : ℕ) → HasShape (shape_of (b ∷ []))
unfolding after_quote
single_shape b =
    either_shape (is_blank b) _ _ (_, refl)
    (either_shape (is_digit b) _ _ (_, refl)
    (either_shape (is_word_start b) _ _ (_, refl)
    (either_shape (eqb b 34) _ _ (_, refl)
    (either_shape (eqb b 92) _ _ (_, refl)
    (single_sign (kind_in signs (b ∷ [])))))))

abbrev HasPiece : List ℕ → Type 0
HasPiece text = (size : ℕ) × (shape : Shape) × IsPiece text size shape

abbrev NoneAbove : List ℕ → ℕ → Type 0
NoneAbove text n = (more : ℕ) → n < more → more ≤ length text → front_shape text more ≡ None

NoneAbove-down : (text : List ℕ) (n : ℕ) → NoneAbove text (suc n) → front_shape text (suc n) ≡ None → NoneAbove text n
NoneAbove-down text n above e more h k =
    elim (eq_or_above n more h) [ inl q ↦ ap (front_shape text) q ∙ e | inr q ↦ above more q k ]

at_size : (b : ℕ) (bs : List ℕ) (n : ℕ) → suc n ≤ length (b ∷ bs) → NoneAbove (b ∷ bs) (suc n) → (r : Option Shape) → front_shape (b ∷ bs) (suc n) ≡ r → (front_shape (b ∷ bs) (suc n) ≡ None → HasPiece (b ∷ bs)) → HasPiece (b ∷ bs)
at_size b bs n within above (Some s) e next = (suc n, s, record { some = omega arith; within = within; whole = e; longest = above })
at_size b bs n within above None e next = next e

-- the longest piece, from n bytes down
longest_below : (b : ℕ) (bs : List ℕ) (n : ℕ) → suc n ≤ length (b ∷ bs) → NoneAbove (b ∷ bs) (suc n) → HasPiece (b ∷ bs)
longest_below b bs zero within above =
    at_size b bs zero within above (front_shape (b ∷ bs) 1) refl
    (λ e. let h = single_shape b in absurd (let q : Some h.0 ≡ None = sym h.1 ∙ e in cc))
longest_below b bs (suc n) within above =
    at_size b bs (suc n) within above (front_shape (b ∷ bs) (suc (suc n))) refl
    (λ e. longest_below b bs n (omega arith) (NoneAbove-down (b ∷ bs) (suc n) above e))

some_piece : (b : ℕ) (bs : List ℕ) → HasPiece (b ∷ bs)
some_piece b bs = longest_below b bs (length bs) (omega arith) (λ more h k. absurd (omega arith))

-- a piece before the pieces of the rest
pub cut_step : (text : List ℕ) (size : ℕ) (shape : Shape) → IsPiece text size shape → (ps : List Piece) → drop size text ≡ text_of ps → ArePieces ps → (text ≡ text_of (piece (take size text) shape ∷ ps)) × ArePieces (piece (take size text) shape ∷ ps)
cut_step text size shape h ps e k =
    let whole : text ≡ take size text ++ text_of ps = sym (take-append-drop size text) ∙ ap (λ t. take size text ++ t) e in
    let n : size ≡ length (take size text) = omega (arith, length-take size text, h.within) in
    (whole, (subst (λ t. IsPiece t (length (take size text)) shape) whole (subst (λ m. IsPiece text m shape) n h), k))

pub some_cut : (n : ℕ) (text : List ℕ) → length text ≤ n → (ps : List Piece) × (text ≡ text_of ps) × ArePieces ps
some_cut n [] h = ([], refl, tt)
some_cut zero (b ∷ bs) h = absurd (omega arith)
some_cut (suc n) (b ∷ bs) h =
    let p = some_piece b bs in
    let fewer : length (drop p.0 (b ∷ bs)) ≤ n = omega (arith, length-drop p.0 (b ∷ bs), p.2.some) in
    let rest = some_cut n (drop p.0 (b ∷ bs)) fewer in
    let both = cut_step (b ∷ bs) p.0 p.1 p.2 rest.0 rest.1 rest.2 in
    (piece (take p.0 (b ∷ bs)) p.1 ∷ rest.0, both.0, both.1)

some_lexed : (framed : Bool) (at : Place) (text : List ℕ) → (a : Outcome) × LexedFrom framed at 0 text a
some_lexed framed at text =
    let c = some_cut (length text) text (omega arith) in
    (outcome_of framed c.0 at 0, record { pieces = c.0; whole = c.1; longest = c.2; gives = refl })

some_module : (start : Option ℕ) (end : Place) (from : ℕ → Place) (text : List ℕ) → (a : Outcome) × MatchOption start (a ≡ Ok (token_at End end ∷ [])) (λ n. LexedFrom true (from n) 0 (drop n text) a)
some_module None end from text = (_, refl)
some_module (Some n) end from text = some_lexed true (from n) (drop n text)

some_text : (framed : Bool) (file : ℕ) (text : List ℕ) → (a : Outcome) × LexedText framed file text a
some_text true file text = some_module (module_start text) _ (λ n. place_behind (start_of file) (take n text)) text
some_text false file text = some_lexed false _ text

some_of : (b : Bool) (P Q : Outcome → Type 0) → (x : Outcome) × P x → (x : Outcome) × Q x → (x : Outcome) × MatchBool b (P x) (Q x)
some_of true P Q h k = h
some_of false P Q h k = k

pub some_outcome : (framed : Bool) (file : ℕ) (text : List ℕ) → (a : Outcome) × Tokens framed file text a
some_outcome framed file text =
    some_of (is_utf8 text) (LexedText framed file text) (λ o. o ≡ _) (some_text framed file text) (_, refl)
