-- Pieces that are one byte or a run, at the front of a text.
use Rattle.std.proofs.Common.{◌≡◌, ℕ, zero, suc, ◌+◌, ◌-◌, ◌*◌, ◌^◌, ◌<◌, ◌≤◌, Bool, true, false, ◌||◌, ◌&&◌, cond, eqb, List, [], ◌∷◌, ◌++◌, length, get_or, take, drop, Option, Some, None, refl, sym, ap, subst, ◌∙◌, arith, zero-add, length-append}
use Rattle.std.specs.List.{prefix_len}
use Rattle.std.proofs.lemmas.Bool.Decides.{nat_tests}
use Rattle.std.proofs.lemmas.List.{at_drop_more}
use Rattle.std.proofs.lemmas.List.Sums.{prefix_len-le-length}
use Rattle.std.proofs.lemmas.Str.{IsUtf8-from_ascii}
use Rattle.std.proofs.lemmas.Str.Ascii.{IsAscii-nil, IsAscii-cons}
use Rattle.std.specs.Str.{IsAscii, IsUtf8}
use Rattle.reading_tokens.specs.declared.token.Kind.TheVariants as kinds
use Rattle.reading_tokens.specs.declared.piece.LexKind.TheVariants.{NumberTooLarge}
use Rattle.reading_tokens.specs.declared.piece.Shape.{Shape}
use Rattle.reading_tokens.specs.declared.piece.Shape.TheVariants.{Blank, Spelled, Bad}
use Rattle.reading_tokens.specs.Spellings.{words, kind_in}
use Rattle.reading_tokens.specs.Shapes.{IsPiece, front_shape, shape_of, is_run, begins_letter, only_if, each, is_blank, is_digit, is_letter, is_word_start, is_word, is_dash, is_equal, number_from, number_shape, named_shape, word_shape, begins_fair, begins_four}

-- what a choice of choices is
pub first_of : {X : Type 0} (x : Bool) (a b : X) → x ≡ true → cond x a b ≡ a
first_of true a b e = refl
first_of false a b e = cc

pub rest_of : {X : Type 0} (x : Bool) (a b : X) → x ≡ false → cond x a b ≡ b
rest_of true a b e = cc
rest_of false a b e = refl

pub and_false : (x y : Bool) → x ≡ false → (x && y) ≡ false
and_false true y e = cc
and_false false y e = refl

pub and_first : (x y : Bool) → (x && y) ≡ true → x ≡ true
and_first true y e = refl
and_first false y e = cc

pub and_second : (x y : Bool) → (x && y) ≡ true → y ≡ true
and_second true y e = e
and_second false y e = cc

cond_first : (x y : Bool) → cond x y false ≡ true → x ≡ true
cond_first true y e = refl
cond_first false y e = cc

cond_second : (x y : Bool) → cond x y false ≡ true → y ≡ true
cond_second true y e = e
cond_second false y e = cc

pub or_true : (x y : Bool) → x ≡ true → (x || y) ≡ true
or_true true y e = refl
or_true false y e = cc

pub both_none : (x : Bool) (u : Option Shape) → u ≡ None → cond x u None ≡ None
both_none true u e = e
both_none false u e = refl

pub only_if_true : (b : Bool) (s : Shape) → b ≡ true → only_if b s ≡ Some s
only_if_true true s e = refl
only_if_true false s e = cc

pub only_if_false : (b : Bool) (s : Shape) → b ≡ false → only_if b s ≡ None
only_if_false true s e = cc
only_if_false false s e = refl

-- no front of the text is a backslash and letters
abbrev pub NoRun : List ℕ → Type 0
NoRun text = (n : ℕ) → is_run (take n text) ≡ false

pub no_run : (b : ℕ) (bs : List ℕ) → eqb b 92 ≡ false → NoRun (b ∷ bs)
no_run b bs e zero = refl
no_run b [] e (suc zero) = refl
no_run b [] e (suc (suc n)) = refl
no_run b (c ∷ cs) e (suc zero) = refl
no_run b (c ∷ cs) e (suc (suc n)) = and_false (eqb b 92) _ e

pub no_run_sign : (c : ℕ) (cs : List ℕ) → is_letter c ≡ false → NoRun (92 ∷ c ∷ cs)
no_run_sign c cs e zero = refl
no_run_sign c cs e (suc zero) = refl
no_run_sign c cs e (suc (suc n)) = rest_of (is_letter c) _ _ e

pub front_is : (text : List ℕ) (n : ℕ) → is_run (take n text) ≡ false → front_shape text n ≡ shape_of (take n text)
front_is text n e = rest_of (is_run (take n text) && begins_letter (drop n text)) _ _ (and_false (is_run (take n text)) _ e)

-- a piece of a text with no run of letters behind a backslash
pub made : (text : List ℕ) (size : ℕ) (shape : Shape) → 0 < size → size ≤ length text → NoRun text → shape_of (take size text) ≡ Some shape → ((more : ℕ) → size < more → more ≤ length text → shape_of (take more text) ≡ None) → IsPiece text size shape
made text size shape s w n e l = record {
  some = s;
  within = w;
  whole = front_is text size (n size) ∙ e;
  longest = λ more k m. front_is text more (n more) ∙ l more k m;
}

one_more : (n : ℕ) → 1 + n ≡ suc n
one_more n = omega arith

each_run_at : (p : ℕ → Bool) (b : Bool) (x : ℕ) (xs : List ℕ) → p x ≡ b → each p (take (prefix_len p xs) xs) ≡ true → each p (take (cond b (1 + prefix_len p xs) 0) (x ∷ xs)) ≡ true
each_run_at p true x xs e h = rw (one_more (prefix_len p xs)) (rw e h)
each_run_at p false x xs e h = refl

-- a run passes
pub each_run : (p : ℕ → Bool) (xs : List ℕ) → each p (take (prefix_len p xs) xs) ≡ true
each_run p [] = refl
each_run p (x ∷ xs) = each_run_at p (p x) x xs refl (each_run p xs)

each_over_at : (p : ℕ → Bool) (b : Bool) (x : ℕ) (xs : List ℕ) (m : ℕ) → p x ≡ b → (prefix_len p xs < m → each p (take m xs) ≡ false) → cond b (1 + prefix_len p xs) 0 < suc m → cond b (each p (take m xs)) false ≡ false
each_over_at p true x xs m e f h = f (omega arith)
each_over_at p false x xs m e f h = refl

-- more than a run doesn't
pub each_over : (p : ℕ → Bool) (xs : List ℕ) (m : ℕ) → prefix_len p xs < m → m ≤ length xs → each p (take m xs) ≡ false
each_over p [] m h k = absurd (omega arith)
each_over p (x ∷ xs) zero h k = absurd (omega arith)
each_over p (x ∷ xs) (suc m) h k = each_over_at p (p x) x xs m refl (λ l. each_over p xs m l (omega arith)) h

suc_add : (m n : ℕ) → suc m + n ≡ suc (m + n)
suc_add m n = omega arith

take_behind : (front xs : List ℕ) (m : ℕ) → take (length front + m) (front ++ xs) ≡ front ++ take m xs
take_behind [] xs m = rw (zero-add m) refl
take_behind (y ∷ front) xs m = rw (suc_add (length front) m) (ap (λ t. y ∷ t) (take_behind front xs m))

-- a front that begins a run
pub run_piece : (p : ℕ → Bool) (f : List ℕ → Shape) (y : ℕ) (front xs : List ℕ) → NoRun (y ∷ front ++ xs) → ((ys : List ℕ) → shape_of (y ∷ front ++ ys) ≡ only_if (each p ys) (f (y ∷ front ++ ys))) → IsPiece (y ∷ front ++ xs) (length (y ∷ front) + prefix_len p xs) (f (y ∷ front ++ take (prefix_len p xs) xs))
run_piece p f y front xs n h =
    made (y ∷ front ++ xs) (length (y ∷ front) + prefix_len p xs) _ (omega arith) (omega (arith, prefix_len-le-length p xs, length-append (y ∷ front) xs)) n
    (ap shape_of (take_behind (y ∷ front) xs (prefix_len p xs)) ∙ h (take (prefix_len p xs) xs) ∙ only_if_true _ _ (each_run p xs))
    (λ more l k.
    let m = more - length (y ∷ front) in
    let e : more ≡ length (y ∷ front) + m = omega arith in
    let q : m ≤ length xs = omega (arith, length-append (y ∷ front) xs) in
    ap (λ n. shape_of (take n (y ∷ front ++ xs))) e ∙ ap shape_of (take_behind (y ∷ front) xs m) ∙ h (take m xs) ∙ only_if_false _ _ (each_over p xs m (omega arith) q))

prefix_more : (p : ℕ → Bool) (b : ℕ) (bs : List ℕ) → p b ≡ true → prefix_len p (b ∷ bs) ≡ 1 + prefix_len p bs
prefix_more p b bs e = first_of (p b) _ _ e

-- a run from the first byte on, as a piece of the text
from_first : (p : ℕ → Bool) (f : List ℕ → Shape) (b : ℕ) (bs : List ℕ) (size : ℕ) (shape : Shape) → eqb b 92 ≡ false → p b ≡ true → ((ys : List ℕ) → shape_of (b ∷ ys) ≡ only_if (each p ys) (f (b ∷ ys))) → size ≡ prefix_len p (b ∷ bs) → shape ≡ f (take size (b ∷ bs)) → IsPiece (b ∷ bs) size shape
from_first p f b bs size shape o e h n s =
    let k : size ≡ 1 + prefix_len p bs = n ∙ prefix_more p b bs e in
    let q : IsPiece (b ∷ bs) (1 + prefix_len p bs) (f (b ∷ take (prefix_len p bs) bs)) = run_piece p f b [] bs (no_run b bs o) h in
    let t : take size (b ∷ bs) ≡ b ∷ take (prefix_len p bs) bs = ap (λ m. take m (b ∷ bs)) (k ∙ one_more (prefix_len p bs)) in
    subst (λ m. IsPiece (b ∷ bs) m shape) (sym k) (subst (λ r. IsPiece (b ∷ bs) (1 + prefix_len p bs) r) (sym (s ∙ ap f t)) q)

-- which byte begins which class
blank_no_backslash : (b : ℕ) → is_blank b ≡ true → eqb b 92 ≡ false
blank_no_backslash b e = grind (arith, nat_tests)

digit_low : (b : ℕ) → is_digit b ≡ true → 48 ≤ b
digit_low b e = grind (arith, nat_tests)

digit_high : (b : ℕ) → is_digit b ≡ true → b < 58
digit_high b e = grind (arith, nat_tests)

letter_low : (b : ℕ) → is_letter b ≡ true → 65 ≤ b
letter_low b e = grind (arith, nat_tests)

pub letter_no_backslash : (b : ℕ) → is_letter b ≡ true → eqb b 92 ≡ false
letter_no_backslash b e = grind (arith, nat_tests)

word_low_at : (x y : Bool) (b : ℕ) → (x ≡ true → 65 ≤ b) → (y ≡ true → 65 ≤ b) → (x || y) ≡ true → 65 ≤ b
word_low_at true y b f g e = f refl
word_low_at false y b f g e = g e

under_low : (b : ℕ) → eqb b 95 ≡ true → 65 ≤ b
under_low b e = grind (arith, nat_tests)

word_low : (b : ℕ) → is_word_start b ≡ true → 65 ≤ b
word_low b e = word_low_at (is_letter b) (eqb b 95) b (letter_low b) (under_low b) e

under_no_backslash : (b : ℕ) → eqb b 95 ≡ true → eqb b 92 ≡ false
under_no_backslash b e = grind (arith, nat_tests)

start_no_backslash_at : (x y : Bool) (b : ℕ) → (x ≡ true → eqb b 92 ≡ false) → (y ≡ true → eqb b 92 ≡ false) → (x || y) ≡ true → eqb b 92 ≡ false
start_no_backslash_at true y b f g e = f refl
start_no_backslash_at false y b f g e = g e

start_no_backslash : (b : ℕ) → is_word_start b ≡ true → eqb b 92 ≡ false
start_no_backslash b e = start_no_backslash_at (is_letter b) (eqb b 95) b (letter_no_backslash b) (under_no_backslash b) e

low_no_blank : (b : ℕ) → 48 ≤ b → is_blank b ≡ false
low_no_blank b h = grind (arith, nat_tests)

low_no_digit : (b : ℕ) → 65 ≤ b → is_digit b ≡ false
low_no_digit b h = grind (arith, nat_tests)

digit_no_backslash : (b : ℕ) → is_digit b ≡ true → eqb b 92 ≡ false
digit_no_backslash b e = let h = digit_high b e in grind (arith, nat_tests)

blank_longer : (b : ℕ) (bs : List ℕ) → is_blank b ≡ true → (more : ℕ) → 1 < more → more ≤ length (b ∷ bs) → shape_of (take more (b ∷ bs)) ≡ None
blank_longer b bs e zero h k = absurd (omega arith)
blank_longer b bs e (suc zero) h k = absurd (omega arith)
blank_longer b [] e (suc (suc n)) h k = absurd (omega arith)
blank_longer b (c ∷ cs) e (suc (suc n)) h k = first_of (is_blank b) _ _ e

pub blank_piece : (text : List ℕ) → 0 < length text → is_blank (get_or text 0 0) ≡ true → IsPiece text 1 Blank
blank_piece [] h e = absurd (omega arith)
blank_piece (b ∷ bs) h e =
    made (b ∷ bs) 1 Blank (omega arith) (omega arith) (no_run b bs (blank_no_backslash b e)) (first_of (is_blank b) _ _ e) (blank_longer b bs e)

pub number_piece : (text : List ℕ) (size : ℕ) (shape : Shape) → 0 < length text → is_digit (get_or text 0 0) ≡ true → size ≡ prefix_len is_digit text → shape ≡ number_shape (take size text) → IsPiece text size shape
number_piece [] size shape h f n s = absurd (omega arith)
number_piece (b ∷ bs) size shape h f n s =
    from_first is_digit number_shape b bs size shape (digit_no_backslash b f) f (λ ys. rest_of (is_blank b) _ _ (low_no_blank b (digit_low b f)) ∙ first_of (is_digit b) _ _ f) n s

word_start : (b : ℕ) → is_word_start b ≡ true → is_word b ≡ true
word_start b e = or_true (is_word_start b) (is_digit b) e

word_is : (b : ℕ) (ys : List ℕ) → is_word_start b ≡ true → shape_of (b ∷ ys) ≡ cond (each is_word ys) (word_shape (b ∷ ys)) None
word_is b ys e =
    let low = word_low b e in
    rest_of (is_blank b) _ _ (low_no_blank b (omega arith)) ∙ rest_of (is_digit b) _ _ (low_no_digit b low) ∙ first_of (is_word_start b) _ _ e

begins_fair-take : (n : ℕ) (w : List ℕ) → begins_fair w ≡ false → begins_fair (take n w) ≡ false
begins_fair-take zero w e = refl
begins_fair-take (suc n) [] e = refl
begins_fair-take (suc zero) (a ∷ w) e = refl
begins_fair-take (suc (suc n)) (a ∷ []) e = refl
begins_fair-take (suc (suc zero)) (a ∷ b ∷ w) e = refl
begins_fair-take (suc (suc (suc n))) (a ∷ b ∷ []) e = refl
begins_fair-take (suc (suc (suc n))) (a ∷ b ∷ c ∷ w) e = e

word_longer : (b : ℕ) (bs : List ℕ) → is_word_start b ≡ true → (more : ℕ) → suc (prefix_len is_word bs) < more → more ≤ length (b ∷ bs) → shape_of (take more (b ∷ bs)) ≡ None
word_longer b bs e zero h k = absurd (omega arith)
word_longer b bs e (suc m) h k = word_is b (take m bs) e ∙ rest_of (each is_word (take m bs)) _ _ (each_over is_word bs m (omega arith) (omega arith))

pub word_piece : (text : List ℕ) (size : ℕ) (shape : Shape) → 0 < length text → is_word_start (get_or text 0 0) ≡ true → begins_fair text ≡ false → size ≡ prefix_len is_word text → shape ≡ named_shape (kind_in words (take size text)) (take size text) → IsPiece text size shape
word_piece [] size shape h e f n s = absurd (omega arith)
word_piece (b ∷ bs) size shape h e f n s =
    let k : size ≡ suc (prefix_len is_word bs) = n ∙ prefix_more is_word b bs (word_start b e) ∙ one_more _ in
    let front = b ∷ take (prefix_len is_word bs) bs in
    let q : IsPiece (b ∷ bs) (suc (prefix_len is_word bs)) (named_shape (kind_in words front) front) =
    made (b ∷ bs) (suc (prefix_len is_word bs)) _ (omega arith) (omega (arith, prefix_len-le-length is_word bs)) (no_run b bs (start_no_backslash b e))
    (word_is b _ e ∙ first_of (each is_word (take (prefix_len is_word bs) bs)) _ _ (each_run is_word bs) ∙ rest_of (begins_fair front) _ _ (begins_fair-take (suc (prefix_len is_word bs)) (b ∷ bs) f))
    (word_longer b bs e)
    in
    let t : take size (b ∷ bs) ≡ front = ap (λ m. take m (b ∷ bs)) k in
    subst (λ m. IsPiece (b ∷ bs) m shape) (sym k) (subst (λ r. IsPiece (b ∷ bs) (suc (prefix_len is_word bs)) r) (sym (s ∙ ap (λ w. named_shape (kind_in words w) w) t)) q)

is_eq : (a b : ℕ) → eqb a b ≡ true → a ≡ b
is_eq a b e = grind (arith, nat_tests)

fair_letters : (a b c : ℕ) (bs : List ℕ) → begins_fair (a ∷ b ∷ c ∷ bs) ≡ true → each is_word (b ∷ c ∷ []) ≡ true
fair_letters a b c bs e =
    let x = eqb a 87 || eqb a 83 in
    let l : (x && eqb b 70) ≡ true = and_first (x && eqb b 70) (eqb c 95) e in
    let f : b ≡ 70 = is_eq b 70 (and_second x (eqb b 70) l) in
    let u : c ≡ 95 = is_eq c 95 (and_second (x && eqb b 70) (eqb c 95) e) in
    rw f (rw u refl)

fair_long : (a b c d : ℕ) (ys : List ℕ) → begins_fair (a ∷ b ∷ c ∷ d ∷ ys) ≡ true → word_shape (a ∷ b ∷ c ∷ d ∷ ys) ≡ None
fair_long a b c d ys e =
    let n : eqb (length (a ∷ b ∷ c ∷ d ∷ ys)) 3 ≡ false = grind (arith, nat_tests) in
    first_of (begins_fair (a ∷ b ∷ c ∷ d ∷ ys)) _ _ e ∙ only_if_false _ _ n

fair_longer : (a b c : ℕ) (bs : List ℕ) → is_word_start a ≡ true → begins_fair (a ∷ b ∷ c ∷ bs) ≡ true → (more : ℕ) → 3 < more → more ≤ length (a ∷ b ∷ c ∷ bs) → shape_of (take more (a ∷ b ∷ c ∷ bs)) ≡ None
fair_longer a b c bs s e zero h k = absurd (omega arith)
fair_longer a b c bs s e (suc zero) h k = absurd (omega arith)
fair_longer a b c bs s e (suc (suc zero)) h k = absurd (omega arith)
fair_longer a b c bs s e (suc (suc (suc zero))) h k = absurd (omega arith)
fair_longer a b c [] s e (suc (suc (suc (suc n)))) h k = absurd (omega arith)
fair_longer a b c (d ∷ ds) s e (suc (suc (suc (suc n)))) h k =
    word_is a (b ∷ c ∷ d ∷ take n ds) s ∙ both_none _ _ (fair_long a b c d (take n ds) e)

pub fair_piece : (text : List ℕ) → is_word_start (get_or text 0 0) ≡ true → begins_fair text ≡ true → IsPiece text 3 (Spelled kinds.Fair)
fair_piece [] s e = cc
fair_piece (a ∷ []) s e = cc
fair_piece (a ∷ b ∷ []) s e = cc
fair_piece (a ∷ b ∷ c ∷ bs) s e =
    made (a ∷ b ∷ c ∷ bs) 3 (Spelled kinds.Fair) (omega arith) (omega arith) (no_run a _ (start_no_backslash a s))
    (word_is a (b ∷ c ∷ []) s ∙ first_of (each is_word (b ∷ c ∷ [])) _ _ (fair_letters a b c bs e) ∙ first_of (begins_fair (a ∷ b ∷ c ∷ [])) _ _ e)
    (fair_longer a b c bs s e)

-- four of one byte, and the run that they begin
four_same : (x a b c d : ℕ) (bs : List ℕ) → begins_four x (a ∷ b ∷ c ∷ d ∷ bs) ≡ true → (a ≡ x) × (b ≡ x) × (c ≡ x) × (d ≡ x)
four_same x a b c d bs e =
    let l = and_first _ _ e in
    let m = and_first _ _ l in
    (is_eq a x (and_first _ _ m), is_eq b x (and_second _ _ m), is_eq c x (and_second _ _ l), is_eq d x (and_second _ _ e))

four_more : (p : ℕ → Bool) (x : ℕ) (bs : List ℕ) → p x ≡ true → prefix_len p (x ∷ x ∷ x ∷ x ∷ bs) ≡ 4 + prefix_len p bs
four_more p x bs e =
    omega (arith, prefix_more p x (x ∷ x ∷ x ∷ bs) e, prefix_more p x (x ∷ x ∷ bs) e, prefix_more p x (x ∷ bs) e, prefix_more p x bs e)

four_run : (p : ℕ → Bool) (x a b c d : ℕ) (bs : List ℕ) (shape : Shape) → p x ≡ true → NoRun (x ∷ x ∷ x ∷ x ∷ bs) → ((ys : List ℕ) → shape_of (x ∷ x ∷ x ∷ x ∷ ys) ≡ only_if (each p ys) shape) → a ≡ x → b ≡ x → c ≡ x → d ≡ x → IsPiece (a ∷ b ∷ c ∷ d ∷ bs) (prefix_len p (a ∷ b ∷ c ∷ d ∷ bs)) shape
four_run p x a b c d bs shape e n h i j k l =
    let same : x ∷ x ∷ x ∷ x ∷ bs ≡ a ∷ b ∷ c ∷ d ∷ bs = cc in
    let q : IsPiece (x ∷ x ∷ x ∷ x ∷ bs) (4 + prefix_len p bs) shape = run_piece p (λ _. shape) x (x ∷ x ∷ x ∷ []) bs n h in
    let r : IsPiece (x ∷ x ∷ x ∷ x ∷ bs) (prefix_len p (x ∷ x ∷ x ∷ x ∷ bs)) shape = subst (λ m. IsPiece (x ∷ x ∷ x ∷ x ∷ bs) m shape) (sym (four_more p x bs e)) q in
    subst (λ t. IsPiece t (prefix_len p t) shape) same r

pub dashes_piece : (text : List ℕ) → begins_four 45 text ≡ true → IsPiece text (prefix_len is_dash text) (Spelled kinds.Dashes)
dashes_piece [] e = cc
dashes_piece (a ∷ []) e = cc
dashes_piece (a ∷ b ∷ []) e = cc
dashes_piece (a ∷ b ∷ c ∷ []) e = cc
dashes_piece (a ∷ b ∷ c ∷ d ∷ bs) e =
    let s = four_same 45 a b c d bs e in
    four_run is_dash 45 a b c d bs _ refl (no_run 45 _ refl) (λ ys. refl) s.0 s.1 s.2 s.3

pub equals_piece : (text : List ℕ) → begins_four 61 text ≡ true → IsPiece text (prefix_len is_equal text) (Spelled kinds.Equals)
equals_piece [] e = cc
equals_piece (a ∷ []) e = cc
equals_piece (a ∷ b ∷ []) e = cc
equals_piece (a ∷ b ∷ c ∷ []) e = cc
equals_piece (a ∷ b ∷ c ∷ d ∷ bs) e =
    let s = four_same 61 a b c d bs e in
    four_run is_equal 61 a b c d bs _ refl (no_run 61 _ refl) (λ ys. refl) s.0 s.1 s.2 s.3

-- the number that digits spell
number_grows : (n : ℕ) (bs : List ℕ) → n ≤ number_from n bs
number_grows n [] = omega arith
number_grows n (b ∷ bs) = omega (arith, number_grows (n * 10 + (b - 48)) bs)

each_at : (p : ℕ → Bool) (xs : List ℕ) (i : ℕ) → i < length xs → each p xs ≡ true → p (get_or xs i 0) ≡ true
each_at p [] i h e = absurd (omega arith)
each_at p (x ∷ xs) zero h e = cond_first (p x) (each p xs) e
each_at p (x ∷ xs) (suc i) h e = each_at p xs i (omega arith) (cond_second (p x) (each p xs) e)

pub digit_at : (xs : List ℕ) (i : ℕ) → i < length xs → each is_digit xs ≡ true → 48 ≤ get_or xs i 0
digit_at xs i h e = digit_low _ (each_at is_digit xs i h e)

-- digits whose front is too large already
pub number_large : (bs : List ℕ) (v i : ℕ) → i < length bs → number_from v (drop i bs) ≡ number_from 0 bs → 2 ^ 63 ≤ v * 10 + (get_or bs i 0 - 48) → Bad NumberTooLarge ≡ number_shape bs
number_large bs v i h e large =
    let f : number_from v (drop i bs) ≡ number_from (v * 10 + (get_or bs i 0 - 48)) (drop (i + 1) bs) = at_drop_more (number_from v) bs i 0 h in
    let g : 2 ^ 63 ≤ number_from 0 bs = omega (arith, number_grows (v * 10 + (get_or bs i 0 - 48)) (drop (i + 1) bs)) in
    grind (arith, nat_tests)

-- words are ASCII
letter_ascii : (b : ℕ) → is_letter b ≡ true → b < 128
letter_ascii b e = grind (arith, nat_tests)

under_ascii : (b : ℕ) → eqb b 95 ≡ true → b < 128
under_ascii b e = grind (arith, nat_tests)

either_ascii : (x y : Bool) (b : ℕ) → (x ≡ true → b < 128) → (y ≡ true → b < 128) → (x || y) ≡ true → b < 128
either_ascii true y b f g e = f refl
either_ascii false y b f g e = g e

word_ascii : (b : ℕ) → is_word b ≡ true → b < 128
word_ascii b e =
    either_ascii (is_word_start b) (is_digit b) b
    (either_ascii (is_letter b) (eqb b 95) b (letter_ascii b) (under_ascii b))
    (λ d. let h = digit_high b d in omega arith) e

words_ascii : (bs : List ℕ) → each is_word bs ≡ true → IsAscii bs
words_ascii [] e = IsAscii-nil
words_ascii (b ∷ bs) e = IsAscii-cons b bs (word_ascii b (cond_first (is_word b) (each is_word bs) e)) (words_ascii bs (cond_second (is_word b) (each is_word bs) e))

pub words_utf8 : (bs : List ℕ) → each is_word bs ≡ true → IsUtf8 bs
words_utf8 bs e = IsUtf8-from_ascii bs (words_ascii bs e)
