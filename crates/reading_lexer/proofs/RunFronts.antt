-- What a backslash begins, at the front of a text.
use Rattle.std.proofs.Common.{◌≡◌, ◌≢◌, ℕ, zero, suc, ◌+◌, ◌<◌, ◌≤◌, ◌⊎◌, inl, inr, Bool, true, false, ◌&&◌, cond, eqb, List, [], ◌∷◌, length, get_or, take, drop, Option, Some, None, refl, sym, ap, subst, ◌∙◌, arith}
use Rattle.std.specs.List.{prefix_len}
use Rattle.std.proofs.lemmas.Bool.Decides.{nat_tests}
use Rattle.std.proofs.lemmas.List.Sums.{prefix_len-le-length}
use Rattle.reading_tokens.specs.declared.token.Kind.{Kind}
use Rattle.reading_tokens.specs.declared.token.Kind.TheVariants as kinds
use Rattle.reading_tokens.specs.declared.token.Symbol.TheVariants as symbol
use Rattle.reading_tokens.specs.declared.piece.LexKind.TheVariants.{BadCharacter}
use Rattle.reading_tokens.specs.declared.piece.Shape.{Shape}
use Rattle.reading_tokens.specs.declared.piece.Shape.TheVariants.{Blank, Spelled, Bad}
use Rattle.reading_tokens.specs.Spellings.{runs, kind_in}
use Rattle.reading_tokens.specs.Shapes.{IsPiece, front_shape, shape_of, run_shape, is_run, begins_letter, is_one_digit, each, is_digit, is_letter, is_base, in_line}
use Rattle.reading_lexer.specs.Lexer.{begins_base}
use Rattle.reading_lexer.proofs.Fronts.{NoRun, made, no_run_sign, run_piece, front_is, first_of, rest_of, and_false, and_second, each_run, each_over}

abbrev alone : Shape
alone = Spelled (kinds.Symbol symbol.Difference)

not_equal : (a b : ℕ) → a ≢ b → eqb a b ≡ false
not_equal a b h = grind (arith, nat_tests)

letter_no_star : (c : ℕ) → is_letter c ≡ true → eqb c 42 ≡ false
letter_no_star c e = grind (arith, nat_tests)

letter_no_slash : (c : ℕ) → is_letter c ≡ true → eqb c 47 ≡ false
letter_no_slash c e = grind (arith, nat_tests)

base_letter : (c : ℕ) → is_base c ≡ true → is_letter c ≡ true
base_letter c e = grind (arith, nat_tests)

letter_no_digit : (c : ℕ) → is_letter c ≡ true → is_digit c ≡ false
letter_no_digit c e = grind (arith, nat_tests)

no_base_by : (c : ℕ) (b : Bool) → is_base c ≡ b → is_letter c ≡ false → b ≡ false
no_base_by c true e f = let g = base_letter c e in cc
no_base_by c false e f = refl

no_base : (c : ℕ) → is_letter c ≡ false → is_base c ≡ false
no_base c f = no_base_by c (is_base c) refl f

run_none : (b : Bool) (o : Option Kind) → b ≡ false → run_shape b o ≡ None
run_none true o e = cc
run_none false o e = refl

-- a backslash and something that is no letter
sign_none : (c : ℕ) (ys : List ℕ) → c ≢ 42 → c ≢ 47 → is_letter c ≡ false → shape_of (92 ∷ c ∷ ys) ≡ None
sign_none c ys e f g =
    rest_of (eqb c 42) _ _ (not_equal c 42 e) ∙ rest_of (eqb c 47) _ _ (not_equal c 47 f) ∙ rest_of (is_base c && is_one_digit ys) _ _ (and_false _ _ (no_base c g))
    ∙ run_none _ _ (rest_of (is_letter c) _ _ g)

alone_longer : (c : ℕ) (cs : List ℕ) → c ≢ 42 → c ≢ 47 → is_letter c ≡ false → (more : ℕ) → 1 < more → more ≤ length (92 ∷ c ∷ cs) → shape_of (take more (92 ∷ c ∷ cs)) ≡ None
alone_longer c cs e f g zero k w = absurd (omega arith)
alone_longer c cs e f g (suc zero) k w = absurd (omega arith)
alone_longer c cs e f g (suc (suc n)) k w = sign_none c (take n cs) e f g

with_first : (b : ℕ) (bs : List ℕ) (size : ℕ) (shape : Shape) → b ≡ 92 → IsPiece (92 ∷ bs) size shape → IsPiece (b ∷ bs) size shape
with_first b bs size shape e p = subst (λ x. IsPiece (x ∷ bs) size shape) (sym e) p

lone_run : NoRun (92 ∷ [])
lone_run zero = refl
lone_run (suc zero) = refl
lone_run (suc (suc n)) = refl

pub lone_piece : (text : List ℕ) → 0 < length text → get_or text 0 0 ≡ 92 → length text < 2 → IsPiece text 1 (Spelled (kinds.Symbol symbol.Difference))
lone_piece [] l e h = absurd (omega arith)
lone_piece (b ∷ []) l e h = with_first b [] 1 _ e (made (92 ∷ []) 1 _ (omega arith) (omega arith) lone_run refl (λ more k w. absurd (omega arith)))
lone_piece (b ∷ c ∷ bs) l e h = absurd (omega arith)

pub alone_piece : (text : List ℕ) → 2 ≤ length text → get_or text 0 0 ≡ 92 → get_or text 1 0 ≢ 42 → get_or text 1 0 ≢ 47 → is_letter (get_or text 1 0) ≡ false → IsPiece text 1 (Spelled (kinds.Symbol symbol.Difference))
alone_piece [] l e f g h = absurd (omega arith)
alone_piece (b ∷ []) l e f g h = absurd (omega arith)
alone_piece (b ∷ c ∷ bs) l e f g h =
    with_first b (c ∷ bs) 1 _ e (made (92 ∷ c ∷ bs) 1 _ (omega arith) (omega arith) (no_run_sign c bs h) refl (alone_longer c bs f g h))

pub line_piece : (text rest : List ℕ) (size : ℕ) → 2 ≤ length text → rest ≡ drop 2 text → get_or text 0 0 ≡ 92 → get_or text 1 0 ≡ 42 → size ≡ prefix_len in_line rest → IsPiece text (size + 2) Blank
line_piece [] rest size l r e f n = absurd (omega arith)
line_piece (b ∷ []) rest size l r e f n = absurd (omega arith)
line_piece (b ∷ c ∷ bs) rest size l r e f n =
    let q : IsPiece (92 ∷ 42 ∷ bs) (2 + prefix_len in_line bs) Blank = run_piece in_line (λ _. Blank) 92 (42 ∷ []) bs (no_run_sign 42 bs refl) (λ ys. refl) in
    let k : 2 + prefix_len in_line bs ≡ size + 2 = omega (arith, ap (prefix_len in_line) r) in
    let t : 42 ∷ bs ≡ c ∷ bs = ap (λ x. x ∷ bs) (sym f) in
    with_first b (c ∷ bs) (size + 2) _ e (subst (λ x. IsPiece (92 ∷ x) (size + 2) Blank) t (subst (λ m. IsPiece (92 ∷ 42 ∷ bs) m Blank) k q))

or_longer : (bs : List ℕ) (more : ℕ) → 2 < more → more ≤ length (92 ∷ 47 ∷ bs) → shape_of (take more (92 ∷ 47 ∷ bs)) ≡ None
or_longer bs zero k w = absurd (omega arith)
or_longer bs (suc zero) k w = absurd (omega arith)
or_longer bs (suc (suc zero)) k w = absurd (omega arith)
or_longer [] (suc (suc (suc n))) k w = absurd (omega arith)
or_longer (d ∷ bs) (suc (suc (suc n))) k w = refl

pub or_piece : (text : List ℕ) → 2 ≤ length text → get_or text 0 0 ≡ 92 → get_or text 1 0 ≡ 47 → IsPiece text 2 (Spelled (kinds.Symbol symbol.Or))
or_piece [] l e f = absurd (omega arith)
or_piece (b ∷ []) l e f = absurd (omega arith)
or_piece (b ∷ c ∷ bs) l e f =
    let q : IsPiece (92 ∷ 47 ∷ bs) 2 (Spelled (kinds.Symbol symbol.Or)) = made (92 ∷ 47 ∷ bs) 2 _ (omega arith) (omega arith) (no_run_sign 47 bs refl) refl (or_longer bs) in
    let t : 47 ∷ bs ≡ c ∷ bs = ap (λ x. x ∷ bs) (sym f) in
    with_first b (c ∷ bs) 2 _ e (subst (λ x. IsPiece (92 ∷ x) 2 (Spelled (kinds.Symbol symbol.Or))) t q)

-- a backslash, a letter and more
letter_is : (c : ℕ) (ys : List ℕ) → is_letter c ≡ true → (is_base c && is_one_digit ys) ≡ false → shape_of (92 ∷ c ∷ ys) ≡ run_shape (each is_letter (c ∷ ys)) (kind_in runs (c ∷ ys))
letter_is c ys e f = rest_of (eqb c 42) _ _ (letter_no_star c e) ∙ rest_of (eqb c 47) _ _ (letter_no_slash c e) ∙ rest_of (is_base c && is_one_digit ys) _ _ f

base_is : (c d : ℕ) → is_letter c ≡ true → (is_base c && is_digit d) ≡ true → shape_of (92 ∷ c ∷ d ∷ []) ≡ Some (Bad BadCharacter)
base_is c d e f = rest_of (eqb c 42) _ _ (letter_no_star c e) ∙ rest_of (eqb c 47) _ _ (letter_no_slash c e) ∙ first_of (is_base c && is_one_digit (d ∷ [])) _ _ f

digit_no_letter_by : (d : ℕ) (b : Bool) → is_letter d ≡ b → is_digit d ≡ true → b ≡ false
digit_no_letter_by d true e f = let g = letter_no_digit d e in cc
digit_no_letter_by d false e f = refl

digit_no_letter : (d : ℕ) → is_digit d ≡ true → is_letter d ≡ false
digit_no_letter d f = digit_no_letter_by d (is_letter d) refl f

digit_ends : (c d : ℕ) (ys : List ℕ) → is_digit d ≡ true → each is_letter (c ∷ d ∷ ys) ≡ false
digit_ends c d ys e = either (is_letter c) (each is_letter (d ∷ ys)) (rest_of (is_letter d) _ _ (digit_no_letter d e)) where
  either : (x y : Bool) → y ≡ false → cond x y false ≡ false
  either true y e = e
  either false y e = refl

base_longer : (c d : ℕ) (bs : List ℕ) → is_letter c ≡ true → is_digit d ≡ true → (more : ℕ) → 3 < more → more ≤ length (92 ∷ c ∷ d ∷ bs) → shape_of (take more (92 ∷ c ∷ d ∷ bs)) ≡ None
base_longer c d bs e f zero k w = absurd (omega arith)
base_longer c d bs e f (suc zero) k w = absurd (omega arith)
base_longer c d bs e f (suc (suc zero)) k w = absurd (omega arith)
base_longer c d bs e f (suc (suc (suc zero))) k w = absurd (omega arith)
base_longer c d [] e f (suc (suc (suc (suc n)))) k w = absurd (omega arith)
base_longer c d (x ∷ bs) e f (suc (suc (suc (suc n)))) k w =
    letter_is c (d ∷ x ∷ take n bs) e (no_one (is_base c)) ∙ run_none _ _ (digit_ends c d (x ∷ take n bs) f) where
      no_one : (b : Bool) → (b && false) ≡ false
      no_one true = refl
      no_one false = refl

base_run : (c d : ℕ) (bs : List ℕ) → is_digit d ≡ true → (n : ℕ) → 3 ≤ n → is_run (take n (92 ∷ c ∷ d ∷ bs)) ≡ false
base_run c d bs e zero h = absurd (omega arith)
base_run c d bs e (suc zero) h = absurd (omega arith)
base_run c d bs e (suc (suc zero)) h = absurd (omega arith)
base_run c d bs e (suc (suc (suc n))) h = digit_ends c d (take n bs) e

pub base_piece : (text : List ℕ) → get_or text 0 0 ≡ 92 → is_letter (get_or text 1 0) ≡ true → begins_base text ≡ true → IsPiece text 3 (Bad BadCharacter)
base_piece [] e f g = cc
base_piece (b ∷ []) e f g = cc
base_piece (b ∷ c ∷ []) e f g = cc
base_piece (b ∷ c ∷ d ∷ bs) e f g =
    let digit : is_digit d ≡ true = and_second (is_base c) (is_digit d) g in
    let text = 92 ∷ c ∷ d ∷ bs in
    with_first b (c ∷ d ∷ bs) 3 _ e (record {
      some = omega arith;
      within = omega arith;
      whole = front_is text 3 (base_run c d bs digit 3 (omega arith)) ∙ base_is c d f g;
      longest = λ more k w. front_is text more (base_run c d bs digit more (omega arith)) ∙ base_longer c d bs f digit more k w;
    })

-- fronts of letters are no number of another base
one_digit_front : (n : ℕ) (c : ℕ) (cs : List ℕ) → begins_base (92 ∷ c ∷ cs) ≡ false → (is_base c && is_one_digit (take n cs)) ≡ false
one_digit_front zero c cs e = none (is_base c) where
  none : (b : Bool) → (b && false) ≡ false
  none true = refl
  none false = refl
one_digit_front (suc n) c [] e = none (is_base c) where
  none : (b : Bool) → (b && false) ≡ false
  none true = refl
  none false = refl
one_digit_front (suc zero) c (d ∷ cs) e = e
one_digit_front (suc (suc n)) c (d ∷ []) e = e
one_digit_front (suc (suc n)) c (d ∷ x ∷ cs) e = none (is_base c) where
  none : (b : Bool) → (b && false) ≡ false
  none true = refl
  none false = refl

-- the letters behind a backslash, and what follows them
begins_at : (p : ℕ → Bool) (b : Bool) (x : ℕ) (xs : List ℕ) → p x ≡ b → begins_letter (drop (prefix_len is_letter xs) xs) ≡ false → is_letter x ≡ b → begins_letter (drop (cond b (1 + prefix_len is_letter xs) 0) (x ∷ xs)) ≡ false
begins_at p true x xs e h f = let n : 1 + prefix_len is_letter xs ≡ suc (prefix_len is_letter xs) = omega arith in ap (λ m. begins_letter (drop m (x ∷ xs))) n ∙ h
begins_at p false x xs e h f = f

no_letter_behind : (xs : List ℕ) → begins_letter (drop (prefix_len is_letter xs) xs) ≡ false
no_letter_behind [] = refl
no_letter_behind (x ∷ xs) = begins_at is_letter (is_letter x) x xs refl (no_letter_behind xs) refl

inside_at : (b : Bool) (x : ℕ) (xs : List ℕ) (m : ℕ) → is_letter x ≡ b → (m < prefix_len is_letter xs → begins_letter (drop m xs) ≡ true) → suc m < cond b (1 + prefix_len is_letter xs) 0 → begins_letter (drop m xs) ≡ true
inside_at true x xs m e f h = f (omega arith)
inside_at false x xs m e f h = absurd (omega arith)

first_inside : (b : Bool) (x : ℕ) (n : ℕ) → is_letter x ≡ b → 0 < cond b (1 + n) 0 → is_letter x ≡ true
first_inside true x n e h = e
first_inside false x n e h = absurd (omega arith)

letter_inside : (xs : List ℕ) (m : ℕ) → m < prefix_len is_letter xs → begins_letter (drop m xs) ≡ true
letter_inside [] m h = absurd (omega arith)
letter_inside (x ∷ xs) zero h = first_inside (is_letter x) x (prefix_len is_letter xs) refl h
letter_inside (x ∷ xs) (suc m) h = inside_at (is_letter x) x xs m refl (λ k. letter_inside xs m k) h

-- what stands where fewer, as many and more letters are taken
module _ (c : ℕ) (cs : List ℕ) (letter : is_letter c ≡ true) (plain : begins_base (92 ∷ c ∷ cs) ≡ false) where
  size_is : prefix_len is_letter (c ∷ cs) ≡ suc (prefix_len is_letter cs)
  size_is = first_of (is_letter c) (1 + prefix_len is_letter cs) 0 letter ∙ (let e : 1 + prefix_len is_letter cs ≡ suc (prefix_len is_letter cs) = omega arith in e)

  shape_is : (n : ℕ) → shape_of (92 ∷ c ∷ take n cs) ≡ run_shape (each is_letter (c ∷ take n cs)) (kind_in runs (c ∷ take n cs))
  shape_is n = letter_is c (take n cs) letter (one_digit_front n c cs plain)

  fewer : (n : ℕ) → n < prefix_len is_letter cs → front_shape (92 ∷ c ∷ cs) (suc (suc n)) ≡ None
  fewer n h = first_of (is_run (92 ∷ c ∷ take n cs) && begins_letter (drop n cs)) _ _ (both (is_run (92 ∷ c ∷ take n cs)) (begins_letter (drop n cs)) (letters n h) (letter_inside cs n h)) where
    both : (x y : Bool) → x ≡ true → y ≡ true → (x && y) ≡ true
    both true y e f = f
    both false y e f = cc

    front : (xs : List ℕ) (n : ℕ) → n < prefix_len is_letter xs → each is_letter (take n xs) ≡ true
    front [] n h = absurd (omega arith)
    front (x ∷ xs) zero h = refl
    front (x ∷ xs) (suc n) h = by (is_letter x) x xs n refl h (front xs n) where
      by : (b : Bool) (x : ℕ) (xs : List ℕ) (n : ℕ) → is_letter x ≡ b → suc n < cond b (1 + prefix_len is_letter xs) 0 → (n < prefix_len is_letter xs → each is_letter (take n xs) ≡ true) → cond b (each is_letter (take n xs)) false ≡ true
      by true x xs n e h f = f (omega arith)
      by false x xs n e h f = absurd (omega arith)

    letters : (n : ℕ) → n < prefix_len is_letter cs → is_run (92 ∷ c ∷ take n cs) ≡ true
    letters n h = first_of (is_letter c) _ _ letter ∙ front cs n h

  exact : front_shape (92 ∷ c ∷ cs) (suc (suc (prefix_len is_letter cs))) ≡ run_shape true (kind_in runs (c ∷ take (prefix_len is_letter cs) cs))
  exact =
      rest_of (is_run (92 ∷ c ∷ take (prefix_len is_letter cs) cs) && begins_letter (drop (prefix_len is_letter cs) cs)) _ _ (second_false _ _ (no_letter_behind cs))
      ∙ shape_is (prefix_len is_letter cs) ∙ ap (λ b. run_shape b (kind_in runs (c ∷ take (prefix_len is_letter cs) cs))) (first_of (is_letter c) _ _ letter ∙ each_run is_letter cs) where
        second_false : (x y : Bool) → y ≡ false → (x && y) ≡ false
        second_false true y e = e
        second_false false y e = refl

  beyond : (n : ℕ) → prefix_len is_letter cs < n → n ≤ length cs → front_shape (92 ∷ c ∷ cs) (suc (suc n)) ≡ None
  beyond n h k =
      let e : each is_letter (c ∷ take n cs) ≡ false = first_of (is_letter c) _ _ letter ∙ each_over is_letter cs n h k in
      front_is (92 ∷ c ∷ cs) (suc (suc n)) e ∙ shape_is n ∙ run_none _ _ e

  listed_longer : (more : ℕ) → suc (suc (prefix_len is_letter cs)) < more → more ≤ length (92 ∷ c ∷ cs) → front_shape (92 ∷ c ∷ cs) more ≡ None
  listed_longer zero h k = absurd (omega arith)
  listed_longer (suc zero) h k = absurd (omega arith)
  listed_longer (suc (suc n)) h k = beyond n (omega arith) (omega arith)

  any : (n : ℕ) → n ≤ length cs → kind_in runs (c ∷ take (prefix_len is_letter cs) cs) ≡ None → ((n < prefix_len is_letter cs) ⊎ ((n ≡ prefix_len is_letter cs) ⊎ (prefix_len is_letter cs < n))) → front_shape (92 ∷ c ∷ cs) (suc (suc n)) ≡ None
  any n w e (inl h) = fewer n h
  any n w e (inr (inl h)) = ap (λ m. front_shape (92 ∷ c ∷ cs) (suc (suc m))) h ∙ exact ∙ ap (run_shape true) e
  any n w e (inr (inr h)) = beyond n h w

  three : (m n : ℕ) → (n < m) ⊎ ((n ≡ m) ⊎ (m < n))
  three m n = grind arith

  unlisted_longer : kind_in runs (c ∷ take (prefix_len is_letter cs) cs) ≡ None → (more : ℕ) → 1 < more → more ≤ length (92 ∷ c ∷ cs) → front_shape (92 ∷ c ∷ cs) more ≡ None
  unlisted_longer e zero h k = absurd (omega arith)
  unlisted_longer e (suc zero) h k = absurd (omega arith)
  unlisted_longer e (suc (suc n)) h k = any n (omega arith) e (three (prefix_len is_letter cs) n)

pub listed_piece : (text rest : List ℕ) (size : ℕ) (kind : Kind) → 2 ≤ length text → get_or text 0 0 ≡ 92 → is_letter (get_or text 1 0) ≡ true → begins_base text ≡ false → rest ≡ drop 1 text → size ≡ prefix_len is_letter rest → Some kind ≡ kind_in runs (take size rest) → IsPiece text (size + 1) (Spelled kind)
listed_piece [] rest size kind l e f g r n k = absurd (omega arith)
listed_piece (b ∷ []) rest size kind l e f g r n k = absurd (omega arith)
listed_piece (b ∷ c ∷ cs) rest size kind l e f g r n k =
    let m : size ≡ suc (prefix_len is_letter cs) = n ∙ ap (prefix_len is_letter) r ∙ size_is c cs f g in
    let t : take size rest ≡ c ∷ take (prefix_len is_letter cs) cs = ap (λ x. take size x) r ∙ ap (λ x. take x (c ∷ cs)) m in
    let s : suc (suc (prefix_len is_letter cs)) ≡ size + 1 = omega arith in
    let p : IsPiece (92 ∷ c ∷ cs) (suc (suc (prefix_len is_letter cs))) (Spelled kind) = record {
      some = omega arith;
      within = omega (arith, prefix_len-le-length is_letter cs);
      whole = exact c cs f g ∙ ap (run_shape true) (sym (k ∙ ap (kind_in runs) t));
      longest = listed_longer c cs f g;
    } in
    with_first b (c ∷ cs) (size + 1) _ e (subst (λ x. IsPiece (92 ∷ c ∷ cs) x (Spelled kind)) s p)

pub unlisted_piece : (text rest : List ℕ) (size : ℕ) → 2 ≤ length text → get_or text 0 0 ≡ 92 → is_letter (get_or text 1 0) ≡ true → begins_base text ≡ false → rest ≡ drop 1 text → size ≡ prefix_len is_letter rest → None ≡ kind_in runs (take size rest) → IsPiece text 1 (Spelled (kinds.Symbol symbol.Difference))
unlisted_piece [] rest size l e f g r n k = absurd (omega arith)
unlisted_piece (b ∷ []) rest size l e f g r n k = absurd (omega arith)
unlisted_piece (b ∷ c ∷ cs) rest size l e f g r n k =
    let m : size ≡ suc (prefix_len is_letter cs) = n ∙ ap (prefix_len is_letter) r ∙ size_is c cs f g in
    let t : take size rest ≡ c ∷ take (prefix_len is_letter cs) cs = ap (λ x. take size x) r ∙ ap (λ x. take x (c ∷ cs)) m in
    with_first b (c ∷ cs) 1 _ e (record { some = omega arith; within = omega arith; whole = refl; longest = unlisted_longer c cs f g (sym (k ∙ ap (kind_in runs) t)) })
