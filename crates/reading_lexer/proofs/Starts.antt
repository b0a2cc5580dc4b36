-- Where a module begins.
use Rattle.std.proofs.Common.{◌≡◌, ℕ, zero, suc, ◌+◌, ◌<◌, ◌≤◌, ◌⊎◌, inl, inr, max, Bool, true, false, ◌&&◌, cond, eqb, List, [], ◌∷◌, length, drop, Option, Some, None, refl, sym, ap, ◌∙◌, arith, length-drop}
use Rattle.std.specs.List.{prefix_len}
use Rattle.reading_tokens.specs.Shapes.{is_dash, begins_four}
use Rattle.reading_tokens.specs.Tokens.{module_start, begins_module, begins_heading, one_further, without_front, is_space}
use Rattle.reading_lexer.proofs.Fronts.{first_of, rest_of, and_false, and_first, and_second}

-- so many bytes further on
abbrev pub further : ℕ → Option ℕ → Option ℕ
further n None = None
further n (Some m) = Some (n + m)

pub further_none : (o : Option ℕ) → o ≡ further 0 o
further_none None = refl
further_none (Some m) = let e : m ≡ 0 + m = omega arith in ap Some e

further_more : (m n : ℕ) (o : Option ℕ) → further m (further n o) ≡ further (m + n) o
further_more m n None = refl
further_more m n (Some k) = let e : m + (n + k) ≡ m + n + k = omega arith in ap Some e

one_is : (n : ℕ) (o : Option ℕ) → one_further (further n o) ≡ further (1 + n) o
one_is n None = refl
one_is n (Some m) = let e : n + m + 1 ≡ 1 + n + m = omega arith in ap Some e

one_alone : (o : Option ℕ) → one_further o ≡ further 1 o
one_alone None = refl
one_alone (Some m) = let e : m + 1 ≡ 1 + m = omega arith in ap Some e

-- the bytes behind a front
pub without_front-drop : (p : ℕ → Bool) (xs : List ℕ) → without_front p xs ≡ drop (prefix_len p xs) xs
without_front-drop p [] = refl
without_front-drop p (x ∷ xs) = by (p x) x xs (without_front-drop p xs) where
  by : (b : Bool) (x : ℕ) (xs : List ℕ) → without_front p xs ≡ drop (prefix_len p xs) xs → cond b (without_front p xs) (x ∷ xs) ≡ drop (cond b (1 + prefix_len p xs) 0) (x ∷ xs)
  by true x xs h = let n : suc (prefix_len p xs) ≡ 1 + prefix_len p xs = omega arith in h ∙ ap (λ m. drop m (x ∷ xs)) n
  by false x xs h = refl

-- four dashes, and the word behind them
pub heading_is : (text behind found : List ℕ) (dashes spaces : ℕ) → begins_four 45 text ≡ true → dashes ≡ prefix_len is_dash text → behind ≡ drop dashes text → spaces ≡ prefix_len is_space behind → found ≡ drop spaces behind → begins_heading found ≡ begins_module text
heading_is text behind found dashes spaces f d b s e =
    let w : without_front is_dash text ≡ behind = without_front-drop is_dash text ∙ ap (λ n. drop n text) (sym d) ∙ sym b in
    let v : without_front is_space behind ≡ found = without_front-drop is_space behind ∙ ap (λ n. drop n behind) (sym s) ∙ sym e in
    ap begins_heading (sym v ∙ ap (without_front is_space) (sym w)) ∙ sym (ap (λ x. x && begins_heading (without_front is_space (without_front is_dash text))) f)

pub no_heading : (text : List ℕ) → begins_four 45 text ≡ false → false ≡ begins_module text
no_heading text f = sym (and_false (begins_four 45 text) _ f)

all_four : (a b c d : Bool) → (a && b && c && d) ≡ true → (a ≡ true) × (b ≡ true) × (c ≡ true)
all_four true true true d e = (refl, refl, refl)
all_four true true false d e = cc
all_four true false c d e = cc
all_four false b c d e = cc

one_dash_more : (b : ℕ) (xs : List ℕ) → is_dash b ≡ true → begins_four 45 xs ≡ true → begins_four 45 (b ∷ xs) ≡ true
one_dash_more b [] e f = cc
one_dash_more b (p ∷ []) e f = cc
one_dash_more b (p ∷ q ∷ []) e f = cc
one_dash_more b (p ∷ q ∷ r ∷ []) e f = cc
one_dash_more b (p ∷ q ∷ r ∷ s ∷ xs) e f =
    let h = all_four (eqb p 45) (eqb q 45) (eqb r 45) (eqb s 45) f in
    rw e (rw h.0 (rw h.1 h.2))

tail_by : (b : ℕ) (xs : List ℕ) (r : Bool) → begins_module xs ≡ r → is_dash b ≡ true → begins_module (b ∷ xs) ≡ false → r ≡ false
tail_by b xs true h e f =
    let four : begins_four 45 (b ∷ xs) ≡ true = one_dash_more b xs e (and_first (begins_four 45 xs) _ h) in
    let rest : begins_heading (without_front is_space (without_front is_dash (b ∷ xs))) ≡ true =
    ap (λ t. begins_heading (without_front is_space t)) (first_of (is_dash b) (without_front is_dash xs) (b ∷ xs) e) ∙ and_second (begins_four 45 xs) _ h
    in
    let all : begins_module (b ∷ xs) ≡ true = ap (λ x. x && begins_heading (without_front is_space (without_front is_dash (b ∷ xs)))) four ∙ rest in
    cc
tail_by b xs false h e f = refl

tail_not : (b : ℕ) (xs : List ℕ) → is_dash b ≡ true → begins_module (b ∷ xs) ≡ false → begins_module xs ≡ false
tail_not b xs e f = tail_by b xs (begins_module xs) refl e f

one_on : (b : ℕ) (xs : List ℕ) → begins_module (b ∷ xs) ≡ false → module_start (b ∷ xs) ≡ one_further (module_start xs)
unfolding module_start
one_on b xs e = rest_of (begins_module (b ∷ xs)) _ _ e

run_by : (b : ℕ) (xs : List ℕ) (p : Bool) → is_dash b ≡ p → begins_module (b ∷ xs) ≡ false → (begins_module xs ≡ false → module_start xs ≡ further (prefix_len is_dash xs) (module_start (drop (prefix_len is_dash xs) xs))) → module_start (b ∷ xs) ≡ further (cond p (1 + prefix_len is_dash xs) 0) (module_start (drop (cond p (1 + prefix_len is_dash xs) 0) (b ∷ xs)))
run_by b xs true e f h =
    let n : suc (prefix_len is_dash xs) ≡ 1 + prefix_len is_dash xs = omega arith in
    one_on b xs f ∙ ap one_further (h (tail_not b xs e f)) ∙ one_is (prefix_len is_dash xs) _ ∙ ap (λ m. further (1 + prefix_len is_dash xs) (module_start (drop m (b ∷ xs)))) n
run_by b xs false e f h = further_none (module_start (b ∷ xs))

start_run : (xs : List ℕ) → begins_module xs ≡ false → module_start xs ≡ further (prefix_len is_dash xs) (module_start (drop (prefix_len is_dash xs) xs))
start_run [] e = further_none (module_start [])
start_run (b ∷ xs) e = run_by b xs (is_dash b) refl e (start_run xs)

start_one : (xs : List ℕ) → 0 < length xs → begins_module xs ≡ false → module_start xs ≡ further 1 (module_start (drop 1 xs))
start_one [] l e = absurd (omega arith)
start_one (b ∷ xs) l e = one_on b xs e ∙ one_alone (module_start xs)

start_by : (xs : List ℕ) (n : ℕ) → 0 < length xs → begins_module xs ≡ false → ((n ≡ prefix_len is_dash xs) ⊎ (n ≡ 1)) → module_start xs ≡ further n (module_start (drop n xs))
start_by xs n l e (inl h) = start_run xs e ∙ ap (λ m. further m (module_start (drop m xs))) (sym h)
start_by xs n l e (inr h) = start_one xs l e ∙ ap (λ m. further m (module_start (drop m xs))) (sym h)

drop_none : (k : ℕ) → drop {A = ℕ} k [] ≡ []
drop_none zero = refl
drop_none (suc k) = refl

drop_more : (xs : List ℕ) (m n : ℕ) → drop n (drop m xs) ≡ drop (m + n) xs
drop_more xs zero n = let e : n ≡ 0 + n = omega arith in ap (λ k. drop k xs) e
drop_more [] (suc m) n = drop_none n ∙ sym (drop_none (suc m + n))
drop_more (x ∷ xs) (suc m) n = let e : suc (m + n) ≡ suc m + n = omega arith in drop_more xs m n ∙ ap (λ k. drop k (x ∷ xs)) e

-- a place where no module begins is passed, with the dashes there
pub start_passed : (text : List ℕ) (at n : ℕ) → at < length text → module_start text ≡ further at (module_start (drop at text)) → begins_module (drop at text) ≡ false → ((n ≡ prefix_len is_dash (drop at text)) ⊎ (n ≡ 1)) → module_start text ≡ further (at + n) (module_start (drop (at + n) text))
start_passed text at n l h e s =
    h ∙ ap (further at) (start_by (drop at text) n (omega (arith, length-drop at text)) e s) ∙ further_more at n _ ∙ ap (λ t. further (at + n) (module_start t)) (drop_more text at n)

start_here : (xs : List ℕ) → 0 < length xs → begins_module xs ≡ true → module_start xs ≡ Some 0
unfolding module_start
start_here [] l e = absurd (omega arith)
start_here (b ∷ xs) l e = first_of (begins_module (b ∷ xs)) _ _ e

pub start_found : (text : List ℕ) (at : ℕ) → at < length text → module_start text ≡ further at (module_start (drop at text)) → begins_module (drop at text) ≡ true → Some at ≡ module_start text
start_found text at l h e =
    let n : at + 0 ≡ at = omega arith in
    sym (h ∙ ap (further at) (start_here (drop at text) (omega (arith, length-drop at text)) e) ∙ ap Some n)

start_past : (text : List ℕ) (at : ℕ) → length text ≤ at → module_start (drop at text) ≡ None
unfolding module_start
start_past [] zero l = refl
start_past [] (suc at) l = refl
start_past (b ∷ bs) zero l = absurd (omega arith)
start_past (b ∷ bs) (suc at) l = start_past bs at (omega arith)

pub start_missing : (text : List ℕ) (at : ℕ) → length text ≤ at → module_start text ≡ further at (module_start (drop at text)) → None ≡ module_start text
start_missing text at l h = sym (h ∙ ap (further at) (start_past text at l))

pub one_or_more : (n m : ℕ) → m ≡ max n 1 → (m ≡ n) ⊎ (m ≡ 1)
one_or_more n m e = grind arith
