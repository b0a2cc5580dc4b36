-- Two lists side by side, and the lines that stand in logs.
use Rattle.std.proofs.Common.{◌≡◌, ℕ, zero, suc, ◌<◌, List, [], ◌∷◌, ◌++◌, length, map, take, Some, ap, sym, ◌∙◌, subst, refl, arith}
use Rattle.std.specs.List.{AllZip, Contains, slice_get}
use Rattle.base_clock_order.specs.declared.order.LineRef.{LineRef}
use Rattle.base_cuts.specs.Cuts.{IsLineOf, taken}
use Rattle.logs_tied.specs.Lines.{StandsIn}
use Rattle.logs_updates.specs.declared.line.Line.{Line}
use Rattle.base_cuts.proofs.Lists.{head_in, tail_in}
use Rattle.base_cuts.proofs.Rules.{place, some_is}

module _ {A B : Type 0} (R : A → B → Type 0) where
  pub zip_long : (xs : List A) (ys : List B) → AllZip R xs ys → length ys ≡ length xs
  zip_long [] [] h = refl
  zip_long [] (y ∷ ys) h = absurd h
  zip_long (x ∷ xs) [] h = absurd h
  zip_long (x ∷ xs) (y ∷ ys) h = ap suc (zip_long xs ys h.1)

  pub zip_at : (xs : List A) (ys : List B) (i : ℕ) (x : A) → AllZip R xs ys → slice_get xs i ≡ Some x → (y : B) × (slice_get ys i ≡ Some y) × R x y
  zip_at [] ys i x h e = cc
  zip_at (a ∷ xs) [] i x h e = absurd h
  zip_at (a ∷ xs) (y ∷ ys) zero x h e = (y, refl, subst (λ (z : A). R z y) (some_is e) h.0)
  zip_at (a ∷ xs) (y ∷ ys) (suc i) x h e = zip_at xs ys i x h.1 e

  pub zip_back : (xs : List A) (ys : List B) (i : ℕ) (y : B) → AllZip R xs ys → slice_get ys i ≡ Some y → (x : A) × (slice_get xs i ≡ Some x) × R x y
  zip_back xs [] i y h e = cc
  zip_back [] (b ∷ ys) i y h e = absurd h
  zip_back (x ∷ xs) (b ∷ ys) zero y h e = (x, refl, subst (R x) (some_is e) h.0)
  zip_back (x ∷ xs) (b ∷ ys) (suc i) y h e = zip_back xs ys i y h.1 e

  pub zip_made : (xs : List A) → ((x : A) → Contains xs x → (y : B) × R x y) → (ys : List B) × AllZip R xs ys
  zip_made [] h = ([], tt)
  zip_made (x ∷ xs) h = let y = h x (head_in x xs) in let ys = zip_made xs (λ z k. h z (tail_in x xs z k)) in (y.0 ∷ ys.0, (y.1, ys.1))

-- the first lines up to one that stands in the list, and those behind it
pub take_split : (xs : List LineRef) (n : ℕ) (l : LineRef) → slice_get xs n ≡ Some l → (take (suc n) xs ≡ take n xs ++ l ∷ []) × ((vs : List LineRef) × (xs ≡ (take n xs ++ l ∷ []) ++ vs))
take_split [] n l e = cc
take_split (x ∷ xs) zero l e = let same : x ≡ l = some_is e in (λ i. same i ∷ [], (xs, λ i. same i ∷ xs))
take_split (x ∷ xs) (suc n) l e = let r = take_split xs n l e in (ap (λ (zs : List LineRef). x ∷ zs) r.0, (r.1.0, ap (λ (zs : List LineRef). x ∷ zs) r.1.1))

-- one line stands there
pub one_line : (files : List (List Line)) (l : LineRef) (a b : Line) → StandsIn files l a → StandsIn files l b → a ≡ b
one_line files l a b s t =
    let log : s.0 ≡ t.0 = some_is (sym s.1 ∙ t.1) in
    some_is (sym s.2 ∙ ap (λ (x : List Line). slice_get x l.index) log ∙ t.2)

there : {X : Type 0} (files : List (List X)) (f : ℕ) (log : List X) → slice_get files f ≡ Some log → f < length (map length files)
there [] f log e = cc
there (x ∷ xs) zero log e = omega arith
there (x ∷ xs) (suc f) log e = let r = there xs f log e in omega (arith, r)

-- a line that stands in logs is of one of them
pub stands_log : (files : List (List Line)) (l : LineRef) (line : Line) → StandsIn files l line → l.file < length (map length files)
stands_log files l line s = there files l.file s.0 s.1

log_there : {X : Type 0} (files : List (List X)) (f i : ℕ) → i < taken (map length files) f → (log : List X) × (slice_get files f ≡ Some log) × (i < length log)
log_there [] f i h = absurd (omega (arith, h))
log_there (x ∷ xs) zero i h = (x, refl, h)
log_there (x ∷ xs) (suc f) i h = log_there xs f i h

-- each line of logs of these sizes stands there
pub line_stands : (files : List (List Line)) (l : LineRef) → IsLineOf (map length files) l → (line : Line) × StandsIn files l line
line_stands files l h = let r = log_there files l.file l.index h in let x = place r.0 l.index r.2 in (x.0, (r.0, r.1, x.1))
