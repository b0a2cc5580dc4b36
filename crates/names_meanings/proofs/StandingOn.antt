-- Tables in which definitions stand on.
use Rattle.std.proofs.Common.{◌≡◌, ◌∙◌, sym, ap, refl, subst, inl, inr, List, [], ◌∷◌, ◌++◌, length, ◌<◌, ◌≤◌, arith}
use Rattle.std.proofs.lemmas.List.{length-append}
use Rattle.std.specs.Prelude.{◌≢◌, ◌⊎◌, ℕ, zero, suc, Some, set, slice_get}
use Rattle.names_terms.specs.declared.operator.Operator.{Operator}
use Rattle.names_terms.specs.Terms.{Term}
use Rattle.names_meanings.specs.Outcomes.{Grows, StandsOn}

-- Lists.

pub stands_at : (xs : List Operator) (k : ℕ) → k < length xs → (o : Operator) × (slice_get xs k ≡ Some o)
stands_at [] k lt = absurd (omega (arith, lt))
stands_at (x ∷ xs) zero lt = (x, refl)
stands_at (x ∷ xs) (suc k) lt = stands_at xs k (omega (arith, lt))

pub in_front : (xs ys : List Operator) (k : ℕ) (o : Operator) → slice_get xs k ≡ Some o → slice_get (xs ++ ys) k ≡ Some o
in_front [] ys k o e = absurd (none_at k o e)
  where
    none_at : (k : ℕ) (o : Operator) → slice_get [] k ≡ Some o → ⊥
    none_at zero o e = cc
    none_at (suc k) o e = cc
in_front (x ∷ xs) ys zero o e = e
in_front (x ∷ xs) ys (suc k) o e = in_front xs ys k o e

pub at_middle : (xs : List Operator) (x : Operator) (ys : List Operator) → slice_get (xs ++ x ∷ ys) (length xs) ≡ Some x
at_middle [] x ys = refl
at_middle (y ∷ xs) x ys = at_middle xs x ys

pub at_end : (xs : List Operator) (x : Operator) → slice_get (xs ++ x ∷ []) (length xs) ≡ Some x
at_end xs x = at_middle xs x []

pub longer : (a : List Operator) {b : List Operator} → Grows a b → length a ≤ length b
longer a g = let q = ap length g.1 ∙ length-append a g.0 in omega (arith, q)

pub equal_or : (j k : ℕ) → (j ≡ k) ⊎ (j ≢ k)
equal_or zero zero = inl refl
equal_or zero (suc k) = inr (λ q. zero_suc k q)
  where
    zero_suc : (k : ℕ) → zero ≡ suc k → ⊥
    zero_suc k q = omega (arith, q)
equal_or (suc j) zero = inr (λ q. suc_zero j q)
  where
    suc_zero : (j : ℕ) → suc j ≡ zero → ⊥
    suc_zero j q = omega (arith, q)
equal_or (suc j) (suc k) = elim (equal_or j k) [ inl q ↦ inl (ap suc q) | inr n ↦ inr (λ q. n (omega (arith, q))) ]

some_same : {x y : Operator} → Some x ≡ Some y → x ≡ y
some_same q = cc

pub set_there : (xs : List Operator) (k : ℕ) (r o : Operator) → slice_get xs k ≡ Some o → slice_get (set xs k r) k ≡ Some r
set_there [] zero r o e = absurd (cc)
set_there [] (suc k) r o e = absurd (cc)
set_there (x ∷ xs) zero r o e = refl
set_there (x ∷ xs) (suc k) r o e = set_there xs k r o e

pub set_elsewhere : (xs : List Operator) (k j : ℕ) (r o : Operator) → j ≢ k → slice_get xs j ≡ Some o → slice_get (set xs k r) j ≡ Some o
set_elsewhere [] k j r o n e = e
set_elsewhere (x ∷ xs) zero zero r o n e = absurd (n refl)
set_elsewhere (x ∷ xs) zero (suc j) r o n e = e
set_elsewhere (x ∷ xs) (suc k) zero r o n e = e
set_elsewhere (x ∷ xs) (suc k) (suc j) r o n e = set_elsewhere xs k j r o (λ q. n (ap suc q)) e

-- Standing on.

pub stands_same : (from : ℕ) (a : List Operator) → StandsOn from a a
stands_same from a = record { heads = λ k o e. (o.body, e); bodies = λ k o le e. e }

-- where more was added
pub stands_grown : {from : ℕ} (a : List Operator) {b c : List Operator} → Grows a b → StandsOn from b c → StandsOn from a c
stands_grown a {b = b} g s = record { heads = λ k o e. s.heads k o (there k o e); bodies = λ k o le e. s.bodies k o le (there k o e) }
  where
    there : (k : ℕ) (o : Operator) → slice_get a k ≡ Some o → slice_get b k ≡ Some o
    there k o e = subst (λ (x : List Operator). slice_get x k ≡ Some o) (sym g.1) (in_front a g.0 k o e)

-- a table that grew may wait for more bodies
pub stands_later : (a : List Operator) {b c d : List Operator} → Grows a b → StandsOn (length a) c d → StandsOn (length b) c d
stands_later a g s = record { heads = s.heads; bodies = λ k o le e. s.bodies k o (omega (arith, longer a g, le)) e }

-- a definition that was added last
pub stands_last : (a : List Operator) {b c d : List Operator} {o : Operator} → Grows a b → c ≡ b ++ o ∷ [] → StandsOn (length a) c d → slice_get d (length b) ≡ Some o
stands_last a {b = b} {o = o} g q s = s.bodies (length b) o (longer a g) (ap (λ (x : List Operator). slice_get x (length b)) q ∙ at_end b o)

-- a table that begins with it
pub grown_stands : (from : ℕ) (a : List Operator) {b : List Operator} → Grows a b → StandsOn from a b
grown_stands from a {b = b} g = stands_grown a g (stands_same from b)

-- A table in which a row got its body stands on as one where it waits for it.
pub stands_settled : (from k : ℕ) (xs : List Operator) {all : List Operator} (o r : Operator) (e : Term) → from ≤ k → slice_get xs k ≡ Some o → r ≡ record o { body = e } → StandsOn from (set xs k r) all → StandsOn (suc k) xs all
stands_settled from k xs {all = all} o r e le there is s = record { heads = λ j p q. head j p q (order j); bodies = λ j p lt q. s.bodies j p (omega (arith, le, lt)) (set_elsewhere xs k j r p (λ z. no_less k j z lt) q) }
  where
    no_less : (k j : ℕ) → j ≡ k → suc k ≤ j → ⊥
    no_less k j z lt = omega (arith, z, lt)

    order : (j : ℕ) → (j ≡ k) ⊎ (j ≢ k)
    order j = equal_or j k

    head : (j : ℕ) (p : Operator) → slice_get xs j ≡ Some p → (j ≡ k) ⊎ (j ≢ k) → (x : Term) × (slice_get all j ≡ Some (record p { body = x }))
    head j p q (inr n) = s.heads j p (set_elsewhere xs k j r p n q)
    head j p q (inl z) =
        let same : o ≡ p = some_same (sym there ∙ ap (λ (i : ℕ). slice_get xs i) (sym z) ∙ q) in
        let found : (x : Term) × (slice_get all k ≡ Some (record r { body = x })) = s.heads k r (set_there xs k r o there) in
        (found.0, ap (λ (i : ℕ). slice_get all i) z ∙ found.1 ∙ ap (λ (y : Operator). Some (record y { body = found.0 })) (is ∙ ap (λ (y : Operator). record y { body = e }) same))
