-- Texts put in order one after the other, of which the first are kept.
use Rattle.std.proofs.Common.{◌≡◌, ◌↔◌, ◌⊎◌, inl, inr, refl, sym, ◌∙◌, ap, subst, arith, ℕ, zero, suc, ◌≤◌, List, [], ◌∷◌, ◌++◌, length, take}
use Rattle.std.specs.Prelude.{All, Contains}
use Rattle.std.specs.List.{AllByRecursion}
use Rattle.std.specs.List.Sorted.{IsStrictlySortedBy}
use Rattle.std.specs.Cmp.{IsTotalOrder}
use Rattle.std.specs.Cmp.Lexicographic.{slice_cmp}
use Rattle.std.specs.Ordering.{match_ordering, nat_cmp, ordering_reverse}
use Rattle.std.specs.declared.cmp.Ordering.{Ordering}
use Rattle.std.specs.declared.cmp.Ordering.TheVariants.{Equal, Greater, Less}
use Rattle.std.specs.BTreeSet.{insert_key}
use Rattle.std.proofs.lemmas.Cmp.{nat_list_cmp_total}
use Rattle.std.proofs.lemmas.List.{take_all}
use Rattle.std.proofs.lemmas.List.Elements.{Contains-append_cases, Contains-append_left, Contains-append_right}
use Rattle.std.proofs.lemmas.Map.Lookups.{exact_bytes}
use Rattle.values_core.specs.Ascending.{cons_cases, head_in, none_in, tail_in}
use Rattle.run_near_lines.specs.Adding.{Adds, with_text, with_texts}

abbrev Texts : Type 0
Texts = List (List ℕ)

-- the first of the first are the first

take_both : (j k : ℕ) (xs : Texts) → j ≤ k → take j (take k xs) ≡ take j xs
take_both zero k xs l = refl
take_both (suc j) zero xs l = absurd (omega (arith, l))
take_both (suc j) (suc k) [] l = refl
take_both (suc j) (suc k) (x ∷ xs) l = ap (λ (ys : Texts). x ∷ ys) (take_both j k xs (omega (arith, l)))

take_again : (k : ℕ) (xs : Texts) → take k (take k xs) ≡ take k xs
take_again k xs = take_both k k xs (omega arith)

take_behind : (k : ℕ) (x : List ℕ) (xs : Texts) → take k (x ∷ take k xs) ≡ take k (x ∷ xs)
take_behind zero x xs = refl
take_behind (suc k) x xs = ap (λ (ys : Texts). x ∷ ys) (take_both k (suc k) xs (omega arith))

pub take_few : (k : ℕ) (xs : Texts) → length (take k xs) ≤ k
take_few zero xs = omega arith
take_few (suc k) [] = omega arith
take_few (suc k) (x ∷ xs) = let l : length (take k xs) ≤ k = take_few k xs in omega (arith, l)

-- a text that is put to the first of some leaves the same first as where it is put to all

take_text : (k : ℕ) (xs : Texts) (t : List ℕ) → take k (with_text (take k xs) t) ≡ take k (with_text xs t)
take_text zero xs t = refl
take_text (suc k) [] t = refl
take_text (suc k) (x ∷ xs) t = by_order (take_text k xs t) (slice_cmp nat_cmp t x)
  where
    by_order : take k (with_text (take k xs) t) ≡ take k (with_text xs t) → (o : Ordering) → take (suc k) (match_ordering o (t ∷ x ∷ take k xs) (x ∷ take k xs) (x ∷ with_text (take k xs) t)) ≡ take (suc k) (match_ordering o (t ∷ x ∷ xs) (x ∷ xs) (x ∷ with_text xs t))
    by_order rest Less = ap (λ (ys : Texts). t ∷ ys) (take_behind k x xs)
    by_order rest Equal = ap (λ (ys : Texts). x ∷ ys) (take_again k xs)
    by_order rest Greater = ap (λ (ys : Texts). x ∷ ys) rest

take_texts : (k : ℕ) (xs us : Texts) → take k (with_texts (take k xs) us) ≡ take k (with_texts xs us)
take_texts k xs [] = take_again k xs
take_texts k xs (u ∷ us) =
    sym (take_texts k (with_text (take k xs) u) us) ∙ ap (λ (ys : Texts). take k (with_texts ys us)) (take_text k xs u) ∙ take_texts k (with_text xs u) us

texts_behind : (xs us vs : Texts) → with_texts xs (us ++ vs) ≡ with_texts (with_texts xs us) vs
texts_behind xs [] vs = refl
texts_behind xs (u ∷ us) vs = texts_behind (with_text xs u) us vs

-- what is added

module _ (k : ℕ) where
  pub adds_few : (P : List ℕ → Type 0) (old new : Texts) → Adds k P old new → length new ≤ k
  adds_few P old new a = subst (λ (ys : Texts). length ys ≤ k) (sym a.left) (take_few k (with_texts old a.texts))

  pub adds_none : (P : List ℕ → Type 0) (old : Texts) → length old ≤ k → ((t : List ℕ) → P t → ⊥) → Adds k P old old
  adds_none P old few none = record { texts = []; are = λ t. (λ m. absurd (none_in t m), λ h. absurd (none t h)); left = sym (take_all k old few) }

  pub adds_one : (P : List ℕ → Type 0) (old new : Texts) (t : List ℕ) → new ≡ take k (with_text old t) → P t → ((u : List ℕ) → P u → u ≡ t) → Adds k P old new
  adds_one P old new t e h only = record {
    texts = t ∷ [];
    are = λ u. (
      λ m. elim (cons_cases t [] u m) [ inl f ↦ subst P f h | inr n ↦ absurd (none_in u n) ],
      λ q. subst (λ (v : List ℕ). Contains (t ∷ []) v) (sym (only u q)) (head_in t []),
    );
    left = e;
  }

  pub adds_so : (P Q : List ℕ → Type 0) (old new : Texts) → ((t : List ℕ) → P t ↔ Q t) → Adds k P old new → Adds k Q old new
  adds_so P Q old new same a = record { texts = a.texts; are = λ t. (λ m. (same t).0 ((a.are t).0 m), λ h. (a.are t).1 ((same t).1 h)); left = a.left }

  pub adds_both : (P Q : List ℕ → Type 0) (old mid new : Texts) → Adds k P old mid → Adds k Q mid new → Adds k (λ t. P t ⊎ Q t) old new
  adds_both P Q old mid new a b = record {
    texts = a.texts ++ b.texts;
    are = λ t. (
      λ m. elim (Contains-append_cases a.texts b.texts t m) [ inl n ↦ inl ((a.are t).0 n) | inr n ↦ inr ((b.are t).0 n) ],
      λ h. elim h [
        | inl p ↦ Contains-append_left a.texts b.texts t ((a.are t).1 p)
        | inr q ↦ Contains-append_right a.texts b.texts t ((b.are t).1 q)
      ],
    );
    left = b.left ∙ ap (λ (ys : Texts). take k (with_texts ys b.texts)) a.left ∙ take_texts k (with_texts old a.texts) b.texts ∙ ap (λ (ys : Texts). take k ys) (sym (texts_behind old a.texts b.texts));
  }

-- texts that were put in order ascend, and are those that were put

abbrev cmp : List ℕ → List ℕ → Ordering
cmp = slice_cmp nat_cmp

reversed : (t x : List ℕ) (o : Ordering) → cmp t x ≡ o → cmp x t ≡ ordering_reverse o
reversed t x o e = nat_list_cmp_total.antisymm x t ∙ ap ordering_reverse e

all_below : (P : List ℕ → Type 0) (xs : Texts) (t : List ℕ) → AllByRecursion P xs → P t → AllByRecursion P (with_text xs t)
all_below P [] t h p = (p, tt)
all_below P (x ∷ xs) t h p = by_order (all_below P xs t h.1 p) (cmp t x)
  where
    by_order : AllByRecursion P (with_text xs t) → (o : Ordering) → AllByRecursion P (match_ordering o (t ∷ x ∷ xs) (x ∷ xs) (x ∷ with_text xs t))
    by_order rest Less = (p, h)
    by_order rest Equal = h
    by_order rest Greater = (h.0, rest)

all_so : (P Q : List ℕ → Type 0) (xs : Texts) → ((x : List ℕ) → P x → Q x) → AllByRecursion P xs → AllByRecursion Q xs
all_so P Q [] f h = tt
all_so P Q (x ∷ xs) f h = (f x h.0, all_so P Q xs f h.1)

text_ascends : (xs : Texts) (t : List ℕ) → IsStrictlySortedBy cmp xs → IsStrictlySortedBy cmp (with_text xs t)
unfolding IsStrictlySortedBy
text_ascends [] t s = (tt, tt)
text_ascends (x ∷ xs) t s = by_order (text_ascends xs t s.1) (cmp t x) refl
  where
    by_order : IsStrictlySortedBy cmp (with_text xs t) → (o : Ordering) → cmp t x ≡ o → IsStrictlySortedBy cmp (match_ordering o (t ∷ x ∷ xs) (x ∷ xs) (x ∷ with_text xs t))
    by_order rest Less e = ((e, all_so (λ y. cmp x y ≡ Less) (λ y. cmp t y ≡ Less) xs (λ y f. nat_list_cmp_total.trans t x y e f) s.0), s)
    by_order rest Equal e = s
    by_order rest Greater e = (all_below (λ y. cmp x y ≡ Less) xs t s.0 (reversed t x Greater e), rest)

pub texts_ascend : (xs us : Texts) → IsStrictlySortedBy cmp xs → IsStrictlySortedBy cmp (with_texts xs us)
texts_ascend xs [] s = s
texts_ascend xs (u ∷ us) s = texts_ascend (with_text xs u) us (text_ascends xs u s)

pub none_ascend : IsStrictlySortedBy cmp []
unfolding IsStrictlySortedBy
none_ascend = tt

text_in : (xs : Texts) (t u : List ℕ) → Contains (with_text xs t) u ↔ (Contains xs u ⊎ (u ≡ t))
text_in [] t u = (
  λ m. elim (cons_cases t [] u m) [ inl e ↦ inr (sym e) | inr n ↦ inl n ],
  λ h. elim h [ inl n ↦ absurd (none_in u n) | inr e ↦ subst (λ (v : List ℕ). Contains (t ∷ []) v) (sym e) (head_in t []) ],
)
text_in (x ∷ xs) t u = by_order (text_in xs t u) (cmp t x) refl
  where
    by_order : Contains (with_text xs t) u ↔ (Contains xs u ⊎ (u ≡ t)) → (o : Ordering) → cmp t x ≡ o → Contains (match_ordering o (t ∷ x ∷ xs) (x ∷ xs) (x ∷ with_text xs t)) u ↔ (Contains (x ∷ xs) u ⊎ (u ≡ t))
    by_order rest Less e = (
      λ m. elim (cons_cases t (x ∷ xs) u m) [ inl f ↦ inr (sym f) | inr n ↦ inl n ],
      λ h. elim h [ inl n ↦ tail_in t (x ∷ xs) u n | inr f ↦ subst (λ (v : List ℕ). Contains (t ∷ x ∷ xs) v) (sym f) (head_in t (x ∷ xs)) ],
    )
    by_order rest Equal e = (
      λ m. inl m,
      λ h. elim h [ inl n ↦ n | inr f ↦ subst (λ (v : List ℕ). Contains (x ∷ xs) v) (sym (f ∙ exact_bytes t x e)) (head_in x xs) ],
    )
    by_order rest Greater e = (
      λ m. elim (cons_cases x (with_text xs t) u m) [
        | inl f ↦ inl (subst (λ (v : List ℕ). Contains (x ∷ xs) v) f (head_in x xs))
        | inr n ↦ elim (rest.0 n) [ inl k ↦ inl (tail_in x xs u k) | inr f ↦ inr f ]
      ],
      λ h. elim h [
        | inl n ↦ elim (cons_cases x xs u n) [
          | inl f ↦ subst (λ (v : List ℕ). Contains (x ∷ with_text xs t) v) f (head_in x (with_text xs t))
          | inr k ↦ tail_in x (with_text xs t) u (rest.1 (inl k))
        ]
        | inr f ↦ tail_in x (with_text xs t) u (rest.1 (inr f))
      ],
    )

pub texts_in : (xs us : Texts) (u : List ℕ) → Contains (with_texts xs us) u ↔ (Contains xs u ⊎ Contains us u)
texts_in xs [] u = (λ m. inl m, λ h. elim h [ inl m ↦ m | inr n ↦ absurd (none_in u n) ])
texts_in xs (v ∷ us) u = (
  λ m. elim ((texts_in (with_text xs v) us u).0 m) [
    | inl n ↦ elim ((text_in xs v u).0 n) [
      | inl k ↦ inl k
      | inr e ↦ inr (subst (λ (w : List ℕ). Contains (v ∷ us) w) (sym e) (head_in v us))
    ]
    | inr n ↦ inr (tail_in v us u n)
  ],
  λ h. (texts_in (with_text xs v) us u).1 (elim h [
    | inl k ↦ inl ((text_in xs v u).1 (inl k))
    | inr k ↦ elim (cons_cases v us u k) [
      | inl e ↦ inl ((text_in xs v u).1 (inr (sym e)))
      | inr n ↦ inr n
    ]
  ]),
)
