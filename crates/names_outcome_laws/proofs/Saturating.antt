-- A least relation over finitely many pairs is decided: what follows is added, one pair at a time, until nothing more follows.
use Rattle.std.proofs.Common.{◌≡◌, ◌∙◌, sym, ap, refl, subst, arith, inl, inr, ℕ, zero, suc, ◌+◌, List, [], ◌∷◌, ◌<◌, ◌≤◌, ◌⊎◌}
use Rattle.std.specs.Prelude.{Bool, true, false, ◌||◌, Contains, IsTrue}
use Rattle.names_term_parts.proofs.Contained.{contains_cons, contains_head, contains_nothing, contains_tail}
use Rattle.base_use_order.proofs.Lists.{same_or_not}
use Rattle.names_outcome_laws.proofs.Deciding.{Decided, both_or, mark_of, mark_tells, untrue}

-- some one of a list, or none
pub any_or_none : {A : Type 0} (P : A → Type 0) (xs : List A) → ((x : A) → Contains xs x → Decided (P x)) → Decided ((x : A) × Contains xs x × P x)
any_or_none P [] d = inr (λ h. contains_nothing h.0 h.1)
any_or_none {A = A} P (x ∷ xs) d = by_first (d x (contains_head x xs)) (any_or_none P xs (λ y c. d y (contains_tail x xs y c)))
  where
    by_first : Decided (P x) → Decided ((y : A) × Contains xs y × P y) → Decided ((y : A) × Contains (x ∷ xs) y × P y)
    by_first (inl p) r = inl (x, contains_head x xs, p)
    by_first (inr n) (inl r) = inl (r.0, contains_tail x xs r.0 r.1, r.2)
    by_first (inr n) (inr m) = inr (λ h. elim (contains_cons x xs h.0 h.1) [ inl e ↦ n (subst P (sym e) h.2) | inr c ↦ m (h.0, c, h.2) ])

pub true_or_not : (b : Bool) → Decided (IsTrue b)
true_or_not true = inl refl
true_or_not false = inr untrue

not_true : (b : Bool) → ¬ IsTrue b → b ≡ false
not_true true n = absurd (n refl)
not_true false n = refl

or_first : (a b : Bool) → IsTrue a → IsTrue (a || b)
or_first true b h = refl
or_first false b h = absurd (untrue h)

or_second : (a b : Bool) → IsTrue b → IsTrue (a || b)
or_second true b h = refl
or_second false b h = h

or_either : (a b : Bool) → IsTrue (a || b) → IsTrue a ⊎ IsTrue b
or_either true b h = inl refl
or_either false b h = inr h

abbrev pub Pair : Type 0
Pair = ℕ × ℕ

same_pair : (a b : Pair) → Decided (a ≡ b)
same_pair a b = by_parts (same_or_not a.0 b.0) (same_or_not a.1 b.1)
  where
    by_parts : Decided (a.0 ≡ b.0) → Decided (a.1 ≡ b.1) → Decided (a ≡ b)
    by_parts (inl p) (inl q) = inl (λ i. (p i, q i))
    by_parts (inl p) (inr m) = inr (λ e. m (ap (λ (x : Pair). x.1) e))
    by_parts (inr n) d = inr (λ e. n (ap (λ (x : Pair). x.0) e))

-- how many of these are not marked
abbrev wanting : Bool → ℕ
wanting true = 0
wanting false = 1

abbrev left : (Pair → Bool) → List Pair → ℕ
left S [] = 0
left S (x ∷ xs) = wanting (S x) + left S xs

-- one more is marked
abbrev with_pair : (Pair → Bool) → Pair → Pair → Bool
with_pair S a b = mark_of (same_pair a b) || S b

marked_itself : (S : Pair → Bool) (a : Pair) → IsTrue (with_pair S a a)
marked_itself S a = or_first (mark_of (same_pair a a)) (S a) ((mark_tells (same_pair a a)).1 refl)

wanting_less : (a b : Bool) → wanting (a || b) ≤ wanting b
wanting_less true true = omega arith
wanting_less true false = omega arith
wanting_less false true = omega arith
wanting_less false false = omega arith

left_less : (S : Pair → Bool) (a : Pair) (xs : List Pair) → left (with_pair S a) xs ≤ left S xs
left_less S a [] = omega arith
left_less S a (x ∷ xs) = omega (arith, wanting_less (mark_of (same_pair a x)) (S x), left_less S a xs)

wanting_more : (a b : Bool) → IsTrue a → b ≡ false → wanting (a || b) < wanting b
wanting_more true true h e = absurd (cc)
wanting_more true false h e = omega arith
wanting_more false b h e = absurd (untrue h)

left_falls : (S : Pair → Bool) (a : Pair) (xs : List Pair) → S a ≡ false → Contains xs a → left (with_pair S a) xs < left S xs
left_falls S a [] f c = absurd (contains_nothing a c)
left_falls S a (x ∷ xs) f c = elim (contains_cons x xs a c) [
  | inl e ↦ omega (arith, wanting_more (mark_of (same_pair a x)) (S x) ((mark_tells (same_pair a x)).1 (sym e)) (ap S e ∙ f), left_less S a xs)
  | inr d ↦ omega (arith, wanting_less (mark_of (same_pair a x)) (S x), left_falls S a xs f d)
]

module _ (all : List Pair) (R : Pair → Type 0) (T : (Pair → Type 0) → Pair → Type 0) (fold : (a : Pair) → Contains all a → T R a → R a) (mono : (S Q : Pair → Type 0) → ((b : Pair) → Contains all b → S b → Q b) → (a : Pair) → Contains all a → T S a → T Q a) (decide : (S : Pair → Bool) (a : Pair) → Contains all a → Decided (T (λ b. IsTrue (S b)) a)) (least : (S : Pair → Type 0) → ((a : Pair) → Contains all a → T S a → S a) → (a : Pair) → Contains all a → R a → S a) where
  -- marks that are right, and leave nothing that follows
  record Closed : Type 0 where
    pub marks : Pair → Bool
    pub right : (a : Pair) → Contains all a → IsTrue (marks a) → R a
    pub closed : (a : Pair) → Contains all a → T (λ b. IsTrue (marks b)) a → IsTrue (marks a)

  abbrev Follows : (Pair → Bool) → Pair → Type 0
  Follows S a = (¬ IsTrue (S a)) × T (λ b. IsTrue (S b)) a

  negated : {P : Type 0} → Decided P → Decided (¬ P)
  negated (inl p) = inr (λ n. n p)
  negated (inr n) = inl n

  more_or_closed : (S : Pair → Bool) → Decided ((a : Pair) × Contains all a × Follows S a)
  more_or_closed S = any_or_none (Follows S) all (λ a c. both_or (negated (true_or_not (S a))) (decide S a c))

  still_right : (S : Pair → Bool) → ((a : Pair) → Contains all a → IsTrue (S a) → R a) → (a : Pair) → Contains all a → T (λ b. IsTrue (S b)) a → (b : Pair) → Contains all b → IsTrue (with_pair S a b) → R b
  still_right S right a c t b d h = elim (or_either (mark_of (same_pair a b)) (S b) h) [
    | inl m ↦ subst R ((mark_tells (same_pair a b)).0 m) (fold a c (mono (λ x. IsTrue (S x)) R right a c t))
    | inr m ↦ right b d m
  ]

  closing : (n : ℕ) (S : Pair → Bool) → ((a : Pair) → Contains all a → IsTrue (S a) → R a) → left S all ≤ n → Closed
  closing zero S right le = record {
    marks = S;
    right = right;
    closed = λ a c t. elim (true_or_not (S a)) [ inl h ↦ h | inr h ↦ (let less : left (with_pair S a) all < left S all = left_falls S a all (not_true (S a) h) c in absurd (omega (arith, le, less))) ];
  }
  closing (suc n) S right le = elim (more_or_closed S) [
    | inl f ↦
        let less : left (with_pair S f.0) all < left S all = left_falls S f.0 all (not_true (S f.0) f.2.0) f.1 in
        closing n (with_pair S f.0) (still_right S right f.0 f.1 f.2.1) (omega (arith, le, less))
    | inr none ↦ record { marks = S; right = right; closed = λ a c t. elim (true_or_not (S a)) [ inl h ↦ h | inr h ↦ absurd (none (a, c, (h, t))) ] }
  ]

  whole : Closed
  whole = (let le : left (λ a. false) all ≤ left (λ a. false) all = omega arith in closing (left (λ a. false) all) (λ a. false) (λ a c h. absurd (untrue h)) le)

  pub decided : (a : Pair) → Contains all a → Decided (R a)
  decided a c = elim (true_or_not (whole.marks a)) [
    | inl h ↦ inl (whole.right a c h)
    | inr n ↦ inr (λ r. n (least (λ b. IsTrue (whole.marks b)) whole.closed a c r))
  ]
