-- How lists of first branches are put together.
use Rattle.std.proofs.Common.{◌≡◌, ◌⊎◌, inl, inr, sym, subst, arith, ℕ, ◌<◌, ◌≤◌, ◌+◌, ◌-◌, List, [], ◌∷◌, ◌++◌, map, length}
use Rattle.std.specs.Prelude.{Contains}
use Rattle.steps_why_branches.specs.Traces.{Earlier, Trace}
use Rattle.steps_why_branches.specs.Firsts.{Ascends, Firsts}
use Rattle.steps_why_branches.proofs.Elements.{in_map, map_length, append_length}
use Rattle.steps_found_states.proofs.Lists.{in_cases, in_left, in_right, of_map, one_in}
use Rattle.values_core.specs.Ascending.{head_in, none_in, tail_in}

abbrev pub Kind : Type 1
Kind = Trace → Type 0

pub ascends_append : (xs ys : List Trace) → Ascends xs → Ascends ys → ((x y : Trace) → Contains xs x → Contains ys y → Earlier x y) → Ascends (xs ++ ys)
ascends_append [] ys a b h = b
ascends_append (x ∷ xs) ys a b h = (
  λ y m. elim (in_cases xs ys y m) [ inl n ↦ a.0 y n | inr n ↦ h x y (head_in x xs) n ],
  ascends_append xs ys a.1 b (λ y z m n. h y z (tail_in x xs y m) n),
)

pub ascends_map : (f : Trace → Trace) → ((x y : Trace) → Earlier x y → Earlier (f x) (f y)) → (xs : List Trace) → Ascends xs → Ascends (map f xs)
ascends_map f h [] a = tt
ascends_map f h (x ∷ xs) a = (
  λ y m. let r = of_map f xs y m in subst (λ (z : Trace). Earlier (f x) z) r.2 (h x r.0 (a.0 r.0 r.1)),
  ascends_map f h xs a.1,
)

pub firsts_none : (k : ℕ) (P : Kind) → ((x : Trace) → P x → ⊥) → Firsts k P []
firsts_none k P h = record {
  ordered = tt;
  few = omega arith;
  are = λ x m. absurd (none_in x m);
  rest = λ x p. absurd (h x p);
}

pub firsts_one : (k : ℕ) (P : Kind) (y : Trace) → 1 ≤ k → P y → ((x : Trace) → P x → x ≡ y) → Firsts k P (y ∷ [])
firsts_one k P y l p h = record {
  ordered = (λ x m. absurd (none_in x m), tt);
  few = l;
  are = λ x m. subst P (one_in y x m) p;
  rest = λ x q. inl (subst (λ (z : Trace). Contains (y ∷ []) z) (sym (h x q)) (head_in y []));
}

-- the same in other words
pub firsts_same : (k : ℕ) (P Q : Kind) (xs : List Trace) → ((x : Trace) → P x → Q x) → ((x : Trace) → Q x → P x) → Firsts k P xs → Firsts k Q xs
firsts_same k P Q xs i j a = record {
  ordered = a.ordered;
  few = a.few;
  are = λ x m. i x (a.are x m);
  rest = λ x q. a.rest x (j x q);
}

-- each of them changed, so that their order stays
pub firsts_map : (k : ℕ) (P Q : Kind) (f : Trace → Trace) (xs : List Trace) → ((x y : Trace) → Earlier x y → Earlier (f x) (f y))
    → ((x : Trace) → P x → Q (f x)) → ((y : Trace) → Q y → (x : Trace) × P x × (y ≡ f x)) → Firsts k P xs → Firsts k Q (map f xs)
firsts_map k P Q f xs h i j a = record {
  ordered = ascends_map f h xs a.ordered;
  few = subst (λ (n : ℕ). n ≤ k) (sym (map_length f xs)) a.few;
  are = λ y m. let r = of_map f xs y m in subst Q r.2 (i r.0 (a.are r.0 r.1));
  rest = λ y q. let r = j y q in elim (a.rest r.0 r.1) [
    | inl m ↦ inl (subst (λ (z : Trace). Contains (map f xs) z) (sym r.2) (in_map f xs r.0 m))
    | inr m ↦ inr (
      subst (λ (n : ℕ). k ≤ n) (sym (map_length f xs)) m.0,
      λ z n. let s = of_map f xs z n in subst (λ (u : Trace). Earlier u y) s.2 (subst (λ (u : Trace). Earlier (f s.0) u) (sym r.2) (h s.0 r.0 (m.1 s.0 s.1))),
    )
  ];
}

-- Those of one kind, all of which are listed, and then those of a later one.
pub firsts_append : (k : ℕ) (P Q L : Kind) (xs ys : List Trace) → ((x : Trace) → P x → L x) → ((x : Trace) → Q x → L x) → ((x : Trace) → L x → P x ⊎ Q x)
    → ((x y : Trace) → P x → Q y → Earlier x y) → length xs < k → Firsts k P xs → Firsts (k - length xs) Q ys → Firsts k L (xs ++ ys)
firsts_append k P Q L xs ys i j l h s a b =
    let all : length (xs ++ ys) ≡ length xs + length ys = append_length xs ys in
    let few : length ys ≤ k - length xs = b.few in record {
      ordered = ascends_append xs ys a.ordered b.ordered (λ x y m n. h x y (a.are x m) (b.are y n));
      few = omega (arith, s, all, few);
      are = λ x m. elim (in_cases xs ys x m) [ inl n ↦ i x (a.are x n) | inr n ↦ j x (b.are x n) ];
      rest = λ x q. elim (l x q) [
        | inl p ↦ elim (a.rest x p) [
          | inl m ↦ inl (in_left xs ys x m)
          | inr m ↦ absurd (let full : k ≤ length xs = m.0 in omega (arith, s, full))
        ]
        | inr p ↦ elim (b.rest x p) [
          | inl m ↦ inl (in_right xs ys x m)
          | inr m ↦ inr (
            (let full : k - length xs ≤ length ys = m.0 in omega (arith, s, all, full)),
            λ y n. elim (in_cases xs ys y n) [ inl o ↦ h y x (a.are y o) p | inr o ↦ m.1 y o ],
          )
        ]
      ];
    }

-- Where the list is full, those of a later kind stay out.
pub firsts_full : (k : ℕ) (P Q L : Kind) (xs : List Trace) → ((x : Trace) → P x → L x) → ((x : Trace) → L x → P x ⊎ Q x)
    → ((x y : Trace) → P x → Q y → Earlier x y) → k ≤ length xs → Firsts k P xs → Firsts k L xs
firsts_full k P Q L xs i l h s a = record {
  ordered = a.ordered;
  few = a.few;
  are = λ x m. i x (a.are x m);
  rest = λ x q. elim (l x q) [
    | inl p ↦ a.rest x p
    | inr p ↦ inr (s, λ y n. h y x (a.are y n) p)
  ];
}
