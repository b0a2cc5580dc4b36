-- Sets of slots that are added to others.
use Rattle.std.proofs.Common.{◌≡◌, ◌∙◌, sym, ap, refl, List, ◌<◌, ◌≤◌, length, arith, inl, inr}
use Rattle.std.specs.Prelude.{◌⊎◌, ◌==◌, ◌||◌, ◌&&◌, ◌+◌, ℕ, Bool, true, false}
use Rattle.std.proofs.lemmas.Bool.{cases_lt}
use Rattle.std.proofs.lemmas.Bool.Decides.{nat_tests}
use Rattle.std.proofs.lemmas.List.{get_or_past}
use Rattle.names_term_parts.specs.Marks.{Absorbs, Lacks, has}

pub absorbs_none : (old other : List Bool) → Absorbs 0 old other old
absorbs_none old other = record {
  kept = λ i h. h;
  added = λ i lt h. absurd (omega arith);
  sound = λ i h. inl h;
}

-- what a test of either tells
pub or_cases : (a b : Bool) → (a || b) ≡ true → (a ≡ true) ⊎ (b ≡ true)
or_cases true b h = inl refl
or_cases false b h = inr h

pub or_left : (a b : Bool) → a ≡ true → (a || b) ≡ true
or_left true b h = refl
or_left false b h = absurd (cc)

pub or_right : (a b : Bool) → b ≡ true → (a || b) ≡ true
or_right true b h = refl
or_right false b h = h

pub and_cases : (a b : Bool) → (a && b) ≡ true → (a ≡ true) × (b ≡ true)
and_cases true b h = (refl, h)
and_cases false b h = absurd (cc)

pub and_both : (a b : Bool) → a ≡ true → b ≡ true → (a && b) ≡ true
and_both true b h k = k
and_both false b h k = absurd (cc)

pub same : (i j : ℕ) → (i == j) ≡ true → i ≡ j
same i j h = grind (arith, nat_tests)

pub are_same : (i j : ℕ) → i ≡ j → (i == j) ≡ true
are_same i j h = grind (arith, nat_tests)

pub absorbs_more : (n : ℕ) (old other now new : List Bool) → Absorbs n old other now → ((i : ℕ) → has new i ≡ ((has other n && (i == n)) || has now i)) → Absorbs (n + 1) old other new
absorbs_more n old other now new h taken = record {
  kept = λ i k. taken i ∙ or_right (has other n && (i == n)) (has now i) (h.kept i k);
  added = λ i lt k. taken i ∙ elim (cases_lt i n) [
    | inl below ↦ or_right (has other n && (i == n)) (has now i) (h.added i below k)
    | inr above ↦ let e : i ≡ n = omega arith in or_left (has other n && (i == n)) (has now i) (and_both (has other n) (i == n) (ap (has other) (sym e) ∙ k) (are_same i n e))
  ];
  sound = λ i k. elim (or_cases (has other n && (i == n)) (has now i) (sym (taken i) ∙ k)) [
    | inl own ↦ let both : (has other n ≡ true) × ((i == n) ≡ true) = and_cases (has other n) (i == n) own in let e : i ≡ n = same i n both.1 in inr ((omega arith), ap (has other) e ∙ both.0)
    | inr old_one ↦ elim (h.sound i old_one) [ inl o ↦ inl o | inr p ↦ let lt : i < n = p.0 in inr ((omega arith), p.1) ]
  ];
}

-- a marked slot is within the marks
pub has_within : (marks : List Bool) (i : ℕ) → has marks i ≡ true → i < length marks
has_within marks i h = elim (cases_lt i (length marks)) [
  | inl under ↦ under
  | inr over ↦ absurd (true_false (sym h ∙ get_or_past marks i false over))
]
  where
    true_false : true ≡ false → ⊥
    true_false q = cc

-- a set that has all slots of another before the end of it
pub lacks_none : (n : ℕ) (marks other : List Bool) → length other ≤ n → ((i : ℕ) → i < n → has other i ≡ true → has marks i ≡ true) → Lacks marks other → ⊥
lacks_none n marks other end h l =
    let lt : l.0 < length other = has_within other l.0 l.1 in
    let on : has marks l.0 ≡ true = h l.0 (omega (arith, lt, end)) l.1 in
    absurd (let q : true ≡ false = sym on ∙ l.2 in cc)

-- no slot is marked behind the marks
pub absorbs_all : (n below : ℕ) (old other new : List Bool) → n ≤ below → ((n ≡ below) ⊎ (length other ≤ n)) → Absorbs n old other new → Absorbs below old other new
absorbs_all n below old other new le end h = record {
  kept = h.kept;
  added = λ i lt k. elim end [
    | inl e ↦ h.added i (omega arith) k
    | inr past ↦ elim (cases_lt i n) [
      | inl under ↦ h.added i under k
      | inr over ↦ let over_all : length other ≤ i = omega arith in absurd (true_false (sym k ∙ get_or_past other i false over_all))
    ]
  ];
  sound = λ i k. elim (h.sound i k) [ inl o ↦ inl o | inr p ↦ let lt : i < n = p.0 in inr ((omega arith), p.1) ];
}
  where
    true_false : true ≡ false → ⊥
    true_false q = cc
