-- Bound names: their combinations differ, and each has a value for each name; and what makes keys of them.
use Rattle.std.proofs.Common.{◌≡◌, inl, inr, refl, ap, sym, ◌∙◌, subst, arith, ℕ, zero, suc, ◌+◌, ◌≤◌, List, [], ◌∷◌, ◌++◌, length, map}
use Rattle.std.specs.Prelude.{Bool, true, false, cond, Contains, replicate}
use Rattle.std.specs.List.{AllByRecursion}
use Rattle.std.proofs.lemmas.List.{length-append}
use Rattle.std.proofs.lemmas.List.Elements.{Contains-append_cases}
use Rattle.values_core.specs.Data.{Val, string}
use Rattle.values_core.specs.Ascending.{cons_cases, head_in, tail_in, none_in}
use Rattle.values_core.specs.Order.{val_eq}
use Rattle.values_core.specs.OrderLaws.{val_same}
use Rattle.values_core.specs.FunctionLaws.{key_count, count_cons, none_alike, in_keys}
use Rattle.values_core.specs.Functions.{HasKeyTwice, sequence_of, values_in}
use Rattle.values_core.specs.SetOperations.{AreDifferent}
use Rattle.names_terms.specs.Lists.{bounds_list}
use Rattle.names_terms.specs.Terms.{Term, Bounds, NoBounds, MoreBounds, width}
use Rattle.values_sets.proofs.Tuples.{values-sequence_of}
use Rattle.eval_meanings.specs.Binders.{combinations, ranges, times, with_each}
use Rattle.eval_meanings.specs.Recursion.{sets_of_names}

-- two lists without a common item
both_differ : {X : Type 0} (xs ys : List X) → AreDifferent xs → AreDifferent ys → ((x : X) → Contains xs x → Contains ys x → ⊥) → AreDifferent (xs ++ ys)
both_differ [] ys d e apart = e
both_differ {X = X} (x ∷ xs) ys d e apart = (not_again, both_differ xs ys d.1 e (λ y h g. apart y (tail_in x xs y h) g))
  where
    not_again : Contains (xs ++ ys) x → ⊥
    not_again h = elim (Contains-append_cases xs ys x h) [
      | inl g ↦ d.0 g
      | inr g ↦ apart x (head_in x xs) g
    ]

-- a member before combinations
before_in : (v : Val) (all : List (List Val)) (c : List Val) → Contains (map (λ (chosen : List Val). v ∷ chosen) all) c → (d : List Val) × Contains all d × (c ≡ v ∷ d)
before_in v [] c h = absurd (none_in c h)
before_in v (a ∷ all) c h = elim (cons_cases (v ∷ a) (map (λ (chosen : List Val). v ∷ chosen) all) c h) [
  | inl e ↦ (a, head_in a all, sym e)
  | inr g ↦ let found = before_in v all c g in (found.0, tail_in a all found.0 found.1, found.2)
]

same_head : (v w : Val) (c d : List Val) → v ∷ c ≡ w ∷ d → v ≡ w
same_head v w c d e = cc

same_tail : (v w : Val) (c d : List Val) → v ∷ c ≡ w ∷ d → c ≡ d
same_tail v w c d e = cc

before_differ : (v : Val) (all : List (List Val)) → AreDifferent all → AreDifferent (map (λ (chosen : List Val). v ∷ chosen) all)
before_differ v [] d = tt
before_differ v (a ∷ all) d = (not_again, before_differ v all d.1)
  where
    not_again : Contains (map (λ (chosen : List Val). v ∷ chosen) all) (v ∷ a) → ⊥
    not_again h = let found = before_in v all (v ∷ a) h in d.0 (subst (λ (b : List Val). Contains all b) (sym (same_tail v v a found.0 found.2)) found.1)

each_in : (vs : List Val) (all : List (List Val)) (c : List Val) → Contains (with_each vs all) c → (w : Val) × (d : List Val) × Contains vs w × Contains all d × (c ≡ w ∷ d)
each_in [] all c h = absurd (none_in c h)
each_in (v ∷ vs) all c h = elim (Contains-append_cases (map (λ (chosen : List Val). v ∷ chosen) all) (with_each vs all) c h) [
  | inl g ↦ let found = before_in v all c g in (v, found.0, head_in v vs, found.1, found.2)
  | inr g ↦ let found = each_in vs all c g in (found.0, found.1, tail_in v vs found.0 found.2, found.3, found.4)
]

each_differ : (vs : List Val) (all : List (List Val)) → AreDifferent vs → AreDifferent all → AreDifferent (with_each vs all)
each_differ [] all d e = tt
each_differ (v ∷ vs) all d e = both_differ (map (λ (chosen : List Val). v ∷ chosen) all) (with_each vs all) (before_differ v all e) (each_differ vs all d.1 e) apart
  where
    apart : (c : List Val) → Contains (map (λ (chosen : List Val). v ∷ chosen) all) c → Contains (with_each vs all) c → ⊥
    apart c h g =
        let one = before_in v all c h in
        let other = each_in vs all c g in
        d.0 (subst (λ (w : Val). Contains vs w) (sym (same_head v other.0 one.0 other.1 (sym one.2 ∙ other.4))) other.2)

pub combinations_differ : (lists : List (List Val)) → AllByRecursion (AreDifferent {X = Val}) lists → AreDifferent (combinations lists)
combinations_differ [] d = ((λ h. none_in [] h), tt)
combinations_differ (vs ∷ lists) d = each_differ vs (combinations lists) d.0 (combinations_differ lists d.1)

pub combinations_length : (lists : List (List Val)) (c : List Val) → Contains (combinations lists) c → length c ≡ length lists
combinations_length [] c h = elim (cons_cases [] [] c h) [
  | inl e ↦ sym (ap (λ (d : List Val). length d) e)
  | inr g ↦ absurd (none_in c g)
]
combinations_length (vs ∷ lists) c h =
    let found = each_in vs (combinations lists) c h in ap (λ (d : List Val). length d) found.4 ∙ ap suc (combinations_length lists found.1 found.3)

-- as many values as names

length_times : (n : ℕ) (vs : List Val) → length (times n vs) ≡ n
length_times zero vs = refl
length_times (suc n) vs = ap suc (length_times n vs)

abbrev pub names_in : List ℕ → ℕ
names_in [] = 0
names_in (n ∷ ns) = n + names_in ns

names_add : (ms ns : List ℕ) → names_in (ms ++ ns) ≡ names_in ms + names_in ns
names_add [] ns = omega arith
names_add (m ∷ ms) ns = omega (arith, names_add ms ns)

pub width_names : (bs : Bounds) → width bs ≡ names_in (map (λ (b : ℕ × Term). b.0) (bounds_list bs))
width_names NoBounds = refl
width_names (MoreBounds bs n t) =
    let pushed : map (λ (b : ℕ × Term). b.0) (bounds_list bs ++ (n, t) ∷ []) ≡ map (λ (b : ℕ × Term). b.0) (bounds_list bs) ++ n ∷ [] = mapped (bounds_list bs) in
    omega (arith, width_names bs, ap names_in pushed, names_add (map (λ (b : ℕ × Term). b.0) (bounds_list bs)) (n ∷ []))
  where
    mapped : (xs : List (ℕ × Term)) → map (λ (b : ℕ × Term). b.0) (xs ++ (n, t) ∷ []) ≡ map (λ (b : ℕ × Term). b.0) xs ++ n ∷ []
    mapped [] = refl
    mapped (x ∷ xs) = ap (λ (ms : List ℕ). x.0 ∷ ms) (mapped xs)

pub ranges_length : (bs : List (ℕ × List Val)) → length (ranges bs) ≡ names_in (map (λ (b : ℕ × List Val). b.0) bs)
ranges_length [] = refl
ranges_length (b ∷ bs) = omega (arith, length-append (times b.0 b.1) (ranges bs), length_times b.0 b.1, ranges_length bs)

times_differ : (n : ℕ) (vs : List Val) → AreDifferent vs → AllByRecursion (AreDifferent {X = Val}) (times n vs)
times_differ zero vs d = tt
times_differ (suc n) vs d = (d, times_differ n vs d)

pub ranges_differ : (bs : List (ℕ × List Val)) → AllByRecursion (λ b. AreDifferent b.1) bs → AllByRecursion (AreDifferent {X = Val}) (ranges bs)
ranges_differ [] d = tt
ranges_differ (b ∷ bs) d = both (times b.0 b.1) (times_differ b.0 b.1 d.0) (ranges_differ bs d.1)
  where
    both : (us : List (List Val)) → AllByRecursion (AreDifferent {X = Val}) us → AllByRecursion (AreDifferent {X = Val}) (ranges bs) → AllByRecursion (AreDifferent {X = Val}) (us ++ ranges bs)
    both [] h g = g
    both (u ∷ us) h g = (h.0, both us h.1 g)

-- the sets of names

replicate_length : (n : ℕ) (e : Term) → length (replicate n e) ≡ n
replicate_length zero e = refl
replicate_length (suc n) e = ap suc (replicate_length n e)

pub sets_length : (bs : List (ℕ × Term)) → length (sets_of_names bs) ≡ names_in (map (λ (b : ℕ × Term). b.0) bs)
sets_length [] = refl
sets_length (b ∷ bs) = omega (arith, length-append (replicate b.0 b.1) (sets_of_names bs), replicate_length b.0 b.1, sets_length bs)

-- keys

-- the key is what the values make
abbrev pub IsKeyOf : List Val → Val → Type 0
IsKeyOf (v ∷ []) key = key ≡ v
IsKeyOf vs key = key ≡ sequence_of vs

same_sequence : (us vs : List Val) (key : Val) → key ≡ sequence_of us → key ≡ sequence_of vs → us ≡ vs
same_sequence us vs key e f = sym (values-sequence_of us) ∙ ap values_in (sym e ∙ f) ∙ values-sequence_of vs

pub same_key : (us vs : List Val) (key : Val) → length us ≡ length vs → IsKeyOf us key → IsKeyOf vs key → us ≡ vs
same_key [] [] key n h g = refl
same_key [] (v ∷ vs) key n h g = absurd (omega (arith, n))
same_key (u ∷ us) [] key n h g = absurd (omega (arith, n))
same_key (u ∷ []) (v ∷ []) key n h g = ap (λ (w : Val). w ∷ []) (sym h ∙ g)
same_key (u ∷ []) (v ∷ w ∷ vs) key n h g = absurd (omega (arith, n))
same_key (u ∷ t ∷ us) (v ∷ []) key n h g = absurd (omega (arith, n))
same_key (u ∷ t ∷ us) (v ∷ w ∷ vs) key n h g = same_sequence (u ∷ t ∷ us) (v ∷ w ∷ vs) key h g

-- no key comes twice where the keys differ
different_once : (ps : List (Val × Val)) → AreDifferent (map (λ p. p.0) ps) → (key : Val) → key_count key ps ≤ 1
different_once [] d key = omega arith
different_once (p ∷ ps) d key = by_test (different_once ps d.1 key) (val_eq p.0 key) refl
  where
    most_one : (b : Bool) → cond b 1 0 ≤ 1
    most_one true = omega arith
    most_one false = omega arith

    none : (b : Bool) → b ≡ false → cond b 1 0 ≤ 0
    none true e = cc
    none false e = omega arith

    by_test : key_count key ps ≤ 1 → (b : Bool) → val_eq p.0 key ≡ b → key_count key (p ∷ ps) ≤ 1
    by_test few true e =
        let rest : key_count key ps ≡ 0 = none_alike ps key (λ q g f. d.0 (subst (λ (k : Val). Contains (map (λ (r : Val × Val). r.0) ps) k) (f ∙ sym (val_same p.0 key e)) (in_keys ps q g))) in
        omega (arith, count_cons key p ps, rest, most_one (val_eq p.0 key))
    by_test few false e = omega (arith, count_cons key p ps, few, none (val_eq p.0 key) e)

pub keys_once : (ps : List (Val × Val)) → AreDifferent (map (λ p. p.0) ps) → ¬ HasKeyTwice ps
keys_once ps d t = omega (arith, t.twice, different_once ps d t.key)

-- one name has one string
abbrev string_text : Val → List ℕ
string_text (string s) = s
string_text v = []

pub same_name : (m n : List ℕ) (v : Val) → v ≡ string m → v ≡ string n → m ≡ n
same_name m n v e f = ap string_text (sym e ∙ f)
