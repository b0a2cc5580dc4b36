-- Bound names have as many values as there are names.
use Rattle.std.proofs.Common.{◌≡◌, inl, inr, refl, sym, ◌∙◌, ap, subst, arith, ℕ, zero, suc, ◌+◌, List, [], ◌∷◌, ◌++◌, length, map}
use Rattle.std.proofs.lemmas.List.{length-append}
use Rattle.std.specs.Prelude.{Contains, Result, Ok, Err}
use Rattle.std.proofs.lemmas.List.Elements.{Contains-append_cases}
use Rattle.base_core.specs.declared.place.Place.{Place}
use Rattle.values_core.specs.Data.{Val}
use Rattle.values_core.specs.Ascending.{cons_cases, none_in}
use Rattle.states_core.specs.declared.fault.Fault.{Fault}
use Rattle.names_terms.specs.Lists.{bounds_list}
use Rattle.names_terms.specs.Terms.{Term, Bounds, NoBounds, MoreBounds, place_of, width}
use Rattle.eval_meanings.specs.Binders.{BoundValues, combinations, members_at, ranges, times, with_each}
use Rattle.eval_meanings.specs.Contexts.{Context, Evaluate}
use Rattle.eval_meanings.specs.Outcomes.{Outcome, Each, Gives, Then}
use Rattle.steps_found_states.proofs.Lists.{of_map}

pub ok_value : {A : Type 0} (v w : A) → ◌≡◌ {A = Result A Fault} (Ok v) (Ok w) → v ≡ w
ok_value v w e = cc

pub ok_no_fault : {A : Type 0} (v : A) (f : Fault) → ◌≡◌ {A = Result A Fault} (Ok v) (Err f) → ⊥
ok_no_fault v f e = cc

abbrev total : List ℕ → ℕ
total [] = 0
total (n ∷ ns) = n + total ns

total_add : (ms ns : List ℕ) → total (ms ++ ns) ≡ total ms + total ns
total_add [] ns = omega arith
total_add (m ∷ ms) ns = omega (arith, total_add ms ns)

map_add : {X Y : Type 0} (f : X → Y) (xs ys : List X) → map f (xs ++ ys) ≡ map f xs ++ map f ys
map_add f [] ys = refl
map_add f (x ∷ xs) ys = let e = map_add f xs ys in λ i. f x ∷ e i

-- a number that each keeps
each_numbers : {A B : Type 0} (P : A → Outcome B) (f : A → ℕ) (g : B → ℕ) → ((x : A) (y : B) → P x (Ok y) → g y ≡ f x) → (xs : List A) (ys : List B) → Each P xs (Ok ys) → map g ys ≡ map f xs
each_numbers P f g h [] ys e = ap (map g) (ok_value ys [] e)
each_numbers P f g h (x ∷ xs) ys (inl (y, k, inl (zs, m, e))) =
    let here = h x y k in
    let rest = each_numbers P f g h xs zs m in
    ap (map g) (ok_value ys (y ∷ zs) e) ∙ (λ i. here i ∷ rest i)
each_numbers P f g h (x ∷ xs) ys (inl (y, k, inr (q, m, e))) = absurd (ok_no_fault ys q e)
each_numbers P f g h (x ∷ xs) ys (inr (q, k, e)) = absurd (ok_no_fault ys q e)

-- as many
pub each_length : {A B : Type 0} (P : A → Outcome B) (xs : List A) (ys : List B) → Each P xs (Ok ys) → length ys ≡ length xs
each_length P [] ys e = ap length (ok_value ys [] e)
each_length P (x ∷ xs) ys (inl (y, k, inl (zs, m, e))) = omega (arith, ap length (ok_value ys (y ∷ zs) e), each_length P xs zs m)
each_length P (x ∷ xs) ys (inl (y, k, inr (q, m, e))) = absurd (ok_no_fault ys q e)
each_length P (x ∷ xs) ys (inr (q, k, e)) = absurd (ok_no_fault ys q e)

width_total : (bs : Bounds) → width bs ≡ total (map (λ (b : ℕ × Term). b.0) (bounds_list bs))
width_total NoBounds = refl
width_total (MoreBounds bs n t) =
    let pushed : map (λ (b : ℕ × Term). b.0) (bounds_list bs ++ (n, t) ∷ []) ≡ map (λ (b : ℕ × Term). b.0) (bounds_list bs) ++ n ∷ [] = map_add (λ (b : ℕ × Term). b.0) (bounds_list bs) ((n, t) ∷ []) in
    omega (arith, width_total bs, ap total pushed, total_add (map (λ (b : ℕ × Term). b.0) (bounds_list bs)) (n ∷ []))

times_length : (n : ℕ) (vs : List Val) → length (times n vs) ≡ n
times_length zero vs = refl
times_length (suc n) vs = omega (arith, times_length n vs)

ranges_length : (bs : List (ℕ × List Val)) → length (ranges bs) ≡ total (map (λ (b : ℕ × List Val). b.0) bs)
ranges_length [] = refl
ranges_length (b ∷ bs) = omega (arith, length-append (times b.0 b.1) (ranges bs), times_length b.0 b.1, ranges_length bs)

with_each_length : (vs : List Val) (rest : List (List Val)) (n : ℕ) → ((c : List Val) → Contains rest c → length c ≡ n) → (c : List Val) → Contains (with_each vs rest) c → length c ≡ suc n
with_each_length [] rest n h c m = absurd (none_in c m)
with_each_length (v ∷ vs) rest n h c m = elim (Contains-append_cases (map (λ chosen. v ∷ chosen) rest) (with_each vs rest) c m) [
  | inl k ↦ let r = of_map (λ (chosen : List Val). v ∷ chosen) rest c k in omega (arith, ap length r.2, h r.0 r.1)
  | inr k ↦ with_each_length vs rest n h c k
]

combinations_length : (lists : List (List Val)) (c : List Val) → Contains (combinations lists) c → length c ≡ length lists
combinations_length [] c m = elim (cons_cases [] [] c m) [
  | inl e ↦ ap length (sym e)
  | inr g ↦ absurd (none_in c g)
]
combinations_length (vs ∷ rest) c m = omega (arith, with_each_length vs (combinations rest) (length rest) (combinations_length rest) c m)

-- the numbers of names are kept
abbrev Names : (ℕ × Place) × Val → ℕ
Names u = u.0.0

set_number : (ev : Evaluate) (c : Context) (b : ℕ × Term) (u : (ℕ × Place) × Val) → Then (ev c b.1) (λ v. Gives {A = (ℕ × Place) × Val} ((b.0, place_of b.1), v)) (Ok u) → u.0.0 ≡ b.0
set_number ev c b u (inl (v, h, e)) = ap Names (ok_value u ((b.0, place_of b.1), v) e)
set_number ev c b u (inr (f, h, e)) = absurd (ok_no_fault u f e)

range_number : (u : (ℕ × Place) × Val) (b : ℕ × List Val) → Then (members_at u.0.1 u.1) (λ vs. Gives {A = ℕ × List Val} (u.0.0, vs)) (Ok b) → b.0 ≡ u.0.0
range_number u b (inl (v, h, e)) = ap (λ (x : ℕ × List Val). x.0) (ok_value b (u.0.0, v) e)
range_number u b (inr (f, h, e)) = absurd (ok_no_fault b f e)

pub bound_lengths : (ev : Evaluate) (c : Context) (bs : Bounds) (all : List (List Val)) → BoundValues ev c bs (Ok all) → (vs : List Val) → Contains all vs → length vs ≡ width bs
bound_lengths ev c bs all (inl (us, h, inl (rs, k, e))) vs m =
    let there : all ≡ combinations (ranges rs) = ok_value all (combinations (ranges rs)) e in
    let numbers = each_numbers {B = ℕ × List Val} (λ u. Then (members_at u.0.1 u.1) (λ vs. Gives (u.0.0, vs))) Names (λ b. b.0) range_number us rs k in
    let before = each_numbers {B = (ℕ × Place) × Val} (λ b. Then (ev c b.1) (λ v. Gives ((b.0, place_of b.1), v))) (λ b. b.0) Names (set_number ev c) (bounds_list bs) us h in
    combinations_length (ranges rs) vs (subst (λ (xs : List (List Val)). Contains xs vs) there m) ∙ (ranges_length rs ∙ (ap total (numbers ∙ before) ∙ sym (width_total bs)))
bound_lengths ev c bs all (inl (us, h, inr (f, k, e))) vs m = absurd (ok_no_fault all f e)
bound_lengths ev c bs all (inr (f, h, e)) vs m = absurd (ok_no_fault all f e)
