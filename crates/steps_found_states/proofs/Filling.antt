-- A variable gets a value.
use Rattle.std.proofs.Common.{◌≡◌, ◌⊎◌, inl, inr, refl, sym, ◌∙◌, ap, subst, arith, tests, ℕ, zero, suc, ◌<◌, Bool, true, false, ◌||◌, ◌==◌, List, [], ◌∷◌, ◌++◌, length, map}
use Rattle.std.specs.Prelude.{Contains, Option, Some, None, slice_get, slice_set}
use Rattle.std.specs.List.{AllByRecursion}
use Rattle.std.proofs.lemmas.List.{length-set}
use Rattle.values_core.specs.Data.{Val}
use Rattle.values_core.specs.IsValue.{IsValue}
use Rattle.values_core.specs.Ascending.{head_in, none_in}
use Rattle.states_core.specs.States.{Values}
use Rattle.eval_meanings.specs.Contexts.{Places}
use Rattle.eval_meanings.specs.Laws.{IsWithin}
use Rattle.actions_meanings.specs.Reads.{VariableSet, with_variable}
use Rattle.logs_updates.specs.Changes.{LeadsTo}
use Rattle.logs_updates.specs.declared.update.See.{See}
use Rattle.steps_lines_defs.specs.Asks.{AreSeen, IsSeen}
use Rattle.actions_meanings.specs.Filled.{Completes, Fills}
use Rattle.steps_found_states.specs.Walks.{Agrees, StaysPossible}
use Rattle.steps_found_states.specs.Filling.{AgreesAt, Gets, HasSuch}
use Rattle.steps_found_states.proofs.Lists.{all_by_place, place_by_all, all_in, all_from, one_in, in_left, in_right, in_cases}
use Rattle.steps_found_states.proofs.Finding.{finds_here, finds_none, finds_also}

same_some : (v w : Val) → ◌≡◌ {A = Option Val} (Some v) (Some w) → v ≡ w
same_some v w e = cc

same_place : (v w : Val) → ◌≡◌ {A = Option (Option Val)} (Some (Some v)) (Some (Some w)) → v ≡ w
same_place v w e = cc

empty_place : (v : Val) → ◌≡◌ {A = Option (Option Val)} (Some None) (Some (Some v)) → ⊥
empty_place v e = cc

true_false : true ≡ false → ⊥
true_false e = cc

-- reading behind a write

get_set_same : {X : Type 0} (xs : List X) (i : ℕ) (y : X) → i < length xs → slice_get (slice_set xs i y) i ≡ Some y
get_set_same [] i y h = absurd (omega (arith, h))
get_set_same (x ∷ xs) zero y h = refl
get_set_same (x ∷ xs) (suc i) y h = get_set_same xs i y (omega (arith, h))

get_set_other : {X : Type 0} (xs : List X) (i j : ℕ) (y : X) → (j ≡ i → ⊥) → slice_get (slice_set xs i y) j ≡ slice_get xs j
get_set_other [] i j y h = refl
get_set_other (x ∷ xs) zero zero y h = absurd (h refl)
get_set_other (x ∷ xs) zero (suc j) y h = refl
get_set_other (x ∷ xs) (suc i) zero y h = refl
get_set_other (x ∷ xs) (suc i) (suc j) y h = get_set_other xs i j y (λ e. h (ap suc e))

same_or_not : (y x : ℕ) → (y ≡ x) ⊎ (y ≡ x → ⊥)
same_or_not zero zero = inl refl
same_or_not zero (suc x) = inr (λ e. omega (arith, e))
same_or_not (suc y) zero = inr (λ e. omega (arith, e))
same_or_not (suc y) (suc x) = elim (same_or_not y x) [
  | inl e ↦ inl (ap suc e)
  | inr n ↦ inr (λ e. n (omega (arith, e)))
]

pub get_of_map : (t : Values) (x : ℕ) (v : Val) → slice_get (map Some t) x ≡ Some (Some v) → slice_get t x ≡ Some v
get_of_map [] x v e = absurd (nothing e)
  where
    nothing : ◌≡◌ {A = Option (Option Val)} None (Some (Some v)) → ⊥
    nothing e = cc
get_of_map (w ∷ t) zero v e = ap Some (same_place w v e)
get_of_map (w ∷ t) (suc x) v e = get_of_map t x v e

pub get_in_map : (t : Values) (x : ℕ) (v : Val) → slice_get t x ≡ Some v → slice_get (map Some t) x ≡ Some (Some v)
get_in_map [] x v e = absurd (nothing e)
  where
    nothing : ◌≡◌ {A = Option Val} None (Some v) → ⊥
    nothing e = cc
get_in_map (w ∷ t) zero v e = ap (λ (u : Val). Some (Some u)) (same_some w v e)
get_in_map (w ∷ t) (suc x) v e = get_in_map t x v e

get_below : {X : Type 0} (xs : List X) (i : ℕ) → i < length xs → (x : X) × (slice_get xs i ≡ Some x)
get_below [] i h = absurd (omega (arith, h))
get_below (x ∷ xs) zero h = (x, refl)
get_below (x ∷ xs) (suc i) h = get_below xs i (omega (arith, h))

-- sets with one more

with_itself : (B : VariableSet) (x : ℕ) → with_variable B x x ≡ true
with_itself B x = by_bool (B x) (x == x) (same x)
  where
    same : (x : ℕ) → (x == x) ≡ true
    same x = search (arith, tests)

    by_bool : (a b : Bool) → b ≡ true → (a || b) ≡ true
    by_bool true b e = refl
    by_bool false b e = e

with_other : (B : VariableSet) (x y : ℕ) → (y ≡ x → ⊥) → with_variable B x y ≡ B y
with_other B x y n = by_bool (B y) (x == y) (other x y n)
  where
    other : (x y : ℕ) → (y ≡ x → ⊥) → (x == y) ≡ false
    other x y n = search (arith, tests)

    by_bool : (a b : Bool) → b ≡ false → (a || b) ≡ a
    by_bool true b e = refl
    by_bool false b e = e

-- what has a value in the places has it in what completes them
pub completes_get : (p : Places) (t : Values) (x : ℕ) (v : Val) → Completes p t → slice_get p x ≡ Some (Some v) → slice_get t x ≡ Some v
completes_get p t x v k e = get_of_map t x v (k.has x v e)

-- the places with one more value

set_within : (p : Places) (x : ℕ) (v : Val) → slice_get p x ≡ Some None → IsWithin p (slice_set p x (Some v))
set_within p x v e y w h = elim (same_or_not y x) [
  | inl s ↦ absurd (empty_place w (sym (subst (λ (z : ℕ). slice_get p z ≡ Some None) (sym s) e) ∙ h))
  | inr n ↦ get_set_other p x y (Some v) n ∙ h
]

set_completes : (p : Places) (x : ℕ) (v : Val) (t : Values) → x < length p → Completes p t → slice_get t x ≡ Some v → Completes (slice_set p x (Some v)) t
set_completes p x v t l k e = record {
  long = k.long ∙ sym (length-set p x (Some v));
  has = λ y w h. elim (same_or_not y x) [
    | inl s ↦
        let here : slice_get (slice_set p x (Some v)) y ≡ Some (Some v) = subst (λ (z : ℕ). slice_get (slice_set p x (Some v)) z ≡ Some (Some v)) (sym s) (get_set_same p x (Some v) l) in
        let same : v ≡ w = same_place v w (sym here ∙ h) in
        subst (λ (z : ℕ). slice_get (map Some t) z ≡ Some (Some w)) (sym s) (get_in_map t x w (e ∙ ap Some same))
    | inr n ↦ k.has y w (sym (get_set_other p x y (Some v) n) ∙ h)
  ];
  values = k.values;
}

-- a state with the value in place of its own
set_values : (t : Values) (x : ℕ) (v : Val) → AllByRecursion IsValue t → IsValue v → AllByRecursion IsValue (slice_set t x v)
set_values [] x v a h = tt
set_values (w ∷ t) zero v a h = (h, a.1)
set_values (w ∷ t) (suc x) v a h = (a.0, set_values t x v a.1 h)

set_possible : (p : Places) (x : ℕ) (v : Val) → x < length p → IsValue v → StaysPossible p (slice_set p x (Some v))
set_possible p x v l h u k = (
  slice_set u x v,
  record {
    long = length-set u x v ∙ k.long ∙ sym (length-set p x (Some v));
    has = λ y w e. elim (same_or_not y x) [
      | inl s ↦
          let here : slice_get (slice_set p x (Some v)) y ≡ Some (Some v) = subst (λ (z : ℕ). slice_get (slice_set p x (Some v)) z ≡ Some (Some v)) (sym s) (get_set_same p x (Some v) l) in
          let there : slice_get (slice_set u x v) y ≡ Some v = subst (λ (z : ℕ). slice_get (slice_set u x v) z ≡ Some v) (sym s) (get_set_same u x v (omega (arith, l, k.long))) in
          get_in_map (slice_set u x v) y w (there ∙ ap Some (same_place v w (sym here ∙ e)))
      | inr n ↦ get_in_map (slice_set u x v) y w (get_set_other u x y v n ∙ get_of_map u y w (k.has y w (sym (get_set_other p x y (Some v) n) ∙ e)))
    ];
    values = all_by_place IsValue (slice_set u x v) (set_values u x v (place_by_all IsValue u k.values) h);
  },
)

set_fills : (B : VariableSet) (p : Places) (x : ℕ) (v : Val) → x < length p → Fills B p → Fills (with_variable B x) (slice_set p x (Some v))
set_fills B p x v l f y h = elim (same_or_not y x) [
  | inl s ↦ (
    λ e. (v, subst (λ (z : ℕ). slice_get (slice_set p x (Some v)) z ≡ Some (Some v)) (sym s) (get_set_same p x (Some v) l)),
    λ w. subst (λ (z : ℕ). with_variable B x z ≡ true) (sym s) (with_itself B x),
  )
  | inr n ↦
      let own = f y (omega (arith, h, length-set p x (Some v))) in (
        λ e. let w = own.0 (sym (with_other B x y n) ∙ e) in (w.0, get_set_other p x y (Some v) n ∙ w.1),
        λ w. with_other B x y n ∙ own.1 (w.0, sym (get_set_other p x y (Some v) n) ∙ w.1),
      )
]

-- one that has a value already
same_fills : (B : VariableSet) (p : Places) (x : ℕ) (v : Val) → slice_get p x ≡ Some (Some v) → Fills B p → Fills (with_variable B x) p
same_fills B p x v e f y h = elim (same_or_not y x) [
  | inl s ↦ (
    λ k. (v, subst (λ (z : ℕ). slice_get p z ≡ Some (Some v)) (sym s) e),
    λ w. subst (λ (z : ℕ). with_variable B x z ≡ true) (sym s) (with_itself B x),
  )
  | inr n ↦ (λ k. (f y h).0 (sym (with_other B x y n) ∙ k), λ w. with_other B x y n ∙ (f y h).1 w)
]

-- of one thing that is seen
abbrev AgreesOne : Places → See → Type 0
AgreesOne p s = (w : Val) → slice_get p s.path.variable.0 ≡ Some (Some w) → LeadsTo s.path.keys w s.value

abbrev StandsIn : ℕ → Val → See → Type 0
StandsIn x v s = s.path.variable.0 ≡ x → LeadsTo s.path.keys v s.value

set_agrees : (sees : List See) (p : Places) (x : ℕ) (v : Val) → x < length p → Agrees sees p → AgreesAt sees x v → Agrees sees (slice_set p x (Some v))
set_agrees sees p x v l a b = all_by_place (AgreesOne (slice_set p x (Some v))) sees
    (all_from (AgreesOne (slice_set p x (Some v))) sees (λ s m. one s (all_in (AgreesOne p) sees (place_by_all (AgreesOne p) sees a) s m) (all_in (StandsIn x v) sees (place_by_all (StandsIn x v) sees b) s m)))
  where
    one : (s : See) → ((w : Val) → slice_get p s.path.variable.0 ≡ Some (Some w) → LeadsTo s.path.keys w s.value) → (s.path.variable.0 ≡ x → LeadsTo s.path.keys v s.value)
        → (w : Val) → slice_get (slice_set p x (Some v)) s.path.variable.0 ≡ Some (Some w) → LeadsTo s.path.keys w s.value
    one s f g w e = elim (same_or_not s.path.variable.0 x) [
      | inl i ↦
          let here : slice_get (slice_set p x (Some v)) s.path.variable.0 ≡ Some (Some v) = subst (λ (z : ℕ). slice_get (slice_set p x (Some v)) z ≡ Some (Some v)) (sym i) (get_set_same p x (Some v) l) in
          subst (λ (u : Val). LeadsTo s.path.keys u s.value) (same_place v w (sym here ∙ e)) (g i)
      | inr n ↦ f w (sym (get_set_other p x s.path.variable.0 (Some v) n) ∙ e)
    ]

-- what is seen stands in the value that the variable has
pub seen_agrees : (sees : List See) (t : Values) (x : ℕ) (v : Val) → AreSeen sees t → slice_get t x ≡ Some v → AgreesAt sees x v
seen_agrees sees t x v s e = all_by_place (StandsIn x v) sees (all_from (StandsIn x v) sees (λ see m i.
    let w = all_in (IsSeen t) sees (place_by_all (IsSeen t) sees s) see m in
    subst (λ (u : Val). LeadsTo see.path.keys u see.value) (same_some w.0 v (sym w.1 ∙ subst (λ (z : ℕ). slice_get t z ≡ Some v) (sym i) e)) w.2))

-- What giving the variable a value finds.

with_fills : (B C : VariableSet) (x : ℕ) (p : Places) → C ≡ with_variable B x → Fills (with_variable B x) p → Fills C p
with_fills B C x p e f = subst (λ (X : VariableSet). Fills X p) (sym e) f

-- the places themselves, where it has such a value already
pub gets_same : (sees : List See) (B : VariableSet) (p : Places) (x : ℕ) (P : Val → Type 0) (v : Val) → Fills B p → Agrees sees p → slice_get p x ≡ Some (Some v) → P v → Gets sees B p x P (p ∷ [])
gets_same sees B p x P v f a e h =
    finds_here sees p _ (HasSuch x P) _ a (λ C i. with_fills B C x p i (same_fills B p x v e f)) (λ t k. (v, completes_get p t x v k e, h)) (λ t g k s n. n)

-- nothing, where it has another
pub gets_other : (sees : List See) (B : VariableSet) (p : Places) (x : ℕ) (P : Val → Type 0) (v : Val) → slice_get p x ≡ Some (Some v) → (P v → ⊥) → Gets sees B p x P []
gets_other sees B p x P v e n =
    finds_none sees p _ (HasSuch x P) _ (λ t k s h. n (subst P (same_some h.0 v (sym h.1 ∙ completes_get p t x v k e)) h.2)) (λ t g k s m. m)

-- the places with the value, where it has none
pub gets_new : (sees : List See) (B : VariableSet) (p : Places) (x : ℕ) (P : Val → Type 0) (v : Val) → Fills B p → Agrees sees p → x < length p → slice_get p x ≡ Some None → AgreesAt sees x v → IsValue v
    → P v → ((w : Val) → P w → w ≡ v) → Gets sees B p x P (slice_set p x (Some v) ∷ [])
gets_new sees B p x P v f a l e b valued h one = record {
  further = λ q m. subst (λ (r : Places). (length r ≡ length p) × IsWithin p r × StaysPossible p r) (one_in new q m) (length-set p x (Some v), set_within p x v e, set_possible p x v l valued);
  agree = λ q m. subst (λ (r : Places). Agrees sees r) (one_in new q m) (set_agrees sees p x v l a b);
  filled = λ q C m i. subst (λ (r : Places). Fills C r) (one_in new q m) (with_fills B C x new i (set_fills B p x v l f));
  sound = λ q t m k. (v, completes_get new t x v (subst (λ (r : Places). Completes r t) (sym (one_in new q m)) k) (get_set_same p x (Some v) l), h);
  full = λ t k s g. (new, head_in new [], set_completes p x v t l k (g.1 ∙ ap Some (one g.0 g.2)));
  clean = λ t g k s m. m;
}
  where
    new : Places
    new = slice_set p x (Some v)

-- nothing, where what is seen does not stand in any such value
pub gets_unseen : (sees : List See) (B : VariableSet) (p : Places) (x : ℕ) (P : Val → Type 0) → ((v : Val) → P v → AgreesAt sees x v → ⊥) → Gets sees B p x P []
gets_unseen sees B p x P n = finds_none sees p _ (HasSuch x P) _ (λ t k s h. n h.0 h.2 (seen_agrees sees t x h.0 s h.1)) (λ t g k s m. m)

-- no value at all
pub gets_none : (sees : List See) (B : VariableSet) (p : Places) (x : ℕ) → Gets sees B p x (Contains []) []
gets_none sees B p x = finds_none sees p _ (HasSuch x (Contains [])) _ (λ t k s h. none_in h.0 h.2) (λ t g k s m. m)

-- one value more
pub gets_more : (sees : List See) (B : VariableSet) (p : Places) (x : ℕ) (vs : List Val) (v : Val) (qs rs : List Places) → Gets sees B p x (Contains vs) qs → Gets sees B p x (λ w. w ≡ v) rs
    → Gets sees B p x (Contains (vs ++ v ∷ [])) (qs ++ rs)
gets_more sees B p x vs v qs rs a b =
    finds_also sees p _ (HasSuch x (Contains vs)) (HasSuch x (λ w. w ≡ v)) (HasSuch x (Contains (vs ++ v ∷ []))) _ _ _ qs rs
    (λ t h. (h.0, h.1, in_left vs (v ∷ []) h.0 h.2)) (λ t h. (h.0, h.1, in_right vs (v ∷ []) h.0 (subst (λ (w : Val). Contains (v ∷ []) w) (sym h.2) (head_in v [])))) by_part (λ t f h. absurd h) a b
  where
    by_part : (t : Values) → HasSuch x (Contains (vs ++ v ∷ [])) t → HasSuch x (Contains vs) t ⊎ HasSuch x (λ w. w ≡ v) t
    by_part t h = elim (in_cases vs (v ∷ []) h.0 h.2) [
      | inl m ↦ inl (h.0, h.1, m)
      | inr m ↦ inr (h.0, h.1, sym (one_in v h.0 m))
    ]

-- where the whole value of the variable is seen, that value alone is looked at
pub gets_seen : (sees : List See) (B : VariableSet) (p : Places) (x : ℕ) (P : Val → Type 0) (see : See) (qs : List Places) → Contains sees see → see.path.variable.0 ≡ x → see.path.keys ≡ []
    → P see.value → Gets sees B p x (λ w. w ≡ see.value) qs → Gets sees B p x P qs
gets_seen sees B p x P see qs m i e h a = record {
  further = a.further;
  agree = a.agree;
  filled = a.filled;
  sound = λ q t n k. let w = a.sound q t n k in (w.0, w.1, subst P (sym w.2) h);
  full = λ t k s g. a.full t k s (g.0, g.1, seen_whole sees t x g.0 see m i e s g.1);
  clean = a.clean;
}
  where
    seen_whole : (sees : List See) (t : Values) (x : ℕ) (v : Val) (see : See) → Contains sees see → see.path.variable.0 ≡ x → see.path.keys ≡ [] → AreSeen sees t → slice_get t x ≡ Some v → v ≡ see.value
    seen_whole sees t x v see m i e s g =
        let r : LeadsTo see.path.keys v see.value = all_in (StandsIn x v) sees (place_by_all (StandsIn x v) sees (seen_agrees sees t x v s g)) see m i in
        let q : LeadsTo [] v see.value = subst (λ (ks : List Val). LeadsTo ks v see.value) e r in
        sym q

pub gets_unseen_whole : (sees : List See) (B : VariableSet) (p : Places) (x : ℕ) (P : Val → Type 0) (see : See) → Contains sees see → see.path.variable.0 ≡ x → see.path.keys ≡ [] → (P see.value → ⊥) → Gets sees B p x P []
gets_unseen_whole sees B p x P see m i e n = gets_unseen sees B p x P (λ v h a.
    let r : LeadsTo see.path.keys v see.value = all_in (StandsIn x v) sees (place_by_all (StandsIn x v) sees a) see m i in
    let q : LeadsTo [] v see.value = subst (λ (ks : List Val). LeadsTo ks v see.value) e r in
    n (subst P (sym q) h))
