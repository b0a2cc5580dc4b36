-- What is kept of branches, and what may be read at places that some state completes.
use Rattle.std.proofs.Common.{◌≡◌, inl, inr, refl, sym, ap, ◌∙◌, subst, ℕ, zero, suc, ◌+◌, List, [], ◌∷◌, ◌++◌, map, length, drop, arith}
use Rattle.std.specs.Prelude.{Contains, IfOk, Option, None, Some, Result, Ok, Err, slice_get}
use Rattle.values_core.specs.IsValue.{IsValue}
use Rattle.values_core.specs.Ascending.{cons_cases, head_in, none_in, tail_in}
use Rattle.states_core.specs.States.{Values}
use Rattle.names_terms.specs.Terms.{Term}
use Rattle.eval_meanings.specs.Contexts.{Context, Places, Table}
use Rattle.eval_meanings.specs.Laws.{HoldValues, ReadsValues}
use Rattle.actions_meanings.specs.declared.which.Which.{Which}
use Rattle.actions_meanings.specs.declared.which.Which.TheVariants as which
use Rattle.actions_meanings.specs.Filled.{Completes, at_next}
use Rattle.steps_found_states.proofs.Filling.{get_of_map}
use Rattle.steps_found_states.proofs.Lists.{all_in, in_right, place_by_all}
use Rattle.steps_why_branches.specs.Traces.{Earlier, End, SparedPart, Stood, Trace, added, ended, passed}
use Rattle.steps_why_branches.specs.Firsts.{Ascends}
use Rattle.steps_why_branches.proofs.Elements.{map_length}
use Rattle.steps_why_branches.proofs.FoundParts.{AllEarlier}
use Rattle.steps_why_branches.specs.declared.why.Ended.{Ended}
use Rattle.steps_why_walk.specs.Ends.{end_of, end_with, first_spared, kept, with_first}

-- lists

pub get_there : {X : Type 0} (xs : List X) (x : X) → Contains xs x → (k : ℕ) × (slice_get xs k ≡ Some x)
get_there [] x h = absurd (none_in x h)
get_there (y ∷ xs) x h = elim (cons_cases y xs x h) [
  | inl e ↦ (0, ap Some e)
  | inr g ↦ let r = get_there xs x g in (suc r.0, r.1)
]

pub there_get : {X : Type 0} (xs : List X) (k : ℕ) (x : X) → slice_get xs k ≡ Some x → Contains xs x
there_get [] k x e = absurd (nothing x e)
  where
    nothing : {X : Type 0} (x : X) → ◌≡◌ {A = Option X} None (Some x) → ⊥
    nothing x e = cc
there_get (y ∷ xs) zero x e = subst (λ z. Contains (y ∷ xs) z) (same y x e) (head_in y xs)
  where
    same : {X : Type 0} (y x : X) → ◌≡◌ {A = Option X} (Some y) (Some x) → y ≡ x
    same y x e = cc
there_get (y ∷ xs) (suc k) x e = tail_in y xs x (there_get xs k x e)

-- what may be read where some state completes the places

holds_here : (p : Places) (t : Values) → Completes p t → HoldValues p
holds_here p t k v m =
    let r = get_there p (Some v) m in
    all_in IsValue t (place_by_all IsValue t k.values) v (there_get t r.0 v (get_of_map t r.0 v (k.has r.0 v r.1)))

pub reads_here : (ops : Table) (w : Which) (c : Context) (a : Term) (p : Places) (t : Values) → Completes p t → ReadsValues ops (at_next w c (map Some t)) a → ReadsValues ops (at_next w c p) a
reads_here ops which.Init c a p t k r = record { slots = r.slots; now = holds_here p t k; next = holds_here p t k; known = r.known; definitions = r.definitions }
reads_here ops which.Action c a p t k r = record { slots = r.slots; now = r.now; next = holds_here p t k; known = r.known; definitions = r.definitions }

-- ends of branches

pub kept_append : (xs ys : List Trace) → kept (xs ++ ys) ≡ kept xs ++ kept ys
kept_append [] ys = refl
kept_append (x ∷ xs) ys = ap (λ (us : List Ended). end_of x ∷ us) (kept_append xs ys)

pub kept_map : (f : Trace → Trace) → ((x : Trace) → end_of (f x) ≡ end_of x) → (xs : List Trace) → kept (map f xs) ≡ kept xs
kept_map f h [] = refl
kept_map f h (x ∷ xs) = let e = h x in let k = kept_map f h xs in λ i. e i ∷ k i

-- with what was passed over before
pub end_behind : (us ws : List SparedPart) (n : End) → end_with (us ++ ws) n ≡ with_first (first_spared us) (end_with ws n)
end_behind [] ws n = refl
end_behind (u ∷ us) ws (passed q) = refl
end_behind (u ∷ us) ws (ended q s w) = refl

pub kept_behind : (s : Stood) (y : Trace) (xs : List Trace) → kept (map (added s y) xs) ≡ map (with_first (first_spared y.spared)) (kept xs)
kept_behind s y [] = refl
kept_behind s y (x ∷ xs) = let e = end_behind y.spared x.spared x.end in let k = kept_behind s y xs in λ i. e i ∷ k i

-- behind a branch in which nothing was passed over
pub same_behind : (ns : List Ended) → map (with_first None) ns ≡ ns
same_behind [] = refl
same_behind (n ∷ ns) = ap (λ (us : List Ended). n ∷ us) (same_behind ns)

-- and behind one that is kept where what follows passes over nothing more
pub end_before : (us : List SparedPart) (n : End) → end_with (us ++ []) n ≡ end_with us n
end_before [] n = refl
end_before (u ∷ us) (passed q) = refl
end_before (u ∷ us) (ended q s w) = refl

pub kept_length : (xs : List Trace) (ends : List Ended) → kept xs ≡ ends → length xs ≡ length ends
kept_length xs ends e = sym (map_length end_of xs) ∙ ap (λ (us : List Ended). length us) e

-- what is kept at an index is kept of what stands there
pub kept_at : (xs : List Trace) (i : ℕ) (n : Ended) (rest : List Ended) → drop i (kept xs) ≡ n ∷ rest → (y : Trace) × (drop i xs ≡ y ∷ drop (i + 1) xs) × (end_of y ≡ n)
kept_at [] zero n rest e = absurd (nothing n rest e)
  where
    nothing : (n : Ended) (rest : List Ended) → ◌≡◌ {A = List Ended} [] (n ∷ rest) → ⊥
    nothing n rest e = cc
kept_at [] (suc i) n rest e = absurd (nothing n rest e)
  where
    nothing : (n : Ended) (rest : List Ended) → ◌≡◌ {A = List Ended} [] (n ∷ rest) → ⊥
    nothing n rest e = cc
kept_at (x ∷ xs) zero n rest e = (x, refl, first (end_of x) n (kept xs) rest e)
  where
    first : (a b : Ended) (us ws : List Ended) → a ∷ us ≡ b ∷ ws → a ≡ b
    first a b us ws e = cc
kept_at (x ∷ xs) (suc i) n rest e =
    let r = kept_at xs i n rest e in
    let one : suc i + 1 ≡ suc (i + 1) = omega arith in
    (r.0, r.1 ∙ ap (λ (ys : List Trace). r.0 ∷ ys) (sym (ap (λ (k : ℕ). drop k (x ∷ xs)) one)), r.2)

-- those before an index are earlier than what stands there
pub earlier_ones : (xs ys : List Trace) (y : Trace) → Ascends (xs ++ y ∷ ys) → AllEarlier xs y
earlier_ones [] ys y a x m = absurd (none_in x m)
earlier_ones (z ∷ xs) ys y a x m = elim (cons_cases z xs x m) [
  | inl e ↦ subst (λ (w : Trace). Earlier w y) e (a.0 y (in_right xs (y ∷ ys) y (head_in y ys)))
  | inr n ↦ earlier_ones xs ys y a.1 x n
]

-- what is said of a value that is handed on
pub ok_then : {A E : Type 0} (r : Result A E) (P Q : A → Type 0) → ((x : A) → P x → Q x) → IfOk r P → IfOk r Q
ok_then (Ok x) P Q f h = f x h
ok_then (Err e) P Q f h = h

-- nothing is left behind
pub all_left : {A : Type 0} (xs rest all : List A) → length rest ≡ 0 → xs ++ rest ≡ all → xs ≡ all
all_left xs [] all z e = sym (to_end xs) ∙ e
  where
    to_end : {A : Type 0} (xs : List A) → xs ++ [] ≡ xs
    to_end [] = refl
    to_end (x ∷ xs) = ap (λ ys. x ∷ ys) (to_end xs)
all_left xs (x ∷ rest) all z e = absurd (omega (arith, z))
