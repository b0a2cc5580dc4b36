-- Texts that are told of the elements of a list, one after the other.
use Rattle.std.proofs.Common.{◌≡◌, ◌⊎◌, ◌↔◌, inl, inr, refl, sym, subst, arith, ℕ, ◌≤◌, ◌<◌, ◌+◌, List, [], ◌∷◌, ◌++◌, length, take, get_or}
use Rattle.std.specs.Prelude.{Any, Contains}
use Rattle.std.proofs.lemmas.List.{take_all}
use Rattle.std.proofs.lemmas.List.Elements.{Contains-push, Contains-push_cases, Contains-append_left}
use Rattle.values_core.specs.Ascending.{none_in}
use Rattle.eval_parts.proofs.Loops.{cut_at}
use Rattle.steps_walk.proofs.Loops.{apart}
use Rattle.steps_found_states.proofs.Lists.{any_of, of_any}
use Rattle.run_near_lines.specs.Adding.{Adds, OneSays}
use Rattle.run_near_lines.proofs.FirstTexts.{adds_both, adds_none, adds_so}

module _ {A : Type 0} (P : A → List ℕ → Type 0) where
  says_more : (xs : List A) (x : A) (t : List ℕ) → (OneSays P xs t ⊎ P x t) ↔ OneSays P (xs ++ x ∷ []) t
  says_more xs x t = (
    λ h. elim h [
      | inl k ↦ (let r = of_any (λ y. P y t) xs k in any_of (λ y. P y t) (xs ++ x ∷ []) r.0 (Contains-append_left xs (x ∷ []) r.0 r.1) r.2)
      | inr k ↦ any_of (λ y. P y t) (xs ++ x ∷ []) x (Contains-push xs x) k
    ],
    λ h.
        let r = of_any (λ y. P y t) (xs ++ x ∷ []) h in
        elim (Contains-push_cases xs x r.0 r.1) [
          | inl n ↦ inl (any_of (λ y. P y t) xs r.0 n r.2)
          | inr e ↦ inr (subst (λ y. P y t) (sym e) r.2)
        ],
  )

  says_none : (t : List ℕ) → OneSays P [] t → ⊥
  says_none t h = let r = of_any (λ y. P y t) [] h in absurd (none_in r.0 r.1)

  module _ (k : ℕ) (xs : List A) where
    pub one_starts : (old : List (List ℕ)) → length old ≤ k → Adds k (OneSays P (take 0 xs)) old old
    one_starts old few = adds_none k (OneSays P (take 0 xs)) old few (says_none)

    pub one_step : (old mid new : List (List ℕ)) (i : ℕ) (x : A) → i < length xs → x ≡ get_or xs i x → Adds k (OneSays P (take i xs)) old mid → Adds k (P x) mid new → Adds k (OneSays P (take (i + 1) xs)) old new
    one_step old mid new i x l e a b =
        let c = apart xs i x (cut_at xs i x l e) in
        subst (λ (ys : List A). Adds k (OneSays P ys) old new) (sym c.more)
        (adds_so k (λ t. OneSays P (take i xs) t ⊎ P x t) (OneSays P (take i xs ++ x ∷ [])) old new (says_more (take i xs) x) (adds_both k (OneSays P (take i xs)) (P x) old mid new a b))

    pub one_ends : (old new : List (List ℕ)) (i : ℕ) → length xs ≤ i → Adds k (OneSays P (take i xs)) old new → Adds k (OneSays P xs) old new
    one_ends old new i l a = subst (λ (ys : List A). Adds k (OneSays P ys) old new) (take_all i xs l) a
