-- States that are found one after another.
use Rattle.std.proofs.Common.{◌≡◌, ◌≤◌, ◌<◌, ℕ, List, [], ◌∷◌, ◌++◌, length, arith, refl, sym, subst, ap, ◌⊎◌, inl, inr}
use Rattle.std.specs.List.{Contains}
use Rattle.std.proofs.lemmas.Grind.{common_steps}
use Rattle.states_layers.specs.Found.{Found, members_of, IsDistinct, AddsNew, Merged}
use Rattle.states_layers.proofs.Members.{in_nil, in_left, in_right, in_append, in_one, distinct_push}
use Rattle.std.proofs.lemmas.List.Elements.{Contains-push}

module _ {A : Type 0} where
  pub states_push : (xs : List (Found A)) (s : A) (k : ℕ) → members_of (xs ++ (s, k) ∷ []) ≡ members_of xs ++ s ∷ []
  states_push [] s k = refl
  states_push (x ∷ xs) s k = ap (λ (ys : List A). x.0 ∷ ys) (states_push xs s k)

  pub merged_nil : (old : List (Found A)) (from most : ℕ) → Merged old [] from most old
  merged_nil old from most = record {
    kept = λ s h. h;
    new = λ f h. inl h;
    distinct = λ h. h;
    all = λ le s h. absurd (in_nil s h);
  }

  pub adds_long : (old now : List (Found A)) (s : A) (k : ℕ) → AddsNew old s k now → length old ≤ length now
  adds_long old now s k a = elim a [ inl p ↦ (let e : now ≡ old = p.1 in grind arith) | inr p ↦ (let e : now ≡ old ++ (s, k) ∷ [] = p.1 in grind (arith, common_steps)) ]

  pub adds_kept : (old now : List (Found A)) (s : A) (k : ℕ) → AddsNew old s k now → (t : A) → Contains (members_of old) t → Contains (members_of now) t
  adds_kept old now s k a t h = elim a [
    | inl p ↦ subst (λ (xs : List (Found A)). Contains (members_of xs) t) (sym p.1) h
    | inr p ↦ subst (λ (xs : List (Found A)). Contains (members_of xs) t) (sym p.1)
        (subst (λ (xs : List A). Contains xs t) (sym (states_push old s k)) (in_left (members_of old) (s ∷ []) t h))
  ]

  pub adds_in : (old now : List (Found A)) (s : A) (k : ℕ) → AddsNew old s k now → Contains (members_of now) s
  adds_in old now s k a = elim a [
    | inl p ↦ subst (λ (xs : List (Found A)). Contains (members_of xs) s) (sym p.1) p.0
    | inr p ↦ subst (λ (xs : List (Found A)). Contains (members_of xs) s) (sym p.1)
        (subst (λ (xs : List A). Contains xs s) (sym (states_push old s k)) (Contains-push (members_of old) s))
  ]

  pub adds_distinct : (old now : List (Found A)) (s : A) (k : ℕ) → AddsNew old s k now → IsDistinct (members_of old) → IsDistinct (members_of now)
  adds_distinct old now s k a d = elim a [
    | inl p ↦ subst (λ (xs : List (Found A)). IsDistinct (members_of xs)) (sym p.1) d
    | inr p ↦ subst (λ (xs : List (Found A)). IsDistinct (members_of xs)) (sym p.1)
        (subst (λ (xs : List A). IsDistinct xs) (sym (states_push old s k)) (distinct_push (members_of old) s d p.0))
  ]

  pub adds_new : (old now : List (Found A)) (s : A) (k : ℕ) → AddsNew old s k now → (f : Found A) → Contains now f → Contains old f ⊎ ((s, k) ≡ f)
  adds_new old now s k a f h = elim a [
    | inl p ↦ inl (subst (λ (xs : List (Found A)). Contains xs f) p.1 h)
    | inr p ↦ elim (in_append old ((s, k) ∷ []) f (subst (λ (xs : List (Found A)). Contains xs f) p.1 h))
        [ inl q ↦ inl q | inr q ↦ inr (in_one ((s, k)) f q) ]
  ]

  pub merged_step : (old : List (Found A)) (list : List A) (from most : ℕ) (mid now : List (Found A)) (s : A)
      → Merged old list from most mid → AddsNew mid s from now → Merged old (list ++ s ∷ []) from most now
  merged_step old list from most mid now s m a = record {
    kept = λ t h. adds_kept mid now s from a t (m.kept t h);
    new = λ f h. elim (adds_new mid now s from a f h) [
      | inl p ↦ (elim (m.new f p) [ inl q ↦ inl q | inr q ↦ inr (q.0, in_left list (s ∷ []) f.0 q.1) ])
      | inr e ↦ inr (
        sym (ap (λ (x : Found A). x.1) e),
        subst (λ (x : A). Contains (list ++ s ∷ []) x) (ap (λ (x : Found A). x.0) e) (in_right list (s ∷ []) s (0, omega arith, refl)),
      )
    ];
    distinct = λ d. adds_distinct mid now s from a (m.distinct d);
    all = λ le t h. elim (in_append list (s ∷ []) t h) [
      | inl p ↦ adds_kept mid now s from a t (m.all (omega (arith, adds_long mid now s from a)) t p)
      | inr p ↦ subst (λ (x : A). Contains (members_of now) x) (in_one s t p) (adds_in mid now s from a)
    ];
  }

  pub merged_skip : (old : List (Found A)) (list : List A) (from most : ℕ) (now : List (Found A)) (s : A)
      → Merged old list from most now → most < length now → Merged old (list ++ s ∷ []) from most now
  merged_skip old list from most now s m lt = record {
    kept = m.kept;
    new = λ f h. elim (m.new f h) [ inl q ↦ inl q | inr q ↦ inr (q.0, in_left list (s ∷ []) f.0 q.1) ];
    distinct = m.distinct;
    all = λ le t h. absurd (omega arith);
  }
