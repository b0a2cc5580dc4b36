-- A choice of one of several things, by its number.
use Rattle.std.proofs.Common.{◌≡◌, ◌⊎◌, inl, inr, refl, sym, ◌∙◌, ap, subst, arith, ℕ, ◌<◌, ◌≤◌, ◌-◌, List, [], ◌∷◌, ◌++◌, map, length}
use Rattle.names_terms.specs.Terms.{place_of}
use Rattle.eval_meanings.specs.Contexts.{Places}
use Rattle.steps_why_branches.specs.Traces.{Earlier, Stood, Trace, chosen, stops}
use Rattle.steps_why_branches.specs.Branches.{ByNumber, Chooses}
use Rattle.steps_why_branches.specs.Firsts.{Firsts}
use Rattle.steps_why_branches.specs.declared.why.WhyKind.TheVariants as why
use Rattle.steps_why_branches.proofs.Elements.{get_nil, get_before, get_last, get_below, get_cases}
use Rattle.steps_why_branches.proofs.FirstBranches.{firsts_none, firsts_one, firsts_map, firsts_append, firsts_full}

module _ {A : Type 0} (R : A → Trace → Type 0) where
  pub numbers_none : (k : ℕ) → Firsts k (ByNumber R []) []
  numbers_none k = firsts_none k (ByNumber R []) (λ x h. get_nil h.0 h.1.0 h.1.1)

  -- the last of them

  abbrev IsLast : List A → A → Trace → Type 0
  IsLast cs c x = (y : Trace) × R c y × (x ≡ chosen (length cs) y)

  in_before : (cs : List A) (c : A) (x : Trace) → ByNumber R cs x → ByNumber R (cs ++ c ∷ []) x
  in_before cs c x h = (h.0, (h.1.0, get_before cs (c ∷ []) h.0 h.1.0 h.1.1, h.1.2))

  in_last : (cs : List A) (c : A) (x : Trace) → IsLast cs c x → ByNumber R (cs ++ c ∷ []) x
  in_last cs c x h = (length cs, (c, get_last cs c, h))

  last_cases : (cs : List A) (c : A) (x : Trace) → ByNumber R (cs ++ c ∷ []) x → ByNumber R cs x ⊎ IsLast cs c x
  last_cases cs c x h = elim (get_cases cs c h.0 h.1.0 h.1.1) [
    | inl e ↦ inl (h.0, (h.1.0, e, h.1.2))
    | inr e ↦ inr (h.1.2.0, subst (λ (z : A). R z h.1.2.0) e.1 h.1.2.1, h.1.2.2 ∙ ap (λ (n : ℕ). chosen n h.1.2.0) e.0)
  ]

  last_is_later : (cs : List A) (c : A) (x z : Trace) → ByNumber R cs x → IsLast cs c z → Earlier x z
  last_is_later cs c x z h i =
      let l : h.0 < length cs = get_below cs h.0 h.1.0 h.1.1 in
      subst (λ (w : Trace). Earlier w z) (sym h.1.2.2) (subst (λ (w : Trace). Earlier (chosen h.0 h.1.2.0) w) (sym i.2) (inl l))

  pub numbers_more : (k : ℕ) (cs : List A) (c : A) (xs zs : List Trace) → length xs < k → Firsts k (ByNumber R cs) xs → Firsts (k - length xs) (R c) zs
      → Firsts k (ByNumber R (cs ++ c ∷ [])) (xs ++ map (chosen (length cs)) zs)
  numbers_more k cs c xs zs s a b = firsts_append k (ByNumber R cs) (IsLast cs c) (ByNumber R (cs ++ c ∷ [])) xs (map (chosen (length cs)) zs)
      (in_before cs c) (in_last cs c) (last_cases cs c) (last_is_later cs c) s a
      (firsts_map (k - length xs) (R c) (IsLast cs c) (chosen (length cs)) zs (λ x z h. inr (refl, h)) (λ x p. (x, p, refl)) (λ x h. h) b)

  pub numbers_full : (k : ℕ) (cs : List A) (c : A) (xs : List Trace) → k ≤ length xs → Firsts k (ByNumber R cs) xs → Firsts k (ByNumber R (cs ++ c ∷ [])) xs
  numbers_full k cs c xs s a = firsts_full k (ByNumber R cs) (IsLast cs c) (ByNumber R (cs ++ c ∷ [])) xs (in_before cs c) (last_cases cs c) (last_is_later cs c) s a

  -- of some there is a choice, and of none there is not

  pub chooses_some : (k : ℕ) (p : Places) (s : Stood) (cs : List A) (xs : List Trace) → 1 ≤ length cs → Firsts k (ByNumber R cs) xs → Firsts k (Chooses R p s cs) xs
  chooses_some k p s [] xs l a = absurd (omega (arith, l))
  chooses_some k p s (c ∷ cs) xs l a = a

  pub chooses_none : (k : ℕ) (p : Places) (s : Stood) → 1 ≤ k → Firsts k (Chooses R p s []) (stops p s (place_of s.term) why.NoMember ∷ [])
  chooses_none k p s l = firsts_one k (Chooses R p s []) (stops p s (place_of s.term) why.NoMember) l refl (λ x h. h)
