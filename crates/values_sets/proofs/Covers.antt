-- A list of different things, among others that are no more, has them all.
use Rattle.std.proofs.Common.{inl, inr, ◌≤◌, List, [], ◌∷◌, length, sym, subst, arith}
use Rattle.std.specs.List.{Contains, remove}
use Rattle.std.specs.List.Sorted.{IsPermutation}
use Rattle.std.proofs.lemmas.List.Sorted.{IsPermutation-remove, Contains-permutation, length_permutation}
use Rattle.values_core.specs.Ascending.{cons_cases, head_in, tail_in}
use Rattle.values_core.specs.SetOperations.{AreDifferent}

pub covers : {X : Type 0} (us vs : List X) → AreDifferent us → ((w : X) → Contains us w → Contains vs w) → length vs ≤ length us → (w : X) → Contains vs w → Contains us w
covers [] vs n f l w h = absurd (omega (arith, h.1))
covers (u ∷ us) vs n f l w h =
    let here = f u (head_in u us) in
    let there : IsPermutation vs (u ∷ remove vs here.0) = IsPermutation-remove vs here.0 u here.1 (sym here.2) in
    let long = length_permutation vs (u ∷ remove vs here.0) there in
    elim (cons_cases u (remove vs here.0) w (Contains-permutation vs (u ∷ remove vs here.0) w there h)) [
      | inl e ↦ subst (λ z. Contains (u ∷ us) z) e (head_in u us)
      | inr g ↦
          tail_in u us w (covers us (remove vs here.0) n.1 (λ z k.
          elim (cons_cases u (remove vs here.0) z (Contains-permutation vs (u ∷ remove vs here.0) z there (f z (tail_in u us z k)))) [
            | inl e ↦ absurd (n.0 (subst (λ y. Contains us y) (sym e) k))
            | inr i ↦ i
          ]) (omega (arith, l, long)) w g)
    ]
