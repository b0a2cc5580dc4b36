-- The ends behind a branch in which something was passed over: each of them is changed, one after the other.
use Rattle.std.proofs.Common.{◌≡◌, refl, sym, ◌∙◌, ap, List, [], ◌∷◌, ◌++◌, map, length, append_assoc, arith}
use Rattle.steps_why_branches.specs.declared.why.Ended.{Ended}
use Rattle.steps_why_walk.proofs.Keeping.{all_left}

module _ (f : Ended → Ended) where
  pub changed_start : (old its ends : List Ended) → old ≡ [] → its ≡ ends → old ++ map f its ≡ map f ends
  changed_start old its ends z e = ap (λ (us : List Ended). us ++ map f its) z ∙ ap (λ (us : List Ended). map f us) e

  pub changed_step : (old new its less all : List Ended) (end further : Ended) → new ≡ old ++ further ∷ [] → further ≡ f end → its ≡ end ∷ less → old ++ map f its ≡ all → new ++ map f less ≡ all
  changed_step old new its less all end further p e s h =
      ap (λ (us : List Ended). us ++ map f less) p
      ∙ append_assoc old (further ∷ []) (map f less)
      ∙ ap (λ (m : Ended). old ++ m ∷ map f less) e
      ∙ ap (λ (us : List Ended). old ++ map f us) (sym s)
      ∙ h

  pub changed_end : (old its all : List Ended) → length its ≡ 0 → old ++ map f its ≡ all → old ≡ all
  changed_end old [] all z h = all_left old [] all refl h
  changed_end old (x ∷ its) all z h = absurd (omega (arith, z))
