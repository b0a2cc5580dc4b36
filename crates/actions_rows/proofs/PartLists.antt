-- Lists of parts, in the midst of a loop over terms.
use Rattle.std.proofs.Common.{◌≡◌, ap, sym, ◌∙◌, ℕ, ◌+◌, ◌≤◌, List, [], ◌∷◌, ◌++◌, length, drop, map, append_assoc, rules}
use Rattle.std.proofs.lemmas.List.{map-append}
use Rattle.names_terms.specs.Terms.{Term}
use Rattle.eval_parts.proofs.Loops.{Cut, cut_end}
use Rattle.actions_rows.specs.Rows.{part_term}
use Rattle.actions_rows.specs.declared.part.Part.{Part}

to_end : {X : Type 0} (xs : List X) → xs ++ [] ≡ xs
to_end xs = search rules

-- one part more, of a list that is made of a list of terms one by one
pub parts_on : (f : List Term → List Term) (x : Term) (y : Term) (xs : List Term) (i : ℕ) (ps new : List Part) (p : Part) (whole : List Term)
    → Cut xs i x → f (x ∷ drop (i + 1) xs) ≡ y ∷ f (drop (i + 1) xs) → part_term p ≡ y → new ≡ ps ++ p ∷ []
    → map part_term ps ++ f (drop i xs) ≡ whole → map part_term new ++ f (drop (i + 1) xs) ≡ whole
parts_on f x y xs i ps new p whole c g q e h =
    let pushed : map part_term new ≡ map part_term ps ++ y ∷ [] = ap (map part_term) e ∙ map-append part_term ps (p ∷ []) ∙ ap (λ (t : Term). map part_term ps ++ t ∷ []) q in
    let step : map part_term ps ++ f (drop i xs) ≡ map part_term ps ++ y ∷ f (drop (i + 1) xs) = ap (λ (us : List Term). map part_term ps ++ f us) c ∙ ap (λ (us : List Term). map part_term ps ++ us) g in
    ap (λ (us : List Term). us ++ f (drop (i + 1) xs)) pushed ∙ append_assoc (map part_term ps) (y ∷ []) (f (drop (i + 1) xs)) ∙ sym step ∙ h

pub parts_end : (f : List Term → List Term) (xs : List Term) (i : ℕ) (ps : List Part) (whole : List Term) → f [] ≡ [] → length xs ≤ i → map part_term ps ++ f (drop i xs) ≡ whole → map part_term ps ≡ whole
parts_end f xs i ps whole z l h =
    sym (to_end (map part_term ps)) ∙ ap (λ (us : List Term). map part_term ps ++ us) (sym z) ∙ ap (λ (us : List Term). map part_term ps ++ f us) (sym (cut_end xs i l)) ∙ h
