-- Units are taken off from the end.
use Rattle.std.proofs.Common.{◌≡◌, ◌∙◌, ℕ, List, [], ◌∷◌, ◌++◌, map, reverse, refl, ap, sym, append_assoc}
use Rattle.std.proofs.lemmas.List.{reverse-append}
use Rattle.reading_trees.specs.declared.module.Unit.{Unit as ModuleUnit}
use Rattle.names_tlc_calls.specs.Programs.{spelled_unit}

map_behind : (f : ModuleUnit → ModuleUnit) (xs : List ModuleUnit) (u : ModuleUnit) → map f (xs ++ u ∷ []) ≡ map f xs ++ f u ∷ []
map_behind f [] u = refl
map_behind f (x ∷ xs) u = ap (λ (us : List ModuleUnit). f x ∷ us) (map_behind f xs u)

-- one more unit of those that are walked, and of those that are turned round
pub one_walked : (own now : List (List ℕ)) (old new : List ModuleUnit) (u v : ModuleUnit) (done more whole : List ModuleUnit) → old ≡ new ++ u ∷ [] → v ≡ spelled_unit now u → now ≡ own
    → more ≡ done ++ v ∷ [] → map (spelled_unit own) old ++ reverse done ≡ whole → map (spelled_unit own) new ++ reverse more ≡ whole
one_walked own now old new u v done more whole e is same m h =
    let f = spelled_unit own in
    let is_so : v ≡ f u = is ∙ ap (λ (bs : List (List ℕ)). spelled_unit bs u) same in
    ap (λ (xs : List ModuleUnit). map f new ++ reverse xs) m
    ∙ ap (λ (xs : List ModuleUnit). map f new ++ xs) (reverse-append done (v ∷ []))
    ∙ ap (λ (x : ModuleUnit). map f new ++ x ∷ reverse done) is_so
    ∙ sym (append_assoc (map f new) (f u ∷ []) (reverse done))
    ∙ ap (λ (xs : List ModuleUnit). xs ++ reverse done) (sym (map_behind f new u) ∙ ap (map f) (sym e))
    ∙ h

pub one_turned : (old new : List ModuleUnit) (u : ModuleUnit) (turned more whole : List ModuleUnit) → old ≡ new ++ u ∷ [] → more ≡ turned ++ u ∷ [] → turned ++ reverse old ≡ whole → more ++ reverse new ≡ whole
one_turned old new u turned more whole e m h =
    ap (λ (xs : List ModuleUnit). xs ++ reverse new) m ∙ append_assoc turned (u ∷ []) (reverse new)
    ∙ ap (λ (xs : List ModuleUnit). turned ++ xs) (sym (ap reverse e ∙ reverse-append new (u ∷ [])))
    ∙ h
