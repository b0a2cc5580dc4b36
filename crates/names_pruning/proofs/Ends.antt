-- Units are taken off from the end.
use Rattle.std.proofs.Common.{◌≡◌, ◌∙◌, ℕ, List, [], ◌∷◌, ◌++◌, length, reverse, refl, ap, sym, append_assoc}
use Rattle.std.specs.Prelude.{Bool, true, false, Some, if◌then◌else◌}
use Rattle.std.proofs.lemmas.List.{reverse-append}
use Rattle.reading_trees.specs.declared.module.Unit.{Unit as ModuleUnit}
use Rattle.names_pruning.specs.Parts.{is_set_at, left_of, gone_of}

abbrev pub if_left : Bool → ModuleUnit → List ModuleUnit
if_left b u = if b then [] else u ∷ []

abbrev pub if_over : Bool → ModuleUnit → List ModuleUnit
if_over b u = if b then u ∷ [] else []

left_step : (b : Bool) (u : ModuleUnit) (xs : List ModuleUnit) (ys : List ModuleUnit) → (if b then xs ++ ys else u ∷ (xs ++ ys)) ≡ (if b then xs else u ∷ xs) ++ ys
left_step true u xs ys = refl
left_step false u xs ys = refl

over_step : (b : Bool) (u : ModuleUnit) (xs : List ModuleUnit) (ys : List ModuleUnit) → (if b then u ∷ (xs ++ ys) else xs ++ ys) ≡ (if b then u ∷ xs else xs) ++ ys
over_step true u xs ys = refl
over_step false u xs ys = refl

-- one more unit at the end
left_behind : (over : List Bool) (units : List ModuleUnit) (u : ModuleUnit) → left_of over (units ++ u ∷ []) ≡ left_of over units ++ if_left (is_set_at over (Some (length units))) u
left_behind [] [] u = refl
left_behind [] (x ∷ units) u = ap (λ (us : List ModuleUnit). x ∷ us) (left_behind [] units u)
left_behind (b ∷ over) [] u = refl
left_behind (b ∷ over) (x ∷ units) u =
    ap (λ (us : List ModuleUnit). if b then us else x ∷ us) (left_behind over units u) ∙ left_step b x (left_of over units) (if_left (is_set_at over (Some (length units))) u)

over_behind : (over : List Bool) (units : List ModuleUnit) (u : ModuleUnit) → gone_of over (units ++ u ∷ []) ≡ gone_of over units ++ if_over (is_set_at over (Some (length units))) u
over_behind [] [] u = refl
over_behind [] (x ∷ units) u = over_behind [] units u
over_behind (b ∷ over) [] u = refl
over_behind (b ∷ over) (x ∷ units) u =
    ap (λ (us : List ModuleUnit). if b then x ∷ us else us) (over_behind over units u) ∙ over_step b x (gone_of over units) (if_over (is_set_at over (Some (length units))) u)

turned_left : (b : Bool) (u : ModuleUnit) → reverse (if_left b u) ≡ if_left b u
turned_left true u = refl
turned_left false u = refl

turned_over : (b : Bool) (u : ModuleUnit) → reverse (if_over b u) ≡ if_over b u
turned_over true u = refl
turned_over false u = refl

-- what is left of the units that are not taken off yet, and those that were put aside, from the last
pub one_taken_left : (over : List Bool) (old new : List ModuleUnit) (u : ModuleUnit) (k : ℕ) (left more whole : List ModuleUnit) → old ≡ new ++ u ∷ [] → k ≡ length new
    → more ≡ left ++ if_left (is_set_at over (Some k)) u → left_of over old ++ reverse left ≡ whole → left_of over new ++ reverse more ≡ whole
one_taken_left over old new u k left more whole e l m h =
    let flag = is_set_at over (Some (length new)) in
    ap (λ (xs : List ModuleUnit). left_of over new ++ reverse xs) (m ∙ ap (λ (j : ℕ). left ++ if_left (is_set_at over (Some j)) u) l)
    ∙ ap (λ (xs : List ModuleUnit). left_of over new ++ xs) (reverse-append left (if_left flag u) ∙ ap (λ (xs : List ModuleUnit). xs ++ reverse left) (turned_left flag u))
    ∙ sym (append_assoc (left_of over new) (if_left flag u) (reverse left))
    ∙ ap (λ (xs : List ModuleUnit). xs ++ reverse left) (sym (left_behind over new u) ∙ ap (left_of over) (sym e))
    ∙ h

pub one_taken_over : (over : List Bool) (old new : List ModuleUnit) (u : ModuleUnit) (k : ℕ) (passed more whole : List ModuleUnit) → old ≡ new ++ u ∷ [] → k ≡ length new
    → more ≡ passed ++ if_over (is_set_at over (Some k)) u → gone_of over old ++ reverse passed ≡ whole → gone_of over new ++ reverse more ≡ whole
one_taken_over over old new u k passed more whole e l m h =
    let flag = is_set_at over (Some (length new)) in
    ap (λ (xs : List ModuleUnit). gone_of over new ++ reverse xs) (m ∙ ap (λ (j : ℕ). passed ++ if_over (is_set_at over (Some j)) u) l)
    ∙ ap (λ (xs : List ModuleUnit). gone_of over new ++ xs) (reverse-append passed (if_over flag u) ∙ ap (λ (xs : List ModuleUnit). xs ++ reverse passed) (turned_over flag u))
    ∙ sym (append_assoc (gone_of over new) (if_over flag u) (reverse passed))
    ∙ ap (λ (xs : List ModuleUnit). xs ++ reverse passed) (sym (over_behind over new u) ∙ ap (gone_of over) (sym e))
    ∙ h

-- one more unit of those that are turned round
pub one_turned : (old new : List ModuleUnit) (u : ModuleUnit) (turned more whole : List ModuleUnit) → old ≡ new ++ u ∷ [] → more ≡ turned ++ u ∷ [] → turned ++ reverse old ≡ whole → more ++ reverse new ≡ whole
one_turned old new u turned more whole e m h =
    ap (λ (xs : List ModuleUnit). xs ++ reverse new) m ∙ append_assoc turned (u ∷ []) (reverse new)
    ∙ ap (λ (xs : List ModuleUnit). turned ++ xs) (sym (ap reverse e ∙ reverse-append new (u ∷ [])))
    ∙ h
