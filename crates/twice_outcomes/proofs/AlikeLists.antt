-- Lists of alike terms, and of what stands beside them, are alike one by one.
use Rattle.std.proofs.Common.{◌≡◌, ap₂, refl, List, [], ◌∷◌, map}
use Rattle.std.specs.List.{AllZip}
use Rattle.names_terms.specs.Lists.{terms_list, steps_list, bounds_list, fields_list, changes_list, arms_list}
use Rattle.names_terms.specs.Terms.{Term, Terms, Operands, Steps, Bounds, Fields, Changes, Arms, place_of}
use Rattle.twice_terms.specs.Alike.{AlikeTerms, no_terms_alike, more_terms_alike, AlikeOperands, first_alike, next_alike, AlikeStep, AlikeSteps, no_steps_alike, more_steps_alike, AlikeBounds, no_bounds_alike, more_bounds_alike, AlikeFields, no_fields_alike, more_fields_alike, AlikeChanges, no_changes_alike, more_changes_alike, AlikeArms, no_arms_alike, more_arms_alike}
use Rattle.twice_terms.specs.Laws.{AreOne}
use Rattle.twice_terms.proofs.Zips.{zip_append}
use Rattle.twice_terms.proofs.Inverted.{same_place}
use Rattle.eval_meanings.specs.Contexts.{Table}
use Rattle.eval_meanings.specs.Sets.{first_operand, other_operands}
use Rattle.twice_outcomes.specs.Alikes.{AreAlikeTerms, AreAlikeLists, AreAlikeBeside, AreAlikeArms, AreAlikeChanges, AreAlikeSteps}

-- what is made of each of two lists
pub map_zip : {A B C D : Type 0} (R : A → B → Type 0) (S : C → D → Type 0) (g : A → C) (h : B → D) → ((x : A) (y : B) → R x y → S (g x) (h y)) → (xs : List A) (ys : List B)
    → AllZip R xs ys → AllZip S (map g xs) (map h ys)
map_zip R S g h f [] [] z = tt
map_zip R S g h f [] (y ∷ ys) z = absurd z
map_zip R S g h f (x ∷ xs) [] z = absurd z
map_zip R S g h f (x ∷ xs) (y ∷ ys) z = (f x y z.0, map_zip R S g h f xs ys z.1)

module _ (ops all : Table) where
  pub terms_zip : (ts us : Terms) → AlikeTerms AreOne ops all ts us → AreAlikeLists ops all (terms_list ts) (terms_list us)
  terms_zip _ _ no_terms_alike = tt
  terms_zip _ _ (more_terms_alike ts us e f t a) = zip_append (AreAlikeTerms ops all) (terms_list ts) (terms_list us) (e ∷ []) (f ∷ []) (terms_zip ts us t) (a, tt)

  pub bounds_zip : (bs cs : Bounds) → AlikeBounds AreOne ops all bs cs → AllZip (AreAlikeBeside ops all) (bounds_list bs) (bounds_list cs)
  bounds_zip _ _ no_bounds_alike = tt
  bounds_zip _ _ (more_bounds_alike bs cs n e f t a) = zip_append (AreAlikeBeside ops all) (bounds_list bs) (bounds_list cs) ((n, e) ∷ []) ((n, f) ∷ []) (bounds_zip bs cs t) ((refl, a), tt)

  pub fields_zip : (fs gs : Fields) → AlikeFields AreOne ops all fs gs → AllZip (AreAlikeBeside ops all) (fields_list fs) (fields_list gs)
  fields_zip _ _ no_fields_alike = tt
  fields_zip _ _ (more_fields_alike fs gs h e f t a) = zip_append (AreAlikeBeside ops all) (fields_list fs) (fields_list gs) ((h, e) ∷ []) ((h, f) ∷ []) (fields_zip fs gs t) ((refl, a), tt)

  pub changes_zip : (cs ds : Changes) → AlikeChanges AreOne ops all cs ds → AllZip (AreAlikeChanges ops all) (changes_list cs) (changes_list ds)
  changes_zip _ _ no_changes_alike = tt
  changes_zip _ _ (more_changes_alike cs ds p q e f t s a) = zip_append (AreAlikeChanges ops all) (changes_list cs) (changes_list ds) ((p, e) ∷ []) ((q, f) ∷ []) (changes_zip cs ds t) ((s, a), tt)

  pub arms_zip : (ps qs : Arms) → AlikeArms AreOne ops all ps qs → AllZip (AreAlikeArms ops all) (arms_list ps) (arms_list qs)
  arms_zip _ _ no_arms_alike = tt
  arms_zip _ _ (more_arms_alike ps qs a b e f t c d) = zip_append (AreAlikeArms ops all) (arms_list ps) (arms_list qs) ((a, e) ∷ []) ((b, f) ∷ []) (arms_zip ps qs t) ((c, d), tt)

  pub steps_zip : (ss rs : Steps) → AlikeSteps AreOne ops all ss rs → AllZip (AreAlikeSteps ops all) (steps_list ss) (steps_list rs)
  steps_zip _ _ no_steps_alike = tt
  steps_zip _ _ (more_steps_alike ss rs at s r t a) = zip_append (AreAlikeSteps ops all) (steps_list ss) (steps_list rs) ((at, s) ∷ []) ((at, r) ∷ []) (steps_zip ss rs t) ((refl, a), tt)

  -- the path of a change
  pub path_zip : (ss rs : Steps) → AlikeSteps AreOne ops all ss rs → AllZip (AlikeStep AreOne ops all) (map (λ s. s.1) (steps_list ss)) (map (λ s. s.1) (steps_list rs))
  path_zip ss rs t = map_zip (AreAlikeSteps ops all) (AlikeStep AreOne ops all) (λ s. s.1) (λ s. s.1) (λ x y z. z.1) (steps_list ss) (steps_list rs) (steps_zip ss rs t)

  pub others_zip : (os ps : Operands) → AlikeOperands AreOne ops all os ps → AllZip (AreAlikeBeside ops all) (other_operands os) (other_operands ps)
  others_zip _ _ (first_alike e f a) = tt
  others_zip _ _ (next_alike os ps at e f t a) = zip_append (AreAlikeBeside ops all) (other_operands os) (other_operands ps) ((at, e) ∷ []) ((at, f) ∷ []) (others_zip os ps t) ((refl, a), tt)

  pub firsts_alike : (os ps : Operands) → AlikeOperands AreOne ops all os ps → AreAlikeTerms ops all (first_operand os) (first_operand ps)
  firsts_alike _ _ (first_alike e f a) = a
  firsts_alike _ _ (next_alike os ps at e f t a) = firsts_alike os ps t

  -- the terms themselves
  pub beside_zip : {A : Type 0} (xs ys : List (A × Term)) → AllZip (AreAlikeBeside ops all) xs ys → AreAlikeLists ops all (map (λ x. x.1) xs) (map (λ y. y.1) ys)
  beside_zip xs ys z = map_zip (AreAlikeBeside ops all) (AreAlikeTerms ops all) (λ x. x.1) (λ y. y.1) (λ x y a. a.1) xs ys z

  pub places_same : (es fs : List Term) → AreAlikeLists ops all es fs → map place_of es ≡ map place_of fs
  places_same [] [] z = refl
  places_same [] (f ∷ fs) z = absurd z
  places_same (e ∷ es) [] z = absurd z
  places_same (e ∷ es) (f ∷ fs) z = ap₂ (λ p ps. p ∷ ps) (same_place AreOne ops all e f z.0) (places_same es fs z.1)
