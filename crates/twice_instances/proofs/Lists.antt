-- Lists of alike terms, and of what stands beside them, are alike one by one.
use Rattle.std.proofs.Common.{◌≡◌, ap₂, refl, List, [], ◌∷◌, map}
use Rattle.std.specs.List.{AllZip}
use Rattle.names_terms.specs.Lists.{terms_list, steps_list, bounds_list, fields_list, changes_list, arms_list}
use Rattle.names_terms.specs.Terms.{Term, Terms, Operands, Steps, Bounds, Fields, Changes, Arms, place_of}
use Rattle.twice_terms.specs.Alike.{no_terms_alike, more_terms_alike, first_alike, next_alike, no_steps_alike, more_steps_alike, no_bounds_alike, more_bounds_alike, no_fields_alike, more_fields_alike, no_changes_alike, more_changes_alike, no_arms_alike, more_arms_alike}
use Rattle.twice_terms.proofs.Zips.{zip_append}
use Rattle.eval_meanings.specs.Contexts.{Table}
use Rattle.eval_meanings.specs.Sets.{first_operand, other_operands}
use Rattle.std.specs.Prelude.{◌≡◌, ℕ, List}
use Rattle.base_core.specs.declared.place.Place.{Place}
use Rattle.names_terms.specs.Terms.{Term, Step, Steps}
use Rattle.names_term_parts.specs.Slots.{UsesSmaller}
use Rattle.twice_instances.specs.Alikeness.{Like, LikeArms, LikeBounds, LikeChanges, LikeFields, LikeOperands, LikeStep, LikeSteps, LikeTerms}
use Rattle.twice_instances.proofs.Inverted.{same_place}

abbrev pub AreOrdered : Table → Type 0
AreOrdered ops = UsesSmaller ops

-- one by one
abbrev pub LikeLists : (ℕ → ℕ → Type 0) → Table → Table → List Term → List Term → Type 0
LikeLists Stands ops all es fs = AllZip (Like Stands ops all) es fs

-- alike terms, and beside them the same
abbrev pub LikeBeside : {A : Type 0} → (ℕ → ℕ → Type 0) → Table → Table → A × Term → A × Term → Type 0
LikeBeside Stands ops all x y = (x.0 ≡ y.0) × Like Stands ops all x.1 y.1

-- two arms of CASE
abbrev pub LikeTwo : (ℕ → ℕ → Type 0) → Table → Table → Term × Term → Term × Term → Type 0
LikeTwo Stands ops all x y = Like Stands ops all x.0 y.0 × Like Stands ops all x.1 y.1

-- two changes of EXCEPT
abbrev pub LikePaths : (ℕ → ℕ → Type 0) → Table → Table → Steps × Term → Steps × Term → Type 0
LikePaths Stands ops all x y = LikeSteps Stands ops all x.0 y.0 × Like Stands ops all x.1 y.1

-- two steps behind a primary, at one place
abbrev pub LikePlaced : (ℕ → ℕ → Type 0) → Table → Table → Place × Step → Place × Step → Type 0
LikePlaced Stands ops all x y = (x.0 ≡ y.0) × LikeStep Stands ops all x.1 y.1

-- What stands behind two names: so many slots are in scope there, and the terms are alike.
pub record LikeFound (Stands : ℕ → ℕ → Type 0) (ops all : Table) (found other : ℕ × Term) : Type 0 where
  pub slots : found.0 ≡ other.0
  pub terms : Like Stands ops all found.1 other.1

pub map_zip : {A B C D : Type 0} (R : A → B → Type 0) (S : C → D → Type 0) (g : A → C) (h : B → D) → ((x : A) (y : B) → R x y → S (g x) (h y)) → (xs : List A) (ys : List B)
    → AllZip R xs ys → AllZip S (map g xs) (map h ys)
map_zip R S g h f [] [] z = tt
map_zip R S g h f [] (y ∷ ys) z = absurd z
map_zip R S g h f (x ∷ xs) [] z = absurd z
map_zip R S g h f (x ∷ xs) (y ∷ ys) z = (f x y z.0, map_zip R S g h f xs ys z.1)

module _ (Stands : ℕ → ℕ → Type 0) (ops all : Table) where
  pub terms_zip : (ts us : Terms) → LikeTerms Stands ops all ts us → LikeLists Stands ops all (terms_list ts) (terms_list us)
  terms_zip _ _ no_terms_alike = tt
  terms_zip _ _ (more_terms_alike ts us e f t a) = zip_append (Like Stands ops all) (terms_list ts) (terms_list us) (e ∷ []) (f ∷ []) (terms_zip ts us t) (a, tt)

  pub bounds_zip : (bs cs : Bounds) → LikeBounds Stands ops all bs cs → AllZip (LikeBeside Stands ops all) (bounds_list bs) (bounds_list cs)
  bounds_zip _ _ no_bounds_alike = tt
  bounds_zip _ _ (more_bounds_alike bs cs n e f t a) = zip_append (LikeBeside Stands ops all) (bounds_list bs) (bounds_list cs) ((n, e) ∷ []) ((n, f) ∷ []) (bounds_zip bs cs t) ((refl, a), tt)

  pub fields_zip : (fs gs : Fields) → LikeFields Stands ops all fs gs → AllZip (LikeBeside Stands ops all) (fields_list fs) (fields_list gs)
  fields_zip _ _ no_fields_alike = tt
  fields_zip _ _ (more_fields_alike fs gs h e f t a) = zip_append (LikeBeside Stands ops all) (fields_list fs) (fields_list gs) ((h, e) ∷ []) ((h, f) ∷ []) (fields_zip fs gs t) ((refl, a), tt)

  pub changes_zip : (cs ds : Changes) → LikeChanges Stands ops all cs ds → AllZip (LikePaths Stands ops all) (changes_list cs) (changes_list ds)
  changes_zip _ _ no_changes_alike = tt
  changes_zip _ _ (more_changes_alike cs ds p q e f t s a) = zip_append (LikePaths Stands ops all) (changes_list cs) (changes_list ds) ((p, e) ∷ []) ((q, f) ∷ []) (changes_zip cs ds t) ((s, a), tt)

  pub arms_zip : (ps qs : Arms) → LikeArms Stands ops all ps qs → AllZip (LikeTwo Stands ops all) (arms_list ps) (arms_list qs)
  arms_zip _ _ no_arms_alike = tt
  arms_zip _ _ (more_arms_alike ps qs a b e f t c d) = zip_append (LikeTwo Stands ops all) (arms_list ps) (arms_list qs) ((a, e) ∷ []) ((b, f) ∷ []) (arms_zip ps qs t) ((c, d), tt)

  pub steps_zip : (ss rs : Steps) → LikeSteps Stands ops all ss rs → AllZip (LikePlaced Stands ops all) (steps_list ss) (steps_list rs)
  steps_zip _ _ no_steps_alike = tt
  steps_zip _ _ (more_steps_alike ss rs at s r t a) = zip_append (LikePlaced Stands ops all) (steps_list ss) (steps_list rs) ((at, s) ∷ []) ((at, r) ∷ []) (steps_zip ss rs t) ((refl, a), tt)

  -- the path of a change
  pub path_zip : (ss rs : Steps) → LikeSteps Stands ops all ss rs → AllZip (LikeStep Stands ops all) (map (λ s. s.1) (steps_list ss)) (map (λ s. s.1) (steps_list rs))
  path_zip ss rs t = map_zip (LikePlaced Stands ops all) (LikeStep Stands ops all) (λ s. s.1) (λ s. s.1) (λ x y z. z.1) (steps_list ss) (steps_list rs) (steps_zip ss rs t)

  pub others_zip : (os ps : Operands) → LikeOperands Stands ops all os ps → AllZip (LikeBeside Stands ops all) (other_operands os) (other_operands ps)
  others_zip _ _ (first_alike e f a) = tt
  others_zip _ _ (next_alike os ps at e f t a) = zip_append (LikeBeside Stands ops all) (other_operands os) (other_operands ps) ((at, e) ∷ []) ((at, f) ∷ []) (others_zip os ps t) ((refl, a), tt)

  pub firsts_alike : (os ps : Operands) → LikeOperands Stands ops all os ps → Like Stands ops all (first_operand os) (first_operand ps)
  firsts_alike _ _ (first_alike e f a) = a
  firsts_alike _ _ (next_alike os ps at e f t a) = firsts_alike os ps t

  -- the terms themselves
  pub beside_zip : {A : Type 0} (xs ys : List (A × Term)) → AllZip (LikeBeside Stands ops all) xs ys → LikeLists Stands ops all (map (λ x. x.1) xs) (map (λ y. y.1) ys)
  beside_zip xs ys z = map_zip (LikeBeside Stands ops all) (Like Stands ops all) (λ x. x.1) (λ y. y.1) (λ x y a. a.1) xs ys z

  pub places_same : (es fs : List Term) → LikeLists Stands ops all es fs → map place_of es ≡ map place_of fs
  places_same [] [] z = refl
  places_same [] (f ∷ fs) z = absurd z
  places_same (e ∷ es) [] z = absurd z
  places_same (e ∷ es) (f ∷ fs) z = ap₂ (λ p ps. p ∷ ps) (same_place Stands ops all e f z.0) (places_same es fs z.1)
