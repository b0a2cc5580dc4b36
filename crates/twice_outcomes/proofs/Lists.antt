-- The lists of alike terms are alike item by item.
use Rattle.std.proofs.Common.{sym, subst, List, [], ◌∷◌, ◌++◌}
use Rattle.std.specs.Prelude.{ℕ, flat_map, slice_get}
use Rattle.names_terms.specs.Lists.{steps_list, changes_list}
use Rattle.names_terms.specs.Terms.{Term, Operands, Step, Steps, Bounds, Fields, Changes, Arms}
use Rattle.names_term_parts.specs.Parts.{operand_list, set_list, value_list, arm_list}
use Rattle.eval_meanings.specs.Contexts.{Table}
use Rattle.actions_meanings.specs.Reads.{body_of, step_terms, path_terms}
use Rattle.twice_terms.specs.Alike.{Alike, AlikeOperands, first_alike, next_alike, AlikeStep, prime_alike, index_alike, field_alike, AlikeSteps, AlikeBounds, no_bounds_alike, more_bounds_alike, AlikeFields, no_fields_alike, more_fields_alike, AlikeChanges, AlikeArms, no_arms_alike, more_arms_alike, AlikeRows}
use Rattle.twice_terms.specs.Laws.{AreOne}
use Rattle.twice_terms.proofs.Zips.{zip_append}
use Rattle.twice_terms.proofs.Opened.{rows_open}
use Rattle.twice_outcomes.specs.Alikes.{AreAlikeLists, AreAlikeSteps, AreAlikeChanges}
use Rattle.twice_outcomes.proofs.AlikeLists.{terms_zip, steps_zip, changes_zip}
use Rattle.twice_outcomes.proofs.ActionsZipping.{flat_zipped}

module _ (ops all : Table) where
  abbrev AreTerms : List Term → List Term → Type 0
  AreTerms xs ys = AreAlikeLists ops all xs ys

  more : (xs ys : List Term) (e f : Term) → AreTerms xs ys → Alike AreOne ops all e f → AreTerms (xs ++ e ∷ []) (ys ++ f ∷ [])
  more xs ys e f z a = zip_append (Alike AreOne ops all) xs ys (e ∷ []) (f ∷ []) z (a, tt)

  pub operands_zip : (os ps : Operands) → AlikeOperands AreOne ops all os ps → AreTerms (operand_list os) (operand_list ps)
  operands_zip _ _ (first_alike e f a) = (a, tt)
  operands_zip _ _ (next_alike os ps at e f t a) = more (operand_list os) (operand_list ps) e f (operands_zip os ps t) a

  pub sets_zip : (bs cs : Bounds) → AlikeBounds AreOne ops all bs cs → AreTerms (set_list bs) (set_list cs)
  sets_zip _ _ no_bounds_alike = tt
  sets_zip _ _ (more_bounds_alike bs cs n e f t a) = more (set_list bs) (set_list cs) e f (sets_zip bs cs t) a

  pub values_zip : (fs gs : Fields) → AlikeFields AreOne ops all fs gs → AreTerms (value_list fs) (value_list gs)
  values_zip _ _ no_fields_alike = tt
  values_zip _ _ (more_fields_alike fs gs h e f t a) = more (value_list fs) (value_list gs) e f (values_zip fs gs t) a

  pub arm_terms_zip : (ps qs : Arms) → AlikeArms AreOne ops all ps qs → AreTerms (arm_list ps) (arm_list qs)
  arm_terms_zip _ _ no_arms_alike = tt
  arm_terms_zip _ _ (more_arms_alike ps qs a b e f t c d) =
      zip_append (Alike AreOne ops all) (arm_list ps) (arm_list qs) (a ∷ e ∷ []) (b ∷ f ∷ []) (arm_terms_zip ps qs t) (c, (d, tt))

  pub step_zip : (s r : Step) → AlikeStep AreOne ops all s r → AreTerms (step_terms s) (step_terms r)
  step_zip _ _ prime_alike = tt
  step_zip _ _ (index_alike ts us t) = terms_zip ops all ts us t
  step_zip _ _ (field_alike h) = tt

  pub path_terms_zip : (ss rs : Steps) → AlikeSteps AreOne ops all ss rs → AreTerms (path_terms ss) (path_terms rs)
  path_terms_zip ss rs t =
      flat_zipped (AreAlikeSteps ops all) (Alike AreOne ops all) (λ s. step_terms s.1) (λ s. step_terms s.1) (λ s r a. step_zip s.1 r.1 a.1) (steps_list ss) (steps_list rs) (steps_zip ops all ss rs t)

  pub change_terms_zip : (cs ds : Changes) → AlikeChanges AreOne ops all cs ds
      → AreTerms (flat_map (λ change. path_terms change.0 ++ change.1 ∷ []) (changes_list cs)) (flat_map (λ change. path_terms change.0 ++ change.1 ∷ []) (changes_list ds))
  change_terms_zip cs ds t =
      flat_zipped (AreAlikeChanges ops all) (Alike AreOne ops all) (λ change. path_terms change.0 ++ change.1 ∷ []) (λ change. path_terms change.0 ++ change.1 ∷ [])
      (λ c d a. more (path_terms c.0) (path_terms d.0) c.1 d.1 (path_terms_zip c.0 d.0 a.0) a.1) (changes_list cs) (changes_list ds) (changes_zip ops all cs ds t)

  pub body_zip : (k j : ℕ) → AlikeRows AreOne ops all k j → AreTerms (body_of (slice_get ops k)) (body_of (slice_get all j))
  body_zip k j row =
      let r = rows_open AreOne ops all k j row in
      subst (λ x. AreTerms (body_of x) (body_of (slice_get all j))) (sym r.here) (subst (λ y. AreTerms (r.left.body ∷ []) (body_of y)) (sym r.there) (r.same.body, tt))
