-- Alike terms have the same limits.
use Rattle.std.proofs.Common.{◌≡◌, ◌∙◌, ap, ap₂, refl, List, [], ◌∷◌, ◌++◌}
use Rattle.base_core.specs.declared.place.Place.{Place}
use Rattle.values_core.specs.Data.{Val}
use Rattle.reading_trees.specs.declared.operators.InfixOperator.{InfixOperator}
use Rattle.names_terms.specs.declared.level.Level.{Level}
use Rattle.names_terms.specs.declared.level.Level.TheVariants.{State, Action}
use Rattle.names_terms.specs.declared.operator.Operator.{Operator}
use Rattle.names_terms.specs.Levels.{joined, of_terms, of_step, of_steps}
use Rattle.names_terms.specs.Terms.{Term, Meaning, Terms, Operands, Step, Steps, Bounds, Fields, Changes, level_of}
use Rattle.names_term_parts.specs.Limits.{Limit, limit, limits, term_limits, set_limits, value_limits, prefix_allows, infix_allows, operand_limits, step_limits, steps_limits, index_limits, path_limits, change_limits}
use Rattle.twice_terms.specs.Alike.{Alike, AlikeMeanings, known_alike, named_alike, variable_alike, slot_alike, use_alike, standard_alike, parenthesized_alike, scoped_alike, all_alike, any_alike, prefix_alike, infix_alike, postfix_alike, set_alike, filter_alike, map_alike, tuple_alike, function_alike, function_set_alike, record_alike, record_set_alike, except_alike, quantified_alike, choose_alike, if_alike, case_alike, case_other_alike, box_alike, angle_alike, fairness_alike, AlikeTerms, no_terms_alike, more_terms_alike, AlikeOperands, first_alike, next_alike, AlikeStep, prime_alike, index_alike, field_alike, AlikeSteps, no_steps_alike, more_steps_alike, AlikeBounds, no_bounds_alike, more_bounds_alike, AlikeFields, no_fields_alike, more_fields_alike, AlikeChanges, no_changes_alike, more_changes_alike}
use Rattle.twice_terms.proofs.Zips.{joined_lists}
use Rattle.twice_terms.proofs.Inverted.{same_level}

module _ (Same : Val → Val → Type 0) (ops all : List Operator) where
  -- one limit more
  one : (xs ys : List Limit) (at : Place) (l : Level) (e f : Term) → xs ≡ ys → Alike Same ops all e f → xs ++ limit at l (level_of e) ∷ [] ≡ ys ++ limit at l (level_of f) ∷ []
  one xs ys at l e f q a = ap₂ (λ (zs : List Limit) (k : Level). zs ++ limit at l k ∷ []) q (same_level Same ops all e f a)

  two : (at : Place) (l k : Level) (e f v w : Term) → Alike Same ops all e f → Alike Same ops all v w
      → limit at l (level_of e) ∷ limit at k (level_of v) ∷ [] ≡ limit at l (level_of f) ∷ limit at k (level_of w) ∷ []
  two at l k e f v w a b = ap₂ (λ (x y : Level). limit at l x ∷ limit at k y ∷ []) (same_level Same ops all e f a) (same_level Same ops all v w b)

  -- one limit before others
  before : (at : Place) (e f : Term) (xs ys : List Limit) → Alike Same ops all e f → xs ≡ ys → limit at Action (level_of e) ∷ xs ≡ limit at Action (level_of f) ∷ ys
  before at e f xs ys a q = ap₂ (λ (k : Level) (zs : List Limit). limit at Action k ∷ zs) (same_level Same ops all e f a) q

  pub same_of_terms : (ts us : Terms) → AlikeTerms Same ops all ts us → of_terms ts ≡ of_terms us
  same_of_terms _ _ no_terms_alike = refl
  same_of_terms _ _ (more_terms_alike ts us e f t a) = ap₂ joined (same_of_terms ts us t) (same_level Same ops all e f a)

  same_of_step : (l : Level) (s r : Step) → AlikeStep Same ops all s r → of_step l s ≡ of_step l r
  same_of_step l _ _ prime_alike = refl
  same_of_step l _ _ (index_alike ts us t) = ap (joined l) (same_of_terms ts us t)
  same_of_step l _ _ (field_alike h) = refl

  same_of_steps : (l : Level) (ss rs : Steps) → AlikeSteps Same ops all ss rs → of_steps l ss ≡ of_steps l rs
  same_of_steps l _ _ no_steps_alike = refl
  same_of_steps l _ _ (more_steps_alike ss rs at s r t a) = same_of_step (of_steps l ss) s r a ∙ ap (λ (k : Level). of_step k r) (same_of_steps l ss rs t)

  terms_same : (at : Place) (ts us : Terms) → AlikeTerms Same ops all ts us → term_limits at ts ≡ term_limits at us
  terms_same at _ _ no_terms_alike = refl
  terms_same at _ _ (more_terms_alike ts us e f t a) = one (term_limits at ts) (term_limits at us) at Action e f (terms_same at ts us t) a

  sets_same : (at : Place) (bs cs : Bounds) → AlikeBounds Same ops all bs cs → set_limits at bs ≡ set_limits at cs
  sets_same at _ _ no_bounds_alike = refl
  sets_same at _ _ (more_bounds_alike bs cs n e f t a) = one (set_limits at bs) (set_limits at cs) at Action e f (sets_same at bs cs t) a

  values_same : (at : Place) (fs gs : Fields) → AlikeFields Same ops all fs gs → value_limits at fs ≡ value_limits at gs
  values_same at _ _ no_fields_alike = refl
  values_same at _ _ (more_fields_alike fs gs h e f t a) = one (value_limits at fs) (value_limits at gs) at Action e f (values_same at fs gs t) a

  operands_same : (at : Place) (o : InfixOperator) (os ps : Operands) → AlikeOperands Same ops all os ps → operand_limits at o os ≡ operand_limits at o ps
  operands_same at o _ _ (first_alike e f a) = ap (λ (k : Level). limit at (infix_allows o) k ∷ []) (same_level Same ops all e f a)
  operands_same at o _ _ (next_alike os ps p e f t a) = one (operand_limits p o os) (operand_limits p o ps) p (infix_allows o) e f (operands_same p o os ps t) a

  step_same : (at : Place) (l : Level) (s r : Step) → AlikeStep Same ops all s r → step_limits at l s ≡ step_limits at l r
  step_same at l _ _ prime_alike = refl
  step_same at l _ _ (index_alike ts us t) = ap (λ (xs : List Limit). limit at Action l ∷ xs) (terms_same at ts us t)
  step_same at l _ _ (field_alike h) = refl

  -- behind levels that are the same
  step_behind : (at : Place) (l k : Level) (s r : Step) → l ≡ k → AlikeStep Same ops all s r → step_limits at l s ≡ step_limits at k r
  step_behind at l k s r q a = step_same at l s r a ∙ ap (λ (x : Level). step_limits at x r) q

  steps_same : (l : Level) (ss rs : Steps) → AlikeSteps Same ops all ss rs → steps_limits l ss ≡ steps_limits l rs
  steps_same l _ _ no_steps_alike = refl
  steps_same l _ _ (more_steps_alike ss rs p s r t a) =
      joined_lists (steps_limits l ss) (steps_limits l rs) (step_limits p (of_steps l ss) s) (step_limits p (of_steps l rs) r) (steps_same l ss rs t)
      (step_behind p (of_steps l ss) (of_steps l rs) s r (same_of_steps l ss rs t) a)

  index_same : (at : Place) (s r : Step) → AlikeStep Same ops all s r → index_limits at s ≡ index_limits at r
  index_same at _ _ prime_alike = refl
  index_same at _ _ (index_alike ts us t) = terms_same at ts us t
  index_same at _ _ (field_alike h) = refl

  path_same : (at : Place) (ss rs : Steps) → AlikeSteps Same ops all ss rs → path_limits at ss ≡ path_limits at rs
  path_same at _ _ no_steps_alike = refl
  path_same at _ _ (more_steps_alike ss rs p s r t a) =
      joined_lists (path_limits at ss) (path_limits at rs) (index_limits at s) (index_limits at r) (path_same at ss rs t) (index_same at s r a)

  changes_same : (at : Place) (cs ds : Changes) → AlikeChanges Same ops all cs ds → change_limits at cs ≡ change_limits at ds
  changes_same at _ _ no_changes_alike = refl
  changes_same at _ _ (more_changes_alike cs ds p q e f t s a) =
      one (change_limits at cs ++ path_limits at p) (change_limits at ds ++ path_limits at q) at Action e f
      (joined_lists (change_limits at cs) (change_limits at ds) (path_limits at p) (path_limits at q) (changes_same at cs ds t) (path_same at p q s)) a

  postfix_same : (at : Place) (e f : Term) (ss rs : Steps) (s r : Step) → Alike Same ops all e f → AlikeSteps Same ops all ss rs → AlikeStep Same ops all s r
      → steps_limits (level_of e) ss ++ step_limits at (of_steps (level_of e) ss) s ≡ steps_limits (level_of f) rs ++ step_limits at (of_steps (level_of f) rs) r
  postfix_same at e f ss rs s r a t b =
      let q : level_of e ≡ level_of f = same_level Same ops all e f a in
      joined_lists (steps_limits (level_of e) ss) (steps_limits (level_of f) rs) (step_limits at (of_steps (level_of e) ss) s) (step_limits at (of_steps (level_of f) rs) r)
      (steps_same (level_of e) ss rs t ∙ ap (λ (x : Level). steps_limits x rs) q)
      (step_behind at (of_steps (level_of e) ss) (of_steps (level_of f) rs) s r (same_of_steps (level_of e) ss rs t ∙ ap (λ (x : Level). of_steps x rs) q) b)

  pub limits_same : (at : Place) (m n : Meaning) → AlikeMeanings Same ops all m n → limits at m ≡ limits at n
  limits_same at _ _ (known_alike v w s) = refl
  limits_same at _ _ (named_alike s) = refl
  limits_same at _ _ (variable_alike x y q) = refl
  limits_same at _ _ (slot_alike i) = refl
  limits_same at _ _ (use_alike k j ts us r t) = terms_same at ts us t
  limits_same at _ _ (standard_alike o ts us t) = terms_same at ts us t
  limits_same at _ _ (parenthesized_alike e f a) = refl
  limits_same at _ _ (scoped_alike ks js e f r a) = refl
  limits_same at _ _ (all_alike ts us t) = refl
  limits_same at _ _ (any_alike ts us t) = refl
  limits_same at _ _ (prefix_alike o e f a) = ap (λ (k : Level). limit at (prefix_allows o) k ∷ []) (same_level Same ops all e f a)
  limits_same at _ _ (infix_alike o os ps e f t a) = one (operand_limits at o os) (operand_limits at o ps) at (infix_allows o) e f (operands_same at o os ps t) a
  limits_same at _ _ (postfix_alike e f ss rs s r a t b) = postfix_same at e f ss rs s r a t b
  limits_same at _ _ (set_alike ts us t) = terms_same at ts us t
  limits_same at _ _ (filter_alike v w e f a b) = two at Action Action v w e f a b
  limits_same at _ _ (map_alike e f bs cs a t) = before at e f (set_limits at bs) (set_limits at cs) a (sets_same at bs cs t)
  limits_same at _ _ (tuple_alike ts us t) = terms_same at ts us t
  limits_same at _ _ (function_alike bs cs e f t a) = one (set_limits at bs) (set_limits at cs) at Action e f (sets_same at bs cs t) a
  limits_same at _ _ (function_set_alike v w e f a b) = two at Action Action v w e f a b
  limits_same at _ _ (record_alike fs gs t) = values_same at fs gs t
  limits_same at _ _ (record_set_alike fs gs t) = values_same at fs gs t
  limits_same at _ _ (except_alike e f cs ds a t) = before at e f (change_limits at cs) (change_limits at ds) a (changes_same at cs ds t)
  limits_same at _ _ (quantified_alike q bs cs e f t a) = sets_same at bs cs t
  limits_same at _ _ (choose_alike v w e f a b) = two at Action Action v w e f a b
  limits_same at _ _ (if_alike p q v w e f a b c) = refl
  limits_same at _ _ (case_alike ps qs t) = refl
  limits_same at _ _ (case_other_alike ps qs e f t a) = refl
  limits_same at _ _ (box_alike e f v w a b) = two at Action State e f v w a b
  limits_same at _ _ (angle_alike e f v w a b) = two at Action State e f v w a b
  limits_same at _ _ (fairness_alike v w e f a b) = refl
