-- Meanings that are alike have one level.
use Rattle.std.proofs.Common.{◌≡◌, ◌∙◌, sym, ap, refl, List}
use Rattle.std.specs.Prelude.{ℕ, slice_get}
use Rattle.values_core.specs.Data.{Val}
use Rattle.names_terms.specs.declared.level.Level.{Level}
use Rattle.names_terms.specs.declared.level.Level.TheVariants as levels
use Rattle.names_terms.specs.declared.operator.Operator.{Operator}
use Rattle.names_terms.specs.Terms as term
use Rattle.names_terms.specs.Terms.{Term, Terms, Meaning, level_of}
use Rattle.names_terms.specs.Levels.{level_for, joined, of_terms, of_operands, of_step, of_steps, of_bounds, of_fields, of_path, of_changes, of_arms, of_operator, of_prefix, of_infix}
use Rattle.twice_terms.specs.Alike.{AlikeBy, AlikeMeaningsBy, AlikeTermsBy, AlikeOperandsBy, AlikeStepBy, AlikeStepsBy, AlikeBoundsBy, AlikeFieldsBy, AlikeChangesBy, AlikeArmsBy, placed_alike, known_alike, named_alike, variable_alike, slot_alike, use_alike, standard_alike, parenthesized_alike, scoped_alike, all_alike, any_alike, prefix_alike, infix_alike, postfix_alike, set_alike, filter_alike, map_alike, tuple_alike, function_alike, function_set_alike, record_alike, record_set_alike, except_alike, quantified_alike, choose_alike, if_alike, case_alike, case_other_alike, box_alike, angle_alike, fairness_alike, no_terms_alike, more_terms_alike, first_alike, next_alike, prime_alike, index_alike, field_alike, no_steps_alike, more_steps_alike, no_bounds_alike, more_bounds_alike, no_fields_alike, more_fields_alike, no_changes_alike, more_changes_alike, no_arms_alike, more_arms_alike, SameHeads, IsOneVariable}

pub both : (f : Level → Level → Level) (a b c d : Level) → a ≡ b → c ≡ d → f a c ≡ f b d
both f a b c d p q = ap (λ x. f x c) p ∙ ap (f b) q

module _ (Same : Val → Val → Type 0) (ops all : List Operator) (R : ℕ → ℕ → Type 0) (heads : (k j : ℕ) → R k j → SameHeads ops all k j) where
  pub term_level : (e f : Term) → AlikeBy Same IsOneVariable R e f → level_of e ≡ level_of f
  term_level _ _ (placed_alike at l m n h) = refl

  terms_level : (ts us : Terms) → AlikeTermsBy Same IsOneVariable R ts us → of_terms ts ≡ of_terms us
  terms_level _ _ no_terms_alike = refl
  terms_level _ _ (more_terms_alike ts us e f h k) = both joined (of_terms ts) (of_terms us) (level_of e) (level_of f) (terms_level ts us h) (term_level e f k)

  operands_level : (ts us : term.Operands) → AlikeOperandsBy Same IsOneVariable R ts us → of_operands ts ≡ of_operands us
  operands_level _ _ (first_alike e f k) = term_level e f k
  operands_level _ _ (next_alike ts us at e f h k) = both joined (of_operands ts) (of_operands us) (level_of e) (level_of f) (operands_level ts us h) (term_level e f k)

  step_level : (a b : Level) (s r : term.Step) → a ≡ b → AlikeStepBy Same IsOneVariable R s r → of_step a s ≡ of_step b r
  step_level a b _ _ q prime_alike = refl
  step_level a b _ _ q (index_alike ts us h) = both joined a b (of_terms ts) (of_terms us) q (terms_level ts us h)
  step_level a b _ _ q (field_alike h) = q

  steps_level : (a b : Level) (s r : term.Steps) → a ≡ b → AlikeStepsBy Same IsOneVariable R s r → of_steps a s ≡ of_steps b r
  steps_level a b _ _ q no_steps_alike = q
  steps_level a b _ _ q (more_steps_alike ss rs at s r h k) = step_level (of_steps a ss) (of_steps b rs) s r (steps_level a b ss rs q h) k

  bounds_level : (ts us : term.Bounds) → AlikeBoundsBy Same IsOneVariable R ts us → of_bounds ts ≡ of_bounds us
  bounds_level _ _ no_bounds_alike = refl
  bounds_level _ _ (more_bounds_alike ts us n e f h k) = both joined (of_bounds ts) (of_bounds us) (level_of e) (level_of f) (bounds_level ts us h) (term_level e f k)

  fields_level : (ts us : term.Fields) → AlikeFieldsBy Same IsOneVariable R ts us → of_fields ts ≡ of_fields us
  fields_level _ _ no_fields_alike = refl
  fields_level _ _ (more_fields_alike ts us n e f h k) = both joined (of_fields ts) (of_fields us) (level_of e) (level_of f) (fields_level ts us h) (term_level e f k)

  changes_level : (ts us : term.Changes) → AlikeChangesBy Same IsOneVariable R ts us → of_changes ts ≡ of_changes us
  changes_level _ _ no_changes_alike = refl
  changes_level _ _ (more_changes_alike ts us p q e f h g k) =
      both joined (of_changes ts) (of_changes us) (joined (of_path p) (level_of e)) (joined (of_path q) (level_of f)) (changes_level ts us h)
      (both joined (of_path p) (of_path q) (level_of e) (level_of f) (steps_level levels.Constant levels.Constant p q refl g) (term_level e f k))

  arms_level : (ts us : term.Arms) → AlikeArmsBy Same IsOneVariable R ts us → of_arms ts ≡ of_arms us
  arms_level _ _ no_arms_alike = refl
  arms_level _ _ (more_arms_alike ts us a b e f h g k) =
      both joined (of_arms ts) (of_arms us) (joined (level_of a) (level_of e)) (joined (level_of b) (level_of f)) (arms_level ts us h)
      (both joined (level_of a) (level_of b) (level_of e) (level_of f) (term_level a b g) (term_level e f k))

  pub row_level : (k j : ℕ) → R k j → of_operator (slice_get ops k) ≡ of_operator (slice_get all j)
  row_level k j r = let h : SameHeads ops all k j = heads k j r in ap of_operator h.here ∙ h.level ∙ sym (ap of_operator h.there)

  pub meaning_level : (m n : Meaning) → AlikeMeaningsBy Same IsOneVariable R m n → level_for ops m ≡ level_for all n
  meaning_level _ _ (known_alike v w s) = refl
  meaning_level _ _ (named_alike s) = refl
  meaning_level _ _ (variable_alike x y q) = refl
  meaning_level _ _ (slot_alike i) = refl
  meaning_level _ _ (use_alike k j ts us r h) =
      both joined (of_operator (slice_get ops k)) (of_operator (slice_get all j)) (of_terms ts) (of_terms us) (row_level k j r) (terms_level ts us h)
  meaning_level _ _ (standard_alike o ts us h) = terms_level ts us h
  meaning_level _ _ (parenthesized_alike e f h) = term_level e f h
  meaning_level _ _ (scoped_alike ks js e f r h) = term_level e f h
  meaning_level _ _ (all_alike ts us h) = terms_level ts us h
  meaning_level _ _ (any_alike ts us h) = terms_level ts us h
  meaning_level _ _ (prefix_alike o e f h) = ap (of_prefix o) (term_level e f h)
  meaning_level _ _ (infix_alike o os ps e f h k) =
      ap (of_infix o) (both joined (of_operands os) (of_operands ps) (level_of e) (level_of f) (operands_level os ps h) (term_level e f k))
  meaning_level _ _ (postfix_alike e f ss rs s r h k g) = step_level (of_steps (level_of e) ss) (of_steps (level_of f) rs) s r (steps_level (level_of e) (level_of f) ss rs (term_level e f h) k) g
  meaning_level _ _ (set_alike ts us h) = terms_level ts us h
  meaning_level _ _ (filter_alike a b e f h k) = both joined (level_of a) (level_of b) (level_of e) (level_of f) (term_level a b h) (term_level e f k)
  meaning_level _ _ (map_alike e f bs cs h k) = both joined (level_of e) (level_of f) (of_bounds bs) (of_bounds cs) (term_level e f h) (bounds_level bs cs k)
  meaning_level _ _ (tuple_alike ts us h) = terms_level ts us h
  meaning_level _ _ (function_alike bs cs e f k h) = both joined (of_bounds bs) (of_bounds cs) (level_of e) (level_of f) (bounds_level bs cs k) (term_level e f h)
  meaning_level _ _ (function_set_alike a b e f h k) = both joined (level_of a) (level_of b) (level_of e) (level_of f) (term_level a b h) (term_level e f k)
  meaning_level _ _ (record_alike fs gs h) = fields_level fs gs h
  meaning_level _ _ (record_set_alike fs gs h) = fields_level fs gs h
  meaning_level _ _ (except_alike e f cs ds h k) = both joined (level_of e) (level_of f) (of_changes cs) (of_changes ds) (term_level e f h) (changes_level cs ds k)
  meaning_level _ _ (quantified_alike q bs cs e f k h) = both joined (of_bounds bs) (of_bounds cs) (level_of e) (level_of f) (bounds_level bs cs k) (term_level e f h)
  meaning_level _ _ (choose_alike a b e f h k) = both joined (level_of a) (level_of b) (level_of e) (level_of f) (term_level a b h) (term_level e f k)
  meaning_level _ _ (if_alike p q a b e f g h k) =
      both joined (level_of p) (level_of q) (joined (level_of a) (level_of e)) (joined (level_of b) (level_of f)) (term_level p q g)
      (both joined (level_of a) (level_of b) (level_of e) (level_of f) (term_level a b h) (term_level e f k))
  meaning_level _ _ (case_alike ps qs h) = arms_level ps qs h
  meaning_level _ _ (case_other_alike ps qs e f k h) = both joined (of_arms ps) (of_arms qs) (level_of e) (level_of f) (arms_level ps qs k) (term_level e f h)
  meaning_level _ _ (box_alike e f v w h k) = refl
  meaning_level _ _ (angle_alike e f v w h k) = refl
  meaning_level _ _ (fairness_alike v w e f h k) = refl
