-- Terms that are alike by each of many relations of definitions are so by all of them at once: one derivation tells the form, and each other is taken apart
-- beside it.
use Rattle.std.proofs.Common.{List, ◌∷◌}
use Rattle.std.specs.Prelude.{ℕ, zero}
use Rattle.values_core.specs.Data.{Val}
use Rattle.base_core.specs.declared.place.Place.{Place}
use Rattle.reading_trees.specs.declared.operators.PrefixOperator.{PrefixOperator}
use Rattle.reading_trees.specs.declared.operators.InfixOperator.{InfixOperator}
use Rattle.reading_trees.specs.declared.operators.Quantifier.{Quantifier}
use Rattle.names_terms.specs.declared.level.Level.{Level}
use Rattle.names_terms.specs.declared.standard.StandardOperator.{StandardOperator}
use Rattle.names_terms.specs.Terms.{Term, Placed, Meaning, Use, Standard, Parenthesized, Scoped, All, Any, Prefix, Infix, Postfix, SetOf, Filter, Map, Tuple, Function, FunctionSet, Record, RecordSet, Except, Quantified, Choose, If, Case, CaseOther, BoxAction, AngleAction, Fairness, Terms, MoreTerms, Operands, First, Next, Step, Index, Steps, MoreSteps, Bounds, MoreBounds, Fields, MoreFields, Changes, MoreChanges, Arms, MoreArms}
use Rattle.twice_terms.specs.Alike.{AlikeBy, AlikeMeaningsBy, AlikeTermsBy, AlikeOperandsBy, AlikeStepBy, AlikeStepsBy, AlikeBoundsBy, AlikeFieldsBy, AlikeChangesBy, AlikeArmsBy, AlikeNumbersBy, placed_alike, known_alike, named_alike, variable_alike, slot_alike, use_alike, standard_alike, parenthesized_alike, scoped_alike, all_alike, any_alike, prefix_alike, infix_alike, postfix_alike, set_alike, filter_alike, map_alike, tuple_alike, function_alike, function_set_alike, record_alike, record_set_alike, except_alike, quantified_alike, choose_alike, if_alike, case_alike, case_other_alike, box_alike, angle_alike, fairness_alike, no_terms_alike, more_terms_alike, first_alike, next_alike, prime_alike, index_alike, field_alike, no_steps_alike, more_steps_alike, no_bounds_alike, more_bounds_alike, no_fields_alike, more_fields_alike, no_changes_alike, more_changes_alike, no_arms_alike, more_arms_alike, no_numbers_alike, more_numbers_alike}

-- What is in a case. Both sides have names of their own for what they share, since the same name twice could not be matched.
module _ (Same : Val → Val → Type 0) (Stands R : ℕ → ℕ → Type 0) where
  in_placed_alike : (at at_too : Place) (l l_too : Level) (m n : Meaning) → AlikeBy Same Stands R (Placed at l m) (Placed at_too l_too n) → AlikeMeaningsBy Same Stands R m n
  in_placed_alike _ _ _ _ _ _ (placed_alike at l m n h1) = h1

  in_use_alike : (k j : ℕ) (ts us : Terms) → AlikeMeaningsBy Same Stands R (Use k ts) (Use j us) → R k j × AlikeTermsBy Same Stands R ts us
  in_use_alike _ _ _ _ (use_alike k j ts us h1 h2) = (h1, h2)

  in_standard_alike : (o o_too : StandardOperator) (ts us : Terms) → AlikeMeaningsBy Same Stands R (Standard o ts) (Standard o_too us) → AlikeTermsBy Same Stands R ts us
  in_standard_alike _ _ _ _ (standard_alike o ts us h1) = h1

  in_parenthesized_alike : (e f : Term) → AlikeMeaningsBy Same Stands R (Parenthesized e) (Parenthesized f) → AlikeBy Same Stands R e f
  in_parenthesized_alike _ _ (parenthesized_alike e f h1) = h1

  in_scoped_alike : (ks js : List ℕ) (e f : Term) → AlikeMeaningsBy Same Stands R (Scoped ks e) (Scoped js f) → AlikeNumbersBy Same Stands R ks js × AlikeBy Same Stands R e f
  in_scoped_alike _ _ _ _ (scoped_alike ks js e f h1 h2) = (h1, h2)

  in_all_alike : (ts us : Terms) → AlikeMeaningsBy Same Stands R (All ts) (All us) → AlikeTermsBy Same Stands R ts us
  in_all_alike _ _ (all_alike ts us h1) = h1

  in_any_alike : (ts us : Terms) → AlikeMeaningsBy Same Stands R (Any ts) (Any us) → AlikeTermsBy Same Stands R ts us
  in_any_alike _ _ (any_alike ts us h1) = h1

  in_prefix_alike : (o o_too : PrefixOperator) (e f : Term) → AlikeMeaningsBy Same Stands R (Prefix o e) (Prefix o_too f) → AlikeBy Same Stands R e f
  in_prefix_alike _ _ _ _ (prefix_alike o e f h1) = h1

  in_infix_alike : (o o_too : InfixOperator) (os ps : Operands) (e f : Term) → AlikeMeaningsBy Same Stands R (Infix o os e) (Infix o_too ps f) → AlikeOperandsBy Same Stands R os ps × AlikeBy Same Stands R e f
  in_infix_alike _ _ _ _ _ _ (infix_alike o os ps e f h1 h2) = (h1, h2)

  in_postfix_alike : (e f : Term) (ss rs : Steps) (s r : Step) → AlikeMeaningsBy Same Stands R (Postfix e ss s) (Postfix f rs r) → AlikeBy Same Stands R e f × AlikeStepsBy Same Stands R ss rs × AlikeStepBy Same Stands R s r
  in_postfix_alike _ _ _ _ _ _ (postfix_alike e f ss rs s r h1 h2 h3) = (h1, h2, h3)

  in_set_alike : (ts us : Terms) → AlikeMeaningsBy Same Stands R (SetOf ts) (SetOf us) → AlikeTermsBy Same Stands R ts us
  in_set_alike _ _ (set_alike ts us h1) = h1

  in_filter_alike : (a b e f : Term) → AlikeMeaningsBy Same Stands R (Filter a e) (Filter b f) → AlikeBy Same Stands R a b × AlikeBy Same Stands R e f
  in_filter_alike _ _ _ _ (filter_alike a b e f h1 h2) = (h1, h2)

  in_map_alike : (e f : Term) (bs cs : Bounds) → AlikeMeaningsBy Same Stands R (Map e bs) (Map f cs) → AlikeBy Same Stands R e f × AlikeBoundsBy Same Stands R bs cs
  in_map_alike _ _ _ _ (map_alike e f bs cs h1 h2) = (h1, h2)

  in_tuple_alike : (ts us : Terms) → AlikeMeaningsBy Same Stands R (Tuple ts) (Tuple us) → AlikeTermsBy Same Stands R ts us
  in_tuple_alike _ _ (tuple_alike ts us h1) = h1

  in_function_alike : (bs cs : Bounds) (e f : Term) → AlikeMeaningsBy Same Stands R (Function bs e) (Function cs f) → AlikeBoundsBy Same Stands R bs cs × AlikeBy Same Stands R e f
  in_function_alike _ _ _ _ (function_alike bs cs e f h1 h2) = (h1, h2)

  in_function_set_alike : (a b e f : Term) → AlikeMeaningsBy Same Stands R (FunctionSet a e) (FunctionSet b f) → AlikeBy Same Stands R a b × AlikeBy Same Stands R e f
  in_function_set_alike _ _ _ _ (function_set_alike a b e f h1 h2) = (h1, h2)

  in_record_alike : (fs gs : Fields) → AlikeMeaningsBy Same Stands R (Record fs) (Record gs) → AlikeFieldsBy Same Stands R fs gs
  in_record_alike _ _ (record_alike fs gs h1) = h1

  in_record_set_alike : (fs gs : Fields) → AlikeMeaningsBy Same Stands R (RecordSet fs) (RecordSet gs) → AlikeFieldsBy Same Stands R fs gs
  in_record_set_alike _ _ (record_set_alike fs gs h1) = h1

  in_except_alike : (e f : Term) (cs ds : Changes) → AlikeMeaningsBy Same Stands R (Except e cs) (Except f ds) → AlikeBy Same Stands R e f × AlikeChangesBy Same Stands R cs ds
  in_except_alike _ _ _ _ (except_alike e f cs ds h1 h2) = (h1, h2)

  in_quantified_alike : (q q_too : Quantifier) (bs cs : Bounds) (e f : Term) → AlikeMeaningsBy Same Stands R (Quantified q bs e) (Quantified q_too cs f) → AlikeBoundsBy Same Stands R bs cs × AlikeBy Same Stands R e f
  in_quantified_alike _ _ _ _ _ _ (quantified_alike q bs cs e f h1 h2) = (h1, h2)

  in_choose_alike : (a b e f : Term) → AlikeMeaningsBy Same Stands R (Choose a e) (Choose b f) → AlikeBy Same Stands R a b × AlikeBy Same Stands R e f
  in_choose_alike _ _ _ _ (choose_alike a b e f h1 h2) = (h1, h2)

  in_if_alike : (p q a b e f : Term) → AlikeMeaningsBy Same Stands R (If p a e) (If q b f) → AlikeBy Same Stands R p q × AlikeBy Same Stands R a b × AlikeBy Same Stands R e f
  in_if_alike _ _ _ _ _ _ (if_alike p q a b e f h1 h2 h3) = (h1, h2, h3)

  in_case_alike : (ps qs : Arms) → AlikeMeaningsBy Same Stands R (Case ps) (Case qs) → AlikeArmsBy Same Stands R ps qs
  in_case_alike _ _ (case_alike ps qs h1) = h1

  in_case_other_alike : (ps qs : Arms) (e f : Term) → AlikeMeaningsBy Same Stands R (CaseOther ps e) (CaseOther qs f) → AlikeArmsBy Same Stands R ps qs × AlikeBy Same Stands R e f
  in_case_other_alike _ _ _ _ (case_other_alike ps qs e f h1 h2) = (h1, h2)

  in_box_alike : (e f v w : Term) → AlikeMeaningsBy Same Stands R (BoxAction e v) (BoxAction f w) → AlikeBy Same Stands R e f × AlikeBy Same Stands R v w
  in_box_alike _ _ _ _ (box_alike e f v w h1 h2) = (h1, h2)

  in_angle_alike : (e f v w : Term) → AlikeMeaningsBy Same Stands R (AngleAction e v) (AngleAction f w) → AlikeBy Same Stands R e f × AlikeBy Same Stands R v w
  in_angle_alike _ _ _ _ (angle_alike e f v w h1 h2) = (h1, h2)

  in_fairness_alike : (v w e f : Term) → AlikeMeaningsBy Same Stands R (Fairness v e) (Fairness w f) → AlikeBy Same Stands R v w × AlikeBy Same Stands R e f
  in_fairness_alike _ _ _ _ (fairness_alike v w e f h1 h2) = (h1, h2)

  in_more_terms_alike : (ts us : Terms) (e f : Term) → AlikeTermsBy Same Stands R (MoreTerms ts e) (MoreTerms us f) → AlikeTermsBy Same Stands R ts us × AlikeBy Same Stands R e f
  in_more_terms_alike _ _ _ _ (more_terms_alike ts us e f h1 h2) = (h1, h2)

  in_first_alike : (e f : Term) → AlikeOperandsBy Same Stands R (First e) (First f) → AlikeBy Same Stands R e f
  in_first_alike _ _ (first_alike e f h1) = h1

  in_next_alike : (os ps : Operands) (at at_too : Place) (e f : Term) → AlikeOperandsBy Same Stands R (Next os at e) (Next ps at_too f) → AlikeOperandsBy Same Stands R os ps × AlikeBy Same Stands R e f
  in_next_alike _ _ _ _ _ _ (next_alike os ps at e f h1 h2) = (h1, h2)

  in_index_alike : (ts us : Terms) → AlikeStepBy Same Stands R (Index ts) (Index us) → AlikeTermsBy Same Stands R ts us
  in_index_alike _ _ (index_alike ts us h1) = h1

  in_more_steps_alike : (ss rs : Steps) (at at_too : Place) (s r : Step) → AlikeStepsBy Same Stands R (MoreSteps ss at s) (MoreSteps rs at_too r) → AlikeStepsBy Same Stands R ss rs × AlikeStepBy Same Stands R s r
  in_more_steps_alike _ _ _ _ _ _ (more_steps_alike ss rs at s r h1 h2) = (h1, h2)

  in_more_bounds_alike : (bs cs : Bounds) (n n_too : ℕ) (e f : Term) → AlikeBoundsBy Same Stands R (MoreBounds bs n e) (MoreBounds cs n_too f) → AlikeBoundsBy Same Stands R bs cs × AlikeBy Same Stands R e f
  in_more_bounds_alike _ _ _ _ _ _ (more_bounds_alike bs cs n e f h1 h2) = (h1, h2)

  in_more_fields_alike : (fs gs : Fields) (h h_too : List ℕ) (e f : Term) → AlikeFieldsBy Same Stands R (MoreFields fs h e) (MoreFields gs h_too f) → AlikeFieldsBy Same Stands R fs gs × AlikeBy Same Stands R e f
  in_more_fields_alike _ _ _ _ _ _ (more_fields_alike fs gs h e f h1 h2) = (h1, h2)

  in_more_changes_alike : (cs ds : Changes) (p q : Steps) (e f : Term) → AlikeChangesBy Same Stands R (MoreChanges cs p e) (MoreChanges ds q f) → AlikeChangesBy Same Stands R cs ds × AlikeStepsBy Same Stands R p q × AlikeBy Same Stands R e f
  in_more_changes_alike _ _ _ _ _ _ (more_changes_alike cs ds p q e f h1 h2 h3) = (h1, h2, h3)

  in_more_arms_alike : (ps qs : Arms) (a b e f : Term) → AlikeArmsBy Same Stands R (MoreArms ps a e) (MoreArms qs b f) → AlikeArmsBy Same Stands R ps qs × AlikeBy Same Stands R a b × AlikeBy Same Stands R e f
  in_more_arms_alike _ _ _ _ _ _ (more_arms_alike ps qs a b e f h1 h2 h3) = (h1, h2, h3)

  in_more_numbers_alike : (k j : ℕ) (ks js : List ℕ) → AlikeNumbersBy Same Stands R (k ∷ ks) (j ∷ js) → R k j × AlikeNumbersBy Same Stands R ks js
  in_more_numbers_alike _ _ _ _ (more_numbers_alike k j ks js h1 h2) = (h1, h2)

-- relations by a number, and the one of what is in each of them
module _ (Same : Val → Val → Type 0) (Stands : ℕ → ℕ → Type 0) (U : ℕ → ℕ → ℕ → Type 0) where
  abbrev Every : ℕ → ℕ → Type 0
  Every k j = (n : ℕ) → U n k j

  mutual
    pub limit_term : (e f : Term) → AlikeBy Same Stands (U zero) e f → ((i : ℕ) → AlikeBy Same Stands (U i) e f) → AlikeBy Same Stands Every e f
    limit_term _ _ (placed_alike at l m n h1) g = placed_alike at l m n (limit_meaning m n h1 (λ index. in_placed_alike Same Stands (U index) at at l l m n (g index)))

    limit_meaning : (m n : Meaning) → AlikeMeaningsBy Same Stands (U zero) m n → ((i : ℕ) → AlikeMeaningsBy Same Stands (U i) m n) → AlikeMeaningsBy Same Stands Every m n
    limit_meaning _ _ (known_alike v w h1) g = known_alike v w h1
    limit_meaning _ _ (named_alike s) g = named_alike s
    limit_meaning _ _ (variable_alike x y h1) g = variable_alike x y h1
    limit_meaning _ _ (slot_alike i) g = slot_alike i
    limit_meaning _ _ (use_alike k j ts us h1 h2) g =
        use_alike k j ts us (λ index. (in_use_alike Same Stands (U index) k j ts us (g index)).0) (limit_terms ts us h2 (λ index. (in_use_alike Same Stands (U index) k j ts us (g index)).1))
    limit_meaning _ _ (standard_alike o ts us h1) g = standard_alike o ts us (limit_terms ts us h1 (λ index. in_standard_alike Same Stands (U index) o o ts us (g index)))
    limit_meaning _ _ (parenthesized_alike e f h1) g = parenthesized_alike e f (limit_term e f h1 (λ index. in_parenthesized_alike Same Stands (U index) e f (g index)))
    limit_meaning _ _ (scoped_alike ks js e f h1 h2) g =
        scoped_alike ks js e f (limit_numbers ks js h1 (λ index. (in_scoped_alike Same Stands (U index) ks js e f (g index)).0)) (limit_term e f h2 (λ index. (in_scoped_alike Same Stands (U index) ks js e f (g index)).1))
    limit_meaning _ _ (all_alike ts us h1) g = all_alike ts us (limit_terms ts us h1 (λ index. in_all_alike Same Stands (U index) ts us (g index)))
    limit_meaning _ _ (any_alike ts us h1) g = any_alike ts us (limit_terms ts us h1 (λ index. in_any_alike Same Stands (U index) ts us (g index)))
    limit_meaning _ _ (prefix_alike o e f h1) g = prefix_alike o e f (limit_term e f h1 (λ index. in_prefix_alike Same Stands (U index) o o e f (g index)))
    limit_meaning _ _ (infix_alike o os ps e f h1 h2) g =
        infix_alike o os ps e f (limit_operands os ps h1 (λ index. (in_infix_alike Same Stands (U index) o o os ps e f (g index)).0)) (limit_term e f h2 (λ index. (in_infix_alike Same Stands (U index) o o os ps e f (g index)).1))
    limit_meaning _ _ (postfix_alike e f ss rs s r h1 h2 h3) g =
        postfix_alike e f ss rs s r (limit_term e f h1 (λ index. (in_postfix_alike Same Stands (U index) e f ss rs s r (g index)).0)) (limit_steps ss rs h2 (λ index. (in_postfix_alike Same Stands (U index) e f ss rs s r (g index)).1)) (limit_step s r h3 (λ index. (in_postfix_alike Same Stands (U index) e f ss rs s r (g index)).2))
    limit_meaning _ _ (set_alike ts us h1) g = set_alike ts us (limit_terms ts us h1 (λ index. in_set_alike Same Stands (U index) ts us (g index)))
    limit_meaning _ _ (filter_alike a b e f h1 h2) g =
        filter_alike a b e f (limit_term a b h1 (λ index. (in_filter_alike Same Stands (U index) a b e f (g index)).0)) (limit_term e f h2 (λ index. (in_filter_alike Same Stands (U index) a b e f (g index)).1))
    limit_meaning _ _ (map_alike e f bs cs h1 h2) g =
        map_alike e f bs cs (limit_term e f h1 (λ index. (in_map_alike Same Stands (U index) e f bs cs (g index)).0)) (limit_bounds bs cs h2 (λ index. (in_map_alike Same Stands (U index) e f bs cs (g index)).1))
    limit_meaning _ _ (tuple_alike ts us h1) g = tuple_alike ts us (limit_terms ts us h1 (λ index. in_tuple_alike Same Stands (U index) ts us (g index)))
    limit_meaning _ _ (function_alike bs cs e f h1 h2) g =
        function_alike bs cs e f (limit_bounds bs cs h1 (λ index. (in_function_alike Same Stands (U index) bs cs e f (g index)).0)) (limit_term e f h2 (λ index. (in_function_alike Same Stands (U index) bs cs e f (g index)).1))
    limit_meaning _ _ (function_set_alike a b e f h1 h2) g =
        function_set_alike a b e f (limit_term a b h1 (λ index. (in_function_set_alike Same Stands (U index) a b e f (g index)).0)) (limit_term e f h2 (λ index. (in_function_set_alike Same Stands (U index) a b e f (g index)).1))
    limit_meaning _ _ (record_alike fs gs h1) g = record_alike fs gs (limit_fields fs gs h1 (λ index. in_record_alike Same Stands (U index) fs gs (g index)))
    limit_meaning _ _ (record_set_alike fs gs h1) g = record_set_alike fs gs (limit_fields fs gs h1 (λ index. in_record_set_alike Same Stands (U index) fs gs (g index)))
    limit_meaning _ _ (except_alike e f cs ds h1 h2) g =
        except_alike e f cs ds (limit_term e f h1 (λ index. (in_except_alike Same Stands (U index) e f cs ds (g index)).0)) (limit_changes cs ds h2 (λ index. (in_except_alike Same Stands (U index) e f cs ds (g index)).1))
    limit_meaning _ _ (quantified_alike q bs cs e f h1 h2) g =
        quantified_alike q bs cs e f (limit_bounds bs cs h1 (λ index. (in_quantified_alike Same Stands (U index) q q bs cs e f (g index)).0)) (limit_term e f h2 (λ index. (in_quantified_alike Same Stands (U index) q q bs cs e f (g index)).1))
    limit_meaning _ _ (choose_alike a b e f h1 h2) g =
        choose_alike a b e f (limit_term a b h1 (λ index. (in_choose_alike Same Stands (U index) a b e f (g index)).0)) (limit_term e f h2 (λ index. (in_choose_alike Same Stands (U index) a b e f (g index)).1))
    limit_meaning _ _ (if_alike p q a b e f h1 h2 h3) g =
        if_alike p q a b e f (limit_term p q h1 (λ index. (in_if_alike Same Stands (U index) p q a b e f (g index)).0)) (limit_term a b h2 (λ index. (in_if_alike Same Stands (U index) p q a b e f (g index)).1)) (limit_term e f h3 (λ index. (in_if_alike Same Stands (U index) p q a b e f (g index)).2))
    limit_meaning _ _ (case_alike ps qs h1) g = case_alike ps qs (limit_arms ps qs h1 (λ index. in_case_alike Same Stands (U index) ps qs (g index)))
    limit_meaning _ _ (case_other_alike ps qs e f h1 h2) g =
        case_other_alike ps qs e f (limit_arms ps qs h1 (λ index. (in_case_other_alike Same Stands (U index) ps qs e f (g index)).0)) (limit_term e f h2 (λ index. (in_case_other_alike Same Stands (U index) ps qs e f (g index)).1))
    limit_meaning _ _ (box_alike e f v w h1 h2) g =
        box_alike e f v w (limit_term e f h1 (λ index. (in_box_alike Same Stands (U index) e f v w (g index)).0)) (limit_term v w h2 (λ index. (in_box_alike Same Stands (U index) e f v w (g index)).1))
    limit_meaning _ _ (angle_alike e f v w h1 h2) g =
        angle_alike e f v w (limit_term e f h1 (λ index. (in_angle_alike Same Stands (U index) e f v w (g index)).0)) (limit_term v w h2 (λ index. (in_angle_alike Same Stands (U index) e f v w (g index)).1))
    limit_meaning _ _ (fairness_alike v w e f h1 h2) g =
        fairness_alike v w e f (limit_term v w h1 (λ index. (in_fairness_alike Same Stands (U index) v w e f (g index)).0)) (limit_term e f h2 (λ index. (in_fairness_alike Same Stands (U index) v w e f (g index)).1))

    limit_terms : (ts us : Terms) → AlikeTermsBy Same Stands (U zero) ts us → ((i : ℕ) → AlikeTermsBy Same Stands (U i) ts us) → AlikeTermsBy Same Stands Every ts us
    limit_terms _ _ no_terms_alike g = no_terms_alike
    limit_terms _ _ (more_terms_alike ts us e f h1 h2) g =
        more_terms_alike ts us e f (limit_terms ts us h1 (λ index. (in_more_terms_alike Same Stands (U index) ts us e f (g index)).0)) (limit_term e f h2 (λ index. (in_more_terms_alike Same Stands (U index) ts us e f (g index)).1))

    limit_operands : (os ps : Operands) → AlikeOperandsBy Same Stands (U zero) os ps → ((i : ℕ) → AlikeOperandsBy Same Stands (U i) os ps) → AlikeOperandsBy Same Stands Every os ps
    limit_operands _ _ (first_alike e f h1) g = first_alike e f (limit_term e f h1 (λ index. in_first_alike Same Stands (U index) e f (g index)))
    limit_operands _ _ (next_alike os ps at e f h1 h2) g =
        next_alike os ps at e f (limit_operands os ps h1 (λ index. (in_next_alike Same Stands (U index) os ps at at e f (g index)).0)) (limit_term e f h2 (λ index. (in_next_alike Same Stands (U index) os ps at at e f (g index)).1))

    limit_step : (s r : Step) → AlikeStepBy Same Stands (U zero) s r → ((i : ℕ) → AlikeStepBy Same Stands (U i) s r) → AlikeStepBy Same Stands Every s r
    limit_step _ _ prime_alike g = prime_alike
    limit_step _ _ (index_alike ts us h1) g = index_alike ts us (limit_terms ts us h1 (λ index. in_index_alike Same Stands (U index) ts us (g index)))
    limit_step _ _ (field_alike h) g = field_alike h

    limit_steps : (ss rs : Steps) → AlikeStepsBy Same Stands (U zero) ss rs → ((i : ℕ) → AlikeStepsBy Same Stands (U i) ss rs) → AlikeStepsBy Same Stands Every ss rs
    limit_steps _ _ no_steps_alike g = no_steps_alike
    limit_steps _ _ (more_steps_alike ss rs at s r h1 h2) g =
        more_steps_alike ss rs at s r (limit_steps ss rs h1 (λ index. (in_more_steps_alike Same Stands (U index) ss rs at at s r (g index)).0)) (limit_step s r h2 (λ index. (in_more_steps_alike Same Stands (U index) ss rs at at s r (g index)).1))

    limit_bounds : (bs cs : Bounds) → AlikeBoundsBy Same Stands (U zero) bs cs → ((i : ℕ) → AlikeBoundsBy Same Stands (U i) bs cs) → AlikeBoundsBy Same Stands Every bs cs
    limit_bounds _ _ no_bounds_alike g = no_bounds_alike
    limit_bounds _ _ (more_bounds_alike bs cs n e f h1 h2) g =
        more_bounds_alike bs cs n e f (limit_bounds bs cs h1 (λ index. (in_more_bounds_alike Same Stands (U index) bs cs n n e f (g index)).0)) (limit_term e f h2 (λ index. (in_more_bounds_alike Same Stands (U index) bs cs n n e f (g index)).1))

    limit_fields : (fs gs : Fields) → AlikeFieldsBy Same Stands (U zero) fs gs → ((i : ℕ) → AlikeFieldsBy Same Stands (U i) fs gs) → AlikeFieldsBy Same Stands Every fs gs
    limit_fields _ _ no_fields_alike g = no_fields_alike
    limit_fields _ _ (more_fields_alike fs gs h e f h1 h2) g =
        more_fields_alike fs gs h e f (limit_fields fs gs h1 (λ index. (in_more_fields_alike Same Stands (U index) fs gs h h e f (g index)).0)) (limit_term e f h2 (λ index. (in_more_fields_alike Same Stands (U index) fs gs h h e f (g index)).1))

    limit_changes : (cs ds : Changes) → AlikeChangesBy Same Stands (U zero) cs ds → ((i : ℕ) → AlikeChangesBy Same Stands (U i) cs ds) → AlikeChangesBy Same Stands Every cs ds
    limit_changes _ _ no_changes_alike g = no_changes_alike
    limit_changes _ _ (more_changes_alike cs ds p q e f h1 h2 h3) g =
        more_changes_alike cs ds p q e f (limit_changes cs ds h1 (λ index. (in_more_changes_alike Same Stands (U index) cs ds p q e f (g index)).0)) (limit_steps p q h2 (λ index. (in_more_changes_alike Same Stands (U index) cs ds p q e f (g index)).1)) (limit_term e f h3 (λ index. (in_more_changes_alike Same Stands (U index) cs ds p q e f (g index)).2))

    limit_arms : (ps qs : Arms) → AlikeArmsBy Same Stands (U zero) ps qs → ((i : ℕ) → AlikeArmsBy Same Stands (U i) ps qs) → AlikeArmsBy Same Stands Every ps qs
    limit_arms _ _ no_arms_alike g = no_arms_alike
    limit_arms _ _ (more_arms_alike ps qs a b e f h1 h2 h3) g =
        more_arms_alike ps qs a b e f (limit_arms ps qs h1 (λ index. (in_more_arms_alike Same Stands (U index) ps qs a b e f (g index)).0)) (limit_term a b h2 (λ index. (in_more_arms_alike Same Stands (U index) ps qs a b e f (g index)).1)) (limit_term e f h3 (λ index. (in_more_arms_alike Same Stands (U index) ps qs a b e f (g index)).2))

    limit_numbers : (ks js : List ℕ) → AlikeNumbersBy Same Stands (U zero) ks js → ((i : ℕ) → AlikeNumbersBy Same Stands (U i) ks js) → AlikeNumbersBy Same Stands Every ks js
    limit_numbers _ _ no_numbers_alike g = no_numbers_alike
    limit_numbers _ _ (more_numbers_alike k j ks js h1 h2) g =
        more_numbers_alike k j ks js (λ index. (in_more_numbers_alike Same Stands (U index) k j ks js (g index)).0) (limit_numbers ks js h2 (λ index. (in_more_numbers_alike Same Stands (U index) k j ks js (g index)).1))
