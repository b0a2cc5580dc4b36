-- Where more definitions stand for each other, more terms are alike.
use Rattle.std.proofs.Common.{List}
use Rattle.std.specs.Prelude.{ℕ, zero, suc}
use Rattle.values_core.specs.Data.{Val}
use Rattle.names_terms.specs.declared.operator.Operator.{Operator}
use Rattle.names_terms.specs.Terms.{Term, Meaning, Terms, Operands, Step, Steps, Bounds, Fields, Changes, Arms}
use Rattle.twice_terms.specs.Alike.{AlikeBy, AlikeMeaningsBy, AlikeTermsBy, AlikeOperandsBy, AlikeStepBy, AlikeStepsBy, AlikeBoundsBy, AlikeFieldsBy, AlikeChangesBy, AlikeArmsBy, AlikeNumbersBy, placed_alike, known_alike, named_alike, variable_alike, slot_alike, use_alike, standard_alike, parenthesized_alike, scoped_alike, all_alike, any_alike, prefix_alike, infix_alike, postfix_alike, set_alike, filter_alike, map_alike, tuple_alike, function_alike, function_set_alike, record_alike, record_set_alike, except_alike, quantified_alike, choose_alike, if_alike, case_alike, case_other_alike, box_alike, angle_alike, fairness_alike, no_terms_alike, more_terms_alike, first_alike, next_alike, prime_alike, index_alike, field_alike, no_steps_alike, more_steps_alike, no_bounds_alike, more_bounds_alike, no_fields_alike, more_fields_alike, no_changes_alike, more_changes_alike, no_arms_alike, more_arms_alike, no_numbers_alike, more_numbers_alike, RowsBy, SameHeads, AlikeUpTo}

module _ (Same : Val → Val → Type 0) (Stands R S : ℕ → ℕ → Type 0) (grow : (k j : ℕ) → R k j → S k j) where
  mutual
    pub grow_term : (e f : Term) → AlikeBy Same Stands R e f → AlikeBy Same Stands S e f
    grow_term _ _ (placed_alike at l m n h1) = placed_alike at l m n (grow_meaning m n h1)

    grow_meaning : (m n : Meaning) → AlikeMeaningsBy Same Stands R m n → AlikeMeaningsBy Same Stands S m n
    grow_meaning _ _ (known_alike v w h1) = known_alike v w h1
    grow_meaning _ _ (named_alike s) = named_alike s
    grow_meaning _ _ (variable_alike x y h1) = variable_alike x y h1
    grow_meaning _ _ (slot_alike i) = slot_alike i
    grow_meaning _ _ (use_alike k j ts us h1 h2) = use_alike k j ts us (grow k j h1) (grow_terms ts us h2)
    grow_meaning _ _ (standard_alike o ts us h1) = standard_alike o ts us (grow_terms ts us h1)
    grow_meaning _ _ (parenthesized_alike e f h1) = parenthesized_alike e f (grow_term e f h1)
    grow_meaning _ _ (scoped_alike ks js e f h1 h2) = scoped_alike ks js e f (grow_numbers ks js h1) (grow_term e f h2)
    grow_meaning _ _ (all_alike ts us h1) = all_alike ts us (grow_terms ts us h1)
    grow_meaning _ _ (any_alike ts us h1) = any_alike ts us (grow_terms ts us h1)
    grow_meaning _ _ (prefix_alike o e f h1) = prefix_alike o e f (grow_term e f h1)
    grow_meaning _ _ (infix_alike o os ps e f h1 h2) = infix_alike o os ps e f (grow_operands os ps h1) (grow_term e f h2)
    grow_meaning _ _ (postfix_alike e f ss rs s r h1 h2 h3) = postfix_alike e f ss rs s r (grow_term e f h1) (grow_steps ss rs h2) (grow_step s r h3)
    grow_meaning _ _ (set_alike ts us h1) = set_alike ts us (grow_terms ts us h1)
    grow_meaning _ _ (filter_alike a b e f h1 h2) = filter_alike a b e f (grow_term a b h1) (grow_term e f h2)
    grow_meaning _ _ (map_alike e f bs cs h1 h2) = map_alike e f bs cs (grow_term e f h1) (grow_bounds bs cs h2)
    grow_meaning _ _ (tuple_alike ts us h1) = tuple_alike ts us (grow_terms ts us h1)
    grow_meaning _ _ (function_alike bs cs e f h1 h2) = function_alike bs cs e f (grow_bounds bs cs h1) (grow_term e f h2)
    grow_meaning _ _ (function_set_alike a b e f h1 h2) = function_set_alike a b e f (grow_term a b h1) (grow_term e f h2)
    grow_meaning _ _ (record_alike fs gs h1) = record_alike fs gs (grow_fields fs gs h1)
    grow_meaning _ _ (record_set_alike fs gs h1) = record_set_alike fs gs (grow_fields fs gs h1)
    grow_meaning _ _ (except_alike e f cs ds h1 h2) = except_alike e f cs ds (grow_term e f h1) (grow_changes cs ds h2)
    grow_meaning _ _ (quantified_alike q bs cs e f h1 h2) = quantified_alike q bs cs e f (grow_bounds bs cs h1) (grow_term e f h2)
    grow_meaning _ _ (choose_alike a b e f h1 h2) = choose_alike a b e f (grow_term a b h1) (grow_term e f h2)
    grow_meaning _ _ (if_alike p q a b e f h1 h2 h3) = if_alike p q a b e f (grow_term p q h1) (grow_term a b h2) (grow_term e f h3)
    grow_meaning _ _ (case_alike ps qs h1) = case_alike ps qs (grow_arms ps qs h1)
    grow_meaning _ _ (case_other_alike ps qs e f h1 h2) = case_other_alike ps qs e f (grow_arms ps qs h1) (grow_term e f h2)
    grow_meaning _ _ (box_alike e f v w h1 h2) = box_alike e f v w (grow_term e f h1) (grow_term v w h2)
    grow_meaning _ _ (angle_alike e f v w h1 h2) = angle_alike e f v w (grow_term e f h1) (grow_term v w h2)
    grow_meaning _ _ (fairness_alike v w e f h1 h2) = fairness_alike v w e f (grow_term v w h1) (grow_term e f h2)

    grow_terms : (ts us : Terms) → AlikeTermsBy Same Stands R ts us → AlikeTermsBy Same Stands S ts us
    grow_terms _ _ no_terms_alike = no_terms_alike
    grow_terms _ _ (more_terms_alike ts us e f h1 h2) = more_terms_alike ts us e f (grow_terms ts us h1) (grow_term e f h2)

    grow_operands : (os ps : Operands) → AlikeOperandsBy Same Stands R os ps → AlikeOperandsBy Same Stands S os ps
    grow_operands _ _ (first_alike e f h1) = first_alike e f (grow_term e f h1)
    grow_operands _ _ (next_alike os ps at e f h1 h2) = next_alike os ps at e f (grow_operands os ps h1) (grow_term e f h2)

    grow_step : (s r : Step) → AlikeStepBy Same Stands R s r → AlikeStepBy Same Stands S s r
    grow_step _ _ prime_alike = prime_alike
    grow_step _ _ (index_alike ts us h1) = index_alike ts us (grow_terms ts us h1)
    grow_step _ _ (field_alike h) = field_alike h

    grow_steps : (ss rs : Steps) → AlikeStepsBy Same Stands R ss rs → AlikeStepsBy Same Stands S ss rs
    grow_steps _ _ no_steps_alike = no_steps_alike
    grow_steps _ _ (more_steps_alike ss rs at s r h1 h2) = more_steps_alike ss rs at s r (grow_steps ss rs h1) (grow_step s r h2)

    grow_bounds : (bs cs : Bounds) → AlikeBoundsBy Same Stands R bs cs → AlikeBoundsBy Same Stands S bs cs
    grow_bounds _ _ no_bounds_alike = no_bounds_alike
    grow_bounds _ _ (more_bounds_alike bs cs n e f h1 h2) = more_bounds_alike bs cs n e f (grow_bounds bs cs h1) (grow_term e f h2)

    grow_fields : (fs gs : Fields) → AlikeFieldsBy Same Stands R fs gs → AlikeFieldsBy Same Stands S fs gs
    grow_fields _ _ no_fields_alike = no_fields_alike
    grow_fields _ _ (more_fields_alike fs gs h e f h1 h2) = more_fields_alike fs gs h e f (grow_fields fs gs h1) (grow_term e f h2)

    grow_changes : (cs ds : Changes) → AlikeChangesBy Same Stands R cs ds → AlikeChangesBy Same Stands S cs ds
    grow_changes _ _ no_changes_alike = no_changes_alike
    grow_changes _ _ (more_changes_alike cs ds p q e f h1 h2 h3) = more_changes_alike cs ds p q e f (grow_changes cs ds h1) (grow_steps p q h2) (grow_term e f h3)

    grow_arms : (ps qs : Arms) → AlikeArmsBy Same Stands R ps qs → AlikeArmsBy Same Stands S ps qs
    grow_arms _ _ no_arms_alike = no_arms_alike
    grow_arms _ _ (more_arms_alike ps qs a b e f h1 h2 h3) = more_arms_alike ps qs a b e f (grow_arms ps qs h1) (grow_term a b h2) (grow_term e f h3)

    grow_numbers : (ks js : List ℕ) → AlikeNumbersBy Same Stands R ks js → AlikeNumbersBy Same Stands S ks js
    grow_numbers _ _ no_numbers_alike = no_numbers_alike
    grow_numbers _ _ (more_numbers_alike k j ks js h1 h2) = more_numbers_alike k j ks js (grow k j h1) (grow_numbers ks js h2)

module _ (Same : Val → Val → Type 0) (Stands : ℕ → ℕ → Type 0) (ops all : List Operator) where
  pub grow_rows : (R S : ℕ → ℕ → Type 0) → ((k j : ℕ) → R k j → S k j) → (k j : ℕ) → RowsBy Same Stands R ops all k j → RowsBy Same Stands S ops all k j
  grow_rows R S grow k j r =
      let body : AlikeBy Same Stands S r.left.body r.right.body = grow_term Same Stands R S grow r.left.body r.right.body r.same.body in
      record {
        left = r.left;
        right = r.right;
        here = r.here;
        there = r.there;
        same = record { name = r.same.name; outer = r.same.outer; params = r.same.params; level = r.same.level; own = r.same.own; body = body };
      }

  pub heads_of : (R : ℕ → ℕ → Type 0) (k j : ℕ) → RowsBy Same Stands R ops all k j → SameHeads ops all k j
  heads_of R k j r = record {
    left = r.left;
    right = r.right;
    here = r.here;
    there = r.there;
    name = r.same.name;
    outer = r.same.outer;
    params = r.same.params;
    level = r.same.level;
    own = r.same.own;
  }

  -- what is alike through one use more is alike
  pub fewer : (n k j : ℕ) → AlikeUpTo Same Stands ops all (suc n) k j → AlikeUpTo Same Stands ops all n k j
  fewer zero k j h = heads_of (AlikeUpTo Same Stands ops all zero) k j h
  fewer (suc n) k j h = grow_rows (AlikeUpTo Same Stands ops all (suc n)) (AlikeUpTo Same Stands ops all n) (fewer n) k j h

  -- however many uses are seen, the heads are
  pub heads_up_to : (n k j : ℕ) → AlikeUpTo Same Stands ops all n k j → SameHeads ops all k j
  heads_up_to zero k j h = h
  heads_up_to (suc n) k j h = heads_of (AlikeUpTo Same Stands ops all n) k j h
