-- Terms that are alike by one relation of the values that are known are alike turned by another that holds of such values turned.
use Rattle.std.proofs.Common.{sym, List}
use Rattle.std.specs.Prelude.{ℕ, zero, suc}
use Rattle.values_core.specs.Data.{Val}
use Rattle.names_terms.specs.declared.operator.Operator.{Operator}
use Rattle.names_terms.specs.Terms.{Term, Meaning, Terms, Operands, Step, Steps, Bounds, Fields, Changes, Arms}
use Rattle.twice_terms.specs.Alike.{AlikeBy, AlikeMeaningsBy, AlikeTermsBy, AlikeOperandsBy, AlikeStepBy, AlikeStepsBy, AlikeBoundsBy, AlikeFieldsBy, AlikeChangesBy, AlikeArmsBy, AlikeNumbersBy, placed_alike, known_alike, named_alike, variable_alike, slot_alike, use_alike, standard_alike, parenthesized_alike, scoped_alike, all_alike, any_alike, prefix_alike, infix_alike, postfix_alike, set_alike, filter_alike, map_alike, tuple_alike, function_alike, function_set_alike, record_alike, record_set_alike, except_alike, quantified_alike, choose_alike, if_alike, case_alike, case_other_alike, box_alike, angle_alike, fairness_alike, no_terms_alike, more_terms_alike, first_alike, next_alike, prime_alike, index_alike, field_alike, no_steps_alike, more_steps_alike, no_bounds_alike, more_bounds_alike, no_fields_alike, more_fields_alike, no_changes_alike, more_changes_alike, no_arms_alike, more_arms_alike, no_numbers_alike, more_numbers_alike, AlikeUpTo, AlikeRows, IsOneVariable, Alike, AlikeTerms}

module _ (Same Other : Val → Val → Type 0) (Stands Turned R S : ℕ → ℕ → Type 0) (turn : (v w : Val) → Same v w → Other w v) (turn_variable : (x y : ℕ) → Stands x y → Turned y x) (turn_number : (k j : ℕ) → R k j → S j k) where
  mutual
    pub by_term : (e f : Term) → AlikeBy Same Stands R e f → AlikeBy Other Turned S f e
    by_term _ _ (placed_alike at l m n h1) = placed_alike at l n m (by_meaning m n h1)

    by_meaning : (m n : Meaning) → AlikeMeaningsBy Same Stands R m n → AlikeMeaningsBy Other Turned S n m
    by_meaning _ _ (known_alike v w h1) = known_alike w v (turn v w h1)
    by_meaning _ _ (named_alike s) = named_alike s
    by_meaning _ _ (variable_alike x y h1) = variable_alike y x (turn_variable x y h1)
    by_meaning _ _ (slot_alike i) = slot_alike i
    by_meaning _ _ (use_alike k j ts us h1 h2) = use_alike j k us ts (turn_number k j h1) (by_terms ts us h2)
    by_meaning _ _ (standard_alike o ts us h1) = standard_alike o us ts (by_terms ts us h1)
    by_meaning _ _ (parenthesized_alike e f h1) = parenthesized_alike f e (by_term e f h1)
    by_meaning _ _ (scoped_alike ks js e f h1 h2) = scoped_alike js ks f e (by_numbers ks js h1) (by_term e f h2)
    by_meaning _ _ (all_alike ts us h1) = all_alike us ts (by_terms ts us h1)
    by_meaning _ _ (any_alike ts us h1) = any_alike us ts (by_terms ts us h1)
    by_meaning _ _ (prefix_alike o e f h1) = prefix_alike o f e (by_term e f h1)
    by_meaning _ _ (infix_alike o os ps e f h1 h2) = infix_alike o ps os f e (by_operands os ps h1) (by_term e f h2)
    by_meaning _ _ (postfix_alike e f ss rs s r h1 h2 h3) = postfix_alike f e rs ss r s (by_term e f h1) (by_steps ss rs h2) (by_step s r h3)
    by_meaning _ _ (set_alike ts us h1) = set_alike us ts (by_terms ts us h1)
    by_meaning _ _ (filter_alike a b e f h1 h2) = filter_alike b a f e (by_term a b h1) (by_term e f h2)
    by_meaning _ _ (map_alike e f bs cs h1 h2) = map_alike f e cs bs (by_term e f h1) (by_bounds bs cs h2)
    by_meaning _ _ (tuple_alike ts us h1) = tuple_alike us ts (by_terms ts us h1)
    by_meaning _ _ (function_alike bs cs e f h1 h2) = function_alike cs bs f e (by_bounds bs cs h1) (by_term e f h2)
    by_meaning _ _ (function_set_alike a b e f h1 h2) = function_set_alike b a f e (by_term a b h1) (by_term e f h2)
    by_meaning _ _ (record_alike fs gs h1) = record_alike gs fs (by_fields fs gs h1)
    by_meaning _ _ (record_set_alike fs gs h1) = record_set_alike gs fs (by_fields fs gs h1)
    by_meaning _ _ (except_alike e f cs ds h1 h2) = except_alike f e ds cs (by_term e f h1) (by_changes cs ds h2)
    by_meaning _ _ (quantified_alike q bs cs e f h1 h2) = quantified_alike q cs bs f e (by_bounds bs cs h1) (by_term e f h2)
    by_meaning _ _ (choose_alike a b e f h1 h2) = choose_alike b a f e (by_term a b h1) (by_term e f h2)
    by_meaning _ _ (if_alike p q a b e f h1 h2 h3) = if_alike q p b a f e (by_term p q h1) (by_term a b h2) (by_term e f h3)
    by_meaning _ _ (case_alike ps qs h1) = case_alike qs ps (by_arms ps qs h1)
    by_meaning _ _ (case_other_alike ps qs e f h1 h2) = case_other_alike qs ps f e (by_arms ps qs h1) (by_term e f h2)
    by_meaning _ _ (box_alike e f v w h1 h2) = box_alike f e w v (by_term e f h1) (by_term v w h2)
    by_meaning _ _ (angle_alike e f v w h1 h2) = angle_alike f e w v (by_term e f h1) (by_term v w h2)
    by_meaning _ _ (fairness_alike v w e f h1 h2) = fairness_alike w v f e (by_term v w h1) (by_term e f h2)

    by_terms : (ts us : Terms) → AlikeTermsBy Same Stands R ts us → AlikeTermsBy Other Turned S us ts
    by_terms _ _ no_terms_alike = no_terms_alike
    by_terms _ _ (more_terms_alike ts us e f h1 h2) = more_terms_alike us ts f e (by_terms ts us h1) (by_term e f h2)

    by_operands : (os ps : Operands) → AlikeOperandsBy Same Stands R os ps → AlikeOperandsBy Other Turned S ps os
    by_operands _ _ (first_alike e f h1) = first_alike f e (by_term e f h1)
    by_operands _ _ (next_alike os ps at e f h1 h2) = next_alike ps os at f e (by_operands os ps h1) (by_term e f h2)

    by_step : (s r : Step) → AlikeStepBy Same Stands R s r → AlikeStepBy Other Turned S r s
    by_step _ _ prime_alike = prime_alike
    by_step _ _ (index_alike ts us h1) = index_alike us ts (by_terms ts us h1)
    by_step _ _ (field_alike h) = field_alike h

    by_steps : (ss rs : Steps) → AlikeStepsBy Same Stands R ss rs → AlikeStepsBy Other Turned S rs ss
    by_steps _ _ no_steps_alike = no_steps_alike
    by_steps _ _ (more_steps_alike ss rs at s r h1 h2) = more_steps_alike rs ss at r s (by_steps ss rs h1) (by_step s r h2)

    by_bounds : (bs cs : Bounds) → AlikeBoundsBy Same Stands R bs cs → AlikeBoundsBy Other Turned S cs bs
    by_bounds _ _ no_bounds_alike = no_bounds_alike
    by_bounds _ _ (more_bounds_alike bs cs n e f h1 h2) = more_bounds_alike cs bs n f e (by_bounds bs cs h1) (by_term e f h2)

    by_fields : (fs gs : Fields) → AlikeFieldsBy Same Stands R fs gs → AlikeFieldsBy Other Turned S gs fs
    by_fields _ _ no_fields_alike = no_fields_alike
    by_fields _ _ (more_fields_alike fs gs h e f h1 h2) = more_fields_alike gs fs h f e (by_fields fs gs h1) (by_term e f h2)

    by_changes : (cs ds : Changes) → AlikeChangesBy Same Stands R cs ds → AlikeChangesBy Other Turned S ds cs
    by_changes _ _ no_changes_alike = no_changes_alike
    by_changes _ _ (more_changes_alike cs ds p q e f h1 h2 h3) = more_changes_alike ds cs q p f e (by_changes cs ds h1) (by_steps p q h2) (by_term e f h3)

    by_arms : (ps qs : Arms) → AlikeArmsBy Same Stands R ps qs → AlikeArmsBy Other Turned S qs ps
    by_arms _ _ no_arms_alike = no_arms_alike
    by_arms _ _ (more_arms_alike ps qs a b e f h1 h2 h3) = more_arms_alike qs ps b a f e (by_arms ps qs h1) (by_term a b h2) (by_term e f h3)

    by_numbers : (ks js : List ℕ) → AlikeNumbersBy Same Stands R ks js → AlikeNumbersBy Other Turned S js ks
    by_numbers _ _ no_numbers_alike = no_numbers_alike
    by_numbers _ _ (more_numbers_alike k j ks js h1 h2) = more_numbers_alike j k js ks (turn_number k j h1) (by_numbers ks js h2)

module _ (Same Other : Val → Val → Type 0) (turn : (v w : Val) → Same v w → Other w v) where
  turn_upto : (ops all : List Operator) (n k j : ℕ) → AlikeUpTo Same IsOneVariable ops all n k j → AlikeUpTo Other IsOneVariable all ops n j k
  turn_upto ops all zero k j h = record {
    left = h.right;
    right = h.left;
    here = h.there;
    there = h.here;
    name = sym h.name;
    outer = sym h.outer;
    params = sym h.params;
    level = sym h.level;
    own = sym h.own;
  }
  turn_upto ops all (suc n) k j h =
      let body : AlikeBy Other IsOneVariable (AlikeUpTo Other IsOneVariable all ops n) h.right.body h.left.body =
      by_term Same Other IsOneVariable IsOneVariable (AlikeUpTo Same IsOneVariable ops all n) (AlikeUpTo Other IsOneVariable all ops n) turn (λ x y q. sym q) (turn_upto ops all n) h.left.body h.right.body h.same.body in
      record {
        left = h.right;
        right = h.left;
        here = h.there;
        there = h.here;
        same = record { name = sym h.same.name; outer = sym h.same.outer; params = sym h.same.params; level = sym h.same.level; own = sym h.same.own; body = body };
      }

  pub turn_row : (ops all : List Operator) (k j : ℕ) → AlikeRows Same ops all k j → AlikeRows Other all ops j k
  turn_row ops all k j h n = turn_upto ops all n k j (h n)

  pub turn_term : (ops all : List Operator) (e f : Term) → Alike Same ops all e f → Alike Other all ops f e
  turn_term ops all = by_term Same Other IsOneVariable IsOneVariable (AlikeRows Same ops all) (AlikeRows Other all ops) turn (λ x y q. sym q) (turn_row ops all)

  pub turn_terms : (ops all : List Operator) (ts us : Terms) → AlikeTerms Same ops all ts us → AlikeTerms Other all ops us ts
  turn_terms ops all = by_terms Same Other IsOneVariable IsOneVariable (AlikeRows Same ops all) (AlikeRows Other all ops) turn (λ x y q. sym q) (turn_row ops all)

abbrev pub turned : (Val → Val → Type 0) → Val → Val → Type 0
turned Same v w = Same w v

pub term_turned : (Same : Val → Val → Type 0) (ops all : List Operator) (e f : Term) → Alike Same ops all e f → Alike (turned Same) all ops f e
term_turned Same = turn_term Same (turned Same) (λ v w h. h)
