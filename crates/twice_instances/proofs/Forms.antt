-- Alike terms are taken apart alike.
-- what stands behind alike terms is alike
use Rattle.std.proofs.Common.{subst, List, [], ◌∷◌}
use Rattle.std.specs.Prelude.{ℕ, Bool, true, false, map, length, Option, Some, None, if◌then◌else◌}
use Rattle.std.specs.List.{AllZip}
use Rattle.base_core.specs.declared.place.Place.{Place}
use Rattle.reading_trees.specs.declared.operators.PrefixOperator.{PrefixOperator}
use Rattle.reading_trees.specs.declared.operators.PrefixOperator.TheVariants as prefix
use Rattle.reading_trees.specs.declared.operators.InfixOperator.{InfixOperator}
use Rattle.reading_trees.specs.declared.operators.InfixOperator.TheVariants as infix_operator
use Rattle.reading_trees.specs.declared.operators.Quantifier.{Quantifier}
use Rattle.reading_trees.specs.declared.operators.Quantifier.TheVariants as quantifier
use Rattle.names_terms.specs.declared.level.Level.{Level}
use Rattle.names_terms.specs.declared.level.Level.TheVariants as levels
use Rattle.names_terms.specs.Lists.{terms_list, arms_list}
use Rattle.names_terms.specs.Terms as term
use Rattle.names_terms.specs.Terms.{Term, Placed, Meaning, Operands, Bounds, Step, Steps}
use Rattle.eval_meanings.specs.Contexts.{Table}
use Rattle.eval_meanings.specs.Unchanged.{behind, unchanged_of}
use Rattle.actions_meanings.specs.declared.which.Which.{Which}
use Rattle.actions_meanings.specs.declared.which.Which.TheVariants as which
use Rattle.actions_meanings.specs.Forms.{Setting, Form, form, meaning_form, infix_form, unchanged_form, target, is_taken, test, assign, choose, both, either, narrowed, some, branch, arms, inside, call, changing}
use Rattle.twice_terms.specs.Alike.{placed_alike, variable_alike, use_alike, parenthesized_alike, scoped_alike, all_alike, any_alike, prefix_alike, infix_alike, postfix_alike, tuple_alike, quantified_alike, if_alike, case_alike, case_other_alike, box_alike, angle_alike, first_alike, next_alike, prime_alike, index_alike, field_alike, no_steps_alike, more_steps_alike}
use Rattle.twice_instances.specs.Alikeness.{Like, LikeBounds, LikeMeanings, LikeOperands, LikeRows, LikeStep, LikeSteps}
use Rattle.twice_instances.proofs.Lists.{LikeFound, LikeTwo, arms_zip, map_zip, terms_zip}
use Rattle.twice_instances.proofs.Spelled.{unchanged_alike_of}

-- what stands behind alike terms is alike
abbrev pub FoundAlike : (ℕ → ℕ → Type 0) → Table → Table → Type 0
FoundAlike Stands ops all = (m : ℕ) (e f : Term) → Like Stands ops all e f → LikeFound Stands ops all (behind ops (length ops) m e) (behind all (length all) m f)

-- no variable is set, or the one and one that stands for it
pub data LikeTargets (Stands : ℕ → ℕ → Type 0) : Option ℕ → Option ℕ → Type 0 where
  no_target : LikeTargets Stands None None
  both_targets : (x y : ℕ) → Stands x y → LikeTargets Stands (Some x) (Some y)

pub data LikeOther (Stands : ℕ → ℕ → Type 0) (ops all : Table) : Option Term → Option Term → Type 0 where
  no_other : LikeOther Stands ops all None None
  with_other : (e f : Term) → Like Stands ops all e f → LikeOther Stands ops all (Some e) (Some f)

pub data LikeForms (Stands : ℕ → ℕ → Type 0) (ops all : Table) : Form → Form → Type 0 where
  test_forms : LikeForms Stands ops all test test
  assign_forms : (x y : ℕ) (e f : Term) → Stands x y → Like Stands ops all e f → LikeForms Stands ops all (assign x e) (assign y f)
  choose_forms : (x y : ℕ) (e f : Term) → Stands x y → Like Stands ops all e f → LikeForms Stands ops all (choose x e) (choose y f)
  both_forms : (es fs : List Term) → AllZip (Like Stands ops all) es fs → LikeForms Stands ops all (both es) (both fs)
  either_forms : (es fs : List Term) → AllZip (Like Stands ops all) es fs → LikeForms Stands ops all (either es) (either fs)
  narrowed_forms : (n : ℕ) (es fs : List Term) → AllZip (Like Stands ops all) es fs → LikeForms Stands ops all (narrowed n es) (narrowed n fs)
  some_forms : (bs cs : Bounds) (e f : Term) → LikeBounds Stands ops all bs cs → Like Stands ops all e f → LikeForms Stands ops all (some bs e) (some cs f)
  branch_forms : (p q a b e f : Term) → Like Stands ops all p q → Like Stands ops all a b → Like Stands ops all e f
      → LikeForms Stands ops all (branch p a e) (branch q b f)
  arms_forms : (ps qs : List (Term × Term)) (e f : Option Term) → AllZip (LikeTwo Stands ops all) ps qs → LikeOther Stands ops all e f → LikeForms Stands ops all (arms ps e) (arms qs f)
  inside_forms : (e f : Term) → Like Stands ops all e f → LikeForms Stands ops all (inside e) (inside f)
  call_forms : (k j : ℕ) (es fs : List Term) → LikeRows Stands ops all k j → AllZip (Like Stands ops all) es fs → LikeForms Stands ops all (call k es) (call j fs)
  changing_forms : (e f v w : Term) → Like Stands ops all e f → Like Stands ops all v w → LikeForms Stands ops all (changing e v) (changing f w)

module _ (Stands : ℕ → ℕ → Type 0) (ops all : Table) where
  primed_variable : (at q : Place) (l k : Level) (x y : ℕ) → Stands x y → (ss rs : Steps) (s r : Step) → LikeSteps Stands ops all ss rs → LikeStep Stands ops all s r
      → LikeTargets Stands (target which.Action (Placed at l (term.Postfix (Placed q k (term.Variable x)) ss s))) (target which.Action (Placed at l (term.Postfix (Placed q k (term.Variable y)) rs r)))
  primed_variable at q l k x y v _ _ _ _ no_steps_alike prime_alike = both_targets x y v
  primed_variable at q l k x y v _ _ _ _ no_steps_alike (index_alike ts us t) = no_target
  primed_variable at q l k x y v _ _ _ _ no_steps_alike (field_alike h) = no_target
  primed_variable at q l k x y v _ _ s r (more_steps_alike ss rs p b d t a) c = no_target

  primed_target : (at q : Place) (l k : Level) (m n : Meaning) (ss rs : Steps) (s r : Step) → LikeMeanings Stands ops all m n → LikeSteps Stands ops all ss rs → LikeStep Stands ops all s r
      → LikeTargets Stands (target which.Action (Placed at l (term.Postfix (Placed q k m) ss s))) (target which.Action (Placed at l (term.Postfix (Placed q k n) rs r)))
  primed_target at q l k _ _ ss rs s r (variable_alike x y e) t a = primed_variable at q l k x y e ss rs s r t a
  primed_target at q l k m n ss rs s r h t a = no_target

  postfix_target : (at : Place) (l : Level) (e f : Term) (ss rs : Steps) (s r : Step) → Like Stands ops all e f → LikeSteps Stands ops all ss rs → LikeStep Stands ops all s r
      → LikeTargets Stands (target which.Action (Placed at l (term.Postfix e ss s))) (target which.Action (Placed at l (term.Postfix f rs r)))
  postfix_target at l _ _ ss rs s r (placed_alike q k m n h) t a = primed_target at q l k m n ss rs s r h t a

  init_target : (at : Place) (l : Level) (m n : Meaning) → LikeMeanings Stands ops all m n → LikeTargets Stands (target which.Init (Placed at l m)) (target which.Init (Placed at l n))
  init_target at l _ _ (variable_alike x y e) = both_targets x y e
  init_target at l m n h = no_target

  action_target : (at : Place) (l : Level) (m n : Meaning) → LikeMeanings Stands ops all m n → LikeTargets Stands (target which.Action (Placed at l m)) (target which.Action (Placed at l n))
  action_target at l _ _ (postfix_alike e f ss rs s r a t d) = postfix_target at l e f ss rs s r a t d
  action_target at l m n h = no_target

  target_same : (w : Which) (e f : Term) → Like Stands ops all e f → LikeTargets Stands (target w e) (target w f)
  target_same which.Init _ _ (placed_alike at l m n h) = init_target at l m n h
  target_same which.Action _ _ (placed_alike at l m n h) = action_target at l m n h

  infix_some : (o : InfixOperator) (x y : ℕ) → Stands x y → (e f : Term) → Like Stands ops all e f → LikeForms Stands ops all (infix_form o (Some x) e) (infix_form o (Some y) f)
  infix_some infix_operator.Equal x y v e f a = assign_forms x y e f v a
  infix_some infix_operator.Member x y v e f a = choose_forms x y e f v a
  infix_some o x y v e f a = test_forms

  infix_none : (o : InfixOperator) (e f : Term) → LikeForms Stands ops all (infix_form o None e) (infix_form o None f)
  infix_none infix_operator.Equal e f = test_forms
  infix_none infix_operator.Member e f = test_forms
  infix_none o e f = test_forms

  infix_forms : (o : InfixOperator) (x y : Option ℕ) → LikeTargets Stands x y → (e f : Term) → Like Stands ops all e f → LikeForms Stands ops all (infix_form o x e) (infix_form o y f)
  infix_forms o _ _ no_target e f a = infix_none o e f
  infix_forms o _ _ (both_targets x y v) e f a = infix_some o x y v e f a

  unchanged_meaning : (at : Place) (n : ℕ) (p : Place) (l : Level) (m k : Meaning) → LikeMeanings Stands ops all m k
      → LikeForms Stands ops all (unchanged_form at (n, Placed p l m)) (unchanged_form at (n, Placed p l k))
  unchanged_meaning at n p l _ _ (variable_alike x y v) =
      assign_forms x y (Placed at levels.State (term.Variable x)) (Placed at levels.State (term.Variable y)) v (placed_alike at levels.State (term.Variable x) (term.Variable y) (variable_alike x y v))
  unchanged_meaning at n p l _ _ (tuple_alike ts us t) =
      narrowed_forms n (map (unchanged_of at) (terms_list ts)) (map (unchanged_of at) (terms_list us))
      (map_zip (Like Stands ops all) (Like Stands ops all) (unchanged_of at) (unchanged_of at) (unchanged_alike_of Stands ops all at) (terms_list ts) (terms_list us) (terms_zip Stands ops all ts us t))
  unchanged_meaning at n p l m k h = test_forms

  unchanged_term : (at : Place) (n : ℕ) (e f : Term) → Like Stands ops all e f → LikeForms Stands ops all (unchanged_form at (n, e)) (unchanged_form at (n, f))
  unchanged_term at n _ _ (placed_alike p l m k h) = unchanged_meaning at n p l m k h

  unchanged_forms : (at : Place) (p q : ℕ × Term) → LikeFound Stands ops all p q → LikeForms Stands ops all (unchanged_form at p) (unchanged_form at q)
  unchanged_forms at p q b =
      subst (λ (n : ℕ). LikeForms Stands ops all (unchanged_form at p) (unchanged_form at (n, q.1))) b.slots (unchanged_term at p.0 p.1 q.1 b.terms)

-- of one kind of setting, over two tables in which what stands behind alike names is alike
module _ (Stands : ℕ → ℕ → Type 0) (w : Which) (v u : ℕ) (ops all : Table) (found : FoundAlike Stands ops all) where
  abbrev here : Setting
  here = record { which = w; variables = v; table = ops }

  abbrev there : Setting
  there = record { which = w; variables = u; table = all }

  prefix_forms : (n : ℕ) (at : Place) (o : PrefixOperator) (e f : Term) → Like Stands ops all e f
      → LikeForms Stands ops all (meaning_form here n at (term.Prefix o e)) (meaning_form there n at (term.Prefix o f))
  prefix_forms n at prefix.Unchanged e f a = unchanged_forms Stands ops all at (behind ops (length ops) n e) (behind all (length all) n f) (found n e f a)
  prefix_forms n at o e f a = test_forms

  quantified_forms : (n : ℕ) (at : Place) (q : Quantifier) (bs cs : Bounds) (e f : Term) → LikeBounds Stands ops all bs cs → Like Stands ops all e f
      → LikeForms Stands ops all (meaning_form here n at (term.Quantified q bs e)) (meaning_form there n at (term.Quantified q cs f))
  quantified_forms n at quantifier.Exists bs cs e f t a = some_forms bs cs e f t a
  quantified_forms n at quantifier.ForAll bs cs e f t a = test_forms

  operand_forms : (n : ℕ) (at : Place) (o : InfixOperator) (os ps : Operands) (e f : Term) → LikeOperands Stands ops all os ps → Like Stands ops all e f
      → LikeForms Stands ops all (meaning_form here n at (term.Infix o os e)) (meaning_form there n at (term.Infix o ps f))
  operand_forms n at o _ _ e f (first_alike s t b) a = infix_forms Stands ops all o (target w s) (target w t) (target_same Stands ops all w s t b) e f a
  operand_forms n at o _ _ e f (next_alike os ps p s t b c) a = test_forms

  meaning_forms : (n : ℕ) (at : Place) (m k : Meaning) → LikeMeanings Stands ops all m k → LikeForms Stands ops all (meaning_form here n at m) (meaning_form there n at k)
  meaning_forms n at _ _ (use_alike k j ts us r t) = call_forms k j (terms_list ts) (terms_list us) r (terms_zip Stands ops all ts us t)
  meaning_forms n at _ _ (parenthesized_alike e f a) = inside_forms e f a
  meaning_forms n at _ _ (scoped_alike ks js e f r a) = inside_forms e f a
  meaning_forms n at _ _ (all_alike ts us t) = both_forms (terms_list ts) (terms_list us) (terms_zip Stands ops all ts us t)
  meaning_forms n at _ _ (any_alike ts us t) = either_forms (terms_list ts) (terms_list us) (terms_zip Stands ops all ts us t)
  meaning_forms n at _ _ (prefix_alike o e f a) = prefix_forms n at o e f a
  meaning_forms n at _ _ (infix_alike o os ps e f t a) = operand_forms n at o os ps e f t a
  meaning_forms n at _ _ (quantified_alike q bs cs e f t a) = quantified_forms n at q bs cs e f t a
  meaning_forms n at _ _ (if_alike p q a b e f c d h) = branch_forms p q a b e f c d h
  meaning_forms n at _ _ (case_alike ps qs t) = arms_forms (arms_list ps) (arms_list qs) None None (arms_zip Stands ops all ps qs t) no_other
  meaning_forms n at _ _ (case_other_alike ps qs e f t a) = arms_forms (arms_list ps) (arms_list qs) (Some e) (Some f) (arms_zip Stands ops all ps qs t) (with_other e f a)
  meaning_forms n at _ _ (box_alike e f s t a d) =
      either_forms (e ∷ unchanged_of at s ∷ []) (f ∷ unchanged_of at t ∷ []) (a, (unchanged_alike_of Stands ops all at s t d, tt))
  meaning_forms n at _ _ (angle_alike e f s t a d) = changing_forms e f s t a d
  meaning_forms n at m k h = test_forms

  taken_forms : (b : Bool) (F G : Form) → LikeForms Stands ops all F G → LikeForms Stands ops all (if b then F else test) (if b then G else test)
  taken_forms true F G h = h
  taken_forms false F G h = test_forms

  pub forms_alike : (n : ℕ) (e f : Term) → Like Stands ops all e f → LikeForms Stands ops all (form here n e) (form there n f)
  forms_alike n _ _ (placed_alike at l m k h) = taken_forms (is_taken w l) (meaning_form here n at m) (meaning_form there n at k) (meaning_forms n at m k h)
