-- Alike terms are taken apart alike.
use Rattle.std.proofs.Common.{◌≡◌, ◌∙◌, ap, refl, subst, List, [], ◌∷◌}
use Rattle.std.specs.Prelude.{ℕ, Bool, true, false, map, length, Option, Some, None, if◌then◌else◌}
use Rattle.std.specs.List.{AllZip}
use Rattle.base_core.specs.declared.place.Place.{Place}
use Rattle.reading_trees.specs.declared.operators.PrefixOperator.{PrefixOperator}
use Rattle.reading_trees.specs.declared.operators.PrefixOperator.TheVariants as prefix
use Rattle.reading_trees.specs.declared.operators.InfixOperator.{InfixOperator}
use Rattle.reading_trees.specs.declared.operators.InfixOperator.TheVariants as infix_operator
use Rattle.reading_trees.specs.declared.operators.Quantifier.{Quantifier}
use Rattle.reading_trees.specs.declared.operators.Quantifier.TheVariants as quantifier
use Rattle.names_terms.specs.declared.level.Level.{Level}
use Rattle.names_terms.specs.declared.level.Level.TheVariants as levels
use Rattle.names_terms.specs.Lists.{terms_list, arms_list}
use Rattle.names_terms.specs.Terms as term
use Rattle.names_terms.specs.Terms.{Term, Placed, Meaning, Operands, Bounds, Step, Steps}
use Rattle.eval_meanings.specs.Contexts.{Table}
use Rattle.eval_meanings.specs.Unchanged.{behind, unchanged_of}
use Rattle.actions_meanings.specs.declared.which.Which.{Which}
use Rattle.actions_meanings.specs.declared.which.Which.TheVariants as which
use Rattle.actions_meanings.specs.Forms.{Setting, Form, form, meaning_form, infix_form, unchanged_form, target, is_taken, test, assign, choose, both, either, narrowed, some, branch, arms, inside, call, changing}
use Rattle.twice_terms.specs.Alike.{Alike, placed_alike, AlikeMeanings, variable_alike, use_alike, parenthesized_alike, scoped_alike, all_alike, any_alike, prefix_alike, infix_alike, postfix_alike, tuple_alike, quantified_alike, if_alike, case_alike, case_other_alike, box_alike, angle_alike, AlikeOperands, first_alike, next_alike, AlikeStep, prime_alike, index_alike, field_alike, AlikeSteps, no_steps_alike, more_steps_alike, AlikeBounds, AlikeRows}
use Rattle.twice_terms.specs.Laws.{AreOne}
use Rattle.twice_outcomes.specs.Alikes.{AreAlikeArms, AreFoundAlike}
use Rattle.twice_outcomes.proofs.AlikeLists.{map_zip, terms_zip, arms_zip}
use Rattle.twice_outcomes.proofs.Spelled.{unchanged_alike_of}

-- what stands behind alike terms is alike
abbrev pub FoundAlike : Table → Table → Type 0
FoundAlike ops all = (m : ℕ) (e f : Term) → Alike AreOne ops all e f → AreFoundAlike ops all (behind ops (length ops) m e) (behind all (length all) m f)

pub data AlikeOther (ops all : Table) : Option Term → Option Term → Type 0 where
  no_other : AlikeOther ops all None None
  with_other : (e f : Term) → Alike AreOne ops all e f → AlikeOther ops all (Some e) (Some f)

pub data AlikeForms (ops all : Table) : Form → Form → Type 0 where
  test_forms : AlikeForms ops all test test
  assign_forms : (x : ℕ) (e f : Term) → Alike AreOne ops all e f → AlikeForms ops all (assign x e) (assign x f)
  choose_forms : (x : ℕ) (e f : Term) → Alike AreOne ops all e f → AlikeForms ops all (choose x e) (choose x f)
  both_forms : (es fs : List Term) → AllZip (Alike AreOne ops all) es fs → AlikeForms ops all (both es) (both fs)
  either_forms : (es fs : List Term) → AllZip (Alike AreOne ops all) es fs → AlikeForms ops all (either es) (either fs)
  narrowed_forms : (n : ℕ) (es fs : List Term) → AllZip (Alike AreOne ops all) es fs → AlikeForms ops all (narrowed n es) (narrowed n fs)
  some_forms : (bs cs : Bounds) (e f : Term) → AlikeBounds AreOne ops all bs cs → Alike AreOne ops all e f → AlikeForms ops all (some bs e) (some cs f)
  branch_forms : (p q a b e f : Term) → Alike AreOne ops all p q → Alike AreOne ops all a b → Alike AreOne ops all e f
      → AlikeForms ops all (branch p a e) (branch q b f)
  arms_forms : (ps qs : List (Term × Term)) (e f : Option Term) → AllZip (AreAlikeArms ops all) ps qs → AlikeOther ops all e f → AlikeForms ops all (arms ps e) (arms qs f)
  inside_forms : (e f : Term) → Alike AreOne ops all e f → AlikeForms ops all (inside e) (inside f)
  call_forms : (k j : ℕ) (es fs : List Term) → AlikeRows AreOne ops all k j → AllZip (Alike AreOne ops all) es fs → AlikeForms ops all (call k es) (call j fs)
  changing_forms : (e f v w : Term) → Alike AreOne ops all e f → Alike AreOne ops all v w → AlikeForms ops all (changing e v) (changing f w)

module _ (ops all : Table) where
  primed_variable : (at q : Place) (l k : Level) (x : ℕ) (ss rs : Steps) (s r : Step) → AlikeSteps AreOne ops all ss rs → AlikeStep AreOne ops all s r
      → target which.Action (Placed at l (term.Postfix (Placed q k (term.Variable x)) ss s)) ≡ target which.Action (Placed at l (term.Postfix (Placed q k (term.Variable x)) rs r))
  primed_variable at q l k x _ _ _ _ no_steps_alike prime_alike = refl
  primed_variable at q l k x _ _ _ _ no_steps_alike (index_alike ts us t) = refl
  primed_variable at q l k x _ _ _ _ no_steps_alike (field_alike h) = refl
  primed_variable at q l k x _ _ s r (more_steps_alike ss rs p b d t a) c = refl

  primed_target : (at q : Place) (l k : Level) (m n : Meaning) (ss rs : Steps) (s r : Step) → AlikeMeanings AreOne ops all m n → AlikeSteps AreOne ops all ss rs → AlikeStep AreOne ops all s r
      → target which.Action (Placed at l (term.Postfix (Placed q k m) ss s)) ≡ target which.Action (Placed at l (term.Postfix (Placed q k n) rs r))
  primed_target at q l k _ _ ss rs s r (variable_alike x y e) t a =
      primed_variable at q l k x ss rs s r t a ∙ ap (λ (z : ℕ). target which.Action (Placed at l (term.Postfix (Placed q k (term.Variable z)) rs r))) e
  primed_target at q l k m n ss rs s r h t a = refl

  postfix_target : (at : Place) (l : Level) (e f : Term) (ss rs : Steps) (s r : Step) → Alike AreOne ops all e f → AlikeSteps AreOne ops all ss rs → AlikeStep AreOne ops all s r
      → target which.Action (Placed at l (term.Postfix e ss s)) ≡ target which.Action (Placed at l (term.Postfix f rs r))
  postfix_target at l _ _ ss rs s r (placed_alike q k m n h) t a = primed_target at q l k m n ss rs s r h t a

  init_target : (at : Place) (l : Level) (m n : Meaning) → AlikeMeanings AreOne ops all m n → target which.Init (Placed at l m) ≡ target which.Init (Placed at l n)
  init_target at l _ _ (variable_alike x y e) = ap (λ (z : ℕ). target which.Init (Placed at l (term.Variable z))) e
  init_target at l m n h = refl

  action_target : (at : Place) (l : Level) (m n : Meaning) → AlikeMeanings AreOne ops all m n → target which.Action (Placed at l m) ≡ target which.Action (Placed at l n)
  action_target at l _ _ (postfix_alike e f ss rs s r a t d) = postfix_target at l e f ss rs s r a t d
  action_target at l m n h = refl

  target_same : (w : Which) (e f : Term) → Alike AreOne ops all e f → target w e ≡ target w f
  target_same which.Init _ _ (placed_alike at l m n h) = init_target at l m n h
  target_same which.Action _ _ (placed_alike at l m n h) = action_target at l m n h

  infix_forms : (o : InfixOperator) (x : Option ℕ) (e f : Term) → Alike AreOne ops all e f → AlikeForms ops all (infix_form o x e) (infix_form o x f)
  infix_forms infix_operator.Equal (Some x) e f a = assign_forms x e f a
  infix_forms infix_operator.Member (Some x) e f a = choose_forms x e f a
  infix_forms o x e f a = test_forms

  unchanged_meaning : (at : Place) (n : ℕ) (p : Place) (l : Level) (m k : Meaning) → AlikeMeanings AreOne ops all m k
      → AlikeForms ops all (unchanged_form at (n, Placed p l m)) (unchanged_form at (n, Placed p l k))
  unchanged_meaning at n p l _ _ (variable_alike x y e) =
      subst (λ (z : ℕ). AlikeForms ops all (assign x (Placed at levels.State (term.Variable x))) (assign z (Placed at levels.State (term.Variable z)))) e
      (assign_forms x (Placed at levels.State (term.Variable x)) (Placed at levels.State (term.Variable x))
      (placed_alike at levels.State (term.Variable x) (term.Variable x) (variable_alike x x refl)))
  unchanged_meaning at n p l _ _ (tuple_alike ts us t) =
      narrowed_forms n (map (unchanged_of at) (terms_list ts)) (map (unchanged_of at) (terms_list us))
      (map_zip (Alike AreOne ops all) (Alike AreOne ops all) (unchanged_of at) (unchanged_of at) (unchanged_alike_of ops all at) (terms_list ts) (terms_list us) (terms_zip ops all ts us t))
  unchanged_meaning at n p l m k h = test_forms

  unchanged_term : (at : Place) (n : ℕ) (e f : Term) → Alike AreOne ops all e f → AlikeForms ops all (unchanged_form at (n, e)) (unchanged_form at (n, f))
  unchanged_term at n _ _ (placed_alike p l m k h) = unchanged_meaning at n p l m k h

  unchanged_forms : (at : Place) (p q : ℕ × Term) → AreFoundAlike ops all p q → AlikeForms ops all (unchanged_form at p) (unchanged_form at q)
  unchanged_forms at p q b =
      subst (λ (n : ℕ). AlikeForms ops all (unchanged_form at p) (unchanged_form at (n, q.1))) b.slots (unchanged_term at p.0 p.1 q.1 b.terms)

-- of one kind of setting, over two tables in which what stands behind alike names is alike
module _ (w : Which) (v : ℕ) (ops all : Table) (found : FoundAlike ops all) where
  abbrev here : Setting
  here = record { which = w; variables = v; table = ops }

  abbrev there : Setting
  there = record { which = w; variables = v; table = all }

  prefix_forms : (n : ℕ) (at : Place) (o : PrefixOperator) (e f : Term) → Alike AreOne ops all e f
      → AlikeForms ops all (meaning_form here n at (term.Prefix o e)) (meaning_form there n at (term.Prefix o f))
  prefix_forms n at prefix.Unchanged e f a = unchanged_forms ops all at (behind ops (length ops) n e) (behind all (length all) n f) (found n e f a)
  prefix_forms n at o e f a = test_forms

  quantified_forms : (n : ℕ) (at : Place) (q : Quantifier) (bs cs : Bounds) (e f : Term) → AlikeBounds AreOne ops all bs cs → Alike AreOne ops all e f
      → AlikeForms ops all (meaning_form here n at (term.Quantified q bs e)) (meaning_form there n at (term.Quantified q cs f))
  quantified_forms n at quantifier.Exists bs cs e f t a = some_forms bs cs e f t a
  quantified_forms n at quantifier.ForAll bs cs e f t a = test_forms

  operand_forms : (n : ℕ) (at : Place) (o : InfixOperator) (os ps : Operands) (e f : Term) → AlikeOperands AreOne ops all os ps → Alike AreOne ops all e f
      → AlikeForms ops all (meaning_form here n at (term.Infix o os e)) (meaning_form there n at (term.Infix o ps f))
  operand_forms n at o _ _ e f (first_alike s t b) a =
      subst (λ (x : Option ℕ). AlikeForms ops all (infix_form o (target w s) e) (infix_form o x f)) (target_same ops all w s t b) (infix_forms ops all o (target w s) e f a)
  operand_forms n at o _ _ e f (next_alike os ps p s t b c) a = test_forms

  meaning_forms : (n : ℕ) (at : Place) (m k : Meaning) → AlikeMeanings AreOne ops all m k → AlikeForms ops all (meaning_form here n at m) (meaning_form there n at k)
  meaning_forms n at _ _ (use_alike k j ts us r t) = call_forms k j (terms_list ts) (terms_list us) r (terms_zip ops all ts us t)
  meaning_forms n at _ _ (parenthesized_alike e f a) = inside_forms e f a
  meaning_forms n at _ _ (scoped_alike ks js e f r a) = inside_forms e f a
  meaning_forms n at _ _ (all_alike ts us t) = both_forms (terms_list ts) (terms_list us) (terms_zip ops all ts us t)
  meaning_forms n at _ _ (any_alike ts us t) = either_forms (terms_list ts) (terms_list us) (terms_zip ops all ts us t)
  meaning_forms n at _ _ (prefix_alike o e f a) = prefix_forms n at o e f a
  meaning_forms n at _ _ (infix_alike o os ps e f t a) = operand_forms n at o os ps e f t a
  meaning_forms n at _ _ (quantified_alike q bs cs e f t a) = quantified_forms n at q bs cs e f t a
  meaning_forms n at _ _ (if_alike p q a b e f c d h) = branch_forms p q a b e f c d h
  meaning_forms n at _ _ (case_alike ps qs t) = arms_forms (arms_list ps) (arms_list qs) None None (arms_zip ops all ps qs t) no_other
  meaning_forms n at _ _ (case_other_alike ps qs e f t a) = arms_forms (arms_list ps) (arms_list qs) (Some e) (Some f) (arms_zip ops all ps qs t) (with_other e f a)
  meaning_forms n at _ _ (box_alike e f s t a d) =
      either_forms (e ∷ unchanged_of at s ∷ []) (f ∷ unchanged_of at t ∷ []) (a, (unchanged_alike_of ops all at s t d, tt))
  meaning_forms n at _ _ (angle_alike e f s t a d) = changing_forms e f s t a d
  meaning_forms n at m k h = test_forms

  taken_forms : (b : Bool) (F G : Form) → AlikeForms ops all F G → AlikeForms ops all (if b then F else test) (if b then G else test)
  taken_forms true F G h = h
  taken_forms false F G h = test_forms

  pub forms_alike : (n : ℕ) (e f : Term) → Alike AreOne ops all e f → AlikeForms ops all (form here n e) (form there n f)
  forms_alike n _ _ (placed_alike at l m k h) = taken_forms (is_taken w l) (meaning_form here n at m) (meaning_form there n at k) (meaning_forms n at m k h)
