-- What is evaluated at places has one outcome there, where all that may be read is a value.
use Rattle.std.proofs.Common.{◌≡◌, sym, ◌∙◌, subst, ℕ, suc, [], ◌∷◌, length, map}
use Rattle.std.specs.Prelude.{Option, Some, if◌then◌else◌}
use Rattle.names_terms.specs.declared.operator.Operator.{Operator}
use Rattle.names_terms.specs.Terms.{Term, place_of}
use Rattle.eval_meanings.specs.Binders.{BoundValues}
use Rattle.eval_meanings.specs.Contexts.{Context, Places, Table, WithDefinition, bind, enter, within}
use Rattle.eval_meanings.specs.Evaluates.{Evaluates, Describes}
use Rattle.eval_meanings.specs.Laws.{KnowsValues, ReadsValues}
use Rattle.eval_meanings.specs.Outcomes.{Outcome, Each}
use Rattle.eval_meanings.specs.Sets.{MeansSet, set_at}
use Rattle.eval_meanings.specs.Unchanged.{TruthOf}
use Rattle.eval_meanings.proofs.AtMostOne.{One, one_gives, one_then}
use Rattle.actions_meanings.specs.Forms.{Setting, Form, form, test, assign, choose, both, either, narrowed, some, branch, arms, inside, call, changing}
use Rattle.actions_meanings.specs.Holds.{Chosen, all_of, one_of}
use Rattle.actions_meanings.specs.Filled.{at_next}
use Rattle.steps_found_states.specs.Grounds.{OpensFrom}
use Rattle.steps_found_states.proofs.Openings.{FormKnows, bounds_fine, chosen_fine, terms_fine}
use Rattle.steps_found_states.proofs.FormParts.{form_knows}
use Rattle.steps_found_states.proofs.Placed.{holds_values, reads_values, set_one, term_fine, truth_fine}
use Rattle.steps_why_branches.proofs.Copies.{one_set_at}

one_definition : {A : Type 0} (ops : Table) (k : ℕ) (P : Operator → Outcome A) → ((o : Operator) → One (P o)) → One (WithDefinition ops k P)
one_definition ops k P h r q (o, e, a) (p, f, b) =
    let same : p ≡ o = same_operator p o (sym f ∙ e) in
    h o r q a (subst (λ (x : Operator). P x q) same b)
  where
    same_operator : (x y : Operator) → ◌≡◌ {A = Option Operator} (Some x) (Some y) → x ≡ y
    same_operator x y e = cc

module _ (g : Setting) (d : ℕ) (c : Context) (a : Term) (p : Places) (here : ReadsValues g.table (at_next g.which c p) a) where
  pub one_truth : One (TruthOf (Evaluates g.table (suc d)) (at_next g.which c p) a)
  one_truth = (truth_fine g.table (suc d) (at_next g.which c p) a here).one

  knows : (f : Form) → form g (length c.slots) a ≡ f → FormKnows f
  knows f i = subst FormKnows i (form_knows g here.definitions (length c.slots) a here.known)

  reads : (e : Term) → KnowsValues e → ReadsValues g.table (at_next g.which c p) e
  reads e k = reads_values g.table (at_next g.which c p) e here.definitions (holds_values g.table (at_next g.which c p) a here) k

  pub one_value : (n : ℕ) (e : Term) → form g (length c.slots) a ≡ assign n e → One (Evaluates g.table d (at_next g.which c p) e)
  one_value n e i = (term_fine g.table d (at_next g.which c p) e (reads e (knows (assign n e) i))).one

  pub one_set : (n : ℕ) (e : Term) → form g (length c.slots) a ≡ choose n e → One (MeansSet (Describes g.table d) (at_next g.which c p) e)
  one_set n e i = one_then (Describes g.table d (at_next g.which c p) e) (set_at (place_of e)) (set_one g.table d (at_next g.which c p) e (reads e (knows (choose n e) i))) (λ S n. one_set_at (place_of e) S)

  one_from : (f : Form) → FormKnows f → One (OpensFrom g d c p (place_of a) f)
  one_from (both es) k = one_gives (all_of (map (λ e. (c, e)) es))
  one_from (narrowed n es) k = one_gives (all_of (map (λ e. (within n c, e)) es))
  one_from (either es) k = one_gives (one_of (map (λ e. (c, e)) es))
  one_from (some bs e) k = one_then (BoundValues (Evaluates g.table d) (at_next g.which c p) bs) _ (bounds_fine g.table d (at_next g.which c p) here.definitions (holds_values g.table (at_next g.which c p) a here) bs k.0).one
      (λ all h. one_gives (one_of (map (λ chosen. (bind c chosen, e)) all)))
  one_from (branch q e f) k = one_then (TruthOf (Evaluates g.table d) (at_next g.which c p) q) _ (truth_fine g.table d (at_next g.which c p) q (reads q k.0)).one (λ t h. one_gives (one_of ((c, if t then e else f) ∷ [])))
  one_from (arms cs other) k = one_then (Chosen (TruthOf (Evaluates g.table d) (at_next g.which c p)) (place_of a) cs other) _
      (chosen_fine g.table d (at_next g.which c p) here.definitions (holds_values g.table (at_next g.which c p) a here) (place_of a) cs other k.0 k.1).one (λ e h. one_gives (one_of ((c, e) ∷ [])))
  one_from (inside e) k = one_gives (one_of ((c, e) ∷ []))
  one_from (call j es) k = one_then (Each (Evaluates g.table d (at_next g.which c p)) es) _ (terms_fine g.table d (at_next g.which c p) here.definitions (holds_values g.table (at_next g.which c p) a here) es k).one
      (λ vs h. one_definition g.table j _ (λ o. one_gives (one_of ((enter o vs c, o.body) ∷ []))))
  one_from (changing e v) k = λ r q h i. absurd h
  one_from test k = λ r q h i. absurd h
  one_from (assign x e) k = λ r q h i. absurd h
  one_from (choose x e) k = λ r q h i. absurd h

  pub one_opening : (f : Form) → form g (length c.slots) a ≡ f → One (OpensFrom g d c p (place_of a) f)
  one_opening f i = one_from f (knows f i)
