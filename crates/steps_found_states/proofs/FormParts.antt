-- What is known of the form of an action and of its parts from what is known of the action.
use Rattle.std.proofs.Common.{◌≡◌, refl, ◌∙◌, ap, ℕ, zero, suc, min, List, [], ◌∷◌, length, map}
use Rattle.std.specs.Prelude.{Bool, true, false, Option, None, Some, slice_get, if◌then◌else◌}
use Rattle.std.specs.List.{AllByRecursion}
use Rattle.base_core.specs.declared.place.Place.{Place}
use Rattle.reading_trees.specs.declared.operators.InfixOperator.{InfixOperator}
use Rattle.reading_trees.specs.declared.operators.InfixOperator.TheVariants as infix_operator
use Rattle.reading_trees.specs.declared.operators.PrefixOperator.TheVariants as prefix
use Rattle.reading_trees.specs.declared.operators.Quantifier.TheVariants as quantifier
use Rattle.names_terms.specs.declared.level.Level.TheVariants as levels
use Rattle.names_terms.specs.declared.operator.Operator.{Operator}
use Rattle.names_terms.specs.Lists.{terms_list}
use Rattle.names_terms.specs.Terms as term
use Rattle.names_terms.specs.Terms.{Term, Placed, Meaning, Terms, place_of}
use Rattle.eval_meanings.specs.Contexts.{Table}
use Rattle.eval_meanings.specs.Everywhere.{InParts}
use Rattle.eval_meanings.specs.Laws.{KnowsValue, KnowsValues}
use Rattle.eval_meanings.specs.Unchanged.{behind, unchanged_of}
use Rattle.eval_laws.proofs.FineContexts.{BodiesKnow, know_terms, know_arms, know_behind}
use Rattle.actions_meanings.specs.Forms.{Setting, Form, form, is_taken, infix_form, meaning_form, target, unchanged_form, test, narrowed}
use Rattle.steps_found_states.proofs.Openings.{FormKnows}

-- what is known of the terms of a form

unchanged_terms : (at : Place) (es : List Term) → AllByRecursion KnowsValues es → AllByRecursion KnowsValues (map (unchanged_of at) es)
unchanged_terms at [] k = tt
unchanged_terms at (e ∷ es) k = ((tt, k.0), unchanged_terms at es k.1)

unchanged_knows : (at : Place) (q : ℕ × Term) → KnowsValues q.1 → FormKnows (unchanged_form at q)
unchanged_knows at (m, Placed p l (term.Variable x)) k = (tt, tt)
unchanged_knows at (m, Placed p l (term.Tuple ts)) k = unchanged_terms at (terms_list ts) (know_terms ts k.1)
unchanged_knows at (m, e) k = tt

infix_knows : (o : InfixOperator) (x : Option ℕ) (e : Term) → KnowsValues e → FormKnows (infix_form o x e)
infix_knows infix_operator.Equal (Some x) e k = k
infix_knows infix_operator.Member (Some x) e k = k
infix_knows o x e k = tt

meaning_knows : (g : Setting) → BodiesKnow g.table → (n : ℕ) (at : Place) (m : Meaning) → InParts KnowsValue m → FormKnows (meaning_form g n at m)
meaning_knows g b n at (term.All ts) k = know_terms ts k
meaning_knows g b n at (term.Any ts) k = know_terms ts k
meaning_knows g b n at (term.Quantified quantifier.Exists bs e) k = (k.0, k.1)
meaning_knows g b n at (term.If p e f) k = (k.0, k.1, k.2)
meaning_knows g b n at (term.Case cs) k = (know_arms cs k, tt)
meaning_knows g b n at (term.CaseOther cs e) k = (know_arms cs k.0, (k.1, tt))
meaning_knows g b n at (term.Scoped ks e) k = k
meaning_knows g b n at (term.Parenthesized e) k = k
meaning_knows g b n at (term.Use j ts) k = know_terms ts k
meaning_knows g b n at (term.BoxAction e v) k = (k.0, ((tt, k.1), tt))
meaning_knows g b n at (term.AngleAction e v) k = (k.0, k.1)
meaning_knows g b n at (term.Prefix prefix.Unchanged e) k = unchanged_knows at (behind g.table (length g.table) n e) (know_behind g.table b (length g.table) n e k)
meaning_knows g b n at (term.Infix o (term.First e) f) k = infix_knows o (target g.which e) f k.1
meaning_knows g b n at m k = tt

taken_knows : (b : Bool) (f : Form) → FormKnows f → FormKnows (if b then f else test)
taken_knows true f k = k
taken_knows false f k = tt

pub form_knows : (g : Setting) → BodiesKnow g.table → (n : ℕ) (a : Term) → KnowsValues a → FormKnows (form g n a)
form_knows g b n (Placed at l m) k = taken_knows (is_taken g.which l) (meaning_form g n at m) (meaning_knows g b n at m k.1)

-- How many slots are in scope says no more than how many are in scope of the parts of a tuple under UNCHANGED.

behind_same : (ops : Table) (k m n : ℕ) (e : Term) → (behind ops k m e).1 ≡ (behind ops k n e).1
behind_same ops zero m n e = refl
behind_same ops (suc k) m n (Placed at levels.State (term.Use i term.NoTerms)) = by_use (slice_get ops i) (λ o. behind_same ops k (min o.outer m) (min o.outer n) o.body)
  where
    by_use : (found : Option Operator) → ((o : Operator) → (behind ops k (min o.outer m) o.body).1 ≡ (behind ops k (min o.outer n) o.body).1)
        → (elim found as (λ x. ℕ × Term) [ None ↦ (m, Placed at levels.State (term.Use i term.NoTerms)) | Some o ↦ behind ops k (min o.outer m) o.body ]).1
        ≡ (elim found as (λ x. ℕ × Term) [ None ↦ (n, Placed at levels.State (term.Use i term.NoTerms)) | Some o ↦ behind ops k (min o.outer n) o.body ]).1
    by_use None f = refl
    by_use (Some o) f = f o
behind_same ops (suc k) m n e = refl

module _ {X : Type 0} (P : Form → X) (h : (m n : ℕ) (es : List Term) → P (narrowed m es) ≡ P (narrowed n es)) where
  unchanged_number : (at : Place) (m n : ℕ) (e : Term) → P (unchanged_form at (m, e)) ≡ P (unchanged_form at (n, e))
  unchanged_number at m n (Placed p l (term.Variable x)) = refl
  unchanged_number at m n (Placed p l (term.Tuple ts)) = h m n (map (unchanged_of at) (terms_list ts))
  unchanged_number at m n e = refl

  unchanged_same : (at : Place) (q r : ℕ × Term) → q.1 ≡ r.1 → P (unchanged_form at q) ≡ P (unchanged_form at r)
  unchanged_same at q r e = unchanged_number at q.0 r.0 q.1 ∙ ap (λ (x : Term). P (unchanged_form at (r.0, x))) e

  meaning_same : (g : Setting) (m n : ℕ) (at : Place) (x : Meaning) → P (meaning_form g m at x) ≡ P (meaning_form g n at x)
  meaning_same g m n at (term.Prefix prefix.Unchanged e) = unchanged_same at (behind g.table (length g.table) m e) (behind g.table (length g.table) n e) (behind_same g.table (length g.table) m n e)
  meaning_same g m n at x = refl

  taken_same : (b : Bool) (f k : Form) → P f ≡ P k → P (if b then f else test) ≡ P (if b then k else test)
  taken_same true f k e = e
  taken_same false f k e = refl

  pub same_form : (g : Setting) (m n : ℕ) (a : Term) → P (form g m a) ≡ P (form g n a)
  same_form g m n (Placed at l x) = taken_same (is_taken g.which l) (meaning_form g m at x) (meaning_form g n at x) (meaning_same g m n at x)
