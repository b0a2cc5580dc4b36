-- What the walk of an action rests on, and what it opens to on the way.
use Rattle.std.specs.Prelude.{◌≡◌, ℕ, zero, suc, List, [], ◌∷◌, ◌++◌, map, length, Some, Ok, slice_get, option_to_list, if◌then◌else◌}
use Rattle.std.specs.List.{AllByRecursion}
use Rattle.base_core.specs.declared.place.Place.{Place}
use Rattle.states_core.specs.States.{Values}
use Rattle.names_terms.specs.Terms.{Term, place_of}
use Rattle.eval_meanings.specs.Binders.{BoundValues}
use Rattle.eval_meanings.specs.Contexts.{Context, Places, WithDefinition, bind, enter, within}
use Rattle.eval_meanings.specs.Evaluates.{Evaluates}
use Rattle.eval_meanings.specs.Laws.{ReadsValues}
use Rattle.eval_meanings.specs.Outcomes.{Outcome, Each, Gives, Then}
use Rattle.eval_meanings.specs.Unchanged.{TruthOf}
use Rattle.actions_meanings.specs.Forms.{Setting, Form, form, both, either, narrowed, some, branch, arms, inside, call, changing}
use Rattle.actions_meanings.specs.Reads.{VariableSet, Ends, body_of}
use Rattle.actions_meanings.specs.Outcomes.{Fixes, outcome_within}
use Rattle.actions_meanings.specs.Holds.{Chosen, Opened, all_of, one_of}
use Rattle.logs_updates.specs.declared.update.See.{See}
use Rattle.actions_meanings.specs.Filled.{Completes, Fills, at_next}
use Rattle.actions_meanings.specs.Walkable.{Walkable}
use Rattle.steps_found_states.specs.Walks.{Agrees}

-- the terms that are walked where the action has this form; that v changes is a test
abbrev pub form_parts : Setting → Place → Form → List Term
form_parts g at (both es) = es
form_parts g at (narrowed n es) = es
form_parts g at (either es) = es
form_parts g at (some bs e) = e ∷ []
form_parts g at (branch p e f) = e ∷ f ∷ []
form_parts g at (arms cs other) = map (λ q. q.1) cs ++ option_to_list other
form_parts g at (inside e) = e ∷ []
form_parts g at (call k es) = body_of (slice_get g.table k)
form_parts g at (changing e v) = e ∷ []
form_parts g at f = []

-- the terms of a tuple under UNCHANGED, each under UNCHANGED
abbrev pub tuple_parts : Form → List Term
tuple_parts (narrowed n es) = es
tuple_parts f = []

-- what the term leaves fixed, seen as k levels high, it leaves fixed
abbrev pub FixesWithin : Setting → ℕ → Term → Type 0
FixesWithin g k e = (B C : VariableSet) → outcome_within g k e B ≡ Ok C → Fixes g e B C

-- It is so of each term of a tuple under UNCHANGED where the whole is one level higher, and so it is further in. It could be otherwise only where the
-- level of the tuple is below that of a term of it, since of a constant tuple nothing is asked.
abbrev pub TuplesFix : Setting → ℕ → Term → Type 0
TuplesFix g zero a = Unit {0}
TuplesFix g (suc d) a =
    ((k : ℕ) → Ends g.table (suc k) a → AllByRecursion (FixesWithin g k) (tuple_parts (form g zero a))) × AllByRecursion (TuplesFix g d) (form_parts g (place_of a) (form g zero a))

-- What the walk of an action from p rests on, where the variables of B are filled.
pub record Grounds (g : Setting) (d : ℕ) (sees : List See) (B : VariableSet) (p : Places) (c : Context) (a : Term) : Type 0 where
  pub long : length p ≡ g.variables
  pub fills : Fills B p
  pub agrees : Agrees sees p
  pub reads : (t : Values) → Completes p t → ReadsValues g.table (at_next g.which c (map Some t)) a
  pub walks : Walkable g d B p c a
  pub tuples : TuplesFix g d a

-- What a form opens to where the next state is p so far, or the fault of what is evaluated for it: each part with the slots that are in scope there.
-- `<<A>>_v` is walked otherwise.
abbrev pub OpensFrom : Setting → ℕ → Context → Places → Place → Form → Outcome Opened
OpensFrom g d c p at (both es) = Gives (all_of (map (λ e. (c, e)) es))
OpensFrom g d c p at (narrowed n es) = Gives (all_of (map (λ e. (within n c, e)) es))
OpensFrom g d c p at (either es) = Gives (one_of (map (λ e. (c, e)) es))
OpensFrom g d c p at (some bs e) = Then (BoundValues (Evaluates g.table d) (at_next g.which c p) bs) (λ all. Gives (one_of (map (λ chosen. (bind c chosen, e)) all)))
OpensFrom g d c p at (branch q e f) = Then (TruthOf (Evaluates g.table d) (at_next g.which c p) q) (λ b. Gives (one_of ((c, if b then e else f) ∷ [])))
OpensFrom g d c p at (arms cs other) = Then (Chosen (TruthOf (Evaluates g.table d) (at_next g.which c p)) at cs other) (λ e. Gives (one_of ((c, e) ∷ [])))
OpensFrom g d c p at (inside e) = Gives (one_of ((c, e) ∷ []))
OpensFrom g d c p at (call k es) =
    Then (Each (Evaluates g.table d (at_next g.which c p)) es) (λ vs. WithDefinition g.table k (λ o. Gives (one_of ((enter o vs c, o.body) ∷ []))))
OpensFrom g d c p at f = λ r. ⊥
