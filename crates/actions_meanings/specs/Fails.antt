-- The faults that an action has at two states, where some variables were fixed before. Of a conjunction it is a fault of a part, where all before
-- it hold; of what one part makes true it is a fault of any part.
use Rattle.std.specs.Prelude.{◌≡◌, ◌⊎◌, ℕ, zero, suc, false, List, [], ◌∷◌, Any, Ok, Err, length}
use Rattle.values_core.specs.declared.fault.EvalKind.TheVariants.{Nested}
use Rattle.states_core.specs.declared.fault.Fault.{Fault}
use Rattle.names_terms.specs.Terms.{Term, place_of}
use Rattle.values_sets.specs.DescribedSets.{Described}
use Rattle.eval_meanings.specs.Contexts.{Context}
use Rattle.eval_meanings.specs.Evaluates.{Evaluates, Describes}
use Rattle.eval_meanings.specs.Outcomes.{fault}
use Rattle.eval_meanings.specs.Sets.{MeansSet, list_at}
use Rattle.eval_meanings.specs.Unchanged.{TruthOf}
use Rattle.actions_meanings.specs.Forms.{Setting, Form, form, test, assign, choose}
use Rattle.actions_meanings.specs.Reads.{VariableSet}
use Rattle.actions_meanings.specs.Outcomes.{Fixes}
use Rattle.actions_meanings.specs.Holds.{Relation, Opened, all_of, one_of, Opens, Holds}

-- what faults a term has in a context, where the variables of the set were fixed before
abbrev pub Failing : Type 1
Failing = VariableSet → Context → Term → Fault → Type 0

-- of terms that must all hold: of one of them, where those before it hold, from the set that these leave
abbrev pub SomeFails : Setting → Relation → Failing → VariableSet → List (Context × Term) → Fault → Type 0
SomeFails g holds part B [] f = ⊥
SomeFails g holds part B (e ∷ es) f = part B e.0 e.1 f ⊎ (holds e.0 e.1 × ((C : VariableSet) × Fixes g e.1 B C × SomeFails g holds part C es f))

abbrev pub OpenedFails : Setting → Relation → Failing → VariableSet → Opened → Fault → Type 0
OpenedFails g holds part B (all_of es) f = SomeFails g holds part B es f
OpenedFails g holds part B (one_of es) f = Any (λ e. part B e.0 e.1 f) es

-- Of a choice of a variable's value also that the set can not be listed, where the variable is not fixed before: whatever its value is.
abbrev pub FormFails : Setting → ℕ → Relation → Failing → VariableSet → Context → Term → Form → Fault → Type 0
FormFails g d holds part B c a test f = TruthOf (Evaluates g.table (suc d)) c a (Err f)
FormFails g d holds part B c a (assign x e) f = Evaluates g.table d c e (Err f)
FormFails g d holds part B c a (choose x e) f =
    MeansSet (Describes g.table d) c e (Err f) ⊎ ((S : Described) × MeansSet (Describes g.table d) c e (Ok S) × (B x ≡ false) × list_at (place_of e) S (Err f))
FormFails g d holds part B c a form f =
    Opens g.table d c (place_of a) form (Err f) ⊎ ((o : Opened) × Opens g.table d c (place_of a) form (Ok o) × OpenedFails g holds part B o f)

-- the fault is one that the action has at the two states
abbrev pub Fails : Setting → ℕ → Failing
Fails g zero B c a f = f ≡ fault Nested (place_of a)
Fails g (suc d) B c a f = FormFails g d (Holds g d) (Fails g d) B c a (form g (length c.slots) a) f
