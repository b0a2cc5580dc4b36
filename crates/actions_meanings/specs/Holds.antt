-- When an action holds of two states, which stand in the context: in Init both are the state that is made. A term has one evaluation less for
-- its parts, and with none left nothing holds.
use Rattle.std.specs.Prelude.{◌≡◌, ℕ, zero, suc, Bool, true, false, List, [], ◌∷◌, map, All, Any, Option, Some, None, Ok, slice_get, length, if◌then◌else◌}
use Rattle.base_core.specs.declared.place.Place.{Place}
use Rattle.values_core.specs.Data.{Val}
use Rattle.values_core.specs.declared.fault.EvalKind.TheVariants.{NoCase}
use Rattle.names_terms.specs.Terms.{Term, place_of}
use Rattle.values_sets.specs.DescribedSets.{Described}
use Rattle.values_sets.specs.Membership.{Belongs}
use Rattle.eval_meanings.specs.Binders.{BoundValues}
use Rattle.eval_meanings.specs.Contexts.{Context, Table, WithDefinition, bind, enter, within}
use Rattle.eval_meanings.specs.Evaluates.{Evaluates, Describes}
use Rattle.eval_meanings.specs.Outcomes.{Outcome, Each, Either, Fails, Gives, Then}
use Rattle.eval_meanings.specs.Sets.{MeansSet}
use Rattle.eval_meanings.specs.Unchanged.{TruthOf, changed_of}
use Rattle.actions_meanings.specs.Forms.{Setting, Form, form, test, assign, choose, both, either, narrowed, some, branch, arms, inside, call, changing}

-- what holds of a term in a context
abbrev pub Relation : Type 1
Relation = Context → Term → Type 0

-- The parts of a form that is no test and says no value of a variable, each in its context: all must hold, or one of them.
pub data Opened : Type 0 where
  all_of : List (Context × Term) → Opened
  one_of : List (Context × Term) → Opened

-- CASE: what stands behind the first test that is true, or else the last
abbrev pub Chosen : (Term → Outcome Bool) → Place → List (Term × Term) → Option Term → Outcome Term
Chosen truth at [] None = Fails NoCase at
Chosen truth at [] (Some e) = Gives e
Chosen truth at (c ∷ cs) other = Then (truth c.0) (λ b. Either b (Gives c.1) (Chosen truth at cs other))

-- what a form opens to, or the fault of what is evaluated for it
abbrev pub Opens : Table → ℕ → Context → Place → Form → Outcome Opened
Opens ops d c at (both es) r = Gives (all_of (map (λ e. (c, e)) es)) r
Opens ops d c at (narrowed n es) r = Gives (all_of (map (λ e. (within n c, e)) es)) r
Opens ops d c at (changing e v) r = Gives (all_of ((c, e) ∷ (c, changed_of at v) ∷ [])) r
Opens ops d c at (either es) r = Gives (one_of (map (λ e. (c, e)) es)) r
Opens ops d c at (some bs e) r = Then (BoundValues (Evaluates ops d) c bs) (λ all. Gives (one_of (map (λ chosen. (bind c chosen, e)) all))) r
Opens ops d c at (branch p e f) r = Then (TruthOf (Evaluates ops d) c p) (λ b. Gives (one_of ((c, if b then e else f) ∷ []))) r
Opens ops d c at (arms cs other) r = Then (Chosen (TruthOf (Evaluates ops d) c) at cs other) (λ e. Gives (one_of ((c, e) ∷ []))) r
Opens ops d c at (inside e) r = Gives (one_of ((c, e) ∷ [])) r
Opens ops d c at (call k es) r = Then (Each (Evaluates ops d c) es) (λ vs. WithDefinition ops k (λ o. Gives (one_of ((enter o vs c, o.body) ∷ [])))) r
Opens ops d c at f r = ⊥

abbrev pub OpenedHolds : Relation → Opened → Type 0
OpenedHolds part (all_of es) = All (λ e. part e.0 e.1) es
OpenedHolds part (one_of es) = Any (λ e. part e.0 e.1) es

abbrev pub FormHolds : Setting → ℕ → Relation → Context → Term → Form → Type 0
FormHolds g d part c a test = TruthOf (Evaluates g.table (suc d)) c a (Ok true)
FormHolds g d part c a (assign x e) = (v : Val) × Evaluates g.table d c e (Ok v) × (slice_get c.next x ≡ Some (Some v))
FormHolds g d part c a (choose x e) =
    (v : Val) × (S : Described) × MeansSet (Describes g.table d) c e (Ok S) × (slice_get c.next x ≡ Some (Some v)) × Belongs S v
FormHolds g d part c a f = (o : Opened) × Opens g.table d c (place_of a) f (Ok o) × OpenedHolds part o

-- the action holds of the two states
abbrev pub Holds : Setting → ℕ → Relation
Holds g zero c a = ⊥
Holds g (suc d) c a = FormHolds g d (Holds g d) c a (form g (length c.slots) a)
