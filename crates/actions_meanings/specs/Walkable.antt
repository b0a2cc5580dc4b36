-- Which actions can be walked: whatever is evaluated on the way, from left to right, reads only what has a value by then. It is so of what a
-- specification in order says, where each action has a form.
use Rattle.std.specs.Prelude.{◌≡◌, ◌≤◌, ◌<◌, ℕ, zero, suc, List, [], ◌∷◌, map, length, All, Option, Some, None, slice_get, if◌then◌else◌}
use Rattle.values_core.specs.Data.{Val}
use Rattle.names_terms.specs.declared.operator.Operator.{Operator}
use Rattle.names_terms.specs.Terms.{Term, Bounds, width, place_of}
use Rattle.eval_meanings.specs.Contexts.{Context, Places, Table, bind, enter, within}
use Rattle.eval_meanings.specs.Laws.{IsWithin}
use Rattle.eval_meanings.specs.Unchanged.{changed_of}
use Rattle.eval_meanings.specs.Reads.{BoundsRead, Reads, ReadsEach, Reading}
use Rattle.actions_meanings.specs.Forms.{Setting, Form, form, test, assign, choose, both, either, narrowed, some, branch, arms, inside, call, changing}
use Rattle.actions_meanings.specs.Reads.{VariableSet}
use Rattle.actions_meanings.specs.Outcomes.{Fixes}
use Rattle.actions_meanings.specs.Filled.{Fills, at_next}

-- what holds of a part, where the variables of the set are fixed and the next state is so far as it is
abbrev pub Walking : Type 1
Walking = VariableSet → Places → Context → Term → Type 0

-- one after another: the later ones from whatever those before may leave
abbrev pub AllWalk : Setting → Walking → VariableSet → Places → Context → List Term → Type 0
AllWalk g part B p c [] = Unit {0}
AllWalk g part B p c (e ∷ es) =
    part B p c e × ((C : VariableSet) (q : Places) → Fixes g e B C → length q ≡ length p → IsWithin p q → Fills C q → AllWalk g part C q c es)

abbrev pub ArmsWalk : Reading → (Term → Type 0) → Context → List (Term × Term) → Option Term → Type 0
ArmsWalk reads part c [] None = Unit {0}
ArmsWalk reads part c [] (Some e) = part e
ArmsWalk reads part c (q ∷ qs) other = reads c q.0 × part q.1 × ArmsWalk reads part c qs other

abbrev pub CallWalks : Table → Reading → (Context → Term → Type 0) → Context → Context → ℕ → List Term → Type 0
CallWalks ops reads part at c k es =
    (o : Operator) × (slice_get ops k ≡ Some o) × (o.outer ≤ length c.slots) × ReadsEach reads at es × ((vs : List Val) → length vs ≡ length es → part (enter o vs c) o.body)

abbrev pub FormWalks : Setting → ℕ → Walking → VariableSet → Places → Context → Term → Form → Type 0
FormWalks g d part B p c a test = Reads g.table (suc d) (at_next g.which c p) a
FormWalks g d part B p c a (assign x e) = (x < length p) × Reads g.table d (at_next g.which c p) e
FormWalks g d part B p c a (choose x e) = (x < length p) × Reads g.table d (at_next g.which c p) e
FormWalks g d part B p c a (both es) = AllWalk g part B p c es
FormWalks g d part B p c a (narrowed n es) = AllWalk g part B p (within n c) es
FormWalks g d part B p c a (changing e v) = AllWalk g part B p c (e ∷ changed_of (place_of a) v ∷ [])
FormWalks g d part B p c a (either es) = All (part B p c) es
FormWalks g d part B p c a (some bs e) = BoundsRead (Reads g.table d) (at_next g.which c p) bs × ((vs : List Val) → length vs ≡ width bs → part B p (bind c vs) e)
FormWalks g d part B p c a (branch q e f) = Reads g.table d (at_next g.which c p) q × part B p c e × part B p c f
FormWalks g d part B p c a (arms cs other) = ArmsWalk (λ at e. Reads g.table d (at_next g.which at p) e) (part B p c) c cs other
FormWalks g d part B p c a (inside e) = part B p c e
FormWalks g d part B p c a (call k es) = CallWalks g.table (Reads g.table d) (part B p) (at_next g.which c p) c k es

-- within d evaluations
abbrev pub Walkable : Setting → ℕ → Walking
Walkable g zero B p c a = Unit {0}
Walkable g (suc d) B p c a = ((C : VariableSet) × Fixes g a B C) × FormWalks g d (Walkable g d) B p c a (form g (length c.slots) a)
