-- Which terms can be evaluated: whatever evaluation may come to, of the term itself and of the definitions that it uses, reads only variables
-- and slots that have a value, uses definitions that there are, and is no temporal formula. Within d evaluations, since no more are made.
use Rattle.std.specs.Prelude.{◌≡◌, ◌≤◌, ℕ, zero, suc, Bool, true, false, List, [], ◌∷◌, length, map, Option, Some, None, slice_get}
use Rattle.base_core.specs.declared.place.Place.{Place}
use Rattle.values_core.specs.Data.{Val}
use Rattle.values_core.specs.SetOperations.{AreDifferent}
use Rattle.reading_trees.specs.declared.operators.PrefixOperator.{PrefixOperator}
use Rattle.reading_trees.specs.declared.operators.PrefixOperator.TheVariants as prefix
use Rattle.reading_trees.specs.declared.operators.InfixOperator.{InfixOperator}
use Rattle.reading_trees.specs.declared.operators.InfixOperator.TheVariants as infix_operator
use Rattle.names_terms.specs.declared.operator.Operator.{Operator}
use Rattle.names_terms.specs.declared.level.Level.TheVariants as levels
use Rattle.names_terms.specs.Lists.{terms_list, steps_list, bounds_list, fields_list, changes_list, arms_list}
use Rattle.names_terms.specs.Terms as term
use Rattle.names_terms.specs.Terms.{Term, Placed, Meaning, Terms, Operands, Step, Steps, Bounds, width}
use Rattle.eval_meanings.specs.Answers.{arity}
use Rattle.eval_meanings.specs.Contexts.{Context, Places, Table, bind, enter, primed, within}
use Rattle.eval_meanings.specs.Recursion.{Recursion, applied_by}
use Rattle.eval_meanings.specs.Sets.{first_operand, other_operands}
use Rattle.eval_meanings.specs.Unchanged.{behind, changed_of, prime_of, unchanged_of}

-- what holds of a part of a term in a context
abbrev pub Reading : Type 1
Reading = Context → Term → Type 0

abbrev pub ReadsEach : Reading → Context → List Term → Type 0
ReadsEach part c [] = Unit {0}
ReadsEach part c (e ∷ es) = part c e × ReadsEach part c es

-- under any values of so many names that are bound further in
abbrev pub ReadsUnder : Reading → Context → ℕ → Term → Type 0
ReadsUnder part c n e = (vs : List Val) → length vs ≡ n → part (bind c vs) e

-- the value of the variable is known
abbrev pub Knows : Places → ℕ → Type 0
Knows places x = (v : Val) × (slice_get places x ≡ Some (Some v))

-- a definition on arguments: it is there, and its body can be evaluated on any values of them
abbrev pub UseReads : Table → Reading → Context → ℕ → List Term → Type 0
UseReads ops part c k es =
    (o : Operator) × (slice_get ops k ≡ Some o) × (o.outer ≤ length c.slots) × ReadsEach part c es × ((vs : List Val) → length vs ≡ length es → part (enter o vs c) o.body)

-- the body of a definition on these values of its arguments
abbrev pub BodyReads : Table → Reading → Context → ℕ → List Val → Type 0
BodyReads ops part c k vs = (o : Operator) × (slice_get ops k ≡ Some o) × (o.outer ≤ length c.slots) × part (enter o vs c) o.body

-- a function that uses itself, at any of its keys
abbrev pub RecursionReads : Reading → Context → Option Recursion → Type 0
RecursionReads part c None = Unit {0}
RecursionReads part c (Some g) = (g.around ≤ length c.slots) × ReadsEach part (within g.around c) (map (λ b. b.1) (bounds_list g.bounds)) × ReadsUnder part (within g.around c) (width g.bounds) g.value

-- a primary with steps behind it
abbrev pub StepsRead : Table → Reading → Context → Term → Steps → Type 0
StepsRead ops part c e term.NoSteps = part c e
StepsRead ops part c e (term.MoreSteps ss at term.Prime) = StepsRead ops part (primed c) e ss
StepsRead ops part c e (term.MoreSteps ss at (term.Index ts)) = StepsRead ops part c e ss × ReadsEach part c (terms_list ts) × RecursionReads part c (applied_by ops e ss (term.Index ts))
StepsRead ops part c e (term.MoreSteps ss at (term.Field h)) = StepsRead ops part c e ss

-- the path of a change, in which no step is a prime
abbrev pub PathReads : Reading → Context → List Step → Type 0
PathReads part c [] = Unit {0}
PathReads part c (term.Prime ∷ path) = ⊥
PathReads part c (term.Index ts ∷ path) = ReadsEach part c (terms_list ts) × PathReads part c path
PathReads part c (term.Field h ∷ path) = PathReads part c path

abbrev pub ChangesRead : Reading → Context → List (Steps × Term) → Type 0
ChangesRead part c [] = Unit {0}
ChangesRead part c (change ∷ changes) = PathReads part c (map (λ s. s.1) (steps_list change.0)) × ReadsUnder part c 1 change.1 × ChangesRead part c changes

abbrev pub ArmsRead : Reading → Context → List (Term × Term) → Type 0
ArmsRead part c [] = Unit {0}
ArmsRead part c (arm ∷ arms) = part c arm.0 × part c arm.1 × ArmsRead part c arms

-- the last arm of a CASE, if there is one
abbrev pub OtherReads : Reading → Context → Option Term → Type 0
OtherReads part c None = Unit {0}
OtherReads part c (Some e) = part c e

abbrev pub BoundsRead : Reading → Context → Bounds → Type 0
BoundsRead part c bs = ReadsEach part c (map (λ b. b.1) (bounds_list bs))

-- UNCHANGED: what it means, as terms that no text spells
abbrev pub SameReads : Reading → Context → Place → Term → Type 0
SameReads part c at e = part c (prime_of at e) × part c e

abbrev pub MeansUnchangedReads : Reading → Context → Place → Term → Context → Term → Type 0
MeansUnchangedReads part c at e d (Placed p l (term.Variable x)) = SameReads part c at (Placed at levels.State (term.Variable x))
MeansUnchangedReads part c at e d (Placed p l (term.Tuple ts)) = ReadsEach part d (map (unchanged_of at) (terms_list ts))
MeansUnchangedReads part c at e d f = SameReads part c at e

abbrev pub UnchangedReads : Table → Reading → Context → Place → Term → Type 0
UnchangedReads ops part c at e = let found : ℕ × Term = behind ops (length ops) (length c.slots) e in MeansUnchangedReads part c at e (within found.0 c) found.1

abbrev pub PrefixReads : Table → Reading → Context → PrefixOperator → Place → Term → Type 0
PrefixReads ops part c prefix.Unchanged at e = UnchangedReads ops part c at e
PrefixReads ops part c prefix.Enabled at e = ⊥
PrefixReads ops part c prefix.Always at e = ⊥
PrefixReads ops part c prefix.Eventually at e = ⊥
PrefixReads ops part c o at e = part c e

-- /\ and \/ have rows of their own, and ~> is temporal
abbrev pub has_value : InfixOperator → Bool
has_value infix_operator.LeadsTo = false
has_value infix_operator.And = false
has_value infix_operator.Or = false
has_value o = true

-- whether more than two operands may stand in a row
abbrev pub is_chained : InfixOperator → Bool
is_chained infix_operator.LeadsTo = false
is_chained infix_operator.And = false
is_chained infix_operator.Or = false
is_chained infix_operator.Implies = false
is_chained infix_operator.Equivalent = false
is_chained infix_operator.Member = false
is_chained infix_operator.NotMember = false
is_chained infix_operator.SubsetOrEqual = false
is_chained infix_operator.Interval = false
is_chained o = true

abbrev pub InfixReads : Reading → Context → InfixOperator → Operands → Place → Term → Type 0
InfixReads part c o (term.First a) at b = (has_value o ≡ true) × part c a × part c b
InfixReads part c o (term.Next os p a) at b =
    (is_chained o ≡ true) × part c (first_operand os) × ReadsEach part c (map (λ e. e.1) (other_operands (term.Next (term.Next os p a) at b)))

abbrev pub MeaningReads : Table → Reading → Context → Place → Meaning → Type 0
MeaningReads ops part c at (term.Known v) = Unit {0}
MeaningReads ops part c at (term.Named n) = Unit {0}
MeaningReads ops part c at (term.Variable x) = Knows c.now x
MeaningReads ops part c at (term.Slot i) = (v : Val) × (slice_get c.slots i ≡ Some v)
MeaningReads ops part c at (term.Use k ts) = UseReads ops part c k (terms_list ts)
MeaningReads ops part c at (term.Standard o ts) = (length (terms_list ts) ≡ arity o) × ReadsEach part c (terms_list ts)
MeaningReads ops part c at (term.Parenthesized e) = part c e
MeaningReads ops part c at (term.Scoped ks e) = part c e
MeaningReads ops part c at (term.All ts) = ReadsEach part c (terms_list ts)
MeaningReads ops part c at (term.Any ts) = ReadsEach part c (terms_list ts)
MeaningReads ops part c at (term.Prefix o e) = PrefixReads ops part c o at e
MeaningReads ops part c at (term.Infix o os e) = InfixReads part c o os at e
MeaningReads ops part c at (term.Postfix e ss s) = StepsRead ops part c e (term.MoreSteps ss at s)
MeaningReads ops part c at (term.SetOf ts) = ReadsEach part c (terms_list ts)
MeaningReads ops part c at (term.Filter a p) = part c a × ReadsUnder part c 1 p
MeaningReads ops part c at (term.Map e bs) = BoundsRead part c bs × ReadsUnder part c (width bs) e
MeaningReads ops part c at (term.Tuple ts) = ReadsEach part c (terms_list ts)
MeaningReads ops part c at (term.Function bs e) = BoundsRead part c bs × ReadsUnder part c (width bs) e
MeaningReads ops part c at (term.FunctionSet a b) = part c a × part c b
MeaningReads ops part c at (term.Record fs) = AreDifferent (map (λ f. f.0) (fields_list fs)) × ReadsEach part c (map (λ f. f.1) (fields_list fs))
MeaningReads ops part c at (term.RecordSet fs) = AreDifferent (map (λ f. f.0) (fields_list fs)) × ReadsEach part c (map (λ f. f.1) (fields_list fs))
MeaningReads ops part c at (term.Except e changes) = part c e × ChangesRead part c (changes_list changes)
MeaningReads ops part c at (term.Quantified q bs e) = BoundsRead part c bs × ReadsUnder part c (width bs) e
MeaningReads ops part c at (term.Choose a p) = part c a × ReadsUnder part c 1 p
MeaningReads ops part c at (term.If p a b) = part c p × part c a × part c b
MeaningReads ops part c at (term.Case arms) = ArmsRead part c (arms_list arms)
MeaningReads ops part c at (term.CaseOther arms e) = ArmsRead part c (arms_list arms) × part c e
MeaningReads ops part c at (term.BoxAction a v) = part c a × part c (unchanged_of at v)
MeaningReads ops part c at (term.AngleAction a v) = part c a × part c (changed_of at v)
MeaningReads ops part c at (term.Fairness v a) = ⊥

-- whatever the evaluation of the term may come to within d evaluations can be evaluated
abbrev pub Reads : Table → ℕ → Reading
Reads ops zero c e = Unit {0}
Reads ops (suc d) c (Placed at l m) = MeaningReads ops (Reads ops d) c at m
