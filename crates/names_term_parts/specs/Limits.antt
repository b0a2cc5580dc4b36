-- Which level a part of a term may have at most, and at which place one that is too high is told.
use Rattle.std.specs.Prelude.{Bool, true, false, List, [], ◌∷◌, ◌++◌}
use Rattle.base_core.specs.declared.place.Place.{Place}
use Rattle.reading_trees.specs.declared.operators.PrefixOperator.{PrefixOperator}
use Rattle.reading_trees.specs.declared.operators.PrefixOperator.TheVariants as prefix
use Rattle.reading_trees.specs.declared.operators.InfixOperator.{InfixOperator}
use Rattle.reading_trees.specs.declared.operators.InfixOperator.TheVariants as infix_operator
use Rattle.names_terms.specs.declared.level.Level.{Level}
use Rattle.names_terms.specs.declared.level.Level.TheVariants.{Constant, State, Action, Temporal}
use Rattle.names_terms.specs.Levels.{of_steps}
use Rattle.names_terms.specs.Terms.{Term, Meaning, Use, Standard, Prefix, Infix, Postfix, SetOf, Filter, Map, Tuple, Function, FunctionSet, Record, RecordSet, Except, Quantified, Choose, BoxAction, AngleAction, Terms, NoTerms, MoreTerms, Operands, First, Next, Step, Prime, Index, Field, Steps, NoSteps, MoreSteps, Bounds, NoBounds, MoreBounds, Fields, NoFields, MoreFields, Changes, NoChanges, MoreChanges, level_of}

-- a part of that level, which may have the other at most; the place is that of the term that has the part
pub record Limit : Type 0 where
  pub at : Place
  pub found : Level
  pub allowed : Level

abbrev pub is_above : Level → Level → Bool
is_above Constant b = false
is_above State Constant = true
is_above State b = false
is_above Action Constant = true
is_above Action State = true
is_above Action b = false
is_above Temporal Temporal = false
is_above Temporal b = true

abbrev pub limit : Place → Level → Level → Limit
limit at allowed found = record { at = at; found = found; allowed = allowed }

-- at most an action
abbrev pub no_temporal : Place → Term → Limit
no_temporal at e = limit at Action (level_of e)

abbrev pub term_limits : Place → Terms → List Limit
term_limits at NoTerms = []
term_limits at (MoreTerms ts e) = term_limits at ts ++ no_temporal at e ∷ []

abbrev pub set_limits : Place → Bounds → List Limit
set_limits at NoBounds = []
set_limits at (MoreBounds bs n e) = set_limits at bs ++ no_temporal at e ∷ []

abbrev pub value_limits : Place → Fields → List Limit
value_limits at NoFields = []
value_limits at (MoreFields fs n e) = value_limits at fs ++ no_temporal at e ∷ []

abbrev pub prefix_allows : PrefixOperator → Level
prefix_allows prefix.Not = Temporal
prefix_allows prefix.Always = Temporal
prefix_allows prefix.Eventually = Temporal
prefix_allows prefix.Unchanged = State
prefix_allows o = Action

abbrev pub infix_allows : InfixOperator → Level
infix_allows infix_operator.Implies = Temporal
infix_allows infix_operator.Equivalent = Temporal
infix_allows infix_operator.LeadsTo = Temporal
infix_allows infix_operator.And = Temporal
infix_allows infix_operator.Or = Temporal
infix_allows o = Action

-- the operands before the operator of that place: each is told at the operator whose right operand it is, the first at the first operator
abbrev pub operand_limits : Place → InfixOperator → Operands → List Limit
operand_limits at o (First e) = limit at (infix_allows o) (level_of e) ∷ []
operand_limits at o (Next os p e) = operand_limits p o os ++ limit p (infix_allows o) (level_of e) ∷ []

-- a step at that place, behind what has that level: a prime stands behind what a state has, an index or a field behind what a step has
abbrev pub step_limits : Place → Level → Step → List Limit
step_limits at l Prime = limit at State l ∷ []
step_limits at l (Index ts) = limit at Action l ∷ [] ++ term_limits at ts
step_limits at l (Field h) = limit at Action l ∷ []

abbrev pub steps_limits : Level → Steps → List Limit
steps_limits l NoSteps = []
steps_limits l (MoreSteps ss p s) = steps_limits l ss ++ step_limits p (of_steps l ss) s

-- the indices of a path, told at the EXCEPT
abbrev pub index_limits : Place → Step → List Limit
index_limits at (Index ts) = term_limits at ts
index_limits at s = []

abbrev pub path_limits : Place → Steps → List Limit
path_limits at NoSteps = []
path_limits at (MoreSteps ss p s) = path_limits at ss ++ index_limits at s

abbrev pub change_limits : Place → Changes → List Limit
change_limits at NoChanges = []
change_limits at (MoreChanges cs path e) = change_limits at cs ++ path_limits at path ++ no_temporal at e ∷ []

-- The limits of a term's parts. What is not named here has none: the parts of `/\`, `\/` and junction lists, of `(E)`, IF, CASE and LET, the
-- body of a quantifier, and the parts of WF and SF.
abbrev pub limits : Place → Meaning → List Limit
limits at (Use k ts) = term_limits at ts
limits at (Standard o ts) = term_limits at ts
limits at (Prefix o e) = limit at (prefix_allows o) (level_of e) ∷ []
limits at (Infix o os e) = operand_limits at o os ++ limit at (infix_allows o) (level_of e) ∷ []
limits at (Postfix e ss s) = steps_limits (level_of e) ss ++ step_limits at (of_steps (level_of e) ss) s
limits at (SetOf ts) = term_limits at ts
limits at (Filter s e) = no_temporal at s ∷ no_temporal at e ∷ []
limits at (Map e bs) = no_temporal at e ∷ [] ++ set_limits at bs
limits at (Tuple ts) = term_limits at ts
limits at (Function bs e) = set_limits at bs ++ no_temporal at e ∷ []
limits at (FunctionSet s e) = no_temporal at s ∷ no_temporal at e ∷ []
limits at (Record fs) = value_limits at fs
limits at (RecordSet fs) = value_limits at fs
limits at (Except e cs) = no_temporal at e ∷ [] ++ change_limits at cs
limits at (Quantified q bs e) = set_limits at bs
limits at (Choose s e) = no_temporal at s ∷ no_temporal at e ∷ []
limits at (BoxAction e v) = no_temporal at e ∷ limit at State (level_of v) ∷ []
limits at (AngleAction e v) = no_temporal at e ∷ limit at State (level_of v) ∷ []
limits at m = []
