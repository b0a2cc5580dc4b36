-- The level of a term: 0 of what is constant, 1 of what a state has, 2 of what a step has, 3 of what a whole behaviour has. It is that of the
-- meaning over the levels of the parts, which stand in the parts (Lamport, Specifying Systems, 17.2; ENABLED and arguments as this project's
-- profile has them).
use Rattle.std.specs.Prelude.{List, [], Option, Some, None, slice_get}
use Rattle.reading_trees.specs.declared.operators.PrefixOperator.{PrefixOperator}
use Rattle.reading_trees.specs.declared.operators.PrefixOperator.TheVariants as prefix
use Rattle.reading_trees.specs.declared.operators.InfixOperator.{InfixOperator}
use Rattle.reading_trees.specs.declared.operators.InfixOperator.TheVariants as infix_operator
use Rattle.names_terms.specs.declared.level.Level.{Level}
use Rattle.names_terms.specs.declared.level.Level.TheVariants.{Constant, State, Action, Temporal}
use Rattle.names_terms.specs.declared.operator.Operator.{Operator}
use Rattle.names_terms.specs.Terms.{Meaning, Known, Named, Variable, Slot, Use, Standard, Parenthesized, Scoped, All, Any, Prefix, Infix, Postfix, SetOf, Filter, Map, Tuple, Function, FunctionSet, Record, RecordSet, Except, Quantified, Choose, If, Case, CaseOther, BoxAction, AngleAction, Fairness, Terms, NoTerms, MoreTerms, Operands, First, Next, Step, Prime, Index, Field, Steps, NoSteps, MoreSteps, Bounds, NoBounds, MoreBounds, Fields, NoFields, MoreFields, Changes, NoChanges, MoreChanges, Arms, NoArms, MoreArms, level_of}

-- the greater of two levels
abbrev pub joined : Level → Level → Level
joined Constant b = b
joined State Constant = State
joined State b = b
joined Action Temporal = Temporal
joined Action b = Action
joined Temporal b = Temporal

abbrev pub of_terms : Terms → Level
of_terms NoTerms = Constant
of_terms (MoreTerms ts e) = joined (of_terms ts) (level_of e)

abbrev pub of_operands : Operands → Level
of_operands (First e) = level_of e
of_operands (Next os at e) = joined (of_operands os) (level_of e)

abbrev pub of_step : Level → Step → Level
of_step l Prime = Action
of_step l (Index ts) = joined l (of_terms ts)
of_step l (Field h) = l

-- the level behind the steps
abbrev pub of_steps : Level → Steps → Level
of_steps l NoSteps = l
of_steps l (MoreSteps ss at s) = of_step (of_steps l ss) s

abbrev pub of_bounds : Bounds → Level
of_bounds NoBounds = Constant
of_bounds (MoreBounds bs n e) = joined (of_bounds bs) (level_of e)

abbrev pub of_fields : Fields → Level
of_fields NoFields = Constant
of_fields (MoreFields fs n e) = joined (of_fields fs) (level_of e)

abbrev pub of_path : Steps → Level
of_path ss = of_steps Constant ss

abbrev pub of_changes : Changes → Level
of_changes NoChanges = Constant
of_changes (MoreChanges cs path e) = joined (of_changes cs) (joined (of_path path) (level_of e))

abbrev pub of_arms : Arms → Level
of_arms NoArms = Constant
of_arms (MoreArms arms p e) = joined (of_arms arms) (joined (level_of p) (level_of e))

abbrev pub of_operator : Option Operator → Level
of_operator None = Constant
of_operator (Some o) = o.level

abbrev pub of_prefix : PrefixOperator → Level → Level
of_prefix prefix.Unchanged l = Action
of_prefix prefix.Enabled l = Temporal
of_prefix prefix.Always l = Temporal
of_prefix prefix.Eventually l = Temporal
of_prefix o l = l

abbrev pub of_infix : InfixOperator → Level → Level
of_infix infix_operator.LeadsTo l = Temporal
of_infix o l = l

-- the level of a term with this meaning, whose parts have their levels
abbrev pub level_for : List Operator → Meaning → Level
level_for ops (Known v) = Constant
level_for ops (Named s) = Constant
level_for ops (Variable x) = State
level_for ops (Slot i) = Constant
level_for ops (Use k ts) = joined (of_operator (slice_get ops k)) (of_terms ts)
level_for ops (Standard o ts) = of_terms ts
level_for ops (Parenthesized e) = level_of e
level_for ops (Scoped ks e) = level_of e
level_for ops (All ts) = of_terms ts
level_for ops (Any ts) = of_terms ts
level_for ops (Prefix o e) = of_prefix o (level_of e)
level_for ops (Infix o os e) = of_infix o (joined (of_operands os) (level_of e))
level_for ops (Postfix e ss s) = of_step (of_steps (level_of e) ss) s
level_for ops (SetOf ts) = of_terms ts
level_for ops (Filter s e) = joined (level_of s) (level_of e)
level_for ops (Map e bs) = joined (level_of e) (of_bounds bs)
level_for ops (Tuple ts) = of_terms ts
level_for ops (Function bs e) = joined (of_bounds bs) (level_of e)
level_for ops (FunctionSet s e) = joined (level_of s) (level_of e)
level_for ops (Record fs) = of_fields fs
level_for ops (RecordSet fs) = of_fields fs
level_for ops (Except e cs) = joined (level_of e) (of_changes cs)
level_for ops (Quantified q bs e) = joined (of_bounds bs) (level_of e)
level_for ops (Choose s e) = joined (level_of s) (level_of e)
level_for ops (If p e f) = joined (level_of p) (joined (level_of e) (level_of f))
level_for ops (Case arms) = of_arms arms
level_for ops (CaseOther arms e) = joined (of_arms arms) (level_of e)
level_for ops (BoxAction e v) = Action
level_for ops (AngleAction e v) = Action
level_for ops (Fairness v e) = Temporal
