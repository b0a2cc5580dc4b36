-- What the calls of evaluation answer, beside the outcomes that are defined. Only want of memory may come at any time.
use Rattle.std.specs.Prelude.{ℕ, Bool, true, false, Result, Ok, Err}
use Rattle.base_core.specs.declared.place.Place.{Place}
use Rattle.values_core.specs.declared.fault.OpFault.{OpFault}
use Rattle.values_core.specs.declared.fault.OpFault.TheVariants as operation
use Rattle.reading_trees.specs.declared.operators.PrefixOperator.{PrefixOperator}
use Rattle.reading_trees.specs.declared.operators.PrefixOperator.TheVariants as prefix
use Rattle.reading_trees.specs.declared.operators.InfixOperator.{InfixOperator}
use Rattle.reading_trees.specs.declared.operators.InfixOperator.TheVariants as infix_operator
use Rattle.names_terms.specs.declared.standard.StandardOperator.{StandardOperator}
use Rattle.names_terms.specs.declared.standard.StandardOperator.TheVariants as standard
use Rattle.values_sets.specs.DescribedSets.{Described, Listed}
use Rattle.values_sets.specs.Soundness.{IsSound}
use Rattle.eval_meanings.specs.declared.fault.EvalFault.{EvalFault}
use Rattle.eval_meanings.specs.declared.fault.EvalFault.TheVariants.{Refused, NoMemory}
use Rattle.eval_meanings.specs.Outcomes.{Outcome, fault}

-- the call answers one of these outcomes, or that memory is wanted
abbrev pub Tells : {A : Type 0} → Result A EvalFault → Outcome A → Type 0
Tells (Ok v) P = P (Ok v)
Tells (Err (Refused kind at)) P = P (Err (fault kind at))
Tells (Err NoMemory) P = Unit {0}

-- a fault of an operation, with the place that the operand of its number has
abbrev pub placed : (ℕ → Place) → OpFault → EvalFault
placed p (operation.Refused kind n) = Refused kind (p n)
placed p operation.NoMemory = NoMemory

abbrev pub placed_answer : {A : Type 0} → (ℕ → Place) → Result A OpFault → Result A EvalFault
placed_answer p (Ok v) = Ok v
placed_answer p (Err f) = Err (placed p f)

-- whether an operator is an operation on two values
abbrev pub is_operation : InfixOperator → Bool
is_operation infix_operator.Implies = false
is_operation infix_operator.Equivalent = false
is_operation infix_operator.LeadsTo = false
is_operation infix_operator.And = false
is_operation infix_operator.Or = false
is_operation infix_operator.Member = false
is_operation infix_operator.NotMember = false
is_operation infix_operator.SubsetOrEqual = false
is_operation infix_operator.Interval = false
is_operation infix_operator.CartesianProduct = false
is_operation o = true

-- whether an operator is an operation on one value
abbrev pub is_operation_on_one : PrefixOperator → Bool
is_operation_on_one prefix.Negate = true
is_operation_on_one prefix.BigUnion = true
is_operation_on_one prefix.Domain = true
is_operation_on_one o = false

-- how many arguments an operator of a standard module takes
abbrev pub arity : StandardOperator → ℕ
arity standard.Append = 2
arity standard.SubSeq = 3
arity o = 1

-- whether an operator of a standard module makes a value, and no described set
abbrev pub is_standard_operation : StandardOperator → Bool
is_standard_operation standard.Seq = false
is_standard_operation o = true

-- described, and not listed as a value
abbrev pub IsUnlisted : Described → Type 0
IsUnlisted (Listed v) = ⊥
IsUnlisted d = Unit {0}

-- what describing a term gives: a sound set, or a value, which may be no set
abbrev pub IsReady : Described → Type 0
IsReady (Listed v) = Unit {0}
IsReady d = IsSound d

-- whether an operator joins two sets to one that may be described
abbrev pub is_joining : InfixOperator → Bool
is_joining infix_operator.Union = true
is_joining infix_operator.Intersection = true
is_joining infix_operator.Difference = true
is_joining o = false
