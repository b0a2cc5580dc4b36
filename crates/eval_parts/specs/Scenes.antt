-- What a scene of Rust stands for: the definitions and the context in which a term is evaluated.
use Rattle.std.specs.Prelude.{Bool, true, false, not, List, Option, Some, None, Result, Ok, Err, map}
use Rattle.values_core.specs.Data.{Val, truth}
use Rattle.values_core.specs.declared.fault.EvalKind.TheVariants.{NoCase}
use Rattle.eval_meanings.specs.Contexts.{Context, Evaluate, Table}
use Rattle.base_core.specs.declared.place.Place.{Place}
use Rattle.reading_trees.specs.declared.operators.InfixOperator.{InfixOperator}
use Rattle.reading_trees.specs.declared.operators.InfixOperator.TheVariants as infix_operator
use Rattle.names_terms.specs.declared.term.Operand.{Operand}
use Rattle.names_terms.specs.Terms.{Term, Operands, First, Next}
use Rattle.values_sets.specs.DescribedSets.{Described, Listed}
use Rattle.eval_meanings.specs.declared.fault.EvalFault.{EvalFault}
use Rattle.eval_meanings.specs.declared.fault.EvalFault.TheVariants.{Refused, NoMemory}
use Rattle.eval_meanings.specs.Outcomes.{Fails, Outcome, fault}
use Rattle.eval_parts.specs.declared.scene.Scene.{Scene}

abbrev pub table : Scene → Table
table s = s.operators.now

abbrev pub context : Scene → Context
context s = record { slots = map (λ v. v.now) s.slots.now; now = s.state.now; next = s.next.now }

-- a truth value that is answered, as a value
abbrev pub truth_answer : Result Bool EvalFault → Result Val EvalFault
truth_answer (Ok b) = Ok (truth b)
truth_answer (Err f) = Err f

abbrev pub denied_answer : Result Bool EvalFault → Result Val EvalFault
denied_answer (Ok b) = Ok (truth (not b))
denied_answer (Err f) = Err f

-- a value that is answered, as a set that is listed
abbrev pub listed_answer : Result Val EvalFault → Result Described EvalFault
listed_answer (Ok v) = Ok (Listed v)
listed_answer (Err f) = Err f

-- more than one operand stands before the last
abbrev pub HasMore : Operands → Type 0
HasMore (First e) = ⊥
HasMore (Next os p e) = Unit {0}

-- the fault is one of these outcomes, or it is want of memory
abbrev pub Stops : {A : Type 0} → Outcome A → EvalFault → Type 0
Stops P (Refused kind at) = P (Err (fault kind at))
Stops P NoMemory = Unit {0}

-- with other slots
abbrev pub with_slots : Context → List Val → Context
with_slots c vs = record { slots = vs; now = c.now; next = c.next }

-- what stands in the list of operands behind the first for an item
abbrev pub operand_item : Operand → Place × Term
operand_item x = (x.at, x.value)

-- what the last arm of a CASE says, or that there is none
abbrev pub OtherEvaluates : Evaluate → Context → Place → Option Term → Outcome Val
OtherEvaluates evaluate c at None = Fails NoCase at
OtherEvaluates evaluate c at (Some e) = evaluate c e

-- whether an infix operator makes a set that is described
abbrev pub makes_set : InfixOperator → Bool
makes_set infix_operator.Interval = true
makes_set infix_operator.CartesianProduct = true
makes_set infix_operator.Union = true
makes_set infix_operator.Intersection = true
makes_set infix_operator.Difference = true
makes_set o = false
