-- The parts of a term, each with whether it stands under a prime there: in the operand of `'` or UNCHANGED, or in the subscript of `[A]_v`
-- or `<<A>>_v` (Lamport, Specifying Systems, 16.2 and 17.2).
use Rattle.std.specs.Prelude.{Bool, true, false, ◌||◌, List, [], ◌∷◌, ◌++◌, map}
use Rattle.reading_trees.specs.declared.operators.PrefixOperator.{PrefixOperator}
use Rattle.reading_trees.specs.declared.operators.PrefixOperator.TheVariants as prefix
use Rattle.names_terms.specs.Terms.{Term, Meaning, Known, Named, Variable, Slot, Use, Standard, Parenthesized, Scoped, All, Any, Prefix, Infix, Postfix, SetOf, Filter, Map, Tuple, Function, FunctionSet, Record, RecordSet, Except, Quantified, Choose, If, Case, CaseOther, BoxAction, AngleAction, Fairness, Terms, NoTerms, MoreTerms, Operands, First, Next, Step, Prime, Index, Steps, NoSteps, MoreSteps, Bounds, NoBounds, MoreBounds, Fields, NoFields, MoreFields, Changes, NoChanges, MoreChanges, Arms, NoArms, MoreArms}

pub record Part : Type 0 where
  pub term : Term
  pub primed : Bool

abbrev pub part : Bool → Term → Part
part primed e = record { term = e; primed = primed }

-- the terms in their order
abbrev pub listed : Terms → List Term
listed NoTerms = []
listed (MoreTerms ts e) = listed ts ++ e ∷ []

abbrev pub operand_list : Operands → List Term
operand_list (First e) = e ∷ []
operand_list (Next os at e) = operand_list os ++ e ∷ []

abbrev pub set_list : Bounds → List Term
set_list NoBounds = []
set_list (MoreBounds bs n e) = set_list bs ++ e ∷ []

abbrev pub value_list : Fields → List Term
value_list NoFields = []
value_list (MoreFields fs n e) = value_list fs ++ e ∷ []

abbrev pub arm_list : Arms → List Term
arm_list NoArms = []
arm_list (MoreArms arms p e) = arm_list arms ++ p ∷ e ∷ []

abbrev pub is_prime : Step → Bool
is_prime Prime = true
is_prime s = false

abbrev pub has_prime : Steps → Bool
has_prime NoSteps = false
has_prime (MoreSteps ss at s) = has_prime ss || is_prime s

abbrev pub parts_of : Bool → List Term → List Part
parts_of primed es = map (part primed) es

abbrev pub step_parts : Bool → Step → List Part
step_parts primed (Index ts) = parts_of primed (listed ts)
step_parts primed s = []

-- the terms in steps that stand under a prime or do not, the last step first: behind a prime all that stands before it does
abbrev pub steps_parts : Bool → Steps → List Part
steps_parts primed NoSteps = []
steps_parts primed (MoreSteps ss at s) = step_parts primed s ++ steps_parts (primed || is_prime s) ss

abbrev pub change_parts : Bool → Changes → List Part
change_parts primed NoChanges = []
change_parts primed (MoreChanges cs path e) = change_parts primed cs ++ steps_parts primed path ++ part primed e ∷ []

-- whether the operand of a prefix operator stands under a prime
abbrev pub primes : PrefixOperator → Bool
primes prefix.Unchanged = true
primes o = false

-- the parts of a term with that meaning, which stands under a prime itself or does not
abbrev pub parts : Bool → Meaning → List Part
parts b (Known v) = []
parts b (Named s) = []
parts b (Variable x) = []
parts b (Slot i) = []
parts b (Use k ts) = parts_of b (listed ts)
parts b (Standard o ts) = parts_of b (listed ts)
parts b (Parenthesized e) = part b e ∷ []
parts b (Scoped ks e) = part b e ∷ []
parts b (All ts) = parts_of b (listed ts)
parts b (Any ts) = parts_of b (listed ts)
parts b (Prefix o e) = part (b || primes o) e ∷ []
parts b (Infix o os e) = parts_of b (operand_list os) ++ part b e ∷ []
parts b (Postfix e ss s) = part ((b || is_prime s) || has_prime ss) e ∷ [] ++ step_parts b s ++ steps_parts (b || is_prime s) ss
parts b (SetOf ts) = parts_of b (listed ts)
parts b (Filter s e) = part b s ∷ part b e ∷ []
parts b (Map e bs) = part b e ∷ [] ++ parts_of b (set_list bs)
parts b (Tuple ts) = parts_of b (listed ts)
parts b (Function bs e) = parts_of b (set_list bs) ++ part b e ∷ []
parts b (FunctionSet s e) = part b s ∷ part b e ∷ []
parts b (Record fs) = parts_of b (value_list fs)
parts b (RecordSet fs) = parts_of b (value_list fs)
parts b (Except e cs) = part b e ∷ [] ++ change_parts b cs
parts b (Quantified q bs e) = parts_of b (set_list bs) ++ part b e ∷ []
parts b (Choose s e) = part b s ∷ part b e ∷ []
parts b (If p e f) = part b p ∷ part b e ∷ part b f ∷ []
parts b (Case arms) = parts_of b (arm_list arms)
parts b (CaseOther arms e) = parts_of b (arm_list arms) ++ part b e ∷ []
parts b (BoxAction e v) = part b e ∷ part true v ∷ []
parts b (AngleAction e v) = part b e ∷ part true v ∷ []
parts b (Fairness v e) = part b v ∷ part b e ∷ []
