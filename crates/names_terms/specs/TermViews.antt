-- For the prover: the term that the fields of a value of Rust stand for, and the lists of terms of their items.
use Rattle.std.specs.Prelude.{ℕ, Bool, true, false, List, [], ◌∷◌, Some, None}
use Rattle.base_core.specs.declared.place.Place.{Place}
use Rattle.names_terms.specs.Terms as term
use Rattle.names_terms.specs.Terms.{Term, Terms, Operands, Steps, Bounds, Fields, Changes, Arms, Meaning}
use Rattle.names_terms.specs.declared.term.TermNode.{TermNode}
use Rattle.names_terms.specs.declared.term.TermNode.TheVariants as node
use Rattle.names_terms.specs.declared.term.Step.{Step}
use Rattle.names_terms.specs.declared.term.Step.TheVariants as step
use Rattle.names_terms.specs.declared.term.StepAt.{StepAt}
use Rattle.names_terms.specs.declared.term.Operand.{Operand}
use Rattle.names_terms.specs.declared.term.Bound.{Bound}
use Rattle.names_terms.specs.declared.term.Field.{Field}
use Rattle.names_terms.specs.declared.term.Change.{Change}
use Rattle.names_terms.specs.declared.term.Arm.{Arm}

abbrev pub step_view : Step → term.Step
step_view step.Prime = term.Prime
step_view (step.Index es) = term.Index es
step_view (step.Field h) = term.Field h

abbrev pub terms_from : Terms → List Term → Terms
terms_from ts [] = ts
terms_from ts (x ∷ xs) = terms_from (term.MoreTerms ts x) xs

abbrev pub terms_of : List Term → Terms
terms_of xs = terms_from term.NoTerms xs

-- whether there are no terms
abbrev pub are_none : Terms → Bool
are_none term.NoTerms = true
are_none (term.MoreTerms ts t) = false

abbrev pub steps_are_none : Steps → Bool
steps_are_none term.NoSteps = true
steps_are_none (term.MoreSteps ss at s) = false

abbrev pub operands_from : Operands → List Operand → Operands
operands_from ts [] = ts
operands_from ts (x ∷ xs) = operands_from (term.Next ts x.at x.value) xs

-- the first operand, and those behind it
abbrev pub operands_of : Term → List Operand → Operands
operands_of t xs = operands_from (term.First t) xs

abbrev pub steps_from : Steps → List StepAt → Steps
steps_from ts [] = ts
steps_from ts (x ∷ xs) = steps_from (term.MoreSteps ts x.at (step_view x.step)) xs

abbrev pub steps_of : List StepAt → Steps
steps_of xs = steps_from term.NoSteps xs

abbrev pub bounds_from : Bounds → List Bound → Bounds
bounds_from ts [] = ts
bounds_from ts (x ∷ xs) = bounds_from (term.MoreBounds ts x.names x.set) xs

abbrev pub bounds_of : List Bound → Bounds
bounds_of xs = bounds_from term.NoBounds xs

abbrev pub fields_from : Fields → List Field → Fields
fields_from ts [] = ts
fields_from ts (x ∷ xs) = fields_from (term.MoreFields ts x.name x.value) xs

abbrev pub fields_of : List Field → Fields
fields_of xs = fields_from term.NoFields xs

abbrev pub changes_from : Changes → List Change → Changes
changes_from ts [] = ts
changes_from ts (x ∷ xs) = changes_from (term.MoreChanges ts x.path x.value) xs

abbrev pub changes_of : List Change → Changes
changes_of xs = changes_from term.NoChanges xs

abbrev pub arms_from : Arms → List Arm → Arms
arms_from ts [] = ts
arms_from ts (x ∷ xs) = arms_from (term.MoreArms ts x.test x.value) xs

abbrev pub arms_of : List Arm → Arms
arms_of xs = arms_from term.NoArms xs

abbrev pub node_view : TermNode → Meaning
node_view (node.Known v) = term.Known v
node_view (node.Named s) = term.Named s
node_view (node.Variable x) = term.Variable x.0
node_view (node.Slot i) = term.Slot i
node_view (node.Use k ts) = term.Use k.0 ts
node_view (node.Standard o ts) = term.Standard o ts
node_view (node.Parenthesized e) = term.Parenthesized e
node_view (node.Scoped ks e) = term.Scoped ks e
node_view (node.All ts) = term.All ts
node_view (node.Any ts) = term.Any ts
node_view (node.Prefix o e) = term.Prefix o e
node_view (node.Infix o os e) = term.Infix o os e
node_view (node.Postfix e ss s) = term.Postfix e ss (step_view s)
node_view (node.SetOf ts) = term.SetOf ts
node_view (node.Filter s e) = term.Filter s e
node_view (node.Map e bs) = term.Map e bs
node_view (node.Tuple ts) = term.Tuple ts
node_view (node.Function bs e) = term.Function bs e
node_view (node.FunctionSet s e) = term.FunctionSet s e
node_view (node.Record fs) = term.Record fs
node_view (node.RecordSet fs) = term.RecordSet fs
node_view (node.Except e cs) = term.Except e cs
node_view (node.Quantified q bs e) = term.Quantified q bs e
node_view (node.Choose s e) = term.Choose s e
node_view (node.If p e f) = term.If p e f
node_view (node.Case arms None) = term.Case arms
node_view (node.Case arms (Some e)) = term.CaseOther arms e
node_view (node.BoxAction e v) = term.BoxAction e v
node_view (node.AngleAction e v) = term.AngleAction e v
node_view (node.Fairness v e) = term.Fairness v e

-- what stands in a list for its item
abbrev pub step_item : StepAt → Place × term.Step
step_item x = (x.at, step_view x.step)

abbrev pub bound_item : Bound → ℕ × Term
bound_item x = (x.names, x.set)

abbrev pub field_item : Field → List ℕ × Term
field_item x = (x.name, x.value)

abbrev pub change_item : Change → Steps × Term
change_item x = (x.path, x.value)

abbrev pub arm_item : Arm → Term × Term
arm_item x = (x.test, x.value)
