-- For the prover: each part of a term has a smaller number than the term.
use Rattle.std.specs.Prelude.{◌≤◌, ◌+◌, suc, max, List, [], ◌∷◌, Some, None}
use Rattle.std.proofs.Common.{arith}
use denote.Param.Weighed.{most}
use Rattle.base_core.specs.declared.place.Place.{Place}
use Rattle.names_terms.specs.Terms as term
use Rattle.names_terms.specs.Terms.{Term, Terms, Operands, Steps, Bounds, Fields, Changes, Arms}
use Rattle.names_terms.specs.TermSizes.{term_size, terms_size, operands_size, step_size, steps_size, bounds_size, fields_size, changes_size, arms_size}
use Rattle.names_terms.specs.TermViews.{node_view, step_view, terms_from, terms_of, operands_from, operands_of, steps_from, steps_of, bounds_from, bounds_of, fields_from, fields_of, changes_from, changes_of, arms_from, arms_of}
use Rattle.names_terms.specs.declared.level.Level.{Level}
use Rattle.names_terms.specs.declared.term.TermNode.{TermNode}
use Rattle.names_terms.specs.declared.term.TermNode.TheVariants as node
use Rattle.names_terms.specs.declared.term.Step.{Step}
use Rattle.names_terms.specs.declared.term.Step.TheVariants as step
use Rattle.names_terms.specs.declared.term.StepAt.{StepAt}
use Rattle.names_terms.specs.declared.term.Operand.{Operand}
use Rattle.names_terms.specs.declared.term.Bound.{Bound}
use Rattle.names_terms.specs.declared.term.Field.{Field}
use Rattle.names_terms.specs.declared.term.Change.{Change}
use Rattle.names_terms.specs.declared.term.Arm.{Arm}
use Rattle.names_terms.specs.declared.term.Arms.TheDeep.{deep-TermNode, deep-Step, deep-StepAt, deep-Operand, deep-Bound, deep-Field, deep-Change, deep-Arm}

step_falls : (s : Step) → deep-Step s ≤ suc (step_size (step_view s))
step_falls step.Prime = omega arith
step_falls (step.Index es) = omega arith
step_falls (step.Field h) = omega arith

most_terms : (ts : Terms) (xs : List Term) → max (terms_size ts) (most (λ t. term_size t + 1) xs) ≤ terms_size (terms_from ts xs)
most_terms ts [] = omega arith
most_terms ts (x ∷ xs) = omega (arith, most_terms (term.MoreTerms ts x) xs)

pub terms_falls : (xs : List Term) → max (most (λ t. term_size t + 1) xs) 0 ≤ terms_size (terms_of xs)
terms_falls xs = omega (arith, most_terms term.NoTerms xs)

most_operands : (ts : Operands) (xs : List Operand) → max (operands_size ts) (most deep-Operand xs) ≤ operands_size (operands_from ts xs)
most_operands ts [] = omega arith
most_operands ts (x ∷ xs) = omega (arith, most_operands (term.Next ts x.at x.value) xs)

pub operands_falls : (t : Term) (xs : List Operand) → max (term_size t + 1) (max (most deep-Operand xs) 0) ≤ operands_size (operands_of t xs)
operands_falls t xs = omega (arith, most_operands (term.First t) xs)

most_steps : (ts : Steps) (xs : List StepAt) → max (steps_size ts) (most deep-StepAt xs) ≤ steps_size (steps_from ts xs)
most_steps ts [] = omega arith
most_steps ts (x ∷ xs) = omega (arith, most_steps (term.MoreSteps ts x.at (step_view x.step)) xs, step_falls x.step)

pub steps_falls : (xs : List StepAt) → max (most deep-StepAt xs) 0 ≤ steps_size (steps_of xs)
steps_falls xs = omega (arith, most_steps term.NoSteps xs)

most_bounds : (ts : Bounds) (xs : List Bound) → max (bounds_size ts) (most deep-Bound xs) ≤ bounds_size (bounds_from ts xs)
most_bounds ts [] = omega arith
most_bounds ts (x ∷ xs) = omega (arith, most_bounds (term.MoreBounds ts x.names x.set) xs)

pub bounds_falls : (xs : List Bound) → max (most deep-Bound xs) 0 ≤ bounds_size (bounds_of xs)
bounds_falls xs = omega (arith, most_bounds term.NoBounds xs)

most_fields : (ts : Fields) (xs : List Field) → max (fields_size ts) (most deep-Field xs) ≤ fields_size (fields_from ts xs)
most_fields ts [] = omega arith
most_fields ts (x ∷ xs) = omega (arith, most_fields (term.MoreFields ts x.name x.value) xs)

pub fields_falls : (xs : List Field) → max (most deep-Field xs) 0 ≤ fields_size (fields_of xs)
fields_falls xs = omega (arith, most_fields term.NoFields xs)

most_changes : (ts : Changes) (xs : List Change) → max (changes_size ts) (most deep-Change xs) ≤ changes_size (changes_from ts xs)
most_changes ts [] = omega arith
most_changes ts (x ∷ xs) = omega (arith, most_changes (term.MoreChanges ts x.path x.value) xs)

pub changes_falls : (xs : List Change) → max (most deep-Change xs) 0 ≤ changes_size (changes_of xs)
changes_falls xs = omega (arith, most_changes term.NoChanges xs)

most_arms : (ts : Arms) (xs : List Arm) → max (arms_size ts) (most deep-Arm xs) ≤ arms_size (arms_from ts xs)
most_arms ts [] = omega arith
most_arms ts (x ∷ xs) = omega (arith, most_arms (term.MoreArms ts x.test x.value) xs)

pub arms_falls : (xs : List Arm) → max (most deep-Arm xs) 0 ≤ arms_size (arms_of xs)
arms_falls xs = omega (arith, most_arms term.NoArms xs)

pub term_falls : (at : Place) (level : Level) (n : TermNode) → max (deep-TermNode n) 0 ≤ term_size (term.Placed at level (node_view n))
term_falls at level (node.Known a) = omega arith
term_falls at level (node.Named a) = omega arith
term_falls at level (node.Variable a) = omega arith
term_falls at level (node.Slot a) = omega arith
term_falls at level (node.Use a b) = omega arith
term_falls at level (node.Standard a b) = omega arith
term_falls at level (node.Parenthesized a) = omega arith
term_falls at level (node.Scoped a b) = omega arith
term_falls at level (node.All a) = omega arith
term_falls at level (node.Any a) = omega arith
term_falls at level (node.Prefix a b) = omega arith
term_falls at level (node.Infix a b c) = omega arith
term_falls at level (node.Postfix e ss s) = omega (arith, step_falls s)
term_falls at level (node.SetOf a) = omega arith
term_falls at level (node.Filter a b) = omega arith
term_falls at level (node.Map a b) = omega arith
term_falls at level (node.Tuple a) = omega arith
term_falls at level (node.Function a b) = omega arith
term_falls at level (node.FunctionSet a b) = omega arith
term_falls at level (node.Record a) = omega arith
term_falls at level (node.RecordSet a) = omega arith
term_falls at level (node.Except a b) = omega arith
term_falls at level (node.Quantified a b c) = omega arith
term_falls at level (node.Choose a b) = omega arith
term_falls at level (node.If a b c) = omega arith
term_falls at level (node.Case arms None) = omega arith
term_falls at level (node.Case arms (Some e)) = omega arith
term_falls at level (node.BoxAction a b) = omega arith
term_falls at level (node.AngleAction a b) = omega arith
term_falls at level (node.Fairness a b) = omega arith
