use Rattle.std.proofs.Common.{◌≡◌, ◌+◌, Some, None, drop, rules, subst}
use Rattle.reading_units.specs.Marks.{first_mark}
use Rattle.reading_units.specs.Reads.{DeepUnit}
use Rattle.reading_units.specs.Rests.{Marked}
use Rattle.reading_units.specs.declared.marks.Mark.TheVariants as marks
use Rattle.reading_units.proofs.Official.{marked_text}
use Rattle.reading_units.proofs.ShallowRead.{dashes_shallow}
use Rattle.reading_units.proofs.TailSteps.{tail_dashes}
use Rattle.reading_units.proofs.UnitsRead.{other_refused}
use Rattle.reading_units.proofs.units.unit.Goals as goal

pub returns-in-Some-Dashes-clause-far : goal.returns-in-Some-Dashes-clause-far
returns-in-Some-Dashes-clause-far c = tail_dashes (drop c.args.from c.args.laid.now) (drop (c.args.from + 1) c.args.laid.now) (subst (λ m. Marked m (drop c.args.from c.args.laid.now) (drop (c.args.from + 1) c.args.laid.now)) c.in-Some-Dashes.field-0-is c.in-Some-Dashes.ensures.token)

pub returns-in-Some-Dashes-clause-shallow : goal.returns-in-Some-Dashes-clause-shallow
returns-in-Some-Dashes-clause-shallow c = dashes_shallow (drop c.args.from c.args.laid.now) (drop (c.args.from + 1) c.args.laid.now) (marked_text marks.Dashes (drop c.args.from c.args.laid.now) (drop (c.args.from + 1) c.args.laid.now) (subst (λ m. Marked m (drop c.args.from c.args.laid.now) (drop (c.args.from + 1) c.args.laid.now)) c.in-Some-Dashes.field-0-is c.in-Some-Dashes.ensures.token))

pub returns-in-Some-Comma-clause-refused : goal.returns-in-Some-Comma-clause-refused
returns-in-Some-Comma-clause-refused c =
    let q : Some marks.Comma ≡ first_mark (drop c.args.from c.args.laid.now) = search rules in
    other_refused (DeepUnit (drop c.args.from c.args.laid.now)) (drop c.args.from c.args.laid.now) _ (Some marks.Comma) q (λ b. b) c.fault_at-in-Some-Comma.ensures

pub returns-in-Some-OpenParenthesis-clause-refused : goal.returns-in-Some-OpenParenthesis-clause-refused
returns-in-Some-OpenParenthesis-clause-refused c =
    let q : Some marks.OpenParenthesis ≡ first_mark (drop c.args.from c.args.laid.now) = search rules in
    other_refused (DeepUnit (drop c.args.from c.args.laid.now)) (drop c.args.from c.args.laid.now) _ (Some marks.OpenParenthesis) q (λ b. b) c.fault_at-in-Some-OpenParenthesis.ensures

pub returns-in-Some-CloseParenthesis-clause-refused : goal.returns-in-Some-CloseParenthesis-clause-refused
returns-in-Some-CloseParenthesis-clause-refused c =
    let q : Some marks.CloseParenthesis ≡ first_mark (drop c.args.from c.args.laid.now) = search rules in
    other_refused (DeepUnit (drop c.args.from c.args.laid.now)) (drop c.args.from c.args.laid.now) _ (Some marks.CloseParenthesis) q (λ b. b) c.fault_at-in-Some-CloseParenthesis.ensures

pub returns-in-Some-Underscore-clause-refused : goal.returns-in-Some-Underscore-clause-refused
returns-in-Some-Underscore-clause-refused c =
    let q : Some marks.Underscore ≡ first_mark (drop c.args.from c.args.laid.now) = search rules in
    other_refused (DeepUnit (drop c.args.from c.args.laid.now)) (drop c.args.from c.args.laid.now) _ (Some marks.Underscore) q (λ b. b) c.fault_at-in-Some-Underscore.ensures

pub returns-in-Some-Defined-clause-refused : goal.returns-in-Some-Defined-clause-refused
returns-in-Some-Defined-clause-refused c =
    let q : Some marks.Defined ≡ first_mark (drop c.args.from c.args.laid.now) = search rules in
    other_refused (DeepUnit (drop c.args.from c.args.laid.now)) (drop c.args.from c.args.laid.now) _ (Some marks.Defined) q (λ b. b) c.fault_at-in-Some-Defined.ensures

pub returns-in-Some-Heading-clause-refused : goal.returns-in-Some-Heading-clause-refused
returns-in-Some-Heading-clause-refused c =
    let q : Some marks.Heading ≡ first_mark (drop c.args.from c.args.laid.now) = search rules in
    other_refused (DeepUnit (drop c.args.from c.args.laid.now)) (drop c.args.from c.args.laid.now) _ (Some marks.Heading) q (λ b. b) c.fault_at-in-Some-Heading.ensures

pub returns-in-Some-Extends-clause-refused : goal.returns-in-Some-Extends-clause-refused
returns-in-Some-Extends-clause-refused c =
    let q : Some marks.Extends ≡ first_mark (drop c.args.from c.args.laid.now) = search rules in
    other_refused (DeepUnit (drop c.args.from c.args.laid.now)) (drop c.args.from c.args.laid.now) _ (Some marks.Extends) q (λ b. b) c.fault_at-in-Some-Extends.ensures

pub returns-in-Some-Instance-clause-refused : goal.returns-in-Some-Instance-clause-refused
returns-in-Some-Instance-clause-refused c =
    let q : Some marks.Instance ≡ first_mark (drop c.args.from c.args.laid.now) = search rules in
    other_refused (DeepUnit (drop c.args.from c.args.laid.now)) (drop c.args.from c.args.laid.now) _ (Some marks.Instance) q (λ b. b) c.fault_at-in-Some-Instance.ensures

pub returns-in-Some-With-clause-refused : goal.returns-in-Some-With-clause-refused
returns-in-Some-With-clause-refused c =
    let q : Some marks.With ≡ first_mark (drop c.args.from c.args.laid.now) = search rules in
    other_refused (DeepUnit (drop c.args.from c.args.laid.now)) (drop c.args.from c.args.laid.now) _ (Some marks.With) q (λ b. b) c.fault_at-in-Some-With.ensures

pub returns-in-Some-Arrow-clause-refused : goal.returns-in-Some-Arrow-clause-refused
returns-in-Some-Arrow-clause-refused c =
    let q : Some marks.Arrow ≡ first_mark (drop c.args.from c.args.laid.now) = search rules in
    other_refused (DeepUnit (drop c.args.from c.args.laid.now)) (drop c.args.from c.args.laid.now) _ (Some marks.Arrow) q (λ b. b) c.fault_at-in-Some-Arrow.ensures

pub returns-in-None-clause-refused : goal.returns-in-None-clause-refused
returns-in-None-clause-refused c =
    let q : None ≡ first_mark (drop c.args.from c.args.laid.now) = search rules in
    other_refused (DeepUnit (drop c.args.from c.args.laid.now)) (drop c.args.from c.args.laid.now) _ None q tt c.fault_at-in-None.ensures
