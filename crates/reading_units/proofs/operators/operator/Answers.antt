use Rattle.std.proofs.Common.{drop, refl, rules}
use Rattle.std.specs.Result.{IfErr}
use Rattle.reading_units.specs.Reads.{Misses, RefusedIn, NeverDeep}
use Rattle.reading_units.specs.Refusals.{Begins}
use Rattle.reading_units.specs.Rests.{◌▹◌, Parameters, OneOperator, OperatorsLeft}
use Rattle.reading_units.specs.declared.marks.Mark.TheVariants as marks
use Rattle.reading_units.proofs.OperatorsRead.{operator_far, name_refused, parameters_refused}
use Rattle.reading_units.proofs.Parts.{named_operator}
use Rattle.reading_units.proofs.RestSteps.{err_mapped}
use Rattle.reading_units.proofs.operators.operator.Goals as goal

pub returns-in_err-name-clause-refused : goal.returns-in_err-name-clause-refused
returns-in_err-name-clause-refused c =
    let q : IfErr c.from_residual.result (λ e. Misses marks.Name (drop c.args.from c.args.laid.now) e) = search rules in
    err_mapped c.from_residual.result (λ e. Misses marks.Name (drop c.args.from c.args.laid.now) e) (λ e. RefusedIn (OneOperator ▹ OperatorsLeft) NeverDeep (Begins OneOperator) (drop c.args.from c.args.laid.now) e) q (name_refused (drop c.args.from c.args.laid.now))

pub returns-in_err-count-clause-refused : goal.returns-in_err-count-clause-refused
returns-in_err-count-clause-refused c =
    let q : IfErr c.from_residual-in_err-count.result (λ e. RefusedIn (Parameters ▹ OperatorsLeft) NeverDeep (Begins Parameters) (drop c.in_ok-name.next c.args.laid.now) e) = search rules in
    err_mapped c.from_residual-in_err-count.result (λ e. RefusedIn (Parameters ▹ OperatorsLeft) NeverDeep (Begins Parameters) (drop c.in_ok-name.next c.args.laid.now) e) (λ e. RefusedIn (OneOperator ▹ OperatorsLeft) NeverDeep (Begins OneOperator) (drop c.args.from c.args.laid.now) e) q
    (λ e h. parameters_refused (drop c.args.from c.args.laid.now) (drop c.in_ok-name.next c.args.laid.now) e c.in_ok-name.ensures.token h)

pub returns-clause-part : goal.returns-clause-part
returns-clause-part c = named_operator c.in_ok-name.name _ c.args.laid.now c.args.from c.in_ok-name.next c.in_ok-count.behind c.in_ok-name.ensures.part c.in_ok-count.ensures.spelled c.in_ok-count.ensures.ahead c.in_ok-count.ensures.within refl refl

pub returns-clause-far : goal.returns-clause-far
returns-clause-far c = operator_far (drop c.args.from c.args.laid.now) (drop c.in_ok-name.next c.args.laid.now) (drop c.in_ok-count.behind c.args.laid.now) c.in_ok-name.ensures.token c.in_ok-count.ensures.far
