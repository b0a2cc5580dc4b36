use Rattle.std.proofs.Common.{◌+◌, drop, rules}
use Rattle.std.specs.Result.{IfErr}
use Rattle.reading_units.specs.Reads.{RefusedIn, NeverDeep, DeepUnit}
use Rattle.reading_units.specs.Refusals.{Begins, ShallowUnit}
use Rattle.reading_units.specs.Rests.{◌▹◌, Operators, Tail}
use Rattle.reading_units.proofs.RestSteps.{err_mapped}
use Rattle.reading_units.proofs.ShallowRead.{recursive_shallow}
use Rattle.reading_units.proofs.UnitsRead.{recursive_far, recursive_refused}
use Rattle.reading_units.proofs.units.recursive.Goals as goal

pub returns-in_err-operators-clause-refused : goal.returns-in_err-operators-clause-refused
returns-in_err-operators-clause-refused c =
    let q : IfErr c.from_residual.result (λ e. RefusedIn (Operators ▹ Tail) NeverDeep (Begins Operators) (drop (c.args.from + 1) c.args.laid.now) e) = search rules in
    err_mapped c.from_residual.result (λ e. RefusedIn (Operators ▹ Tail) NeverDeep (Begins Operators) (drop (c.args.from + 1) c.args.laid.now) e) (λ e. RefusedIn Tail (DeepUnit (drop c.args.from c.args.laid.now)) ShallowUnit (drop c.args.from c.args.laid.now) e) q (λ e h. recursive_refused (drop c.args.from c.args.laid.now) (drop (c.args.from + 1) c.args.laid.now) e c.requires.token h)

pub returns-clause-far : goal.returns-clause-far
returns-clause-far c = recursive_far (drop c.args.from c.args.laid.now) (drop (c.args.from + 1) c.args.laid.now) (drop c.in_ok-operators.next c.args.laid.now) c.requires.token c.in_ok-operators.ensures.far

pub returns-clause-shallow : goal.returns-clause-shallow
returns-clause-shallow c = recursive_shallow c.in_ok-operators.operators (drop c.args.from c.args.laid.now) (drop c.in_ok-operators.next c.args.laid.now) (drop (c.args.from + 1) c.args.laid.now, c.requires.word.text, c.in_ok-operators.ensures.part.text)
