use Rattle.std.proofs.Common.{◌+◌, drop, rules}
use Rattle.std.specs.Result.{IfErr}
use Rattle.reading_units.specs.Reads.{RefusedIn, NeverDeep, DeepUnit}
use Rattle.reading_units.specs.Refusals.{Begins, ShallowUnit}
use Rattle.reading_units.specs.Rests.{◌▹◌, Listed, Tail}
use Rattle.reading_units.proofs.RestSteps.{err_mapped}
use Rattle.reading_units.proofs.ShallowRead.{constants_shallow}
use Rattle.reading_units.proofs.UnitsRead.{constants_far, constants_refused}
use Rattle.reading_units.proofs.units.constants.Goals as goal

pub returns-in_err-names-clause-refused : goal.returns-in_err-names-clause-refused
returns-in_err-names-clause-refused c =
    let q : IfErr c.from_residual.result (λ e. RefusedIn (Listed ▹ Tail) NeverDeep (Begins Listed) (drop (c.args.from + 1) c.args.laid.now) e) = search rules in
    err_mapped c.from_residual.result (λ e. RefusedIn (Listed ▹ Tail) NeverDeep (Begins Listed) (drop (c.args.from + 1) c.args.laid.now) e) (λ e. RefusedIn Tail (DeepUnit (drop c.args.from c.args.laid.now)) ShallowUnit (drop c.args.from c.args.laid.now) e) q (λ e h. constants_refused (drop c.args.from c.args.laid.now) (drop (c.args.from + 1) c.args.laid.now) e c.requires.token h)

pub returns-clause-far : goal.returns-clause-far
returns-clause-far c = constants_far (drop c.args.from c.args.laid.now) (drop (c.args.from + 1) c.args.laid.now) (drop c.in_ok-names.next c.args.laid.now) c.requires.token c.in_ok-names.ensures.far

pub returns-clause-shallow : goal.returns-clause-shallow
returns-clause-shallow c = constants_shallow c.in_ok-names.names (drop c.args.from c.args.laid.now) (drop c.in_ok-names.next c.args.laid.now) (drop (c.args.from + 1) c.args.laid.now, c.requires.word.text, c.in_ok-names.ensures.part.text)
