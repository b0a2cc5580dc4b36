use Rattle.std.proofs.Common.{drop, rules}
use Rattle.std.specs.Result.{IfErr}
use Rattle.reading_expressions.specs.Refused.{IsRefusedAt}
use Rattle.reading_units.specs.Reads.{Misses, RefusedIn, NeverDeep, DeepUnits}
use Rattle.reading_units.specs.Refusals.{Begins, IsRefusedModule, ShallowUnits}
use Rattle.reading_units.specs.Rests.{◌▹◌, Extended, Tail}
use Rattle.reading_units.specs.declared.marks.Mark.TheVariants as marks
use Rattle.reading_units.proofs.Parts.{whole_module, whole_shallow}
use Rattle.reading_units.proofs.RestSteps.{err_mapped}
use Rattle.reading_units.proofs.Stages.{headed, behind_extends, behind_units, no_dashes, no_heading, no_name, no_second, no_extends, no_units, no_equals, no_end}
use Rattle.reading_units.proofs.reader.module.Goals as goal

pub returns-in_err-word-clause-refused : goal.returns-in_err-word-clause-refused
returns-in_err-word-clause-refused c =
    let q : IfErr c.from_residual.result (λ e. IsRefusedAt c.args.laid.now e) = search rules in
    err_mapped c.from_residual.result (λ e. IsRefusedAt c.args.laid.now e) (λ e. IsRefusedModule c.args.laid.now e) q (λ e h. no_dashes c.args.laid.now e c.in_err-word.ensures.lacks h)

pub returns-in_err-called-clause-refused : goal.returns-in_err-called-clause-refused
returns-in_err-called-clause-refused c =
    let q : IfErr c.from_residual-in_err-called.result (λ e. IsRefusedAt (drop c.in_ok-word.word c.args.laid.now) e) = search rules in
    err_mapped c.from_residual-in_err-called.result (λ e. IsRefusedAt (drop c.in_ok-word.word c.args.laid.now) e) (λ e. IsRefusedModule c.args.laid.now e) q (λ e h. no_heading c.args.laid.now (drop c.in_ok-word.word c.args.laid.now) e c.in_ok-word.ensures.token c.in_err-called.ensures.lacks h)

pub returns-in_err-name-clause-refused : goal.returns-in_err-name-clause-refused
returns-in_err-name-clause-refused c =
    let q : IfErr c.from_residual-in_err-name.result (λ e. Misses marks.Name (drop c.in_ok-called.called c.args.laid.now) e) = search rules in
    err_mapped c.from_residual-in_err-name.result (λ e. Misses marks.Name (drop c.in_ok-called.called c.args.laid.now) e) (λ e. IsRefusedModule c.args.laid.now e) q (λ e h. no_name c.args.laid.now (drop c.in_ok-word.word c.args.laid.now) (drop c.in_ok-called.called c.args.laid.now) e c.in_ok-word.ensures.token c.in_ok-called.ensures.token h)

pub returns-in_err-body-clause-refused : goal.returns-in_err-body-clause-refused
returns-in_err-body-clause-refused c =
    let q : IfErr c.from_residual-in_err-body.result (λ e. IsRefusedAt (drop c.in_ok-name.behind c.args.laid.now) e) = search rules in
    err_mapped c.from_residual-in_err-body.result (λ e. IsRefusedAt (drop c.in_ok-name.behind c.args.laid.now) e) (λ e. IsRefusedModule c.args.laid.now e) q (λ e h. no_second c.args.laid.now (drop c.in_ok-word.word c.args.laid.now) (drop c.in_ok-called.called c.args.laid.now) (drop c.in_ok-name.behind c.args.laid.now) e c.in_ok-word.ensures.token c.in_ok-called.ensures.token c.in_ok-name.ensures.token c.in_err-body.ensures.lacks h)

pub returns-in_err-extends-clause-refused : goal.returns-in_err-extends-clause-refused
returns-in_err-extends-clause-refused c =
    let q : IfErr c.from_residual-in_err-extends.result (λ e. RefusedIn (Extended ▹ Tail) NeverDeep (Begins Extended) (drop c.in_ok-body.body c.args.laid.now) e) = search rules in
    err_mapped c.from_residual-in_err-extends.result (λ e. RefusedIn (Extended ▹ Tail) NeverDeep (Begins Extended) (drop c.in_ok-body.body c.args.laid.now) e) (λ e. IsRefusedModule c.args.laid.now e) q (λ e h. no_extends c.args.laid.now (drop c.in_ok-body.body c.args.laid.now) e (headed c.args.laid.now (drop c.in_ok-word.word c.args.laid.now) (drop c.in_ok-called.called c.args.laid.now) (drop c.in_ok-name.behind c.args.laid.now) (drop c.in_ok-body.body c.args.laid.now) c.in_ok-word.ensures.token c.in_ok-called.ensures.token c.in_ok-name.ensures.token c.in_ok-body.ensures.token) h)

pub returns-in_err-units-clause-refused : goal.returns-in_err-units-clause-refused
returns-in_err-units-clause-refused c =
    let q : IfErr c.from_residual-in_err-units.result (λ e. RefusedIn Tail (DeepUnits Tail ShallowUnits (drop c.in_ok-extends.first c.args.laid.now)) ShallowUnits (drop c.in_ok-extends.first c.args.laid.now) e) = search rules in
    err_mapped c.from_residual-in_err-units.result (λ e. RefusedIn Tail (DeepUnits Tail ShallowUnits (drop c.in_ok-extends.first c.args.laid.now)) ShallowUnits (drop c.in_ok-extends.first c.args.laid.now) e) (λ e. IsRefusedModule c.args.laid.now e) q (λ e h. no_units c.args.laid.now (drop c.in_ok-extends.first c.args.laid.now) e (behind_extends c.args.laid.now (drop c.in_ok-body.body c.args.laid.now) (drop c.in_ok-extends.first c.args.laid.now) c.in_ok-extends.extends (headed c.args.laid.now (drop c.in_ok-word.word c.args.laid.now) (drop c.in_ok-called.called c.args.laid.now) (drop c.in_ok-name.behind c.args.laid.now) (drop c.in_ok-body.body c.args.laid.now) c.in_ok-word.ensures.token c.in_ok-called.ensures.token c.in_ok-name.ensures.token c.in_ok-body.ensures.token) c.in_ok-extends.ensures.spelled c.in_ok-extends.ensures.far) h)

pub returns-in_err-end-clause-refused : goal.returns-in_err-end-clause-refused
returns-in_err-end-clause-refused c =
    let q : IfErr c.from_residual-in_err-end.result (λ e. IsRefusedAt (drop c.in_ok-units.last c.args.laid.now) e) = search rules in
    err_mapped c.from_residual-in_err-end.result (λ e. IsRefusedAt (drop c.in_ok-units.last c.args.laid.now) e) (λ e. IsRefusedModule c.args.laid.now e) q (λ e h. no_equals c.args.laid.now (drop c.in_ok-units.last c.args.laid.now) e (behind_units c.args.laid.now (drop c.in_ok-extends.first c.args.laid.now) (drop c.in_ok-units.last c.args.laid.now) (behind_extends c.args.laid.now (drop c.in_ok-body.body c.args.laid.now) (drop c.in_ok-extends.first c.args.laid.now) c.in_ok-extends.extends (headed c.args.laid.now (drop c.in_ok-word.word c.args.laid.now) (drop c.in_ok-called.called c.args.laid.now) (drop c.in_ok-name.behind c.args.laid.now) (drop c.in_ok-body.body c.args.laid.now) c.in_ok-word.ensures.token c.in_ok-called.ensures.token c.in_ok-name.ensures.token c.in_ok-body.ensures.token) c.in_ok-extends.ensures.spelled c.in_ok-extends.ensures.far) c.in_ok-units.ensures.shallow c.in_ok-units.ensures.far) c.in_err-end.ensures.lacks h)

pub returns-in_err-the_end-clause-refused : goal.returns-in_err-the_end-clause-refused
returns-in_err-the_end-clause-refused c =
    let q : IfErr c.from_residual-in_err-the_end.result (λ e. IsRefusedAt (drop c.in_ok-end.end c.args.laid.now) e) = search rules in
    err_mapped c.from_residual-in_err-the_end.result (λ e. IsRefusedAt (drop c.in_ok-end.end c.args.laid.now) e) (λ e. IsRefusedModule c.args.laid.now e) q (λ e h. no_end c.args.laid.now (drop c.in_ok-units.last c.args.laid.now) (drop c.in_ok-end.end c.args.laid.now) e (behind_units c.args.laid.now (drop c.in_ok-extends.first c.args.laid.now) (drop c.in_ok-units.last c.args.laid.now) (behind_extends c.args.laid.now (drop c.in_ok-body.body c.args.laid.now) (drop c.in_ok-extends.first c.args.laid.now) c.in_ok-extends.extends (headed c.args.laid.now (drop c.in_ok-word.word c.args.laid.now) (drop c.in_ok-called.called c.args.laid.now) (drop c.in_ok-name.behind c.args.laid.now) (drop c.in_ok-body.body c.args.laid.now) c.in_ok-word.ensures.token c.in_ok-called.ensures.token c.in_ok-name.ensures.token c.in_ok-body.ensures.token) c.in_ok-extends.ensures.spelled c.in_ok-extends.ensures.far) c.in_ok-units.ensures.shallow c.in_ok-units.ensures.far) c.in_ok-end.ensures.token c.in_err-the_end.ensures.lacks h)

pub returns-clause-spelled : goal.returns-clause-spelled
returns-clause-spelled c = whole_module c.in_ok-name.name c.in_ok-extends.extends c.in_ok-units.units c.args.laid.now c.in_ok-word.word c.in_ok-called.called c.in_ok-name.behind c.in_ok-body.body c.in_ok-extends.first c.in_ok-units.last c.in_ok-end.end c.in_ok-word.ensures.part c.in_ok-called.ensures.part c.in_ok-name.ensures.part c.in_ok-body.ensures.part c.in_ok-extends.ensures.spelled c.in_ok-units.ensures.spelled c.in_ok-units.ensures.fits c.in_ok-end.ensures.part c.in_ok-the_end.ensures.end

pub returns-clause-shallow : goal.returns-clause-shallow
returns-clause-shallow c = whole_shallow c.in_ok-name.name c.in_ok-extends.extends c.args.laid.now c.in_ok-word.word c.in_ok-called.called c.in_ok-name.behind c.in_ok-body.body c.in_ok-extends.first c.in_ok-units.last c.in_ok-end.end c.in_ok-word.ensures.part c.in_ok-called.ensures.part c.in_ok-name.ensures.part c.in_ok-body.ensures.part c.in_ok-extends.ensures.spelled c.in_ok-units.ensures.shallow c.in_ok-end.ensures.part c.in_ok-the_end.ensures.end
