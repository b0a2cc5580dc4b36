use Rattle.std.proofs.Common.{◌+◌, drop, rules}
use Rattle.std.specs.Result.{IfErr}
use Rattle.reading_trees.specs.Begun.{Begun}
use Rattle.reading_machine.specs.Beginnings.{FittingBegun}
use Rattle.reading_expressions.specs.Nesting.{Shallow}
use Rattle.reading_expressions.specs.Refusals.{IsRefused}
use Rattle.reading_expressions.specs.Unended.{EndedText, IsUnended}
use Rattle.reading_units.specs.Reads.{RefusedIn, DeepUnit}
use Rattle.reading_units.specs.Refusals.{ShallowUnit}
use Rattle.reading_units.specs.Rests.{Tail}
use Rattle.reading_units.proofs.RestSteps.{err_mapped}
use Rattle.reading_units.proofs.ShallowRead.{theorem_shallow}
use Rattle.reading_units.proofs.UnitsRead.{Laws, stated_far, stated_refused, err_both}
use Rattle.reading_units.proofs.units.theorem.Goals as goal

pub returns-in_err-stated-clause-refused : goal.returns-in_err-stated-clause-refused
returns-in_err-stated-clause-refused c =
    let laws : Laws = record { local = c.laws_of_extents.ensures.local; none_follows = c.laws_of_extents.ensures.none; no_mark = c.laws_of_extents.ensures.marks; ends_there = c.laws_of_refusals.ensures.ends_there } in
    let r : IfErr c.from_residual.result (λ e. IsRefused Begun FittingBegun Shallow (drop c.behind_title-start.result c.args.laid.now) e) = search rules in
    let u : IfErr c.from_residual.result (λ e. IsUnended EndedText (drop c.behind_title-start.result c.args.laid.now) e) = search rules in
    err_mapped c.from_residual.result (λ e. IsRefused Begun FittingBegun Shallow (drop c.behind_title-start.result c.args.laid.now) e × IsUnended EndedText (drop c.behind_title-start.result c.args.laid.now) e) (λ e. RefusedIn Tail (DeepUnit (drop c.args.from c.args.laid.now)) ShallowUnit (drop c.args.from c.args.laid.now) e) (err_both c.from_residual.result (λ e. IsRefused Begun FittingBegun Shallow (drop c.behind_title-start.result c.args.laid.now) e) (λ e. IsUnended EndedText (drop c.behind_title-start.result c.args.laid.now) e) r u)
    (λ e h. stated_refused laws c.args.laid.now (drop c.args.from c.args.laid.now) (drop (c.args.from + 1) c.args.laid.now) c.behind_title-start.result e c.requires.ends c.behind_title-start.ensures.within c.requires.token c.behind_title-start.ensures.told h)

pub returns-clause-far : goal.returns-clause-far
returns-clause-far c =
    let laws : Laws = record { local = c.laws_of_extents.ensures.local; none_follows = c.laws_of_extents.ensures.none; no_mark = c.laws_of_extents.ensures.marks; ends_there = c.laws_of_refusals.ensures.ends_there } in
    stated_far laws _ c.args.laid.now (drop c.args.from c.args.laid.now) (drop (c.args.from + 1) c.args.laid.now) c.behind_title-start.result c.in_ok-stated.next c.requires.token c.behind_title-start.ensures.told c.in_ok-stated.ensures.spelled c.in_ok-stated.ensures.far

pub returns-clause-shallow : goal.returns-clause-shallow
returns-clause-shallow c = theorem_shallow c.laws_of_extents.ensures.local _ c.args.laid.now (drop c.args.from c.args.laid.now) (drop (c.args.from + 1) c.args.laid.now) c.behind_title-start.result c.in_ok-stated.next c.requires.word.text c.behind_title-start.ensures.spelled c.in_ok-stated.ensures.spelled c.in_ok-stated.ensures.far
