use Rattle.std.proofs.Common.{drop, rules}
use Rattle.std.specs.Result.{IfErr}
use Rattle.reading_machine.specs.Beginnings.{BegunDefinition, FittingBegunDefinition}
use Rattle.reading_expressions.specs.Nesting.{ShallowDefinition}
use Rattle.reading_expressions.specs.Refusals.{IsRefused}
use Rattle.reading_expressions.specs.Unended.{EndedDefinition, IsUnended}
use Rattle.reading_units.specs.Reads.{RefusedIn, DeepUnit}
use Rattle.reading_units.specs.Refusals.{ShallowUnit}
use Rattle.reading_units.specs.Rests.{Tail}
use Rattle.reading_units.proofs.InstanceTokens.{no_both}
use Rattle.reading_units.proofs.RestSteps.{err_mapped}
use Rattle.reading_units.proofs.ShallowRead.{defined_shallow}
use Rattle.reading_units.proofs.UnitsRead.{DefinitionLaws, defined_far, defined_refused, err_both}
use Rattle.reading_units.proofs.units.defined.Goals as goal

pub returns-in_err-definition-clause-refused : goal.returns-in_err-definition-clause-refused
returns-in_err-definition-clause-refused c =
    let laws : DefinitionLaws = record { local = c.laws_of_extents.ensures.local_definition; none_follows = c.laws_of_extents.ensures.none_definition; no_mark = c.laws_of_extents.ensures.marks_definition; none_both = no_both c.laws_of_extents.ensures.local c.laws_of_refusals.ensures.stopped_there c.laws_of_extents.ensures.none } in
    let r : IfErr c.from_residual.result (λ e. IsRefused BegunDefinition FittingBegunDefinition ShallowDefinition (drop c.args.from c.args.laid.now) e) = search rules in
    let u : IfErr c.from_residual.result (λ e. IsUnended EndedDefinition (drop c.args.from c.args.laid.now) e) = search rules in
    err_mapped c.from_residual.result (λ e. IsRefused BegunDefinition FittingBegunDefinition ShallowDefinition (drop c.args.from c.args.laid.now) e × IsUnended EndedDefinition (drop c.args.from c.args.laid.now) e) (λ e. RefusedIn Tail (DeepUnit (drop c.args.from c.args.laid.now)) ShallowUnit (drop c.args.from c.args.laid.now) e) (err_both c.from_residual.result (λ e. IsRefused BegunDefinition FittingBegunDefinition ShallowDefinition (drop c.args.from c.args.laid.now) e) (λ e. IsUnended EndedDefinition (drop c.args.from c.args.laid.now) e) r u)
    (λ e h. defined_refused laws c.args.laid.now c.args.from e c.requires.ends c.requires.inside c.requires.token c.requires.apart h)

pub returns-clause-far : goal.returns-clause-far
returns-clause-far c =
    let laws : DefinitionLaws = record { local = c.laws_of_extents.ensures.local_definition; none_follows = c.laws_of_extents.ensures.none_definition; no_mark = c.laws_of_extents.ensures.marks_definition; none_both = no_both c.laws_of_extents.ensures.local c.laws_of_refusals.ensures.stopped_there c.laws_of_extents.ensures.none } in
    defined_far laws c.in_ok-definition.definition c.args.laid.now c.args.from c.in_ok-definition.next c.requires.token c.in_ok-definition.ensures.spelled c.in_ok-definition.ensures.fits c.in_ok-definition.ensures.far

pub returns-clause-shallow : goal.returns-clause-shallow
returns-clause-shallow c = defined_shallow c.laws_of_extents.ensures.local_definition c.in_ok-definition.definition c.args.laid.now c.args.from c.in_ok-definition.next c.in_ok-definition.ensures.spelled c.in_ok-definition.ensures.far
