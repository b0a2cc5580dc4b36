use Rattle.std.proofs.Common.{drop, refl, rules}
use Rattle.std.specs.Result.{IfErr}
use Rattle.reading_trees.specs.declared.module.Made.{Made}
use Rattle.reading_trees.specs.declared.module.Unit.TheVariants as units
use Rattle.reading_trees.specs.Modules.{UnitText}
use Rattle.reading_units.specs.Parts.{Part}
use Rattle.reading_units.specs.Reads.{DeepUnit, Misses, RefusedIn}
use Rattle.reading_units.specs.Refusals.{ShallowUnit}
use Rattle.reading_units.specs.Rests.{Tail}
use Rattle.reading_units.specs.declared.marks.Mark.TheVariants as marks
use Rattle.reading_units.proofs.GivensRead.{RefusedWiths, given_refused, instance_far, module_refused, own_refused, start_text}
use Rattle.reading_units.proofs.InstanceTokens.{no_both}
use Rattle.reading_units.proofs.Parts.{instance_unit}
use Rattle.reading_units.proofs.RestSteps.{err_mapped}
use Rattle.reading_units.proofs.ShallowGivens.{instance_shallow}
use Rattle.reading_units.proofs.instances.instance.Goals as goal

pub returns-in_err-own-clause-refused : goal.returns-in_err-own-clause-refused
returns-in_err-own-clause-refused c =
    let q : IfErr c.from_residual.result (λ e. Misses marks.Name (drop c.args.from c.args.laid.now) e) = search rules in
    err_mapped c.from_residual.result (λ e. Misses marks.Name (drop c.args.from c.args.laid.now) e) (λ e. RefusedIn Tail (DeepUnit (drop c.args.from c.args.laid.now)) ShallowUnit (drop c.args.from c.args.laid.now) e) q
    (λ e h. own_refused (drop c.args.from c.args.laid.now) (drop c.args.behind c.args.laid.now) e c.requires.begins.text h)

pub returns-in_err-of_module-clause-refused : goal.returns-in_err-of_module-clause-refused
returns-in_err-of_module-clause-refused c =
    let q : IfErr c.from_residual-in_err-of_module.result (λ e. Misses marks.Name (drop c.args.behind c.args.laid.now) e) = search rules in
    err_mapped c.from_residual-in_err-of_module.result (λ e. Misses marks.Name (drop c.args.behind c.args.laid.now) e) (λ e. RefusedIn Tail (DeepUnit (drop c.args.from c.args.laid.now)) ShallowUnit (drop c.args.from c.args.laid.now) e) q
    (λ e h. module_refused (no_both c.laws_of_extents.ensures.local c.laws_of_refusals.ensures.stopped_there c.laws_of_extents.ensures.none) (drop c.args.from c.args.laid.now) (drop c.args.behind c.args.laid.now) e c.requires.begins.text h)

pub returns-in_err-withs-clause-refused : goal.returns-in_err-withs-clause-refused
returns-in_err-withs-clause-refused c =
    let q : IfErr c.from_residual-in_err-withs.result (λ e. RefusedWiths (drop c.in_ok-of_module.next c.args.laid.now) e) = search rules in
    err_mapped c.from_residual-in_err-withs.result (λ e. RefusedWiths (drop c.in_ok-of_module.next c.args.laid.now) e) (λ e. RefusedIn Tail (DeepUnit (drop c.args.from c.args.laid.now)) ShallowUnit (drop c.args.from c.args.laid.now) e) q
    (λ e h. given_refused (no_both c.laws_of_extents.ensures.local c.laws_of_refusals.ensures.stopped_there c.laws_of_extents.ensures.none) (drop c.args.from c.args.laid.now) (drop c.args.behind c.args.laid.now) (drop c.in_ok-of_module.next c.args.laid.now) e c.requires.begins.text c.in_ok-of_module.ensures.token h)

pub returns-clause-part : goal.returns-clause-part
returns-clause-part c =
    instance_unit c.in_ok-own.own c.in_ok-of_module.of_module _ c.args.laid.now c.args.from _ c.args.behind c.in_ok-of_module.next c.in_ok-withs.end c.in_ok-own.ensures.part c.requires.begins c.in_ok-of_module.ensures.part c.in_ok-withs.ensures.spelled c.in_ok-withs.ensures.ahead c.in_ok-withs.ensures.within refl refl refl

pub returns-clause-far : goal.returns-clause-far
returns-clause-far c =
    instance_far (no_both c.laws_of_extents.ensures.local c.laws_of_refusals.ensures.stopped_there c.laws_of_extents.ensures.none) (drop c.args.from c.args.laid.now) (drop c.args.behind c.args.laid.now) (drop c.in_ok-of_module.next c.args.laid.now) (drop c.in_ok-withs.end c.args.laid.now) c.requires.begins.text c.in_ok-of_module.ensures.token c.in_ok-withs.ensures.far

pub returns-clause-shallow : goal.returns-clause-shallow
returns-clause-shallow c =
    let m : Made = record { name = c.in_ok-own.own.name; at = c.in_ok-own.own.at; module_name = c.in_ok-of_module.of_module.name; withs = c.in_ok-withs.withs } in
    let unit : Part (UnitText (units.Instance m)) c.args.laid.now c.args.from c.in_ok-withs.end =
    instance_unit c.in_ok-own.own c.in_ok-of_module.of_module m c.args.laid.now c.args.from _ c.args.behind c.in_ok-of_module.next c.in_ok-withs.end c.in_ok-own.ensures.part c.requires.begins c.in_ok-of_module.ensures.part c.in_ok-withs.ensures.spelled c.in_ok-withs.ensures.ahead c.in_ok-withs.ensures.within refl refl refl in
    instance_shallow c.laws_of_extents.ensures.local m (drop c.args.from c.args.laid.now) (drop c.args.behind c.args.laid.now) (drop c.in_ok-of_module.next c.args.laid.now) (drop c.in_ok-withs.end c.args.laid.now) unit.text
    (start_text (drop c.args.from c.args.laid.now) (drop c.args.behind c.args.laid.now) c.requires.begins.text) (c.in_ok-of_module.of_module.name, (c.in_ok-of_module.of_module.at, c.in_ok-of_module.ensures.part.text)) c.in_ok-withs.ensures.shallow
