use Rattle.std.proofs.Common.{◌≡◌, Some, drop, rules, sym, ◌∙◌}
use Rattle.std.specs.Result.{IfErr}
use Rattle.reading_units.specs.Reads.{RefusedIn, DeepUnit, DeepUnits}
use Rattle.reading_units.specs.Refusals.{ShallowUnit, ShallowUnits}
use Rattle.reading_units.specs.Rests.{Tail}
use Rattle.reading_units.specs.declared.marks.Mark.TheVariants as marks
use Rattle.reading_units.proofs.Leading.{leads_nothing}
use Rattle.reading_units.proofs.Parts.{one_more_unit, one_more_fits}
use Rattle.reading_units.proofs.RestSteps.{err_mapped}
use Rattle.reading_units.proofs.ShallowRead.{no_units_yet, one_more_shallow}
use Rattle.reading_units.proofs.UnitsRead.{more_units_far, more_units_refused, units_end_far}
use Rattle.reading_units.proofs.units.units.Goals as goal

pub loop-alloc-init : goal.loop-alloc-init
loop-alloc-init c = record { spelled = search rules; fits = search rules; within = search rules; far = leads_nothing Tail (drop c.args.from c.args.laid.now); shallow = no_units_yet (drop c.args.from c.args.laid.now) }

pub loop-alloc-preserved : goal.loop-alloc-preserved
loop-alloc-preserved c = record {
  spelled = one_more_unit c.loop-alloc.units c.push.new.self c.in_ok-item.item c.args.laid.now c.args.from c.loop-alloc.next c.in_ok-item.behind c.loop-alloc.invariant.spelled c.in_ok-item.ensures.part c.in_ok-push.ensures.pushed;
  fits = one_more_fits c.loop-alloc.units c.push.new.self c.in_ok-item.item c.loop-alloc.invariant.fits c.in_ok-item.ensures.fits c.in_ok-push.ensures.pushed;
  within = c.in_ok-item.ensures.part.within;
  far = more_units_far (drop c.args.from c.args.laid.now) (drop c.loop-alloc.next c.args.laid.now) (drop c.in_ok-item.behind c.args.laid.now) c.loop-alloc.invariant.far c.in_ok-item.ensures.far;
  shallow = one_more_shallow (drop c.args.from c.args.laid.now) (drop c.loop-alloc.next c.args.laid.now) (drop c.in_ok-item.behind c.args.laid.now) c.loop-alloc.invariant.shallow c.in_ok-item.ensures.shallow;
}

pub returns-in_err-item-clause-refused : goal.returns-in_err-item-clause-refused
returns-in_err-item-clause-refused c =
    let q : IfErr c.from_residual.result (λ e. RefusedIn Tail (DeepUnit (drop c.loop-alloc.next c.args.laid.now)) ShallowUnit (drop c.loop-alloc.next c.args.laid.now) e) = search rules in
    err_mapped c.from_residual.result (λ e. RefusedIn Tail (DeepUnit (drop c.loop-alloc.next c.args.laid.now)) ShallowUnit (drop c.loop-alloc.next c.args.laid.now) e) (λ e. RefusedIn Tail (DeepUnits Tail ShallowUnits (drop c.args.from c.args.laid.now)) ShallowUnits (drop c.args.from c.args.laid.now) e) q (λ e h. more_units_refused (drop c.args.from c.args.laid.now) (drop c.loop-alloc.next c.args.laid.now) e c.loop-alloc.invariant.far c.loop-alloc.invariant.shallow h)

pub returns-clause-far : goal.returns-clause-far
returns-clause-far c =
    let q : c.mark_at.result ≡ Some marks.Equals = search rules in
    units_end_far (drop c.args.from c.args.laid.now) (drop c.loop-alloc.next c.args.laid.now) c.loop-alloc.invariant.far (sym c.mark_at.ensures.told ∙ q)
