use Rattle.std.proofs.Common.{◌∙◌, sym}
use Rattle.reading_units.proofs.NewNames.{new_all, new_not, new_on, new_start}
use Rattle.reading_units.proofs.instances.is_new.Goals as goal

pub loop-with-init : goal.loop-with-init
loop-with-init c = new_start c.args.withs.now c.args.name.now

pub returns-then-eq : goal.returns-then-eq
returns-then-eq c = new_not c.args.withs.now c.loop-with.with-index c.with-item.result c.args.name.now c.loop-with-test.true c.with-item.is c.loop-with.invariant (sym c.eq.ensures ∙ c.if-eq.true)

pub loop-with-preserved : goal.loop-with-preserved
loop-with-preserved c = new_on c.args.withs.now c.loop-with.with-index c.with-item.result c.args.name.now c.loop-with-test.true c.with-item.is c.loop-with.invariant (sym c.eq.ensures ∙ c.if-eq.false)

pub returns : goal.returns
returns c = new_all c.args.withs.now c.loop-with.with-index c.args.name.now c.loop-with-test.false c.loop-with.invariant
