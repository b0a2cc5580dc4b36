use Rattle.std.proofs.Common.{◌∙◌, ap}
use Rattle.names_uses.specs.StrictNames.{strictly_over}
use Rattle.names_uses.proofs.StrictLemmas.{is_strict, strict_end, strict_on}
use Rattle.names_uses.proofs.strict.strict_in.Goals as goal

pub loop-name-preserved : goal.loop-name-preserved
loop-name-preserved c =
    strict_on c.args.marks.now c.args.names.now c.args.index c.args.definition.now _ _ _ c.items-name-items.result.now c.loop-name.name-index c.name-item.result c.loop-name-test.true c.name-item.is c.in_ok-add.ensures c.loop-name.invariant

pub returns : goal.returns
returns c =
    is_strict c.args.marks.now c.args.names.now c.args.index c.args.definition.now c.in_ok-free.free _ c.in_ok-free.ensures.exact (strict_end c.args.marks.now c.args.names.now c.args.index c.args.definition.now _ _ c.items-name-items.result.now c.loop-name.name-index c.loop-name-test.false c.loop-name.invariant ∙ ap (strictly_over c.args.marks.now c.args.names.now c.args.index c.args.definition.now) c.items-name-items.ensures)
