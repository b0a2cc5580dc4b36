use Rattle.std.proofs.Common.{◌∙◌, ap}
use Rattle.names_uses.specs.UsedNames.{used_over}
use Rattle.names_uses.proofs.UseLemmas.{is_used, used_end, used_on}
use Rattle.names_uses.proofs.used.used_in.Goals as goal

pub loop-name-preserved : goal.loop-name-preserved
loop-name-preserved c =
    used_on c.args.names.now c.args.definition.now _ _ _ c.items-name-items.result.now c.loop-name.name-index c.name-item.result c.loop-name-test.true c.name-item.is c.in_ok-add.ensures c.loop-name.invariant

pub returns : goal.returns
returns c =
    is_used c.args.names.now c.args.definition.now c.in_ok-free.free _ c.in_ok-free.ensures.exact (used_end c.args.names.now c.args.definition.now _ _ c.items-name-items.result.now c.loop-name.name-index c.loop-name-test.false c.loop-name.invariant ∙ ap (used_over c.args.names.now c.args.definition.now) c.items-name-items.ensures)
