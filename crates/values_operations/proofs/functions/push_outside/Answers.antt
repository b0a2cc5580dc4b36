use Rattle.std.proofs.Common.{◌∙◌}
use Rattle.values_core.specs.Functions.{keys_in}
use Rattle.values_operations.proofs.OtherKeys.{outside_more}
use Rattle.values_operations.proofs.functions.push_outside.Goals as goal

pub loop-pair-preserved : goal.loop-pair-preserved
loop-pair-preserved c =
    c.in_ok-push_if_outside.ensures ∙ outside_more (keys_in c.args.f.now) c.loop-pair.pairs.items c.args.pairs.now.items c.loop-pair.yielded c.in-Some.pair c.loop-pair.invariant
