use Rattle.std.proofs.Common.{◌≡◌, List, length, subst, arith}
use Rattle.eval_parts.specs.declared.changing.Layer.{Layer}
use Rattle.eval_parts.proofs.ChangeWalk.{BackSoFar, back_ends, back_goes_on, back_stops}
use Rattle.eval_parts.proofs.changing.rebuilt.Goals as goal

pub loop-layer-preserved : goal.loop-layer-preserved
loop-layer-preserved c =
    let so = subst (λ (ks : List Layer). BackSoFar c.args.at c.args.layers.items c.args.value ks c.loop-layer.value) c.in-Some.ensures.items c.loop-layer.invariant in
    back_goes_on c.args.at c.args.layers.items c.args.value c.pop.new.self.items c.in-Some.layer c.loop-layer.value c.in-Ok.made c.in-Ok.ensures so

pub returns-in-Err : goal.returns-in-Err
returns-in-Err c =
    let so = subst (λ (ks : List Layer). BackSoFar c.args.at c.args.layers.items c.args.value ks c.loop-layer.value) c.in-Some.ensures.items c.loop-layer.invariant in
    back_stops c.args.at c.args.layers.items c.args.value c.pop.new.self.items c.in-Some.layer c.loop-layer.value c.in-Err.fault c.in-Err.ensures so

pub returns : goal.returns
returns c =
    let none : length c.loop-layer.layers.items ≡ 0 = omega (arith, c.in_default.ensures.cases.0, c.loop-layer.layers.ok.0) in
    back_ends c.args.at c.args.layers.items c.args.value c.loop-layer.layers.items c.loop-layer.value none c.loop-layer.invariant
