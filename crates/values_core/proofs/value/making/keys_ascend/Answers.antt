use Rattle.std.proofs.Common.{arith, sym, ap, ◌∙◌}
use Rattle.std.specs.Ordering.{is_ge}
use Rattle.values_core.proofs.FunctionLemmas.{ascending_from_neighbours}
use Rattle.values_core.proofs.Neighbours.{one_more}
use Rattle.values_core.proofs.value.making.keys_ascend.Goals as goal

pub loop-i-preserved : goal.loop-i-preserved
loop-i-preserved c =
    one_more (λ p. p.0) c.args.pairs.now.items c.loop-i.i c.index-before.result.now c.index-here.result.now (omega arith) (omega arith) c.index-before.ensures c.index-here.ensures
    (sym (ap is_ge c.cmp.ensures) ∙ (sym c.is_ge.ensures ∙ c.if-is_ge.false)) c.loop-i.invariant

pub returns : goal.returns
returns c = λ t. ascending_from_neighbours c.args.pairs.now.items (λ k j d e l. c.loop-i.invariant k j d e (omega arith))
