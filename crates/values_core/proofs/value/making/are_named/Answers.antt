use Rattle.std.proofs.Common.{◌<◌, length, arith, refl}
use Rattle.values_core.specs.Data.{pairs_of}
use Rattle.values_core.specs.View.{AreNamed}
use Rattle.values_core.proofs.Forms.{named_at, named_more}
use Rattle.values_core.proofs.value.making.are_named.Goals as goal

pub loop-pair-preserved : goal.loop-pair-preserved
loop-pair-preserved c =
    let below : c.loop-pair.pair-index < length c.deref-pair-items.result.now = omega arith in
    named_more c.deref-pair-items.result.now c.loop-pair.pair-index c.pair-item.result below c.pair-item.is c.loop-pair.invariant (c.if-not-is_name.ensures.0 refl)

pub returns-then-not-is_name : goal.returns-then-not-is_name
returns-then-not-is_name c = (
  λ t. cc,
  λ a.
      let below : c.loop-pair.pair-index < length c.deref-pair-items.result.now = omega arith in
      let all : AreNamed (pairs_of c.deref-pair-items.result.now) = rw c.deref-pair-items.ensures.value a in
      c.if-not-is_name.ensures.1 (named_at c.deref-pair-items.result.now c.loop-pair.pair-index c.pair-item.result below c.pair-item.is all),
)
