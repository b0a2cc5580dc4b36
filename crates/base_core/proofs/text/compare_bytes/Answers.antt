use Rattle.std.proofs.Common.{arith, refl}
use Rattle.std.specs.Ordering.{nat_cmp}
use Rattle.base_core.proofs.Lexicographic.{went_through}
use Rattle.base_core.proofs.text.compare_bytes.Goals as goal

pub returns : goal.returns
returns c =
    went_through nat_cmp c.args.a.now c.args.b.now c.loop-i.i _ _ c.cmp.result
    refl refl (omega arith) (omega arith) (omega arith)
    c.cmp.ensures
    c.loop-i.invariant
