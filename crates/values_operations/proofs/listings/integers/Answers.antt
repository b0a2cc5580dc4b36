use Rattle.std.proofs.Common.{◌≡◌, ◌++◌, ◌∷◌, [], ap, sym, ◌∙◌, arith, pos, ◌+◌}
use Rattle.std.specs.Prelude.{◌+ℤ◌}
use Rattle.std.proofs.lemmas.Int.{ints, to_z-of_z}
use Rattle.values_core.specs.Data.{integer}
use Rattle.values_operations.specs.Listed.{ints_from}
use Rattle.values_operations.proofs.Intervals.{ints_push}
use Rattle.values_operations.proofs.listings.integers.Goals as goal

pub loop-k-preserved : goal.loop-k-preserved
loop-k-preserved c =
    let fits = c.ranges.first in
    let y = c.args.first in
    let k = c.loop-k.k in
    let here : c.int.result ≡ integer (y +ℤ pos k) = c.int.ensures ∙ ap integer (rw c.from.ensures (omega (arith, ints))) in
    let old : c.loop-k.members.items ≡ ints_from y k = simp to_z-of_z at c.loop-k.invariant in
    let new : c.push.new.self.items ≡ ints_from y (k + 1) =
    c.in_ok-push.ensures.items ∙ ap (λ vs. vs ++ c.int.result ∷ []) old ∙ ap (λ v. ints_from y k ++ v ∷ []) here ∙ sym (ints_push y k) in
    simp to_z-of_z new
