use Rattle.std.proofs.Common.{◌≤◌, ◌⊎◌, inl, inr, ◌++◌, [], length, drop, cond, ap, ◌∙◌, arith}
use Rattle.values_operations.proofs.Walking.{ended, tail_is}
use Rattle.values_operations.proofs.sets.walk.Goals as goal
use Rattle.values_operations.proofs.sets.walk.Goals.{then-loop-i-test+else-j-ys, else-loop-i-test}

pub returns : goal.returns
returns c =
    let over : (length c.args.xs.now ≤ c.loop-i.i) ⊎ (length c.args.ys.now ≤ c.loop-i.j) = elim c.loop-i-test.branch [ then-loop-i-test+else-j-ys w ↦ inr (omega arith) | else-loop-i-test w ↦ inl (omega arith) ] in
    (rw tail_is at c.in_ok-push_rest-2.ensures)
    ∙ ap (λ zs. zs ++ cond c.args.keep.right (drop c.loop-i.j c.args.ys.now) []) (rw tail_is at c.in_ok-push_rest.ensures)
    ∙ ended c.args.keep c.loop-i.out.items c.args.xs.now c.args.ys.now c.loop-i.i c.loop-i.j over
    ∙ c.loop-i.invariant.kept
