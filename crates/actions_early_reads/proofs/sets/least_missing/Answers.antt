use Rattle.std.proofs.Common.{◌≡◌, not, sym, ap, false, arith}
use Rattle.actions_early_reads.specs.Sets.{shown}
use Rattle.actions_early_reads.proofs.Shown.{least-first}
use Rattle.actions_early_reads.proofs.sets.least_missing.Goals as goal

pub returns-then-not-is_in : goal.returns-then-not-is_in
returns-then-not-is_in c =
    let off : shown c.args.set c.loop-variable.variable ≡ false = cc in
    sym (least-first c.loop-variable.variable c.args.variables (λ x. not (shown c.args.set x)) c.loop-variable.invariant (ap not off) (omega (arith, c.loop-variable-test.true)))
