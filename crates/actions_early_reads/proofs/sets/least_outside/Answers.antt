use Rattle.std.proofs.Common.{◌≡◌, sym, true, false, refl, arith}
use Rattle.actions_meanings.specs.Outcomes.{outside}
use Rattle.actions_early_reads.specs.Sets.{shown}
use Rattle.actions_early_reads.proofs.Shown.{least-first}
use Rattle.actions_early_reads.proofs.sets.least_outside.Goals as goal

pub returns-then-not-is_in : goal.returns-then-not-is_in
returns-then-not-is_in c =
    let on : shown c.args.set c.loop-variable.variable ≡ true = cc in
    let off : shown c.args.fixed c.loop-variable.variable ≡ false = cc in
    sym (least-first c.loop-variable.variable c.args.variables (outside (shown c.args.fixed) (shown c.args.set)) c.loop-variable.invariant (rw (on, off) refl) (omega (arith, c.loop-variable-test.true)))
