use Rattle.std.proofs.Common.{◌≡◌, ◌++◌, drop}
use Rattle.logs_updates.proofs.copies.add_sees.Given as goal

abbrev pub invariant-loop-see : goal.invariant-loop-see
invariant-loop-see l = l.sees ++ drop l.see-index l.more ≡ l.initial.sees ++ l.more
