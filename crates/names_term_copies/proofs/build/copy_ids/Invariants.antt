use Rattle.std.proofs.Common.{◌≡◌, take}
use Rattle.names_term_copies.proofs.build.copy_ids.Given as goal

abbrev pub invariant-loop-i : goal.invariant-loop-i
invariant-loop-i l = l.copy ≡ take l.i l.ids
