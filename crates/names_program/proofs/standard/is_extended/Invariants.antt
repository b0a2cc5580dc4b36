use Rattle.std.proofs.Common.{◌≡◌, drop}
use Rattle.names_scopes.specs.Mentions.{is_one_of}
use Rattle.names_program.proofs.standard.is_extended.Given as goal

abbrev pub invariant-loop-other : goal.invariant-loop-other
invariant-loop-other l = is_one_of l.wanted (drop l.other-index l.other-items) ≡ is_one_of l.wanted l.other-items
