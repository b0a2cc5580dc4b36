use Rattle.std.proofs.Common.{◌≡◌, ◌++◌, drop}
use Rattle.names_tlc_calls.specs.Programs.{given_names}
use Rattle.names_tlc_calls.proofs.own_names.push_givens.Given as goal

abbrev pub invariant-loop-given : goal.invariant-loop-given
invariant-loop-given l = l.names ++ given_names (drop l.given-index l.givens) ≡ l.initial.names ++ given_names l.givens
