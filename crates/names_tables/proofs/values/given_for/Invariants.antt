use Rattle.std.proofs.Common.{◌≡◌, drop}
use Rattle.names_program.specs.Names.{given_for}
use Rattle.names_tables.proofs.values.given_for.Given as goal

abbrev pub invariant-loop-given : goal.invariant-loop-given
invariant-loop-given l = given_for (drop l.given-index l.givens) l.name ≡ given_for l.givens l.name
