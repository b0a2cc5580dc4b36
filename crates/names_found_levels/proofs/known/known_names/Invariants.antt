use Rattle.std.proofs.Common.{◌≡◌, ◌++◌, drop}
use Rattle.names_found_levels.specs.Found.{AreFound}
use Rattle.names_found_levels.proofs.known.known_names.Given as goal

abbrev pub invariant-loop-known : goal.invariant-loop-known
invariant-loop-known l = record {
  copied : l.copies.items ++ drop l.known-index l.names ≡ l.names;
  found : AreFound l.copies.items l.found;
}
