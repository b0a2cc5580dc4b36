use Rattle.std.proofs.Common.{◌≡◌, ◌++◌, drop}
use Rattle.names_uses.specs.StrictNames.{strictly_over}
use Rattle.names_uses.proofs.strict.strict_in.Given as goal

abbrev pub invariant-loop-name : goal.invariant-loop-name
invariant-loop-name l =
    l.found.items ++ strictly_over l.marks l.names l.index l.definition (drop l.name-index l.name-items) ≡ strictly_over l.marks l.names l.index l.definition l.name-items
