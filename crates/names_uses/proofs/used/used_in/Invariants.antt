use Rattle.std.proofs.Common.{◌≡◌, ◌++◌, drop}
use Rattle.names_uses.specs.UsedNames.{used_over}
use Rattle.names_uses.proofs.used.used_in.Given as goal

abbrev pub invariant-loop-name : goal.invariant-loop-name
invariant-loop-name l =
    l.found.items ++ used_over l.names l.definition (drop l.name-index l.name-items) ≡ used_over l.names l.definition l.name-items
