use Rattle.std.proofs.Common.{◌≡◌, take}
use Rattle.values_core.specs.Data.{entries, pairs_of}
use Rattle.values_core.specs.Functions.{numbered_from}
use Rattle.values_core.proofs.value.forms.number_items.Given as goal

abbrev pub invariant-loop-i : goal.invariant-loop-i
invariant-loop-i l = l.pairs.items ≡ entries (pairs_of (numbered_from 1 (take l.i l.items.items)))
