use Rattle.std.proofs.Common.{◌≡◌, take}
use Rattle.values_core.specs.Functions.{keys_in}
use Rattle.values_json.proofs.printing.keys_of.Given as goal

abbrev pub invariant-loop-i : goal.invariant-loop-i
invariant-loop-i l = l.keys.items ≡ take l.i (keys_in l.value)
