use Rattle.std.proofs.Common.{◌≡◌, take}
use Rattle.values_operations.specs.Listed.{members_of_all}
use Rattle.values_operations.proofs.listings.all_members.Given as goal

abbrev pub invariant-loop-set : goal.invariant-loop-set
invariant-loop-set l = l.all.items ≡ members_of_all (take l.set-index l.sets)
