use Rattle.names_meanings.specs.Around.{takes}
use Rattle.names_meanings.specs.Complaints.{told}
use Rattle.names_meanings.proofs.ToldNames.{ToldSoFar}
use Rattle.names_meanings.proofs.own.told_names.Given as goal

abbrev pub invariant-loop-free_name : goal.invariant-loop-free_name
invariant-loop-free_name l = ToldSoFar (told (takes l.walk)) l.free_name-items l.free_name-index l.names.items
