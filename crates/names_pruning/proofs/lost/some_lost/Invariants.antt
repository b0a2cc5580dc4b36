use Rattle.std.proofs.Common.{◌≡◌, drop}
use Rattle.std.specs.List.{list_any}
use Rattle.names_pruning.specs.Parts.{is_lost_in}
use Rattle.names_pruning.proofs.lost.some_lost.Given as goal

abbrev pub invariant-loop-name : goal.invariant-loop-name
invariant-loop-name l = list_any (is_lost_in l.names l.unread l.params) (drop l.name-index l.free) ≡ list_any (is_lost_in l.names l.unread l.params) l.free
