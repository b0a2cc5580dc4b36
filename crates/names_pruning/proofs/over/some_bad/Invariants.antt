use Rattle.std.proofs.Common.{◌≡◌, drop}
use Rattle.std.specs.List.{list_any}
use Rattle.names_pruning.specs.Parts.{is_bad_name}
use Rattle.names_pruning.proofs.over.some_bad.Given as goal

abbrev pub invariant-loop-name : goal.invariant-loop-name
invariant-loop-name l = list_any (is_bad_name l.names l.unread l.bad) (drop l.name-index l.free) ≡ list_any (is_bad_name l.names l.unread l.bad) l.free
