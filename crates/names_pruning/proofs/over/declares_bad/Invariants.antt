use Rattle.std.proofs.Common.{◌≡◌, drop}
use Rattle.std.specs.List.{list_any}
use Rattle.names_pruning.specs.Parts.{is_bad_operator}
use Rattle.names_pruning.proofs.over.declares_bad.Given as goal

abbrev pub invariant-loop-operator : goal.invariant-loop-operator
invariant-loop-operator l = list_any (is_bad_operator l.names l.unread l.bad) (drop l.operator-index l.operators) ≡ list_any (is_bad_operator l.names l.unread l.bad) l.operators
