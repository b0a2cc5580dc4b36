use Rattle.names_term_levels.proofs.Passing.{IsPass}
use Rattle.names_term_levels.proofs.telling.read_all.Given as goal

abbrev pub invariant-loop-number : goal.invariant-loop-number
invariant-loop-number l = IsPass l.table l.initial.notes.items l.number l.more l.notes.items
