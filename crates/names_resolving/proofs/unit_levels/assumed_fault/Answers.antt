use Rattle.std.proofs.Common.{sym, subst, List}
use Rattle.names_terms.specs.declared.operator.Operator.{Operator}
use Rattle.names_term_levels.specs.Notes.{AreNotes}
use Rattle.names_resolving.proofs.unit_levels.assumed_fault.Goals as goal

pub assumption_fault-requires-clause-noted : goal.assumption_fault-requires-clause-noted
assumption_fault-requires-clause-noted c = subst (λ (l : List Operator). AreNotes l c.args.notes.now) (sym c.items.ensures) c.requires.noted
