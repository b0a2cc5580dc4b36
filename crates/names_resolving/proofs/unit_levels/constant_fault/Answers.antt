use Rattle.std.proofs.Common.{◌∙◌, sym, ap, subst, List, length}
use Rattle.std.specs.Option.{option_copied}
use Rattle.names_terms.specs.declared.operator.Operator.{Operator}
use Rattle.names_term_levels.specs.Notes.{AreNotes}
use Rattle.names_resolving.proofs.Levels.{constant_below}
use Rattle.names_resolving.proofs.unit_levels.constant_fault.Goals as goal

pub assumption_fault-requires-clause-noted : goal.assumption_fault-requires-clause-noted
assumption_fault-requires-clause-noted c = subst (λ (l : List Operator). AreNotes l c.args.notes.now) (sym c.items.ensures) c.requires.noted

pub assumption_fault-requires-clause-below : goal.assumption_fault-requires-clause-below
assumption_fault-requires-clause-below c =
    constant_below c.args.table.now.operators (length c.args.notes.now) c.args.number c.in-Some.operator.now c.requires.ordered c.requires.all (sym c.get.ensures.item ∙ ap option_copied c.in-Some.is)
