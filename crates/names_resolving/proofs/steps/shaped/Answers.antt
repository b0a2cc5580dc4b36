use Rattle.std.proofs.Common.{sym, subst, List}
use Rattle.names_terms.specs.Terms.{Term}
use Rattle.names_terms.specs.declared.operator.Operator.{Operator}
use Rattle.names_term_levels.specs.Notes.{AreNotes}
use Rattle.names_term_levels.specs.Shape.{HasShape}
use Rattle.names_resolving.proofs.Copied.{none_said}
use Rattle.names_resolving.proofs.steps.shaped.Goals as goal

pub specification-requires-clause-noted : goal.specification-requires-clause-noted
specification-requires-clause-noted c = subst (λ (l : List Operator). AreNotes l c.args.notes.now) (sym c.items.ensures) c.requires.noted

pub returns-in-None : goal.returns-in-None
returns-in-None c =
    none_said (λ (l : List Operator). (init next : Term) → ¬ HasShape l c.args.body.now init next) _ c.items.result.now c.args.table.now c.in_ok-shape.field-0 c.items.ensures c.in_ok-shape.ensures c.in-None.is
