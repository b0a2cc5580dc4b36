use Rattle.std.proofs.Common.{sym, subst}
use Rattle.std.specs.Prelude.{MatchOption, Option}
use Rattle.names_terms.specs.TermViews.{node_view}
use Rattle.names_term_parts.specs.declared.fault.LevelFault.{LevelFault}
use Rattle.names_term_levels.specs.Faults.{IsAssumptionFault, IsFirst}
use Rattle.names_term_levels.proofs.Assumptions.{assumption_told}
use Rattle.names_term_levels.proofs.noting.assumption_fault.Goals as goal

pub returns : goal.returns
returns c =
    let ops = c.args.table.now in
    let e = c.args.term.now in
    subst (λ (o : Option LevelFault). MatchOption o ((f : LevelFault) → ¬ IsAssumptionFault ops e f) (IsFirst (IsAssumptionFault ops e))) (sym c.held.ensures) (assumption_told ops c.term.inside.at c.term.inside.level (node_view c.term.inside.node.value) e c.in_ok-note.note.fault c.term.view_is c.in_ok-note.ensures.fault)
