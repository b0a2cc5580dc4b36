use Rattle.std.proofs.Common.{length, subst}
use Rattle.names_terms.specs.Terms.{Term}
use Rattle.names_term_parts.specs.Slots.{MentionsBelow}
use Rattle.names_program.specs.Names.{numbers_of}
use Rattle.names_resolving.proofs.Sought.{operator_within}
use Rattle.names_resolving.proofs.steps.by_specification.Goals as goal

pub shaped-requires-clause-below : goal.shaped-requires-clause-below
shaped-requires-clause-below c =
    let found = c.body_of-operator.ensures in
    subst (λ (e : Term). MentionsBelow (length c.args.table.now.operators) e) found.body_is
    (operator_within c.args.program.now (numbers_of c.args.table.now.numbers.items) c.args.table.now.operators c.args.name.now found.operator c.requires.ordered found.is)
