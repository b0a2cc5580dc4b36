use Rattle.std.proofs.Common.{subst, sym}
use Rattle.std.specs.Prelude.{ℕ}
use Rattle.names_terms.specs.Terms.{Term}
use Rattle.names_term_parts.specs.Slots.{MentionsBelow}
use Rattle.names_tables.proofs.Faults.{empty_body}
use Rattle.names_tables.proofs.fault.placeholder.Goals as goal

pub returns-clause-below : goal.returns-clause-below
returns-clause-below c = subst (λ (e : Term). (k : ℕ) → MentionsBelow k e) (sym c.in_ok-body.ensures) empty_body
