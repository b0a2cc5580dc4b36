use Rattle.names_resolved_laws.proofs.Ordering.{resolved_are_in_order}
use Rattle.names_resolved_laws.proofs.resolving_laws.resolved_laws.Goals as goal

pub returns : goal.returns
returns c = record { in_order = resolved_are_in_order }
