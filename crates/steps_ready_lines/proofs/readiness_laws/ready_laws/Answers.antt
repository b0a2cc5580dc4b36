use Rattle.steps_ready_lines.proofs.Readied.{assumptions_are_counted, resolved_are_ready, whole_are_ready}
use Rattle.steps_ready_lines.proofs.readiness_laws.ready_laws.Goals as goal

pub returns : goal.returns
returns c = record { whole = whole_are_ready; resolved = resolved_are_ready c.resolved_laws.ensures.in_order; counted = assumptions_are_counted }
