use Rattle.names_terms.specs.Terms.{NoSteps}
use Rattle.names_terms.proofs.Pushes.{steps_pushed}
use Rattle.names_terms.proofs.term.Steps.push.Goals as goal

pub returns-clause-pushed : goal.returns-clause-pushed
returns-clause-pushed c = rw (c.in_ok-push.ensures.items, ← c.self.view_is) (steps_pushed NoSteps c.self.inside.items.items c.args.item)
