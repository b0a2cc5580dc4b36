use Rattle.names_terms.specs.Terms.{NoArms}
use Rattle.names_terms.proofs.Pushes.{arms_pushed}
use Rattle.names_terms.proofs.term.Arms.push.Goals as goal

pub returns-clause-pushed : goal.returns-clause-pushed
returns-clause-pushed c = rw (c.in_ok-push.ensures.items, ← c.self.view_is) (arms_pushed NoArms c.self.inside.items.items c.args.item)
