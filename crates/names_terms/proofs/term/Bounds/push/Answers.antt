use Rattle.names_terms.specs.Terms.{NoBounds}
use Rattle.names_terms.proofs.Pushes.{bounds_pushed}
use Rattle.names_terms.proofs.term.Bounds.push.Goals as goal

pub returns-clause-pushed : goal.returns-clause-pushed
returns-clause-pushed c = rw (c.in_ok-push.ensures.items, ← c.self.view_is) (bounds_pushed NoBounds c.self.inside.items.items c.args.item)
