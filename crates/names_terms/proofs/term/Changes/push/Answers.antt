use Rattle.names_terms.specs.Terms.{NoChanges}
use Rattle.names_terms.proofs.Pushes.{changes_pushed}
use Rattle.names_terms.proofs.term.Changes.push.Goals as goal

pub returns-clause-pushed : goal.returns-clause-pushed
returns-clause-pushed c = rw (c.in_ok-push.ensures.items, ← c.self.view_is) (changes_pushed NoChanges c.self.inside.items.items c.args.item)
