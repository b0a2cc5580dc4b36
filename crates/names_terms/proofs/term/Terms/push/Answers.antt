use Rattle.names_terms.specs.Terms.{NoTerms}
use Rattle.names_terms.proofs.Pushes.{terms_pushed}
use Rattle.names_terms.proofs.term.Terms.push.Goals as goal

pub returns-clause-pushed : goal.returns-clause-pushed
returns-clause-pushed c = rw (c.in_ok-push.ensures.items, ← c.self.view_is) (terms_pushed NoTerms c.self.inside.items.items c.args.item)
