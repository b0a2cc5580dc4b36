use Rattle.names_terms.specs.Terms.{NoFields}
use Rattle.names_terms.proofs.Pushes.{fields_pushed}
use Rattle.names_terms.proofs.term.Fields.push.Goals as goal

pub returns-clause-pushed : goal.returns-clause-pushed
returns-clause-pushed c = rw (c.in_ok-push.ensures.items, ← c.self.view_is) (fields_pushed NoFields c.self.inside.items.items c.args.item)
