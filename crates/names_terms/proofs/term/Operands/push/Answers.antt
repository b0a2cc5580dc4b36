use Rattle.names_terms.specs.Terms.{First}
use Rattle.names_terms.proofs.Pushes.{operands_pushed}
use Rattle.names_terms.proofs.term.Operands.push.Goals as goal

pub returns-clause-pushed : goal.returns-clause-pushed
returns-clause-pushed c = rw (c.in_ok-push.ensures.items, ← c.self.view_is) (operands_pushed (First c.self.inside.first.value) c.self.inside.others.items c.args.item)
