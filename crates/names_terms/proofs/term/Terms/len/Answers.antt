use Rattle.std.proofs.Common.{arith}
use Rattle.names_terms.proofs.Listed.{terms_listed}
use Rattle.names_terms.proofs.term.Terms.len.Goals as goal

pub returns : goal.returns
returns c = rw (← c.self.view_is, terms_listed c.self.inside.items.items) (omega arith)
