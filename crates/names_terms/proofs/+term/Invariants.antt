use Rattle.std.proofs.Common.{◌≤◌}
use Rattle.names_terms.specs.TermSizes.{term_size}
use Rattle.names_terms.proofs.+term.Given as goal

abbrev pub invariant-term::Term::drop-loop-test : goal.invariant-term::Term::drop-loop-test
invariant-term::Term::drop-loop-test l = term_size l.self ≤ term_size l.initial.self
