use Rattle.std.proofs.Common.{◌≡◌, drop}
use Rattle.names_terms.specs.TermViews.{terms_from, terms_of}
use Rattle.names_term_levels.specs.Shape.{rows}
use Rattle.names_resolving.proofs.steps.copies.Given as goal

abbrev pub invariant-loop-term : goal.invariant-loop-term
invariant-loop-term l = terms_from l.copies (rows (drop l.term-index l.terms)) ≡ terms_of (rows l.terms)
