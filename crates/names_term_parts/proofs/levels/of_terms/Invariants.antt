use Rattle.std.proofs.Common.{◌≡◌, take}
use Rattle.names_terms.specs.TermViews.{terms_of}
use Rattle.names_terms.specs.Levels.{of_terms}
use Rattle.names_term_parts.proofs.levels.of_terms.Given as goal

abbrev pub invariant-loop-term : goal.invariant-loop-term
invariant-loop-term l = l.level ≡ of_terms (terms_of (take l.term-index l.items))
