use Rattle.names_terms.specs.TermViews.{terms_of}
use Rattle.names_term_levels.specs.Shape.{rows}
use Rattle.names_resolving.proofs.Copied.{copied_end}
use Rattle.names_resolving.proofs.steps.copies.Goals as goal

pub returns : goal.returns
returns c = copied_end c.args.terms.now c.loop-term.term-index c.loop-term.copies (terms_of (rows c.args.terms.now)) c.loop-term-test.false c.loop-term.invariant
