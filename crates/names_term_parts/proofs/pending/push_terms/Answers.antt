use Rattle.std.proofs.Common.{[], ◌∷◌, take}
use Rattle.names_terms.specs.TermViews.{terms_of}
use Rattle.names_term_parts.specs.Parts.{listed, part, parts_of}
use Rattle.names_term_parts.specs.Waiting.{waiting}
use Rattle.names_term_parts.proofs.Lists.{stacked, terms_more}
use Rattle.names_term_parts.proofs.pending.push_terms.Goals as goal

pub loop-term-preserved : goal.loop-term-preserved
loop-term-preserved c =
    let items = c.items-items.result.now in
    stacked (waiting c.loop-term.stack.items) (waiting c.push.new.stack.items) (waiting c.args.stack.now.items) (parts_of c.args.primed (listed (terms_of (take c.loop-term.term-index items)))) (part c.args.primed c.term-item.result ∷ []) _ c.in_ok-push.ensures c.loop-term.invariant (terms_more c.args.primed items c.loop-term.term-index c.term-item.result c.loop-term-test.true c.term-item.is)
