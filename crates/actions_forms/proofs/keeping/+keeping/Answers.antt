use Rattle.std.proofs.Common.{◌≤◌, ◌+◌, ◌∙◌, Err, Ok, ap, arith, sym}
use Rattle.names_terms.specs.Terms.{Placed}
use Rattle.names_terms.specs.TermViews.{node_view}
use Rattle.names_term_parts.specs.Weights.{weight, in_terms}
use Rattle.actions_early_reads.specs.Weight.{weights}
use Rattle.actions_early_reads.specs.Ready.{table_of}
use Rattle.actions_early_reads.specs.Sets.{shown}
use Rattle.actions_early_reads.proofs.Heights.{weights-fall}
use Rattle.actions_early_reads.proofs.Staying.{item-weight, tuple-lighter}
use Rattle.actions_forms.proofs.Kept.{kept-variable, kept-tuple, kept-other, keeping-begin, keeping-next, keeping-stop, keeping-end}
use Rattle.actions_forms.proofs.Named.{named-tuple, noted-kept, stays-noted}
use Rattle.actions_forms.proofs.keeping.+keeping.Goals as goal

pub unchanged_in-unchanged_name-requires : goal.unchanged_in-unchanged_name-requires
unchanged_in-unchanged_name-requires t c =
    (omega (arith, c.decreases), (c.in-Some.ensures, c.requires.known))

pub unchanged_in-returns-in-Some-after-clause-says : goal.unchanged_in-returns-in-Some-after-clause-says
unchanged_in-returns-in-Some-after-clause-says t c =
    c.requires.known.each (record { number = c.in-Some.number; before = c.args.before; after = c.in-Some-after.set }) c.in-Some-after.ensures c.args.bound c.args.term.now c.in-Some.ensures

pub unchanged_name-unchanged_all-requires : goal.unchanged_name-unchanged_all-requires
unchanged_name-unchanged_all-requires t c =
    let falls : weight c.in-Some.operator.now.body + weights (table_of c.args.walk.now) c.args.number ≤ weights (table_of c.args.walk.now) c.args.bound = weights-fall (table_of c.args.walk.now) c.args.bound c.args.number c.in-Some.operator.now (sym c.in-Some.ensures.item) c.requires.named.within in
    let lighter : in_terms c.in-Tuple.terms.now + 1 + weights (table_of c.args.walk.now) c.args.number ≤ weight c.args.term.now + weights (table_of c.args.walk.now) c.args.bound =
    tuple-lighter (table_of c.args.walk.now) c.args.bound c.args.term.now c.in-Some.operator.now.body c.args.number c.found.inside.at c.found.inside.level (node_view c.deref.result.now) (ap (λ n. Placed c.found.inside.at c.found.inside.level (node_view n)) c.deref.ensures ∙ c.found.view_is) c.in-Tuple.terms.now c.in-Tuple.ensures (omega (arith, falls)) in
    (omega (arith, c.decreases), c.requires.known)

pub unchanged_name-returns-in-Variable-clause-says : goal.unchanged_name-returns-in-Variable-clause-says
unchanged_name-returns-in-Variable-clause-says t c =
    kept-variable c.args.walk.now c.args.bound (shown c.args.before) c.args.at c.args.term.now c.in-Some.operator.now.body c.args.number c.found.inside.at c.found.inside.level (node_view c.deref.result.now) (ap (λ n. Placed c.found.inside.at c.found.inside.level (node_view n)) c.deref.ensures ∙ c.found.view_is) (c.requires.named.body c.in-Some.operator.now (sym c.in-Some.ensures.item)) c.in-Variable.variable c.kept.result c.in-Variable.ensures c.kept.ensures

pub unchanged_name-returns-in-Ok-clause-says : goal.unchanged_name-returns-in-Ok-clause-says
unchanged_name-returns-in-Ok-clause-says t c =
    stays-noted c.args.walk.now c.args.bound (shown c.args.before) c.args.at c.args.term.now c.in-Ok.after c.noted.result (named-tuple c.args.walk.now (shown c.args.before) c.args.at c.args.number c.in-Some.operator.now c.found.inside.at c.found.inside.level (node_view c.deref.result.now) c.in-Tuple.terms.now (Ok c.in-Ok.after) (sym c.in-Some.ensures.item) (ap (λ n. Placed c.found.inside.at c.found.inside.level (node_view n)) c.deref.ensures ∙ c.found.view_is) c.in-Tuple.ensures c.in-Ok.ensures.says c.args.bound c.args.term.now c.requires.named) c.noted.ensures.given

pub unchanged_name-returns-in-Ok-clause-known : goal.unchanged_name-returns-in-Ok-clause-known
unchanged_name-returns-in-Ok-clause-known t c =
    noted-kept c.args.walk.now c.args.at c.args.number c.args.before c.in-Ok.after c.unchanged_all.new.endings c.noted.new.self c.noted.result c.noted.ensures.noted c.in-Ok.ensures.known (named-tuple c.args.walk.now (shown c.args.before) c.args.at c.args.number c.in-Some.operator.now c.found.inside.at c.found.inside.level (node_view c.deref.result.now) c.in-Tuple.terms.now (Ok c.in-Ok.after) (sym c.in-Some.ensures.item) (ap (λ n. Placed c.found.inside.at c.found.inside.level (node_view n)) c.deref.ensures ∙ c.found.view_is) c.in-Tuple.ensures c.in-Ok.ensures.says)

pub unchanged_name-returns-in-Err-clause-says : goal.unchanged_name-returns-in-Err-clause-says
unchanged_name-returns-in-Err-clause-says t c =
    named-tuple c.args.walk.now (shown c.args.before) c.args.at c.args.number c.in-Some.operator.now c.found.inside.at c.found.inside.level (node_view c.deref.result.now) c.in-Tuple.terms.now (Err c.in-Err.fault) (sym c.in-Some.ensures.item) (ap (λ n. Placed c.found.inside.at c.found.inside.level (node_view n)) c.deref.ensures ∙ c.found.view_is) c.in-Tuple.ensures c.in-Err.ensures.says c.args.bound c.args.term.now c.requires.named

pub unchanged_name-returns-in-Other-clause-says : goal.unchanged_name-returns-in-Other-clause-says
unchanged_name-returns-in-Other-clause-says t c =
    kept-other c.args.walk.now c.args.bound (shown c.args.before) c.args.at c.args.term.now c.in-Some.operator.now.body c.args.number c.found.inside.at c.found.inside.level (node_view c.deref.result.now) (ap (λ n. Placed c.found.inside.at c.found.inside.level (node_view n)) c.deref.ensures ∙ c.found.view_is) (c.requires.named.body c.in-Some.operator.now (sym c.in-Some.ensures.item)) c.still.result c.in-Other.ensures c.still.ensures

pub unchanged_term-unchanged_all-requires : goal.unchanged_term-unchanged_all-requires
unchanged_term-unchanged_all-requires t c =
    let lighter : in_terms c.in-Tuple.terms.now + 1 + weights (table_of c.args.walk.now) c.args.bound ≤ weight c.args.term.now + weights (table_of c.args.walk.now) c.args.bound =
    tuple-lighter (table_of c.args.walk.now) c.args.bound c.args.term.now c.args.term.now c.args.bound c.term.inside.at c.term.inside.level (node_view c.deref.result.now) (ap (λ n. Placed c.term.inside.at c.term.inside.level (node_view n)) c.deref.ensures ∙ c.term.view_is) c.in-Tuple.terms.now c.in-Tuple.ensures (omega arith) in
    (omega (arith, c.decreases), c.requires.known)

pub unchanged_term-returns-in-Variable-clause-says : goal.unchanged_term-returns-in-Variable-clause-says
unchanged_term-returns-in-Variable-clause-says t c =
    kept-variable c.args.walk.now c.args.bound (shown c.args.before) c.args.at c.args.term.now c.args.term.now c.args.bound c.term.inside.at c.term.inside.level (node_view c.deref.result.now) (ap (λ n. Placed c.term.inside.at c.term.inside.level (node_view n)) c.deref.ensures ∙ c.term.view_is) c.requires.alone c.in-Variable.variable c.kept.result c.in-Variable.ensures c.kept.ensures

pub unchanged_term-returns-in-Tuple-clause-says : goal.unchanged_term-returns-in-Tuple-clause-says
unchanged_term-returns-in-Tuple-clause-says t c =
    kept-tuple c.args.walk.now c.args.bound (shown c.args.before) c.args.at c.args.term.now c.args.term.now c.args.bound c.term.inside.at c.term.inside.level (node_view c.deref.result.now) (ap (λ n. Placed c.term.inside.at c.term.inside.level (node_view n)) c.deref.ensures ∙ c.term.view_is) c.requires.alone c.in-Tuple.terms.now c.unchanged_all.result c.in-Tuple.ensures c.unchanged_all.ensures.says

pub unchanged_term-returns-in-Other-clause-says : goal.unchanged_term-returns-in-Other-clause-says
unchanged_term-returns-in-Other-clause-says t c =
    kept-other c.args.walk.now c.args.bound (shown c.args.before) c.args.at c.args.term.now c.args.term.now c.args.bound c.term.inside.at c.term.inside.level (node_view c.deref.result.now) (ap (λ n. Placed c.term.inside.at c.term.inside.level (node_view n)) c.deref.ensures ∙ c.term.view_is) c.requires.alone c.still.result c.in-Other.ensures c.still.ensures

pub unchanged_all-loop-item-init : goal.unchanged_all-loop-item-init
unchanged_all-loop-item-init t c = (keeping-begin c.args.walk.now c.args.bound (shown c.args.before) c.args.at c.args.terms.now c.items-items.result.now c.items-items.ensures, c.requires.known)

pub unchanged_all-unchanged_in-requires : goal.unchanged_all-unchanged_in-requires
unchanged_all-unchanged_in-requires t c =
    let lighter : weight c.item-item.result ≤ in_terms c.args.terms.now = item-weight c.items-items.result.now c.args.terms.now c.loop-item.item-index c.item-item.result c.items-items.ensures c.loop-item-test.true c.item-item.is in
    (omega (arith, c.decreases), c.loop-item.invariant.1)

pub unchanged_all-loop-item-preserved : goal.unchanged_all-loop-item-preserved
unchanged_all-loop-item-preserved t c =
    (keeping-next c.args.walk.now c.args.bound (shown c.args.before) (shown c.loop-item.set) c.args.at c.args.terms.now c.items-items.result.now c.loop-item.item-index c.item-item.result c.items-items.ensures c.loop-item-test.true c.item-item.is c.loop-item.invariant.0 c.in-Ok.more c.in-Ok.ensures.says, c.in-Ok.ensures.known)

pub unchanged_all-returns-in-Err-clause-says : goal.unchanged_all-returns-in-Err-clause-says
unchanged_all-returns-in-Err-clause-says t c =
    keeping-stop c.args.walk.now c.args.bound (shown c.args.before) (shown c.loop-item.set) c.args.at c.args.terms.now c.items-items.result.now c.loop-item.item-index c.item-item.result c.items-items.ensures c.loop-item-test.true c.item-item.is c.loop-item.invariant.0 c.in-Err.fault c.in-Err.ensures.says

pub unchanged_all-returns-clause-says : goal.unchanged_all-returns-clause-says
unchanged_all-returns-clause-says t c =
    keeping-end c.args.walk.now c.args.bound (shown c.args.before) c.args.at c.args.terms.now c.items-items.result.now c.loop-item.item-index c.loop-item.set (omega (arith, c.loop-item-test.false)) c.loop-item.invariant.0
