use Rattle.std.proofs.Common.{◌≤◌, ◌+◌, arith, rules, ◌∙◌, ap}
use Rattle.names_terms.specs.Terms.{Placed}
use Rattle.std.specs.Prelude.{Some, None}
use Rattle.names_terms.specs.TermViews.{node_view}
use Rattle.names_term_parts.specs.Weights.{weight, in_terms}
use Rattle.actions_early_reads.specs.Weight.{weights}
use Rattle.actions_early_reads.specs.Opened.{TellsItems, TellsStays}
use Rattle.actions_early_reads.specs.Ready.{table_of}
use Rattle.actions_early_reads.specs.Sets.{shown}
use Rattle.actions_early_reads.proofs.Found.{if-ok}
use Rattle.actions_early_reads.proofs.Staying.{item-weight, items-begin, items-next, items-stop, tuple-lighter, stays-tuple, stays-other}
use Rattle.actions_early_reads.proofs.walking.Walk.+stays.Goals as goal

pub stays-stays_all-requires : goal.stays-stays_all-requires
stays-stays_all-requires t c =
    let lighter : in_terms c.in-Tuple.terms.now + 1 + weights (table_of c.args.self.now) c.behind-number.result.0 ≤ weight c.args.term.now + weights (table_of c.args.self.now) c.args.bound =
    tuple-lighter (table_of c.args.self.now) c.args.bound c.args.term.now c.behind-number.result.1.now c.behind-number.result.0 c.found.inside.at c.found.inside.level (node_view c.deref.result.now) (ap (λ n. Placed c.found.inside.at c.found.inside.level (node_view n)) c.deref.ensures ∙ c.found.view_is) c.in-Tuple.terms.now c.in-Tuple.ensures c.behind-number.ensures.lighter in
    (omega (arith, c.decreases), tt)

pub stays-returns-in-Tuple : goal.stays-returns-in-Tuple
stays-returns-in-Tuple t c =
    if-ok c.stays_all.result (λ o. TellsItems c.args.self.now c.behind-number.result.0 (shown c.args.before) c.args.at c.in-Tuple.terms.now o) (λ o. TellsStays c.args.self.now c.args.bound (shown c.args.before) c.args.at c.args.term.now o)
    (λ o h. stays-tuple c.args.self.now c.args.bound (shown c.args.before) c.args.at c.args.term.now c.behind-number.result.1.now c.behind-number.result.0 c.found.inside.at c.found.inside.level (node_view c.deref.result.now) (ap (λ n. Placed c.found.inside.at c.found.inside.level (node_view n)) c.deref.ensures ∙ c.found.view_is) c.behind-number.ensures.same c.in-Tuple.terms.now o c.in-Tuple.ensures h) c.stays_all.ensures

pub stays-returns-in_ok-variable-in-Other : goal.stays-returns-in_ok-variable-in-Other
stays-returns-in_ok-variable-in-Other t c =
    stays-other c.args.self.now c.args.bound (shown c.args.before) c.args.at c.args.term.now c.behind-number.result.1.now c.behind-number.result.0 c.found.inside.at c.found.inside.level (node_view c.deref.result.now) (ap (λ n. Placed c.found.inside.at c.found.inside.level (node_view n)) c.deref.ensures ∙ c.found.view_is) c.behind-number.ensures.same c.in_ok-variable-in-Other.variable c.too_early-in-Other.result c.in-Other.ensures (c.in_ok-variable-in-Other.ensures c.args.bound) c.too_early-in-Other.ensures

pub stays_all-loop-item-init : goal.stays_all-loop-item-init
stays_all-loop-item-init t c = items-begin c.args.self.now c.args.bound (shown c.args.before) c.args.at c.args.terms.now c.items-items.result.now c.items-items.ensures

pub stays_all-stays-requires : goal.stays_all-stays-requires
stays_all-stays-requires t c =
    let lighter : weight c.item-item.result ≤ in_terms c.args.terms.now = item-weight c.items-items.result.now c.args.terms.now c.loop-item.item-index c.item-item.result c.items-items.ensures c.loop-item-test.true c.item-item.is in
    (omega (arith, c.decreases), tt)

pub stays_all-returns-in-Ok-Some : goal.stays_all-returns-in-Ok-Some
stays_all-returns-in-Ok-Some t c =
    let tells : TellsStays c.args.self.now c.args.bound (shown c.args.before) c.args.at c.item-item.result (Some c.in-Ok-Some.fault) = search rules in
    items-stop c.args.self.now c.args.bound (shown c.args.before) c.args.at c.args.terms.now c.items-items.result.now c.loop-item.item-index c.item-item.result c.in-Ok-Some.fault c.items-items.ensures c.loop-item-test.true c.item-item.is tells c.loop-item.invariant

pub stays_all-loop-item-preserved : goal.stays_all-loop-item-preserved
stays_all-loop-item-preserved t c =
    let tells : TellsStays c.args.self.now c.args.bound (shown c.args.before) c.args.at c.item-item.result None = search rules in
    items-next c.args.self.now c.args.bound (shown c.args.before) c.args.at c.args.terms.now c.items-items.result.now c.loop-item.item-index c.item-item.result c.items-items.ensures c.loop-item-test.true c.item-item.is tells c.loop-item.invariant
