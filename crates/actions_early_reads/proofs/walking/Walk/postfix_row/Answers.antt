use Rattle.std.proofs.Common.{◌≡◌, ◌∙◌, ◌++◌, ◌∷◌, [], ◌+◌, ap, sym, List, map, drop, take, false}
use Rattle.std.specs.Prelude.{Some, None}
use Rattle.names_terms.specs.TermViews.{step_view, steps_of}
use Rattle.names_term_parts.specs.Parts.{Part, part}
use Rattle.names_term_parts.specs.Waiting.{waiting}
use Rattle.actions_meanings.specs.Reads.{step_terms}
use Rattle.actions_early_reads.specs.Opened.{TellsPrimed}
use Rattle.actions_early_reads.specs.Sets.{shown}
use Rattle.actions_early_reads.proofs.Following.{items_terms}
use Rattle.names_terms.specs.declared.term.StepAt.{StepAt}
use Rattle.actions_early_reads.proofs.Last.{rest-whole}
use Rattle.actions_early_reads.proofs.Behind.{postfix-last, postfix-primed, postfix-behind, postfix-plain}
use Rattle.actions_early_reads.proofs.walking.Walk.postfix_row.Goals as goal

pub returns-then-is_prime : goal.returns-then-is_prime
returns-then-is_prime c bound at =
    postfix-last c.args.self.now bound (shown c.args.before) at c.args.base.now c.items-items.result.now (step_view c.args.last.now) c.args.found (waiting c.args.stack.now.items) c.args.steps.now c.in_ok-fault.fault c.or_else.result c.items-items.ensures (sym c.is_prime.ensures ∙ c.if-is_prime.true) (c.in_ok-fault.ensures bound) c.or_else.ensures

pub returns-in-Some-fault : goal.returns-in-Some-fault
returns-in-Some-fault c bound at =
    let tells : TellsPrimed c.args.self.now bound (shown c.args.before) c.args.base.now (steps_of (take c.in-Some.index c.items-items.result.now)) (Some c.in-Some-fault.early) = rw c.in-Some-fault.is at (c.in_ok-fault-in-Some.ensures bound) in
    postfix-primed c.args.self.now bound (shown c.args.before) at c.args.base.now c.items-items.result.now (step_view c.args.last.now) c.args.found (waiting c.args.stack.now.items) c.args.steps.now c.in-Some.index c.in-Some-fault.early c.items-items.ensures (sym c.is_prime.ensures ∙ c.if-is_prime.false) c.in-Some.ensures tells

pub returns-in_ok-push_step-in-None : goal.returns-in_ok-push_step-in-None
returns-in_ok-push_step-in-None c bound at =
    let pushed : waiting c.push_step.new.stack.items ≡ ((waiting c.args.stack.now.items ++ part false c.args.base.now ∷ []) ++ map (part false) (items_terms c.items-items.result.now)) ++ map (part false) (step_terms (step_view c.args.last.now)) =
    c.in_ok-push_step-in-None.ensures ∙ ap (λ (ps : List Part). ps ++ map (part false) (step_terms (step_view c.args.last.now))) (c.in_ok-push_path-in-None.ensures ∙ ap (λ (ps : List Part). ps ++ map (part false) (items_terms c.items-items.result.now)) c.in_ok-push-in-None.ensures) in
    postfix-plain c.args.self.now bound (shown c.args.before) at c.args.base.now c.items-items.result.now (step_view c.args.last.now) c.args.found (waiting c.args.stack.now.items) c.args.steps.now (waiting c.push_step.new.stack.items) c.items-items.ensures (sym c.is_prime.ensures ∙ c.if-is_prime.false) c.in-None.ensures pushed

pub returns-in_ok-push_step-in-Some : goal.returns-in_ok-push_step-in-Some
returns-in_ok-push_step-in-Some c bound at =
    let tells : TellsPrimed c.args.self.now bound (shown c.args.before) c.args.base.now (steps_of (take c.in-Some.index c.items-items.result.now)) None = rw c.in_default.is at (c.in_ok-fault-in-Some.ensures bound) in
    let path : waiting c.push_path-in-Some.new.stack.items ≡ waiting c.args.stack.now.items ++ map (part false) (items_terms (drop (c.in-Some.index + 1) c.items-items.result.now)) =
    c.in_ok-push_path-in-Some.ensures ∙ ap (λ (ys : List StepAt). waiting c.args.stack.now.items ++ map (part false) (items_terms ys)) (rest-whole c.items-items.result.now (c.in-Some.index + 1)) in
    let pushed : waiting c.push_step-in-Some.new.stack.items ≡ (waiting c.args.stack.now.items ++ map (part false) (items_terms (drop (c.in-Some.index + 1) c.items-items.result.now))) ++ map (part false) (step_terms (step_view c.args.last.now)) =
    c.in_ok-push_step-in-Some.ensures ∙ ap (λ (ps : List Part). ps ++ map (part false) (step_terms (step_view c.args.last.now))) path in
    postfix-behind c.args.self.now bound (shown c.args.before) at c.args.base.now c.items-items.result.now (step_view c.args.last.now) c.args.found (waiting c.args.stack.now.items) c.args.steps.now c.in-Some.index (waiting c.push_step-in-Some.new.stack.items) c.items-items.ensures (sym c.is_prime.ensures ∙ c.if-is_prime.false) c.in-Some.ensures tells pushed
