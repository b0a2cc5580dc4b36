use Rattle.std.proofs.Common.{◌≡◌, ◌+◌, Some, drop, rules, ◌∙◌}
use Rattle.std.specs.Result.{IfErr}
use Rattle.reading_units.specs.Parts.{Part, MarkText}
use Rattle.reading_units.specs.Reads.{RefusedIn, NeverDeep}
use Rattle.reading_units.specs.Refusals.{Begins}
use Rattle.reading_units.specs.Rests.{◌▹◌, Marked, OneOperator, Operators, OperatorsLeft, Tail}
use Rattle.reading_units.specs.declared.marks.Mark.TheVariants as marks
use Rattle.reading_units.proofs.OfficialBack.{operators_from}
use Rattle.reading_units.proofs.OperatorsRead.{operators_first, operators_first_refused, operators_next, operators_next_refused, operators_end}
use Rattle.reading_units.proofs.Parts.{one_operator, one_more_operator}
use Rattle.reading_units.proofs.RestSteps.{at_some, err_mapped}
use Rattle.reading_units.proofs.operators.declared_operators.Goals as goal

pub returns-in_err-first-clause-refused : goal.returns-in_err-first-clause-refused
returns-in_err-first-clause-refused c =
    let q : IfErr c.from_residual.result (λ e. RefusedIn (OneOperator ▹ OperatorsLeft) NeverDeep (Begins OneOperator) (drop c.args.from c.args.laid.now) e) = search rules in
    err_mapped c.from_residual.result (λ e. RefusedIn (OneOperator ▹ OperatorsLeft) NeverDeep (Begins OneOperator) (drop c.args.from c.args.laid.now) e) (λ e. RefusedIn (Operators ▹ Tail) NeverDeep (Begins Operators) (drop c.args.from c.args.laid.now) e) q (operators_first_refused (drop c.args.from c.args.laid.now))

pub loop-operators-init : goal.loop-operators-init
loop-operators-init c = record {
  part = one_operator c.in_ok-first.first c.push.new.self c.args.laid.now c.args.from c.in_ok-first.next c.in_ok-first.ensures.part (search rules);
  far = operators_first (drop c.args.from c.args.laid.now) (drop c.in_ok-first.next c.args.laid.now) c.in_ok-first.ensures.far;
}

pub returns-in_err-one-clause-refused : goal.returns-in_err-one-clause-refused
returns-in_err-one-clause-refused c =
    let m : c.mark_at.result ≡ Some marks.Comma = search rules in
    let comma : Marked marks.Comma (drop c.loop-operators.next c.args.laid.now) (drop (c.loop-operators.next + 1) c.args.laid.now) = at_some (λ m. Marked m (drop c.loop-operators.next c.args.laid.now) (drop (c.loop-operators.next + 1) c.args.laid.now)) c.mark_at.result marks.Comma m c.mark_at.ensures.token in
    let q : IfErr c.from_residual-in_err-one.result (λ e. RefusedIn (OneOperator ▹ OperatorsLeft) NeverDeep (Begins OneOperator) (drop (c.loop-operators.next + 1) c.args.laid.now) e) = search rules in
    err_mapped c.from_residual-in_err-one.result (λ e. RefusedIn (OneOperator ▹ OperatorsLeft) NeverDeep (Begins OneOperator) (drop (c.loop-operators.next + 1) c.args.laid.now) e) (λ e. RefusedIn (Operators ▹ Tail) NeverDeep (Begins Operators) (drop c.args.from c.args.laid.now) e) q
    (λ e h. operators_next_refused (drop c.args.from c.args.laid.now) (drop c.loop-operators.next c.args.laid.now) (drop (c.loop-operators.next + 1) c.args.laid.now) e (operators_from c.loop-operators.operators (drop c.args.from c.args.laid.now) (drop c.loop-operators.next c.args.laid.now) c.loop-operators.invariant.part.text) c.loop-operators.invariant.far comma h)

pub loop-operators-preserved : goal.loop-operators-preserved
loop-operators-preserved c =
    let m : c.mark_at.result ≡ Some marks.Comma = search rules in
    record {
      part = one_more_operator c.loop-operators.operators c.push-in-loop-operators.new.self c.in_ok-one.one c.args.laid.now c.args.from c.loop-operators.next c.in_ok-one.behind c.loop-operators.invariant.part (at_some (λ m. Part (MarkText m) c.args.laid.now c.loop-operators.next (c.loop-operators.next + 1)) c.mark_at.result marks.Comma m c.mark_at.ensures.part) c.in_ok-one.ensures.part c.in_ok-push-2.ensures.pushed;
      far = operators_next (drop c.args.from c.args.laid.now) (drop c.loop-operators.next c.args.laid.now) (drop (c.loop-operators.next + 1) c.args.laid.now) (drop c.in_ok-one.behind c.args.laid.now) c.loop-operators.invariant.far (at_some (λ m. Marked m (drop c.loop-operators.next c.args.laid.now) (drop (c.loop-operators.next + 1) c.args.laid.now)) c.mark_at.result marks.Comma m c.mark_at.ensures.token) c.in_ok-one.ensures.far;
    }

pub returns-clause-far : goal.returns-clause-far
returns-clause-far c =
    let l : c.mark_at.result ≡ Some marks.Comma → ⊥ = search rules in
    operators_end (drop c.args.from c.args.laid.now) (drop c.loop-operators.next c.args.laid.now) c.loop-operators.invariant.far (λ q. l (c.mark_at.ensures.told ∙ q))
