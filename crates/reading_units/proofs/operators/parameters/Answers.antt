use Rattle.std.proofs.Common.{◌≡◌, ◌+◌, Some, drop, rules, ◌∙◌}
use Rattle.std.specs.Result.{IfErr}
use Rattle.reading_expressions.specs.Refused.{IsRefusedAt}
use Rattle.reading_units.specs.Parts.{Part, MarkText}
use Rattle.reading_units.specs.Reads.{RefusedIn, NeverDeep}
use Rattle.reading_units.specs.Refusals.{Begins}
use Rattle.reading_units.specs.Rests.{◌▹◌, Marked, Places, Closing, Parameters, OperatorsLeft}
use Rattle.reading_units.specs.declared.marks.Mark.TheVariants as marks
use Rattle.reading_units.proofs.OfficialBack.{places_from}
use Rattle.reading_units.proofs.OperatorsRead.{parameters_far, places_refused, close_refused, no_parameters_far}
use Rattle.reading_units.proofs.Parts.{some_places}
use Rattle.reading_units.proofs.RestSteps.{at_some, err_mapped}
use Rattle.reading_units.proofs.operators.parameters.Goals as goal

pub returns-in_err-count-clause-refused : goal.returns-in_err-count-clause-refused
returns-in_err-count-clause-refused c =
    let m : c.mark_at.result ≡ Some marks.OpenParenthesis = search rules in
    let opens : Marked marks.OpenParenthesis (drop c.args.from c.args.laid.now) (drop (c.args.from + 1) c.args.laid.now) = at_some (λ m. Marked m (drop c.args.from c.args.laid.now) (drop (c.args.from + 1) c.args.laid.now)) c.mark_at.result marks.OpenParenthesis m c.mark_at.ensures.token in
    let q : IfErr c.from_residual.result (λ e. RefusedIn (Places ▹ Closing) NeverDeep (Begins Places) (drop (c.args.from + 1) c.args.laid.now) e) = search rules in
    err_mapped c.from_residual.result (λ e. RefusedIn (Places ▹ Closing) NeverDeep (Begins Places) (drop (c.args.from + 1) c.args.laid.now) e) (λ e. RefusedIn (Parameters ▹ OperatorsLeft) NeverDeep (Begins Parameters) (drop c.args.from c.args.laid.now) e) q
    (λ e h. places_refused (drop c.args.from c.args.laid.now) (drop (c.args.from + 1) c.args.laid.now) e opens h)

pub returns-in_err-behind-clause-refused : goal.returns-in_err-behind-clause-refused
returns-in_err-behind-clause-refused c =
    let m : c.mark_at.result ≡ Some marks.OpenParenthesis = search rules in
    let opens : Marked marks.OpenParenthesis (drop c.args.from c.args.laid.now) (drop (c.args.from + 1) c.args.laid.now) = at_some (λ m. Marked m (drop c.args.from c.args.laid.now) (drop (c.args.from + 1) c.args.laid.now)) c.mark_at.result marks.OpenParenthesis m c.mark_at.ensures.token in
    let q : IfErr c.from_residual-in_err-behind.result (λ e. IsRefusedAt (drop c.in_ok-count.next c.args.laid.now) e) = search rules in
    err_mapped c.from_residual-in_err-behind.result (λ e. IsRefusedAt (drop c.in_ok-count.next c.args.laid.now) e) (λ e. RefusedIn (Parameters ▹ OperatorsLeft) NeverDeep (Begins Parameters) (drop c.args.from c.args.laid.now) e) q
    (λ e h. close_refused (drop c.args.from c.args.laid.now) (drop (c.args.from + 1) c.args.laid.now) (drop c.in_ok-count.next c.args.laid.now) e opens (places_from c.in_ok-count.count (drop (c.args.from + 1) c.args.laid.now) (drop c.in_ok-count.next c.args.laid.now) c.in_ok-count.ensures.part.text) c.in_ok-count.ensures.far c.in_err-behind.ensures.lacks h)

pub returns-then-eq-clause-spelled : goal.returns-then-eq-clause-spelled
returns-then-eq-clause-spelled c =
    let m : c.mark_at.result ≡ Some marks.OpenParenthesis = search rules in
    some_places c.in_ok-count.count c.args.laid.now c.args.from (c.args.from + 1) c.in_ok-count.next c.in_ok-behind.behind (at_some (λ m. Part (MarkText m) c.args.laid.now c.args.from (c.args.from + 1)) c.mark_at.result marks.OpenParenthesis m c.mark_at.ensures.part) c.in_ok-count.ensures.part c.in_ok-behind.ensures.part

pub returns-then-eq-clause-far : goal.returns-then-eq-clause-far
returns-then-eq-clause-far c =
    let m : c.mark_at.result ≡ Some marks.OpenParenthesis = search rules in
    let opens : Marked marks.OpenParenthesis (drop c.args.from c.args.laid.now) (drop (c.args.from + 1) c.args.laid.now) = at_some (λ m. Marked m (drop c.args.from c.args.laid.now) (drop (c.args.from + 1) c.args.laid.now)) c.mark_at.result marks.OpenParenthesis m c.mark_at.ensures.token in
    parameters_far (drop c.args.from c.args.laid.now) (drop (c.args.from + 1) c.args.laid.now) (drop c.in_ok-count.next c.args.laid.now) (drop c.in_ok-behind.behind c.args.laid.now) opens c.in_ok-count.ensures.far c.in_ok-behind.ensures.token

pub returns-clause-far : goal.returns-clause-far
returns-clause-far c =
    let l : c.mark_at.result ≡ Some marks.OpenParenthesis → ⊥ = search rules in
    no_parameters_far (drop c.args.from c.args.laid.now) (λ q. l (c.mark_at.ensures.told ∙ q))
