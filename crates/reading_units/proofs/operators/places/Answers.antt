use Rattle.std.proofs.Common.{◌≡◌, ◌+◌, ◌<◌, Some, drop, refl, rules, ◌∙◌, arith}
use Rattle.std.specs.Result.{IfErr}
use Rattle.reading_expressions.specs.Refused.{IsRefusedAt}
use Rattle.reading_units.specs.Parts.{Part, MarkText}
use Rattle.reading_units.specs.Reads.{RefusedIn, NeverDeep}
use Rattle.reading_units.specs.Refusals.{Begins}
use Rattle.reading_units.specs.Rests.{◌▹◌, Marked, Places, Closing}
use Rattle.reading_units.specs.declared.marks.Mark.TheVariants as marks
use Rattle.reading_units.proofs.OfficialBack.{places_from}
use Rattle.reading_units.proofs.OperatorsRead.{places_first, places_first_refused, places_next, places_next_refused, places_end}
use Rattle.reading_units.proofs.Parts.{one_place, one_more_place}
use Rattle.reading_units.proofs.RestSteps.{at_some, err_mapped}
use Rattle.reading_units.proofs.operators.places.Goals as goal

pub returns-in_err-next-clause-refused : goal.returns-in_err-next-clause-refused
returns-in_err-next-clause-refused c =
    let q : IfErr c.from_residual.result (λ e. IsRefusedAt (drop c.args.from c.args.laid.now) e) = search rules in
    err_mapped c.from_residual.result (λ e. IsRefusedAt (drop c.args.from c.args.laid.now) e) (λ e. RefusedIn (Places ▹ Closing) NeverDeep (Begins Places) (drop c.args.from c.args.laid.now) e) q (λ e h. places_first_refused (drop c.args.from c.args.laid.now) e c.in_err-next.ensures.lacks h)

pub loop-next-init : goal.loop-next-init
loop-next-init c =
    let ahead : c.args.from < c.in_ok-next.next = c.in_ok-next.ensures.part.ahead in
    record {
      part = one_place 1 c.args.laid.now c.args.from c.in_ok-next.next c.in_ok-next.ensures.part refl;
      far = places_first (drop c.args.from c.args.laid.now) (drop c.in_ok-next.next c.args.laid.now) c.in_ok-next.ensures.token;
      few = omega (arith, ahead);
    }

pub returns-in_err-behind-clause-refused : goal.returns-in_err-behind-clause-refused
returns-in_err-behind-clause-refused c =
    let m : c.mark_at.result ≡ Some marks.Comma = search rules in
    let comma : Marked marks.Comma (drop c.loop-next.next c.args.laid.now) (drop (c.loop-next.next + 1) c.args.laid.now) = at_some (λ m. Marked m (drop c.loop-next.next c.args.laid.now) (drop (c.loop-next.next + 1) c.args.laid.now)) c.mark_at.result marks.Comma m c.mark_at.ensures.token in
    let q : IfErr c.from_residual-in_err-behind.result (λ e. IsRefusedAt (drop (c.loop-next.next + 1) c.args.laid.now) e) = search rules in
    err_mapped c.from_residual-in_err-behind.result (λ e. IsRefusedAt (drop (c.loop-next.next + 1) c.args.laid.now) e) (λ e. RefusedIn (Places ▹ Closing) NeverDeep (Begins Places) (drop c.args.from c.args.laid.now) e) q
    (λ e h. places_next_refused (drop c.args.from c.args.laid.now) (drop c.loop-next.next c.args.laid.now) (drop (c.loop-next.next + 1) c.args.laid.now) e (places_from c.loop-next.count (drop c.args.from c.args.laid.now) (drop c.loop-next.next c.args.laid.now) c.loop-next.invariant.part.text) c.loop-next.invariant.far comma c.in_err-behind.ensures.lacks h)

pub loop-next-preserved : goal.loop-next-preserved
loop-next-preserved c =
    let m : c.mark_at.result ≡ Some marks.Comma = search rules in
    let comma : Marked marks.Comma (drop c.loop-next.next c.args.laid.now) (drop (c.loop-next.next + 1) c.args.laid.now) = at_some (λ m. Marked m (drop c.loop-next.next c.args.laid.now) (drop (c.loop-next.next + 1) c.args.laid.now)) c.mark_at.result marks.Comma m c.mark_at.ensures.token in
    let ahead : c.loop-next.next + 1 < c.in_ok-behind.behind = c.in_ok-behind.ensures.part.ahead in
    record {
      part = one_more_place c.loop-next.count (c.loop-next.count + 1) c.args.laid.now c.args.from c.loop-next.next c.in_ok-behind.behind c.loop-next.invariant.part (at_some (λ m. Part (MarkText m) c.args.laid.now c.loop-next.next (c.loop-next.next + 1)) c.mark_at.result marks.Comma m c.mark_at.ensures.part) c.in_ok-behind.ensures.part refl;
      far = places_next (drop c.args.from c.args.laid.now) (drop c.loop-next.next c.args.laid.now) (drop (c.loop-next.next + 1) c.args.laid.now) (drop c.in_ok-behind.behind c.args.laid.now) c.loop-next.invariant.far comma c.in_ok-behind.ensures.token;
      few = omega (arith, c.loop-next.invariant.few, ahead);
    }

pub returns-clause-far : goal.returns-clause-far
returns-clause-far c =
    let l : c.mark_at.result ≡ Some marks.Comma → ⊥ = search rules in
    places_end (drop c.args.from c.args.laid.now) (drop c.loop-next.next c.args.laid.now) c.loop-next.invariant.far (λ q. l (c.mark_at.ensures.told ∙ q))
