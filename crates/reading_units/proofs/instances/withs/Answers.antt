use Rattle.std.proofs.Common.{◌≡◌, ◌+◌, Some, drop, rules, ◌∙◌}
use Rattle.std.specs.Result.{IfErr}
use Rattle.reading_units.specs.Parts.{Part, MarkText}
use Rattle.reading_units.specs.Rests.{Marked, names_of}
use Rattle.reading_units.specs.declared.marks.Mark.TheVariants as marks
use Rattle.reading_units.proofs.Givens.{no_with}
use Rattle.reading_units.proofs.GivensRead.{RefusedGiven, RefusedWiths, first_far, first_given_refused, first_so_far, next_far, next_so_far, withs_end, withs_next_refused}
use Rattle.reading_units.proofs.Parts.{one_given, one_given_fits, one_more_given, one_more_given_fits}
use Rattle.reading_units.proofs.RestSteps.{at_some, err_mapped}
use Rattle.reading_units.proofs.instances.withs.Goals as goal

pub returns-then-ne-clause-far : goal.returns-then-ne-clause-far
returns-then-ne-clause-far c =
    let l : c.mark_at.result ≡ Some marks.With → ⊥ = search rules in
    no_with (drop c.args.from c.args.laid.now) (λ q. l (c.mark_at.ensures.told ∙ q))

pub returns-in_err-first-clause-refused : goal.returns-in_err-first-clause-refused
returns-in_err-first-clause-refused c =
    let m : c.mark_at.result ≡ Some marks.With = search rules in
    let word : Marked marks.With (drop c.args.from c.args.laid.now) (drop (c.args.from + 1) c.args.laid.now) = at_some (λ m. Marked m (drop c.args.from c.args.laid.now) (drop (c.args.from + 1) c.args.laid.now)) c.mark_at.result marks.With m c.mark_at.ensures.token in
    let q : IfErr c.from_residual.result (λ e. RefusedGiven (names_of c.new-withs.result) (drop (c.args.from + 1) c.args.laid.now) e) = search rules in
    err_mapped c.from_residual.result (λ e. RefusedGiven (names_of c.new-withs.result) (drop (c.args.from + 1) c.args.laid.now) e) (λ e. RefusedWiths (drop c.args.from c.args.laid.now) e) q
    (λ e h. first_given_refused c.new-withs.result (drop c.args.from c.args.laid.now) (drop (c.args.from + 1) c.args.laid.now) e c.new-withs.ensures word h)

pub loop-alloc-init : goal.loop-alloc-init
loop-alloc-init c =
    let m : c.mark_at.result ≡ Some marks.With = search rules in
    let word : Marked marks.With (drop c.args.from c.args.laid.now) (drop (c.args.from + 1) c.args.laid.now) = at_some (λ m. Marked m (drop c.args.from c.args.laid.now) (drop (c.args.from + 1) c.args.laid.now)) c.mark_at.result marks.With m c.mark_at.ensures.token in
    let here : Part (MarkText marks.With) c.args.laid.now c.args.from (c.args.from + 1) = at_some (λ m. Part (MarkText m) c.args.laid.now c.args.from (c.args.from + 1)) c.mark_at.result marks.With m c.mark_at.ensures.part in
    record {
      part = one_given c.new-withs.result c.push.new.self c.in_ok-first.first c.args.laid.now c.args.from c.in_ok-first.next c.new-withs.ensures here c.in_ok-first.ensures.part c.in_ok-push.ensures.pushed;
      fits = one_given_fits c.new-withs.result c.push.new.self c.in_ok-first.first c.new-withs.ensures c.in_ok-first.ensures.fits c.in_ok-push.ensures.pushed;
      far = first_far c.new-withs.result c.push.new.self c.in_ok-first.first (drop c.args.from c.args.laid.now) (drop (c.args.from + 1) c.args.laid.now) (drop c.in_ok-first.next c.args.laid.now) c.new-withs.ensures word c.in_ok-first.ensures.far c.in_ok-push.ensures.pushed;
      shallow = first_so_far c.new-withs.result c.push.new.self c.in_ok-first.first (drop c.args.from c.args.laid.now) (drop (c.args.from + 1) c.args.laid.now) (drop c.in_ok-first.next c.args.laid.now) c.new-withs.ensures word c.in_ok-first.ensures.shallow c.in_ok-push.ensures.pushed;
    }

pub returns-in_err-more-clause-refused : goal.returns-in_err-more-clause-refused
returns-in_err-more-clause-refused c =
    let m : c.mark_at-in-loop-alloc.result ≡ Some marks.Comma = search rules in
    let comma : Marked marks.Comma (drop c.loop-alloc.next c.args.laid.now) (drop (c.loop-alloc.next + 1) c.args.laid.now) = at_some (λ m. Marked m (drop c.loop-alloc.next c.args.laid.now) (drop (c.loop-alloc.next + 1) c.args.laid.now)) c.mark_at-in-loop-alloc.result marks.Comma m c.mark_at-in-loop-alloc.ensures.token in
    let q : IfErr c.from_residual-in_err-more.result (λ e. RefusedGiven (names_of c.loop-alloc.withs) (drop (c.loop-alloc.next + 1) c.args.laid.now) e) = search rules in
    err_mapped c.from_residual-in_err-more.result (λ e. RefusedGiven (names_of c.loop-alloc.withs) (drop (c.loop-alloc.next + 1) c.args.laid.now) e) (λ e. RefusedWiths (drop c.args.from c.args.laid.now) e) q
    (λ e h. withs_next_refused (names_of c.loop-alloc.withs) (drop c.args.from c.args.laid.now) (drop c.loop-alloc.next c.args.laid.now) (drop (c.loop-alloc.next + 1) c.args.laid.now) e c.loop-alloc.invariant.shallow c.loop-alloc.invariant.far comma h)

pub loop-alloc-preserved : goal.loop-alloc-preserved
loop-alloc-preserved c =
    let m : c.mark_at-in-loop-alloc.result ≡ Some marks.Comma = search rules in
    let comma : Marked marks.Comma (drop c.loop-alloc.next c.args.laid.now) (drop (c.loop-alloc.next + 1) c.args.laid.now) = at_some (λ m. Marked m (drop c.loop-alloc.next c.args.laid.now) (drop (c.loop-alloc.next + 1) c.args.laid.now)) c.mark_at-in-loop-alloc.result marks.Comma m c.mark_at-in-loop-alloc.ensures.token in
    let here : Part (MarkText marks.Comma) c.args.laid.now c.loop-alloc.next (c.loop-alloc.next + 1) = at_some (λ m. Part (MarkText m) c.args.laid.now c.loop-alloc.next (c.loop-alloc.next + 1)) c.mark_at-in-loop-alloc.result marks.Comma m c.mark_at-in-loop-alloc.ensures.part in
    record {
      part = one_more_given c.loop-alloc.withs c.push-in-loop-alloc.new.self c.in_ok-more.more c.args.laid.now c.args.from c.loop-alloc.next c.in_ok-more.behind c.loop-alloc.invariant.part c.loop-alloc.invariant.shallow here c.in_ok-more.ensures.part c.in_ok-push-2.ensures.pushed;
      fits = one_more_given_fits c.loop-alloc.withs c.push-in-loop-alloc.new.self c.in_ok-more.more c.loop-alloc.invariant.fits c.in_ok-more.ensures.fits c.in_ok-push-2.ensures.pushed;
      far = next_far c.loop-alloc.withs c.push-in-loop-alloc.new.self c.in_ok-more.more (drop c.args.from c.args.laid.now) (drop c.loop-alloc.next c.args.laid.now) (drop (c.loop-alloc.next + 1) c.args.laid.now) (drop c.in_ok-more.behind c.args.laid.now) c.loop-alloc.invariant.far comma c.in_ok-more.ensures.far c.in_ok-push-2.ensures.pushed;
      shallow = next_so_far c.loop-alloc.withs c.push-in-loop-alloc.new.self c.in_ok-more.more (drop c.args.from c.args.laid.now) (drop c.loop-alloc.next c.args.laid.now) (drop (c.loop-alloc.next + 1) c.args.laid.now) (drop c.in_ok-more.behind c.args.laid.now) c.loop-alloc.invariant.shallow comma c.in_ok-more.ensures.shallow c.in_ok-push-2.ensures.pushed;
    }

pub returns-clause-far : goal.returns-clause-far
returns-clause-far c =
    let l : c.mark_at-in-loop-alloc.result ≡ Some marks.Comma → ⊥ = search rules in
    withs_end (names_of c.loop-alloc.withs) (drop c.args.from c.args.laid.now) (drop c.loop-alloc.next c.args.laid.now) c.loop-alloc.invariant.far (λ q. l (c.mark_at-in-loop-alloc.ensures.told ∙ q))
