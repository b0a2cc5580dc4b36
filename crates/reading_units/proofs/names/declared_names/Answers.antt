use Rattle.std.proofs.Common.{◌≡◌, ◌+◌, Some, drop, rules, ◌∙◌}
use Rattle.std.specs.Result.{IfErr}
use Rattle.reading_units.specs.Parts.{Part, MarkText}
use Rattle.reading_units.specs.Reads.{Misses, RefusedIn, NeverDeep}
use Rattle.reading_units.specs.Refusals.{Begins}
use Rattle.reading_units.specs.Rests.{◌▹◌, Marked, Listed, Tail}
use Rattle.reading_units.specs.declared.marks.Mark.TheVariants as marks
use Rattle.reading_units.proofs.NamesRead.{list_first, list_first_refused, list_more, list_more_refused, list_end}
use Rattle.reading_units.proofs.OfficialBack.{declared_from}
use Rattle.reading_units.proofs.Parts.{one_declared, one_more_declared}
use Rattle.reading_units.proofs.RestSteps.{at_some, err_mapped}
use Rattle.reading_units.proofs.names.declared_names.Goals as goal

pub returns-in_err-first-clause-refused : goal.returns-in_err-first-clause-refused
returns-in_err-first-clause-refused c =
    let q : IfErr c.from_residual.result (λ e. Misses marks.Name (drop c.args.from c.args.laid.now) e) = search rules in
    err_mapped c.from_residual.result (λ e. Misses marks.Name (drop c.args.from c.args.laid.now) e) (λ e. RefusedIn (Listed ▹ Tail) NeverDeep (Begins Listed) (drop c.args.from c.args.laid.now) e) q (list_first_refused (drop c.args.from c.args.laid.now))

pub loop-names-init : goal.loop-names-init
loop-names-init c = record {
  part = one_declared c.in_ok-first.first c.push.new.self c.args.laid.now c.args.from c.in_ok-first.next c.in_ok-first.ensures.part (search rules);
  far = list_first (drop c.args.from c.args.laid.now) (drop c.in_ok-first.next c.args.laid.now) c.in_ok-first.ensures.token;
}

pub returns-in_err-name-clause-refused : goal.returns-in_err-name-clause-refused
returns-in_err-name-clause-refused c =
    let m : c.mark_at.result ≡ Some marks.Comma = search rules in
    let comma : Marked marks.Comma (drop c.loop-names.next c.args.laid.now) (drop (c.loop-names.next + 1) c.args.laid.now) = at_some (λ m. Marked m (drop c.loop-names.next c.args.laid.now) (drop (c.loop-names.next + 1) c.args.laid.now)) c.mark_at.result marks.Comma m c.mark_at.ensures.token in
    let q : IfErr c.from_residual-in_err-name.result (λ e. Misses marks.Name (drop (c.loop-names.next + 1) c.args.laid.now) e) = search rules in
    err_mapped c.from_residual-in_err-name.result (λ e. Misses marks.Name (drop (c.loop-names.next + 1) c.args.laid.now) e) (λ e. RefusedIn (Listed ▹ Tail) NeverDeep (Begins Listed) (drop c.args.from c.args.laid.now) e) q (λ e h. list_more_refused (drop c.args.from c.args.laid.now) (drop c.loop-names.next c.args.laid.now) (drop (c.loop-names.next + 1) c.args.laid.now) e (declared_from c.loop-names.names (drop c.args.from c.args.laid.now) (drop c.loop-names.next c.args.laid.now) c.loop-names.invariant.part.text) c.loop-names.invariant.far comma h)

pub loop-names-preserved : goal.loop-names-preserved
loop-names-preserved c =
    let m : c.mark_at.result ≡ Some marks.Comma = search rules in
    record {
      part = one_more_declared c.loop-names.names c.push-in-loop-names.new.self c.in_ok-name.name c.args.laid.now c.args.from c.loop-names.next c.in_ok-name.behind c.loop-names.invariant.part (at_some (λ m. Part (MarkText m) c.args.laid.now c.loop-names.next (c.loop-names.next + 1)) c.mark_at.result marks.Comma m c.mark_at.ensures.part) c.in_ok-name.ensures.part c.in_ok-push-2.ensures.pushed;
      far = list_more (drop c.args.from c.args.laid.now) (drop c.loop-names.next c.args.laid.now) (drop (c.loop-names.next + 1) c.args.laid.now) (drop c.in_ok-name.behind c.args.laid.now) c.loop-names.invariant.far (at_some (λ m. Marked m (drop c.loop-names.next c.args.laid.now) (drop (c.loop-names.next + 1) c.args.laid.now)) c.mark_at.result marks.Comma m c.mark_at.ensures.token) c.in_ok-name.ensures.token;
    }

pub returns-clause-far : goal.returns-clause-far
returns-clause-far c =
    let l : c.mark_at.result ≡ Some marks.Comma → ⊥ = search rules in
    list_end (drop c.args.from c.args.laid.now) (drop c.loop-names.next c.args.laid.now) c.loop-names.invariant.far (λ q. l (c.mark_at.ensures.told ∙ q))
