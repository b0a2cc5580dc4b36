use Rattle.std.proofs.Common.{◌≡◌, ◌+◌, Some, drop, rules, ◌∙◌}
use Rattle.std.specs.Result.{IfErr}
use Rattle.reading_units.specs.Reads.{RefusedIn, NeverDeep}
use Rattle.reading_units.specs.Refusals.{Begins}
use Rattle.reading_units.specs.Rests.{◌▹◌, Marked, Listed, Extended, Tail}
use Rattle.reading_units.specs.declared.marks.Mark.TheVariants as marks
use Rattle.reading_units.proofs.NamesRead.{some_extended_far, some_extended_refused, none_extended_far}
use Rattle.reading_units.proofs.RestSteps.{at_some, err_mapped}
use Rattle.reading_units.proofs.extends.extends.Goals as goal

pub returns-in_err-names-clause-refused : goal.returns-in_err-names-clause-refused
returns-in_err-names-clause-refused c =
    let m : c.mark_at.result ≡ Some marks.Extends = search rules in
    let word : Marked marks.Extends (drop c.args.from c.args.laid.now) (drop (c.args.from + 1) c.args.laid.now) = at_some (λ m. Marked m (drop c.args.from c.args.laid.now) (drop (c.args.from + 1) c.args.laid.now)) c.mark_at.result marks.Extends m c.mark_at.ensures.token in
    let q : IfErr c.from_residual.result (λ e. RefusedIn (Listed ▹ Tail) NeverDeep (Begins Listed) (drop (c.args.from + 1) c.args.laid.now) e) = search rules in
    err_mapped c.from_residual.result (λ e. RefusedIn (Listed ▹ Tail) NeverDeep (Begins Listed) (drop (c.args.from + 1) c.args.laid.now) e) (λ e. RefusedIn (Extended ▹ Tail) NeverDeep (Begins Extended) (drop c.args.from c.args.laid.now) e) q (λ e h. some_extended_refused (drop c.args.from c.args.laid.now) (drop (c.args.from + 1) c.args.laid.now) e word h)

pub returns-then-eq-clause-far : goal.returns-then-eq-clause-far
returns-then-eq-clause-far c =
    let m : c.mark_at.result ≡ Some marks.Extends = search rules in
    let word : Marked marks.Extends (drop c.args.from c.args.laid.now) (drop (c.args.from + 1) c.args.laid.now) = at_some (λ m. Marked m (drop c.args.from c.args.laid.now) (drop (c.args.from + 1) c.args.laid.now)) c.mark_at.result marks.Extends m c.mark_at.ensures.token in
    some_extended_far (drop c.args.from c.args.laid.now) (drop (c.args.from + 1) c.args.laid.now) (drop c.in_ok-names.next c.args.laid.now) word c.in_ok-names.ensures.far

pub returns-clause-far : goal.returns-clause-far
returns-clause-far c =
    let l : c.mark_at.result ≡ Some marks.Extends → ⊥ = search rules in
    none_extended_far (drop c.args.from c.args.laid.now) (λ q. l (c.mark_at.ensures.told ∙ q))
