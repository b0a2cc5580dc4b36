use Rattle.std.proofs.Common.{◌≡◌, true, false, drop, rules}
use Rattle.std.specs.Result.{IfErr}
use Rattle.reading_trees.specs.Begun.{Begun}
use Rattle.reading_trees.specs.Grammar.{name}
use Rattle.reading_trees.specs.Modules.{IsNoneOf}
use Rattle.reading_machine.specs.Beginnings.{FittingBegun}
use Rattle.reading_expressions.specs.Nesting.{Shallow}
use Rattle.reading_expressions.specs.Refused.{IsRefusedAt}
use Rattle.reading_expressions.specs.Refusals.{IsRefused}
use Rattle.reading_expressions.specs.Unended.{EndedText, IsUnended}
use Rattle.reading_units.specs.Reads.{Misses}
use Rattle.reading_units.specs.Rests.{names_of}
use Rattle.reading_units.specs.declared.marks.Mark.TheVariants as marks
use Rattle.reading_units.proofs.GivensRead.{RefusedGiven, arrow_refused, by_refused, given_far, giving_text, missed_refused, old_name, old_refused}
use Rattle.reading_units.proofs.NewNames.{told_new, told_old}
use Rattle.reading_units.proofs.RestSteps.{err_mapped}
use Rattle.reading_units.proofs.ShallowGivens.{given_shallow}
use Rattle.reading_units.proofs.UnitsRead.{Laws, err_both}
use Rattle.reading_units.proofs.instances.given.Goals as goal

pub returns-in_err-name-clause-refused : goal.returns-in_err-name-clause-refused
returns-in_err-name-clause-refused c =
    let q : IfErr c.from_residual.result (λ e. Misses marks.Name (drop c.args.from c.args.laid.now) e) = search rules in
    err_mapped c.from_residual.result (λ e. Misses marks.Name (drop c.args.from c.args.laid.now) e) (λ e. RefusedGiven (names_of c.args.before.now) (drop c.args.from c.args.laid.now) e) q (missed_refused (names_of c.args.before.now) (drop c.args.from c.args.laid.now))

pub returns-then-not-is_new-clause-refused : goal.returns-then-not-is_new-clause-refused
returns-then-not-is_new-clause-refused c =
    let q : c.is_new.result ≡ false = search rules in
    let there : name c.in_ok-name.name.name (drop c.args.from c.args.laid.now) (drop c.in_ok-name.next c.args.laid.now) = (_, c.in_ok-name.ensures.part.text) in
    old_refused (names_of c.args.before.now) (drop c.args.from c.args.laid.now) c.fault_at.result
    (old_name (names_of c.args.before.now) c.in_ok-name.name.name (drop c.args.from c.args.laid.now) (drop c.in_ok-name.next c.args.laid.now) there (told_old c.is_new.result c.items.result.now c.args.before.now c.in_ok-name.name.name c.is_new.ensures c.items.ensures q)) c.fault_at.ensures

pub returns-in_err-start-clause-refused : goal.returns-in_err-start-clause-refused
returns-in_err-start-clause-refused c =
    let b : c.is_new.result ≡ true = search rules in
    let new : IsNoneOf (names_of c.args.before.now) c.in_ok-name.name.name = told_new c.is_new.result c.items.result.now c.args.before.now c.in_ok-name.name.name c.is_new.ensures c.items.ensures b in
    let there : name c.in_ok-name.name.name (drop c.args.from c.args.laid.now) (drop c.in_ok-name.next c.args.laid.now) = (_, c.in_ok-name.ensures.part.text) in
    let q : IfErr c.from_residual-in_err-start.result (λ e. IsRefusedAt (drop c.in_ok-name.next c.args.laid.now) e) = search rules in
    err_mapped c.from_residual-in_err-start.result (λ e. IsRefusedAt (drop c.in_ok-name.next c.args.laid.now) e) (λ e. RefusedGiven (names_of c.args.before.now) (drop c.args.from c.args.laid.now) e) q
    (λ e h. arrow_refused (names_of c.args.before.now) c.in_ok-name.name.name (drop c.args.from c.args.laid.now) (drop c.in_ok-name.next c.args.laid.now) e new there c.in_err-start.ensures.lacks h)

pub returns-in_err-by-clause-refused : goal.returns-in_err-by-clause-refused
returns-in_err-by-clause-refused c =
    let laws : Laws = record { local = c.laws_of_extents.ensures.local; none_follows = c.laws_of_extents.ensures.none; no_mark = c.laws_of_extents.ensures.marks; ends_there = c.laws_of_refusals.ensures.ends_there } in
    let b : c.is_new.result ≡ true = search rules in
    let new : IsNoneOf (names_of c.args.before.now) c.in_ok-name.name.name = told_new c.is_new.result c.items.result.now c.args.before.now c.in_ok-name.name.name c.is_new.ensures c.items.ensures b in
    let there : name c.in_ok-name.name.name (drop c.args.from c.args.laid.now) (drop c.in_ok-name.next c.args.laid.now) = (_, c.in_ok-name.ensures.part.text) in
    let r : IfErr c.from_residual-in_err-by.result (λ e. IsRefused Begun FittingBegun Shallow (drop c.in_ok-start.start c.args.laid.now) e) = search rules in
    let u : IfErr c.from_residual-in_err-by.result (λ e. IsUnended EndedText (drop c.in_ok-start.start c.args.laid.now) e) = search rules in
    err_mapped c.from_residual-in_err-by.result (λ e. IsRefused Begun FittingBegun Shallow (drop c.in_ok-start.start c.args.laid.now) e × IsUnended EndedText (drop c.in_ok-start.start c.args.laid.now) e) (λ e. RefusedGiven (names_of c.args.before.now) (drop c.args.from c.args.laid.now) e)
    (err_both c.from_residual-in_err-by.result (λ e. IsRefused Begun FittingBegun Shallow (drop c.in_ok-start.start c.args.laid.now) e) (λ e. IsUnended EndedText (drop c.in_ok-start.start c.args.laid.now) e) r u)
    (λ e h. by_refused laws (names_of c.args.before.now) c.in_ok-name.name.name c.args.laid.now (drop c.args.from c.args.laid.now) (drop c.in_ok-name.next c.args.laid.now) c.in_ok-start.start e c.requires.ends c.in_ok-start.ensures.part.within new there c.in_ok-start.ensures.token h)

pub returns-clause-far : goal.returns-clause-far
returns-clause-far c =
    let laws : Laws = record { local = c.laws_of_extents.ensures.local; none_follows = c.laws_of_extents.ensures.none; no_mark = c.laws_of_extents.ensures.marks; ends_there = c.laws_of_refusals.ensures.ends_there } in
    let b : c.is_new.result ≡ true = search rules in
    let new : IsNoneOf (names_of c.args.before.now) c.in_ok-name.name.name = told_new c.is_new.result c.items.result.now c.args.before.now c.in_ok-name.name.name c.is_new.ensures c.items.ensures b in
    let there : name c.in_ok-name.name.name (drop c.args.from c.args.laid.now) (drop c.in_ok-name.next c.args.laid.now) = (_, c.in_ok-name.ensures.part.text) in
    given_far laws (names_of c.args.before.now) c.in_ok-name.name.name _ c.args.laid.now (drop c.args.from c.args.laid.now) (drop c.in_ok-name.next c.args.laid.now) c.in_ok-start.start c.in_ok-by.behind new there c.in_ok-start.ensures.token c.in_ok-by.ensures.spelled c.in_ok-by.ensures.far

pub returns-clause-shallow : goal.returns-clause-shallow
returns-clause-shallow c =
    let b : c.is_new.result ≡ true = search rules in
    let new : IsNoneOf (names_of c.args.before.now) c.in_ok-name.name.name = told_new c.is_new.result c.items.result.now c.args.before.now c.in_ok-name.name.name c.is_new.ensures c.items.ensures b in
    let there : name c.in_ok-name.name.name (drop c.args.from c.args.laid.now) (drop c.in_ok-name.next c.args.laid.now) = (_, c.in_ok-name.ensures.part.text) in
    given_shallow c.laws_of_extents.ensures.local (names_of c.args.before.now) c.in_ok-name.name.name _ c.args.laid.now (drop c.args.from c.args.laid.now) c.in_ok-start.start c.in_ok-by.behind
    (giving_text (names_of c.args.before.now) c.in_ok-name.name.name (drop c.args.from c.args.laid.now) (drop c.in_ok-name.next c.args.laid.now) (drop c.in_ok-start.start c.args.laid.now) new there c.in_ok-start.ensures.token) c.in_ok-by.ensures.spelled c.in_ok-by.ensures.far
