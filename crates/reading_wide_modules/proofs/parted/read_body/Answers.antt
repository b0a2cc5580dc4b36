use Rattle.std.proofs.Common.{sym, subst}
use Rattle.reading_trees.specs.Laid.{NoEnd}
use Rattle.reading_wide_modules.proofs.Bodies.{body_unparted}
use Rattle.reading_wide_modules.proofs.Ends.{no_end_drop, no_end_take}
use Rattle.reading_wide_modules.proofs.parted.read_body.Goals as goal

pub read_heading-requires : goal.read_heading-requires
read_heading-requires c = subst (λ v. NoEnd v) (sym c.split_at.ensures.front) (no_end_take c.in-Some.size c.args.body.now c.requires)

pub read_behind-requires-clause-heading : goal.read_behind-requires-clause-heading
read_behind-requires-clause-heading c = subst (λ v. NoEnd v) (sym c.split_at.ensures.front) (no_end_take c.in-Some.size c.args.body.now c.requires)

pub read_behind-requires-clause-body : goal.read_behind-requires-clause-body
read_behind-requires-clause-body c = subst (λ v. NoEnd v) (sym c.split_at.ensures.back) (no_end_drop c.in-Some.size c.args.body.now c.requires)

pub returns-in-Err-Refused : goal.returns-in-Err-Refused
returns-in-Err-Refused c =
    body_unparted c.one_parting.ensures.heading c.laws_of_laid.ensures.one c.laws_of_laid.ensures.never c.shallow_not_refused.ensures c.args.body.now
    c.split_at.result.0.now c.split_at.result.1.now c.args.equals c.first_place.result c.in-Some.size c.in-Err-Refused.field-0-0 c.split_at.ensures.front
    c.split_at.ensures.back c.first_place.ensures c.in-Some.ensures.heading (rw c.in-Err-Refused.field-0-is at c.in-Err-Refused.ensures.refused)
