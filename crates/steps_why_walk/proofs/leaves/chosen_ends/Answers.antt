use Rattle.std.proofs.Common.{None, inl, inr, map, subst}
use Rattle.base_core.specs.declared.place.Place.{Place}
use Rattle.values_core.specs.Data.{Val}
use Rattle.actions_rows.specs.Rows.{part_term}
use Rattle.steps_why_walk.specs.Ends.{IsListedEnds, fail_end}
use denote.Ref.{Bor}
use Rattle.values_sets.specs.Membership.{Belongs}
use Rattle.steps_why_branches.specs.declared.why.WhyKind.TheVariants as why
use Rattle.steps_why_walk.proofs.Keeping.{ok_then}
use Rattle.steps_why_walk.proofs.LeafRows.{end_by_test}
use Rattle.steps_why_walk.proofs.leaves.chosen_ends.Goals as goal

abbrev value : Bor Val → Val
value x = x.now

pub returns-in_ok-end-in-Some : goal.returns-in_ok-end-in-Some
returns-in_ok-end-in-Some c =
    let known = c.in-Some.known.now in
    let vs = map value c.args.slots.now in
    let failing = fail_end c.args.sparing c.args.places vs (part_term c.args.part) (why.NotIn c.args.number) None in
    ok_then c.one_end.result _ _ (λ x h. inl (
      known,
      c.in-Some.ensures,
      (c.in_ok-end-in-Some.end, end_by_test (Belongs c.args.set known) c.args.places failing c.in_ok-end-in-Some.end c.member-belongs.result c.member-belongs.ensures c.in_ok-end-in-Some.ensures, h),
    )) c.one_end.ensures

pub returns-in-None : goal.returns-in-None
returns-in-None c = ok_then c.listed_ends.result _ _ (λ x h. inr (
  c.in-None.ensures,
  subst (λ (at : Place). IsListedEnds c.args.room c.args.number.0 c.args.set c.args.set_at at c.args.places x.items) c.part_place.ensures h,
)) c.listed_ends.ensures
