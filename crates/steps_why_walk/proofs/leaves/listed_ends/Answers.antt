use Rattle.std.proofs.Common.{List, Ok, subst}
use Rattle.values_core.specs.Data.{Val}
use Rattle.steps_why_walk.specs.Ends.{IsMembers}
use Rattle.steps_why_walk.proofs.Keeping.{ok_then}
use Rattle.steps_why_walk.proofs.LeafRows.{list_refused}
use Rattle.steps_why_walk.proofs.leaves.listed_ends.Goals as goal

pub returns-in_ok-ends-in-Ok : goal.returns-in_ok-ends-in-Ok
returns-in_ok-ends-in-Ok c =
    let ns = c.in_ok-ends-in-Ok.ends.items in
    let given = subst (λ (vs : List Val). IsMembers c.args.room c.args.places.now c.args.number.0 vs ns) c.members.ensures c.in_ok-ends-in-Ok.ensures in
    ok_then c.or_no_member.result _ _ (λ x h. (Ok c.in-Ok.listed, c.in-Ok.ensures, (c.is_value.ensures, (ns, given, h)))) c.or_no_member.ensures

pub returns-in_ok-end-in-Err : goal.returns-in_ok-end-in-Err
returns-in_ok-end-in-Err c =
    ok_then c.one_end.result _ _ (λ x h. list_refused c.args.room c.args.number.0 c.args.set c.args.set_at c.args.at c.args.places.now c.in-Err.fault c.in_ok-end-in-Err.end x.items c.in-Err.ensures c.in_ok-end-in-Err.ensures h) c.one_end.ensures
