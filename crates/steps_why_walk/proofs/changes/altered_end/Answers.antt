use Rattle.std.proofs.Common.{refl, sym, subst, map}
use Rattle.values_core.specs.Data.{Val}
use Rattle.eval_meanings.specs.Unchanged.{changed_of}
use Rattle.actions_rows.specs.Rows.{before, setting}
use Rattle.steps_why_branches.specs.declared.why.Ended.{Ended}
use Rattle.steps_why_branches.specs.declared.why.Ended.TheVariants.{Ends}
use Rattle.steps_why_walk.specs.Walking.{EndAltered, EndReads}
use Rattle.steps_why_walk.proofs.Keeping.{ok_then}
use Rattle.steps_why_walk.proofs.changes.altered_end.Goals as goal
use denote.Ref.{Bor}

abbrev value : Bor Val → Val
value x = x.now

pub changed_end-requires : goal.changed_end-requires
changed_end-requires c =
    let s = c.args.stage in
    let g = setting c.args.stage in
    let vs = map value c.args.slots.now in
    let ctx = before c.args.stage (map value c.args.slots.now) in
    let d = c.args.depth in
    let ch = changed_of c.args.at c.args.term.now in
    subst (λ (m : Ended). EndReads g d ctx ch m) c.in-Passed.is c.requires

pub returns-in-Passed : goal.returns-in-Passed
returns-in-Passed c =
    let s = c.args.stage in
    let g = setting c.args.stage in
    let vs = map value c.args.slots.now in
    let ctx = before c.args.stage (map value c.args.slots.now) in
    let d = c.args.depth in
    let ch = changed_of c.args.at c.args.term.now in
    ok_then c.changed_end.result _ _ (λ n h. subst (λ (m : Ended). EndAltered g d ctx ch m n) (sym c.in-Passed.is) h) c.changed_end.ensures

pub returns-in-Ends : goal.returns-in-Ends
returns-in-Ends c =
    let s = c.args.stage in
    let g = setting c.args.stage in
    let vs = map value c.args.slots.now in
    let ctx = before c.args.stage (map value c.args.slots.now) in
    let d = c.args.depth in
    let ch = changed_of c.args.at c.args.term.now in
    subst (λ (m : Ended). EndAltered g d ctx ch m (Ends c.in-Ends.why)) (sym c.in-Ends.is) refl
