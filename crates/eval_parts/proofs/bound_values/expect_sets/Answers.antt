use Rattle.std.proofs.Common.{◌≡◌, ◌<◌, ◌≤◌, ◌+◌, ℕ, List, length, map, take, subst, arith}
use Rattle.std.proofs.lemmas.List.{length-map}
use Rattle.values_core.specs.Data.{Val}
use Rattle.eval_parts.specs.BoundSets.{HasMembers, bound_members, bound_value}
use Rattle.eval_parts.proofs.BoundLemmas.{all_taken, has_members, no_members, taken_more}
use Rattle.eval_parts.proofs.Loops.{EachSoFar, cut_at, cut_mapped, each_ends, each_goes_on, each_stops}
use Rattle.eval_parts.proofs.bound_values.expect_sets.Goals as goal

pub returns-in-Err-clause-fault : goal.returns-in-Err-clause-fault
returns-in-Err-clause-fault c =
    let sets = c.args.sets.now in
    let i = c.loop-set.set-index in
    let below : c.loop-set.set-index < length c.args.sets.now = omega arith in
    let cut = cut_mapped bound_value sets i c.set-item.result (cut_at sets i c.set-item.result below c.set-item.is) in
    each_stops HasMembers (map bound_value sets) i (bound_value c.set-item.result) (map bound_members (take i sets)) c.in-Err.fault cut (no_members c.set-item.result c.in-Err.fault c.in-Err.ensures) c.loop-set.invariant

pub loop-set-preserved : goal.loop-set-preserved
loop-set-preserved c =
    let sets = c.args.sets.now in
    let i = c.loop-set.set-index in
    let below : c.loop-set.set-index < length c.args.sets.now = omega arith in
    let cut = cut_mapped bound_value sets i c.set-item.result (cut_at sets i c.set-item.result below c.set-item.is) in
    subst (λ (ys : List (ℕ × List Val)). EachSoFar HasMembers (map bound_value sets) (i + 1) ys) (taken_more sets i c.set-item.result below c.set-item.is)
    (each_goes_on HasMembers (map bound_value sets) i (bound_value c.set-item.result) (map bound_members (take i sets)) (bound_members c.set-item.result) cut (has_members c.set-item.result c.in-Ok.ensures) c.loop-set.invariant)
