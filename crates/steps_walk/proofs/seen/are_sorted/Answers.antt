use Rattle.std.proofs.Common.{◌≤◌, ◌<◌, List, length, subst, arith}
use Rattle.std.specs.List.Sorted.{IsNonDecreasingBy}
use Rattle.std.proofs.lemmas.List.{take_all}
use Rattle.logs_updates.specs.declared.update.See.{See}
use Rattle.steps_walk.proofs.Seeing.{below_on, of_see, sorted_on}
use Rattle.steps_walk.proofs.seen.are_sorted.Goals as goal

pub loop-see-preserved : goal.loop-see-preserved
loop-see-preserved c =
    let xs = c.args.sees.now in
    let i = c.loop-see.see-index in
    let see = c.see-item.result in
    let new = c.variable_of-variable.result in
    let inside : c.loop-see.see-index < length c.args.sees.now = omega arith in
    let up : c.loop-see.least ≤ c.variable_of-variable.result = omega (arith, c.if-variable-least.false) in
    let below = c.loop-see.invariant.below in
    record {
      sorted = sorted_on xs i see c.loop-see.least new inside c.see-item.is up c.variable_of-variable.ensures below c.loop-see.invariant.sorted;
      below = below_on xs i see c.loop-see.least new inside c.see-item.is up c.variable_of-variable.ensures below;
    }

pub returns : goal.returns
returns c =
    let passed : length c.args.sees.now ≤ c.loop-see.see-index = omega arith in
    λ t. subst (λ (us : List See). IsNonDecreasingBy of_see us) (take_all c.loop-see.see-index c.args.sees.now passed) c.loop-see.invariant.sorted
