use Rattle.std.proofs.Common.{ℕ, ◌+◌, ◌*◌, length, map, take}
use Rattle.std.specs.Prelude.{Ok}
use Rattle.eval_meanings.specs.Binders.{combinations}
use Rattle.judge_truth.specs.Pairs.{at, setting}
use Rattle.judge_truth.specs.Deciding.{AnyDecided, parts_at}
use Rattle.judge_truth.proofs.Choices.{chosen_of}
use Rattle.judge_truth.proofs.Conjunctions.{AllSoFar}
use Rattle.judge_truth.proofs.deciding.+decide.Given as goal

-- so much for each evaluation that there are no more lists of members than that
abbrev each_depth : ℕ
each_depth = 147573952589676412928

abbrev pub decreases-decide_part : goal.decreases-decide_part
decreases-decide_part l = each_depth * l.depth

abbrev pub decreases-decide_row : goal.decreases-decide_row
decreases-decide_row l = each_depth * l.depth + 147573952589676412927

abbrev pub decreases-decide_both : goal.decreases-decide_both
decreases-decide_both l = each_depth * l.depth + 147573952589676412926

abbrev pub decreases-decide_unchanged : goal.decreases-decide_unchanged
decreases-decide_unchanged l = each_depth * l.depth + 147573952589676412926

abbrev pub decreases-decide_either : goal.decreases-decide_either
decreases-decide_either l = each_depth * l.depth + 147573952589676412926

abbrev pub decreases-decide_boxed : goal.decreases-decide_boxed
decreases-decide_boxed l = each_depth * l.depth + 147573952589676412926

abbrev pub decreases-decide_angled : goal.decreases-decide_angled
decreases-decide_angled l = each_depth * l.depth + 147573952589676412926

abbrev pub decreases-decide_branch : goal.decreases-decide_branch
decreases-decide_branch l = each_depth * l.depth + 147573952589676412926

abbrev pub decreases-decide_case : goal.decreases-decide_case
decreases-decide_case l = each_depth * l.depth + 147573952589676412926

abbrev pub decreases-decide_inside : goal.decreases-decide_inside
decreases-decide_inside l = each_depth * l.depth + 147573952589676412926

abbrev pub decreases-decide_call : goal.decreases-decide_call
decreases-decide_call l = each_depth * l.depth + 147573952589676412926

abbrev pub decreases-decide_exists : goal.decreases-decide_exists
decreases-decide_exists l = each_depth * l.depth + 147573952589676412926

abbrev pub decreases-decide_ranges : goal.decreases-decide_ranges
decreases-decide_ranges l = each_depth * l.depth + 147573952589676412925

abbrev pub decreases-decide_lists : goal.decreases-decide_lists
decreases-decide_lists l = each_depth * l.depth + (3 * length l.lists.now + 1)

abbrev pub decreases-decide_members : goal.decreases-decide_members
decreases-decide_members l = each_depth * l.depth + (3 * length l.others.now + 3)

abbrev pub decreases-decide_member : goal.decreases-decide_member
decreases-decide_member l = each_depth * l.depth + (3 * length l.others.now + 2)

abbrev pub decreases-decide_body : goal.decreases-decide_body
decreases-decide_body l = each_depth * l.depth + 1

abbrev pub decreases-decide_all : goal.decreases-decide_all
decreases-decide_all l = each_depth * l.depth + 1

abbrev pub decreases-decide_any : goal.decreases-decide_any
decreases-decide_any l = each_depth * l.depth + 1

abbrev pub invariant-decide_all-loop-part : goal.invariant-decide_all-loop-part
invariant-decide_all-loop-part l = AllSoFar (setting l.pair) l.depth (at l.pair).next (parts_at (at l.pair) l.parts) l.part-index

abbrev pub invariant-decide_any-loop-part : goal.invariant-decide_any-loop-part
invariant-decide_any-loop-part l = AnyDecided (setting l.pair) l.depth (at l.pair).next (take l.part-index (parts_at (at l.pair) l.parts)) (Ok l.holds)

abbrev pub invariant-decide_members-loop-member : goal.invariant-decide_members-loop-member
invariant-decide_members-loop-member l =
    AnyDecided (setting l.pair) l.depth (at l.pair).next (chosen_of (at l.pair) l.body (combinations (map (λ x. x.now) l.others)) (take l.member-index l.members)) (Ok l.holds)
