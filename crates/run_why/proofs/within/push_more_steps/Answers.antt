use Rattle.std.proofs.Common.{string_bytes}
use Rattle.steps_ready_defs.specs.Beside.{asked}
use Rattle.run_why.proofs.Reaching.{stands_not, stands_on}
use Rattle.run_why.proofs.within.push_more_steps.Goals as goal

pub returns-then-branch : goal.returns-then-branch
returns-then-branch c =
    let s = c.args.steps.now in
    stands_on s.spec.now (asked s.stutter s.within s.limit) c.args.entries.now c.in_ok-would_reach_more.field-0 c.push_reached.result (string_bytes c.args.text.now)
    (string_bytes c.push_reached.new.text) c.if-branch.true c.in_ok-would_reach_more.ensures c.push_reached.ensures

pub returns : goal.returns
returns c =
    let s = c.args.steps.now in
    stands_not s.spec.now (asked s.stutter s.within s.limit) c.args.entries.now c.in_ok-would_reach_more.field-0 (string_bytes c.args.text.now) c.if-branch.false
    c.in_ok-would_reach_more.ensures
