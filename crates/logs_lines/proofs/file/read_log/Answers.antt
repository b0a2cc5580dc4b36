use Rattle.std.proofs.Common.{arith, ◌≤◌, ◌+◌, length}
use Rattle.logs_lines.specs.Files.{first_line}
use Rattle.logs_lines.proofs.WalkLemmas.{ended, stopped, walked_on}
use Rattle.logs_lines.proofs.file.read_log.Goals as goal

pub loop-scratch-init : goal.loop-scratch-init
loop-scratch-init g c = rw (c.first_line.ensures, c.in_ok-steps.ensures) (record { said = λ r h. h; room = omega (arith, c.requires.short); steps = omega arith })

pub walk_on-requires-clause-line : goal.walk_on-requires-clause-line
walk_on-requires-clause-line g c =
    let room : c.loop-scratch.walk.at.line + length c.loop-scratch.rest.now ≤ 4294967294 = c.loop-scratch.invariant.room in
    omega arith

pub walk_on-requires-clause-steps : goal.walk_on-requires-clause-steps
walk_on-requires-clause-steps g c = c.loop-scratch.invariant.steps

pub returns-in-Err : goal.returns-in-Err
returns-in-Err g c =
    let says = rw c.in-Err.is at c.in_ok-walked.ensures.says in
    stopped (g.N.SpecNames.setting c.args.names.now) (first_line c.args.file c.args.many c.args.room c.args.form) c.args.bytes.now c.loop-scratch.walk c.loop-scratch.rest.now
    c.cut_line.result.0.now c.cut_line.result.1 c.in-Err.refusal c.loop-scratch.invariant c.cut_line.ensures says

pub loop-scratch-smaller : goal.loop-scratch-smaller
loop-scratch-smaller g c =
    let cut = rw c.in-Some.is at c.cut_line.ensures in
    cut.1

pub loop-scratch-preserved : goal.loop-scratch-preserved
loop-scratch-preserved g c =
    let cut = rw c.in-Some.is at c.cut_line.ensures in
    let says = rw c.in-Ok.is at c.in_ok-walked.ensures.says in
    let counted = rw c.in-Ok.is at c.in_ok-walked.ensures.counted in
    walked_on (g.N.SpecNames.setting c.args.names.now) (first_line c.args.file c.args.many c.args.room c.args.form) c.args.bytes.now c.loop-scratch.walk c.in-Ok.next c.loop-scratch.rest.now
    c.cut_line.result.0.now c.in-Some.after.now c.loop-scratch.invariant cut.0 cut.1 says counted

pub returns-in-None : goal.returns-in-None
returns-in-None g c =
    let cut = rw c.in-None.is at c.cut_line.ensures in
    let says = rw c.in-Ok.is at c.in_ok-walked.ensures.says in
    ended (g.N.SpecNames.setting c.args.names.now) (first_line c.args.file c.args.many c.args.room c.args.form) c.args.bytes.now c.loop-scratch.walk c.in-Ok.next c.loop-scratch.rest.now
    c.cut_line.result.0.now c.loop-scratch.invariant cut says
