use Rattle.std.proofs.Common.{arith, ◌≤◌, ◌+◌, length}
use Rattle.states_files.proofs.WalkLemmas.{ended, stopped, walked_on}
use Rattle.states_files.proofs.file.read_lines.Goals as goal

pub loop-walked-init : goal.loop-walked-init
loop-walked-init c = rw c.new-found.ensures (record { said = λ r h. h; room = omega (arith, c.requires.short) })

pub returns-in-Err : goal.returns-in-Err
returns-in-Err c =
    let says = rw c.in-Err.is at c.in_ok-walked.ensures in
    stopped c.args.names.now c.args.bytes.now c.loop-walked.number c.loop-walked.found c.loop-walked.rest.now c.cut_line.result.0.now c.cut_line.result.1 c.in-Err.refusal c.loop-walked.invariant c.cut_line.ensures says

pub overflow_add-number : goal.overflow_add-number
overflow_add-number c =
    let cut = rw c.in-Some.is at c.cut_line.ensures in
    let room : c.loop-walked.number + length c.loop-walked.rest.now ≤ 4294967295 = c.loop-walked.invariant.room in
    omega (arith, cut.1, room)

pub loop-walked-smaller : goal.loop-walked-smaller
loop-walked-smaller c =
    let cut = rw c.in-Some.is at c.cut_line.ensures in
    cut.1

pub loop-walked-preserved : goal.loop-walked-preserved
loop-walked-preserved c =
    let cut = rw c.in-Some.is at c.cut_line.ensures in
    let says = rw c.in-Ok.is at c.in_ok-walked.ensures in
    walked_on c.args.names.now c.args.bytes.now c.loop-walked.number c.loop-walked.found c.in-Ok.next c.loop-walked.rest.now c.cut_line.result.0.now c.in-Some.after.now c.loop-walked.invariant cut.0 cut.1 says

pub returns-in-None : goal.returns-in-None
returns-in-None c =
    let cut = rw c.in-None.is at c.cut_line.ensures in
    let says = rw c.in-Ok.is at c.in_ok-walked.ensures in
    ended c.args.names.now c.args.bytes.now c.loop-walked.number c.loop-walked.found c.in-Ok.next c.loop-walked.rest.now c.cut_line.result.0.now c.loop-walked.invariant cut says
