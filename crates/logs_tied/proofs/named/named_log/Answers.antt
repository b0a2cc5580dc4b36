use Rattle.std.proofs.Common.{arith}
use Rattle.logs_tied.proofs.Going.{all_named, none_named}
use Rattle.logs_tied.proofs.named.named_log.Goals as goal

pub loop-number-init : goal.loop-number-init
loop-number-init c = none_named c.args.logs.now c.requires.tied c.args.states.now c.in_ok-cut.cut c.in_ok-lines.lines c.in_ok-cut.ensures c.in_ok-lines.ensures

pub with_named-requires-clause-left : goal.with_named-requires-clause-left
with_named-requires-clause-left c =
    let less = c.loop-number-test.true in
    let all = c.count-all.ensures in
    omega (arith, less, all)

pub returns : goal.returns
returns c =
    let test = c.loop-number-test.false in
    let end = c.loop-number.auto.number-end in
    let all = c.count-all.ensures in
    all_named c.args.logs.now c.requires.tied c.args.states.now c.loop-number.so_far.cut c.loop-number.so_far.lines c.loop-number.number c.loop-number.invariant (omega (arith, test, end, all))
    c.in_ok-init.init c.in_ok-init.ensures
