use Rattle.std.proofs.Common.{Bool, true, false, Ok, Err, subst}
use Rattle.judge_truth.specs.Pairs.{at, setting}
use Rattle.judge_truth.specs.Deciding.{IsDecided}
use Rattle.judge_truth.proofs.Telling.{answered_here, fault_told}
use Rattle.judge_truth.proofs.deciding.decide.Goals as goal

pub decide_part-requires : goal.decide_part-requires
decide_part-requires c = (c.requires.states, c.requires.grounds)

pub returns-in-Ok-true : goal.returns-in-Ok-true
returns-in-Ok-true c =
    let s = c.args.pair in
    let told = subst (λ (b : Bool). IsDecided (setting s) c.args.depth (at s).next (at s) c.args.term.now (Ok b)) c.in-Ok-true.field-0-test c.in-Ok-true.ensures in
    answered_here (setting s) c.args.depth (at s) c.args.term.now (Ok true) c.requires.states c.requires.whole c.requires.grounds told

pub returns-in-Ok-false : goal.returns-in-Ok-false
returns-in-Ok-false c =
    let s = c.args.pair in
    let told = subst (λ (b : Bool). IsDecided (setting s) c.args.depth (at s).next (at s) c.args.term.now (Ok b)) c.in-Ok-false.field-0-test c.in-Ok-false.ensures in
    answered_here (setting s) c.args.depth (at s) c.args.term.now (Ok false) c.requires.states c.requires.whole c.requires.grounds told

pub returns-in-Err : goal.returns-in-Err
returns-in-Err c =
    let s = c.args.pair in
    fault_told (setting s) c.args.depth (at s) c.args.term.now c.in-Err.fault c.told_fault.result
    (answered_here (setting s) c.args.depth (at s) c.args.term.now (Err c.in-Err.fault) c.requires.states c.requires.whole c.requires.grounds c.in-Err.ensures) c.told_fault.ensures
