use Rattle.std.proofs.Common.{take}
use Rattle.run_texts.specs.Answers.{named}
use Rattle.run_near_lines.specs.Adding.{NearSays, OneSays}
use Rattle.run_near_lines.proofs.FirstTexts.{adds_few}
use Rattle.run_near_lines.proofs.Loops.{one_ends, one_starts, one_step}
use Rattle.run_near_lines.proofs.keeping.keep_ends.Goals as goal

pub loop-end-init : goal.loop-end-init
loop-end-init c =
    let P = NearSays c.args.subject.spec.now c.args.subject.line.now (named c.args.subject.labels.now) in
    one_starts P c.args.room c.args.ends.now c.args.texts.now.keys c.requires

pub keep_end-requires : goal.keep_end-requires
keep_end-requires c =
    let P = NearSays c.args.subject.spec.now c.args.subject.line.now (named c.args.subject.labels.now) in
    adds_few c.args.room (OneSays P (take c.loop-end.end-index c.args.ends.now)) c.args.texts.now.keys c.loop-end.texts.keys c.loop-end.invariant

pub loop-end-preserved : goal.loop-end-preserved
loop-end-preserved c =
    let P = NearSays c.args.subject.spec.now c.args.subject.line.now (named c.args.subject.labels.now) in
    one_step P c.args.room c.args.ends.now c.args.texts.now.keys c.loop-end.texts.keys c.keep_end.new.texts.keys c.loop-end.end-index c.end-item.result c.loop-end-test.true c.end-item.is c.loop-end.invariant c.in_ok-keep_end.ensures

pub returns : goal.returns
returns c =
    let P = NearSays c.args.subject.spec.now c.args.subject.line.now (named c.args.subject.labels.now) in
    one_ends P c.args.room c.args.ends.now c.args.texts.now.keys c.loop-end.texts.keys c.loop-end.end-index c.loop-end-test.false c.loop-end.invariant
