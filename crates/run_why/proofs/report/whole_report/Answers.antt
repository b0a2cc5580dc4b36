use Rattle.run_texts.specs.Answers.{named}
use Rattle.steps_ready_defs.specs.Beside.{asked}
use Rattle.run_why.proofs.Reporting.{ends_at, reported, reported_alone}
use Rattle.run_why.proofs.report.whole_report.Goals as goal

pub told_behind-requires-clause-ends : goal.told_behind-requires-clause-ends
told_behind-requires-clause-ends c =
    let s = c.args.steps.now in
    ends_at s.spec.now s.log.now (asked s.stutter s.within s.limit) c.in-Some.prefix c.args.searched.answer c.args.searched.last.items c.in-Some.ensures c.requires.searched.is_true c.requires.searched.last

pub returns-in-Some : goal.returns-in-Some
returns-in-Some c =
    let s = c.args.steps.now in
    reported s.spec.now s.log.now (asked s.stutter s.within s.limit) (named c.args.labels.now) c.args.wanted.why c.args.wanted.near c.in-Some.prefix c.args.searched.answer c.told_behind.result
    c.in-Some.ensures c.told_behind.ensures

pub returns-in-None : goal.returns-in-None
returns-in-None c =
    let s = c.args.steps.now in
    reported_alone s.spec.now s.log.now (asked s.stutter s.within s.limit) (named c.args.labels.now) c.args.wanted.why c.args.wanted.near c.args.searched.answer c.told_alone.result c.in-None.ensures
    c.told_alone.ensures
