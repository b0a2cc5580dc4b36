use Rattle.std.proofs.Common.{Option, subst, sym}
use Rattle.std.specs.Prelude.{OnOk}
use Rattle.run_texts.specs.Answers.{named}
use Rattle.steps_why_branches.specs.declared.sparing.Spared.{Spared}
use Rattle.run_near_lines.specs.Adding.{Adds, PassedSays}
use Rattle.run_near_lines.proofs.keeping.keep_passed.Goals as goal

pub returns-in-Some : goal.returns-in-Some
returns-in-Some c =
    subst (λ (o : Option Spared). OnOk c.keep_spared.result (Adds c.args.room (PassedSays c.args.subject.spec.now c.args.subject.line.now (named c.args.subject.labels.now) c.args.places.now o) c.args.texts.now.keys c.keep_spared.new.texts.keys))
    (sym c.in-Some.is) c.keep_spared.ensures

pub returns-in-None : goal.returns-in-None
returns-in-None c =
    subst (λ (o : Option Spared). OnOk c.keep_lacking.result (Adds c.args.room (PassedSays c.args.subject.spec.now c.args.subject.line.now (named c.args.subject.labels.now) c.args.places.now o) c.args.texts.now.keys c.keep_lacking.new.texts.keys))
    (sym c.in-None.is) c.keep_lacking.ensures
