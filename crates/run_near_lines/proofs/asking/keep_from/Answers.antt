use Rattle.std.proofs.Common.{List, subst}
use Rattle.run_texts.specs.Answers.{named}
use Rattle.steps_why_branches.specs.declared.why.Ended.{Ended}
use Rattle.run_near_lines.specs.Adding.{Adds, NearSays, OneSays}
use Rattle.run_near_lines.specs.Repairs.{AreReached}
use Rattle.run_near_lines.specs.Tells.{IsNearLine}
use Rattle.run_near_lines.proofs.FirstTexts.{adds_so}
use Rattle.run_near_lines.proofs.Nearing.{near_are, near_reached}
use Rattle.run_near_lines.proofs.Known.{on_any, on_ok}
use Rattle.run_near_lines.proofs.asking.keep_from.Goals as goal

pub returns-clause-keeps : goal.returns-clause-keeps
returns-clause-keeps c =
    let g = c.args.subject.spec.now in
    let line = c.args.subject.line.now in
    let l = named c.args.subject.labels.now in
    let s = c.args.entry.now in
    let old = c.args.texts.now.keys in
    let new = c.keep_ends.new.texts.keys in
    let ends = c.in_ok-ends.ends.items in
    on_ok c.keep_ends.result _ _
    (λ a. adds_so c.args.room (OneSays (NearSays g line l) ends) (IsNearLine g line l s) old new
    (near_are g line l s c.orderly_law.ensures c.whole_law.ensures c.requires.ready c.requires.fits c.requires.state ends c.in_ok-ends.ensures.all)
    (subst (λ (ns : List Ended). Adds c.args.room (OneSays (NearSays g line l) ns) old new) c.deref.ensures.value a))
    c.keep_ends.ensures

pub returns-clause-reached : goal.returns-clause-reached
returns-clause-reached c =
    let g = c.args.subject.spec.now in
    let line = c.args.subject.line.now in
    let s = c.args.entry.now in
    on_any c.keep_ends.result (AreReached g line s)
    (near_reached g line (named c.args.subject.labels.now) s c.orderly_law.ensures c.whole_law.ensures c.requires.ready c.requires.fits c.requires.state c.in_ok-ends.ends.items c.in_ok-ends.ensures.all c.in_ok-ends.ensures.reached)
