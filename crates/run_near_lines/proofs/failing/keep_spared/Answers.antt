use Rattle.std.proofs.Common.{◌≡◌, ◌∙◌, List, arith, false, subst, sym}
use Rattle.std.specs.Prelude.{All}
use Rattle.logs_updates.specs.declared.update.See.{See}
use Rattle.run_texts.specs.Answers.{named}
use Rattle.steps_why_not.specs.Lines.{StandsIn}
use Rattle.steps_why_not.proofs.Updated.{true_false}
use Rattle.run_near_lines.specs.Adding.{FailedSays}
use Rattle.run_near_lines.proofs.FirstTexts.{adds_none, adds_one}
use Rattle.run_near_lines.proofs.Known.{on_ok}
use Rattle.run_near_lines.proofs.failing.keep_spared.Goals as goal

pub returns-then-not-all_stand_in : goal.returns-then-not-all_stand_in
returns-then-not-all_stand_in c =
    let q = c.args.places.now in
    let no : c.all_stand_in.result ≡ false = grind arith in
    adds_none c.args.room (FailedSays c.args.subject.spec.now c.args.subject.line.now (named c.args.subject.labels.now) q c.args.spared.now) c.args.texts.now.keys c.requires
    (λ t h. true_false c.all_stand_in.result (c.all_stand_in.ensures.1 (subst (λ (ss : List See). All (StandsIn q) ss) (sym c.items.ensures) h.0)) no)

pub returns : goal.returns
returns c =
    let q = c.args.places.now in
    let all = subst (λ (ss : List See). All (StandsIn q) ss) c.items.ensures (c.all_stand_in.ensures.0 (grind arith)) in
    on_ok c.keep.result _ _
    (λ e. adds_one c.args.room (FailedSays c.args.subject.spec.now c.args.subject.line.now (named c.args.subject.labels.now) q c.args.spared.now) c.args.texts.now.keys c.keep.new.texts.keys c.in_ok-text.text e
    (all, c.in_ok-text.ensures) (λ u h. h.1 ∙ sym c.in_ok-text.ensures))
    c.keep.ensures
