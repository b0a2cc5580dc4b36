use Rattle.std.proofs.Common.{◌∙◌, List, option_map, subst, sym}
use Rattle.logs_updates.specs.declared.update.See.{See}
use Rattle.run_texts.specs.Answers.{named}
use Rattle.run_near_lines.specs.Adding.{LackingSays}
use Rattle.run_near_lines.specs.Near.{LacksAlone}
use Rattle.run_near_lines.proofs.FirstTexts.{adds_none, adds_one}
use Rattle.run_near_lines.proofs.LackingOnes.{lacking_text}
use Rattle.run_near_lines.proofs.Known.{on_ok}
use Rattle.run_near_lines.proofs.lacking.keep_lacking.Goals as goal

pub returns-in-None : goal.returns-in-None
returns-in-None c =
    let q = c.args.places.now in
    adds_none c.args.room (LackingSays c.args.subject.line.now (named c.args.subject.labels.now) q) c.args.texts.now.keys c.requires
    (λ t h. c.in-None.ensures h.see (subst (λ (ss : List See). LacksAlone ss q h.see) (sym c.items.ensures) h.alone))

pub returns-in_ok-text-in-Some : goal.returns-in_ok-text-in-Some
returns-in_ok-text-in-Some c =
    let q = c.args.places.now in
    let line = c.args.subject.line.now in
    let l = named c.args.subject.labels.now in
    let see = c.in-Some.see.now in
    let o = option_map (λ v. v.now) c.found_at.result in
    let alone = subst (λ (ss : List See). LacksAlone ss q see) c.items.ensures c.in-Some.ensures in
    let text = c.in_ok-text-in-Some in
    on_ok c.keep.result _ _
    (λ e. adds_one c.args.room (LackingSays line l q) c.args.texts.now.keys c.keep.new.texts.keys text.text e
    (record { see = see; alone = alone; stands = o; found = c.found_at.ensures.is; is = text.ensures }) (λ u h. lacking_text q line l see o alone c.found_at.ensures u h ∙ sym text.ensures))
    c.keep.ensures
