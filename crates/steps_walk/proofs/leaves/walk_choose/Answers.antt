use Rattle.std.proofs.Common.{◌≡◌, Ok, Err, subst, ap, map}
use Rattle.base_core.specs.declared.place.Place.{Place}
use Rattle.values_core.specs.Data.{Val}
use Rattle.names_terms.specs.Terms.{place_of}
use Rattle.values_sets.specs.DescribedSets.{Described}
use Rattle.eval_meanings.specs.Answers.{Tells}
use Rattle.eval_meanings.specs.Evaluates.{Describes}
use Rattle.eval_meanings.specs.Sets.{MeansSet}
use Rattle.actions_meanings.specs.Forms.{choose}
use Rattle.eval_meanings.specs.Reads.{Reads}
use Rattle.actions_rows.specs.Rows.{before, part_term, setting}
use Rattle.steps_filling.specs.Fillings.{Chooses, FailsToChoose}
use Rattle.steps_walk.specs.Walking.{listed}
use Rattle.steps_walk.proofs.Answering.{err_then, ok_then}
use Rattle.steps_walk.proofs.Rows.{form_walks}
use Rattle.steps_walk.proofs.Taken.{in_scene, on_stage}
use Rattle.steps_walk.proofs.Told.{chosen_all}
use Rattle.steps_walk.proofs.Values.{chosen_row, no_set_row, unchosen_row}
use Rattle.steps_walk.proofs.leaves.walk_choose.Goals as goal
use denote.Ref.{Bor}

abbrev value : Bor Val → Val
value x = x.now

pub describe_set-requires : goal.describe_set-requires
describe_set-requires c =
    let s = c.args.course.now.stage in
    let g = setting c.args.course.now.stage in
    let vs = map value c.args.slots.now in
    let ctx = before c.args.course.now.stage (map value c.args.slots.now) in
    let d = c.args.depth in
    let sees = c.args.course.now.stage.sees.now in
    let p = c.args.places in
    let a = part_term c.args.part in
    let e = c.args.term.now in
    let x = c.args.number.0 in
    let w = form_walks g d sees p ctx a (choose x e) c.requires.form c.requires.grounds.0 c.requires.grounds.1 in
    in_scene s vs p c.scene_at.result (λ ops y. Reads ops d y e) c.scene_at.ensures.table c.scene_at.ensures.context w.1

pub found_chosen-requires : goal.found_chosen-requires
found_chosen-requires c =
    let s = c.args.course.now.stage in
    let g = setting c.args.course.now.stage in
    let vs = map value c.args.slots.now in
    let ctx = before c.args.course.now.stage (map value c.args.slots.now) in
    let d = c.args.depth in
    let sees = c.args.course.now.stage.sees.now in
    let p = c.args.places in
    let a = part_term c.args.part in
    let e = c.args.term.now in
    let x = c.args.number.0 in
    let w = form_walks g d sees p ctx a (choose x e) c.requires.form c.requires.grounds.0 c.requires.grounds.1 in
    record { within = w.0; sound = c.in-Ok.ensures.sound }

pub returns-in-Ok-clause-found : goal.returns-in-Ok-clause-found
returns-in-Ok-clause-found c =
    let s = c.args.course.now.stage in
    let g = setting c.args.course.now.stage in
    let vs = map value c.args.slots.now in
    let ctx = before c.args.course.now.stage (map value c.args.slots.now) in
    let d = c.args.depth in
    let sees = c.args.course.now.stage.sees.now in
    let p = c.args.places in
    let a = part_term c.args.part in
    let e = c.args.term.now in
    let x = c.args.number.0 in
    let w = form_walks g d sees p ctx a (choose x e) c.requires.form c.requires.grounds.0 c.requires.grounds.1 in
    let at : c.term.inside.at ≡ place_of c.args.term.now = ap place_of c.term.view_is in
    let there = on_stage s vs p c.scene_at.result (λ ops y. MeansSet (Describes ops d) y e (Ok c.in-Ok.set)) c.scene_at.ensures.table c.scene_at.ensures.context c.in-Ok.ensures.fine in
    ok_then c.found_chosen.result _ _ (λ y h. chosen_row g d sees p ctx a x e c.in-Ok.set (listed y) c.requires.form w.0 there (subst (λ (z : Place). Chooses sees x c.in-Ok.set z p (listed y)) at (chosen_all x sees c.sees_of.result.now c.sees_of.ensures c.in-Ok.set c.term.inside.at p (listed y) h))) c.found_chosen.ensures.found

pub returns-in-Ok-clause-fault : goal.returns-in-Ok-clause-fault
returns-in-Ok-clause-fault c =
    let s = c.args.course.now.stage in
    let g = setting c.args.course.now.stage in
    let vs = map value c.args.slots.now in
    let ctx = before c.args.course.now.stage (map value c.args.slots.now) in
    let d = c.args.depth in
    let sees = c.args.course.now.stage.sees.now in
    let p = c.args.places in
    let a = part_term c.args.part in
    let e = c.args.term.now in
    let x = c.args.number.0 in
    let w = form_walks g d sees p ctx a (choose x e) c.requires.form c.requires.grounds.0 c.requires.grounds.1 in
    let at : c.term.inside.at ≡ place_of c.args.term.now = ap place_of c.term.view_is in
    let there = on_stage s vs p c.scene_at.result (λ ops y. MeansSet (Describes ops d) y e (Ok c.in-Ok.set)) c.scene_at.ensures.table c.scene_at.ensures.context c.in-Ok.ensures.fine in
    err_then c.found_chosen.result _ _ (λ y h. unchosen_row g d sees p ctx a x e c.in-Ok.set y c.requires.form w.0 there (subst (λ (z : Place). FailsToChoose x c.in-Ok.set z p y) at h)) c.found_chosen.ensures.fault

pub returns-in-Err-clause-fault : goal.returns-in-Err-clause-fault
returns-in-Err-clause-fault c =
    let s = c.args.course.now.stage in
    let g = setting c.args.course.now.stage in
    let vs = map value c.args.slots.now in
    let ctx = before c.args.course.now.stage (map value c.args.slots.now) in
    let d = c.args.depth in
    let sees = c.args.course.now.stage.sees.now in
    let p = c.args.places in
    let a = part_term c.args.part in
    let e = c.args.term.now in
    let x = c.args.number.0 in
    let w = form_walks g d sees p ctx a (choose x e) c.requires.form c.requires.grounds.0 c.requires.grounds.1 in
    let there = on_stage s vs p c.scene_at.result (λ ops y. Tells {A = Described} (Err c.in-Err.fault) (MeansSet (Describes ops d) y e)) c.scene_at.ensures.table c.scene_at.ensures.context c.in-Err.ensures.fine in
    no_set_row g d sees p ctx a x e c.in-Err.fault c.requires.form there
