use Rattle.std.proofs.Common.{Ok, Err, sym, subst, map}
use Rattle.base_core.specs.declared.place.Place.{Place}
use Rattle.values_core.specs.Data.{Val}
use Rattle.names_terms.specs.Terms.{place_of}
use Rattle.eval_meanings.specs.Answers.{Tells}
use Rattle.eval_meanings.specs.Evaluates.{Evaluates}
use Rattle.actions_meanings.specs.Forms.{assign}
use Rattle.eval_meanings.specs.Reads.{Reads}
use Rattle.eval_parts.specs.Following.{variable_at}
use Rattle.eval_parts.specs.Scenes.{context, table}
use Rattle.actions_rows.specs.Rows.{before, part_term, setting}
use Rattle.steps_walk.specs.Walking.{listed}
use Rattle.steps_walk.proofs.Rows.{form_walks}
use Rattle.steps_walk.proofs.Taken.{in_scene, on_stage}
use Rattle.steps_walk.proofs.Told.{assigned_all}
use Rattle.steps_walk.proofs.Values.{assigned_row, unassigned_row}
use Rattle.steps_walk.proofs.leaves.walk_keep.Goals as goal
use denote.Ref.{Bor}

abbrev value : Bor Val → Val
value x = x.now

pub kept_value-requires : goal.kept_value-requires
kept_value-requires c =
    let s = c.args.course.now.stage in
    let g = setting c.args.course.now.stage in
    let vs = map value c.args.slots.now in
    let ctx = before c.args.course.now.stage (map value c.args.slots.now) in
    let d = c.args.depth in
    let sees = c.args.course.now.stage.sees.now in
    let p = c.args.places in
    let a = part_term c.args.part in
    let e = variable_at (place_of a) c.args.number.0 in
    let w = form_walks g d sees p ctx a (assign c.args.number.0 e) c.requires.form c.requires.grounds.0 c.requires.grounds.1 in
    let there = in_scene s vs p c.scene_at.result (λ ops x. Reads ops d x e) c.scene_at.ensures.table c.scene_at.ensures.context w.1 in
    subst (λ (at : Place). Reads (table c.scene_at.result) d (context c.scene_at.result) (variable_at at c.args.number.0)) (sym c.part_place.ensures) there

pub found_assigned-requires : goal.found_assigned-requires
found_assigned-requires c =
    let s = c.args.course.now.stage in
    let g = setting c.args.course.now.stage in
    let vs = map value c.args.slots.now in
    let ctx = before c.args.course.now.stage (map value c.args.slots.now) in
    let d = c.args.depth in
    let sees = c.args.course.now.stage.sees.now in
    let p = c.args.places in
    let a = part_term c.args.part in
    let e = variable_at (place_of a) c.args.number.0 in
    let w = form_walks g d sees p ctx a (assign c.args.number.0 e) c.requires.form c.requires.grounds.0 c.requires.grounds.1 in
    w.0

pub returns-in_ok-found_assigned-in-Ok-clause-found : goal.returns-in_ok-found_assigned-in-Ok-clause-found
returns-in_ok-found_assigned-in-Ok-clause-found c =
    let s = c.args.course.now.stage in
    let g = setting c.args.course.now.stage in
    let vs = map value c.args.slots.now in
    let ctx = before c.args.course.now.stage (map value c.args.slots.now) in
    let d = c.args.depth in
    let sees = c.args.course.now.stage.sees.now in
    let p = c.args.places in
    let a = part_term c.args.part in
    let e = variable_at (place_of a) c.args.number.0 in
    let w = form_walks g d sees p ctx a (assign c.args.number.0 e) c.requires.form c.requires.grounds.0 c.requires.grounds.1 in
    let told = subst (λ (at : Place). Evaluates (table c.scene_at.result) d (context c.scene_at.result) (variable_at at c.args.number.0) (Ok c.in-Ok.value)) c.part_place.ensures c.in-Ok.ensures in
    let there = on_stage s vs p c.scene_at.result (λ ops x. Evaluates ops d x e (Ok c.in-Ok.value)) c.scene_at.ensures.table c.scene_at.ensures.context told in
    assigned_row g d sees p ctx a c.args.number.0 e c.in-Ok.value (listed c.in_ok-found_assigned-in-Ok.field-0) c.requires.form w.0 there (assigned_all c.args.number.0 sees c.sees_of.result.now c.sees_of.ensures c.in-Ok.value p (listed c.in_ok-found_assigned-in-Ok.field-0) c.in_ok-found_assigned-in-Ok.ensures)

pub returns-in-Err-clause-fault : goal.returns-in-Err-clause-fault
returns-in-Err-clause-fault c =
    let s = c.args.course.now.stage in
    let g = setting c.args.course.now.stage in
    let vs = map value c.args.slots.now in
    let ctx = before c.args.course.now.stage (map value c.args.slots.now) in
    let d = c.args.depth in
    let sees = c.args.course.now.stage.sees.now in
    let p = c.args.places in
    let a = part_term c.args.part in
    let e = variable_at (place_of a) c.args.number.0 in
    let w = form_walks g d sees p ctx a (assign c.args.number.0 e) c.requires.form c.requires.grounds.0 c.requires.grounds.1 in
    let told = subst (λ (at : Place). Tells {A = Val} (Err c.in-Err.fault) (Evaluates (table c.scene_at.result) d (context c.scene_at.result) (variable_at at c.args.number.0))) c.part_place.ensures c.in-Err.ensures in
    let there = on_stage s vs p c.scene_at.result (λ ops x. Tells {A = Val} (Err c.in-Err.fault) (Evaluates ops d x e)) c.scene_at.ensures.table c.scene_at.ensures.context told in
    unassigned_row g d sees p ctx a c.args.number.0 e c.in-Err.fault c.requires.form there
