use Rattle.std.proofs.Common.{Ok, Err, map}
use Rattle.values_core.specs.Data.{Val}
use Rattle.eval_meanings.specs.Answers.{Tells}
use Rattle.eval_meanings.specs.Evaluates.{Evaluates}
use Rattle.actions_meanings.specs.Forms.{assign}
use Rattle.eval_meanings.specs.Reads.{Reads}
use Rattle.actions_rows.specs.Rows.{before, part_term, setting}
use Rattle.steps_walk.specs.Walking.{listed}
use Rattle.steps_walk.proofs.Rows.{form_walks}
use Rattle.steps_walk.proofs.Taken.{in_scene, on_stage}
use Rattle.steps_walk.proofs.Told.{assigned_all}
use Rattle.steps_walk.proofs.Values.{assigned_row, unassigned_row}
use Rattle.steps_walk.proofs.leaves.walk_assign.Goals as goal
use denote.Ref.{Bor}

abbrev value : Bor Val → Val
value x = x.now

pub eval-requires : goal.eval-requires
eval-requires c =
    let s = c.args.course.now.stage in
    let g = setting c.args.course.now.stage in
    let vs = map value c.args.slots.now in
    let ctx = before c.args.course.now.stage (map value c.args.slots.now) in
    let d = c.args.depth in
    let sees = c.args.course.now.stage.sees.now in
    let p = c.args.places in
    let a = part_term c.args.part in
    let w = form_walks g d sees p ctx a (assign c.args.number.0 c.args.term.now) c.requires.form c.requires.grounds.0 c.requires.grounds.1 in
    in_scene s vs p c.scene_at.result (λ ops x. Reads ops d x c.args.term.now) c.scene_at.ensures.table c.scene_at.ensures.context w.1

pub found_assigned-requires : goal.found_assigned-requires
found_assigned-requires c =
    let s = c.args.course.now.stage in
    let g = setting c.args.course.now.stage in
    let vs = map value c.args.slots.now in
    let ctx = before c.args.course.now.stage (map value c.args.slots.now) in
    let d = c.args.depth in
    let sees = c.args.course.now.stage.sees.now in
    let p = c.args.places in
    let a = part_term c.args.part in
    (form_walks g d sees p ctx a (assign c.args.number.0 c.args.term.now) c.requires.form c.requires.grounds.0 c.requires.grounds.1).0

pub returns-in_ok-found_assigned-in-Ok-clause-found : goal.returns-in_ok-found_assigned-in-Ok-clause-found
returns-in_ok-found_assigned-in-Ok-clause-found c =
    let s = c.args.course.now.stage in
    let g = setting c.args.course.now.stage in
    let vs = map value c.args.slots.now in
    let ctx = before c.args.course.now.stage (map value c.args.slots.now) in
    let d = c.args.depth in
    let sees = c.args.course.now.stage.sees.now in
    let p = c.args.places in
    let a = part_term c.args.part in
    let w = form_walks g d sees p ctx a (assign c.args.number.0 c.args.term.now) c.requires.form c.requires.grounds.0 c.requires.grounds.1 in
    let there = on_stage s vs p c.scene_at.result (λ ops x. Evaluates ops d x c.args.term.now (Ok c.in-Ok.value)) c.scene_at.ensures.table c.scene_at.ensures.context c.in-Ok.ensures in
    assigned_row g d sees p ctx a c.args.number.0 c.args.term.now c.in-Ok.value (listed c.in_ok-found_assigned-in-Ok.field-0) c.requires.form w.0 there (assigned_all c.args.number.0 sees c.sees_of.result.now c.sees_of.ensures c.in-Ok.value p (listed c.in_ok-found_assigned-in-Ok.field-0) c.in_ok-found_assigned-in-Ok.ensures)

pub returns-in-Err-clause-fault : goal.returns-in-Err-clause-fault
returns-in-Err-clause-fault c =
    let s = c.args.course.now.stage in
    let g = setting c.args.course.now.stage in
    let vs = map value c.args.slots.now in
    let ctx = before c.args.course.now.stage (map value c.args.slots.now) in
    let d = c.args.depth in
    let sees = c.args.course.now.stage.sees.now in
    let p = c.args.places in
    let a = part_term c.args.part in
    let there = on_stage s vs p c.scene_at.result (λ ops x. Tells {A = Val} (Err c.in-Err.fault) (Evaluates ops d x c.args.term.now)) c.scene_at.ensures.table c.scene_at.ensures.context c.in-Err.ensures in
    unassigned_row g d sees p ctx a c.args.number.0 c.args.term.now c.in-Err.fault c.requires.form there
