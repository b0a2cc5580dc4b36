use Rattle.std.proofs.Common.{◌≡◌, [], Ok, Err, ap, map}
use Rattle.values_core.specs.Data.{Val}
use Rattle.names_terms.specs.Terms.{place_of}
use Rattle.values_sets.specs.DescribedSets.{Described}
use Rattle.eval_meanings.specs.Answers.{Tells}
use Rattle.eval_meanings.specs.Evaluates.{Describes}
use Rattle.eval_meanings.specs.Sets.{MeansSet}
use Rattle.actions_meanings.specs.Forms.{choose}
use Rattle.eval_meanings.specs.Reads.{Reads}
use Rattle.actions_rows.specs.Rows.{before, part_term, setting}
use Rattle.steps_walk.proofs.Rows.{form_walks}
use Rattle.steps_walk.proofs.Taken.{in_scene, on_stage}
use Rattle.steps_why_walk.proofs.Keeping.{ok_then}
use Rattle.steps_why_walk.proofs.LeafRows.{no_set_row}
use Rattle.steps_why_walk.proofs.Members.{chosen_row}
use Rattle.steps_why_walk.proofs.single.walk_choose.Goals as goal
use denote.Ref.{Bor}

abbrev value : Bor Val → Val
value x = x.now

pub describe_set-requires : goal.describe_set-requires
describe_set-requires c =
    let s = c.args.stage in
    let g = setting c.args.stage in
    let vs = map value c.args.slots.now in
    let ctx = before c.args.stage (map value c.args.slots.now) in
    let d = c.args.depth in
    let p = c.args.places in
    let a = part_term c.args.part in
    let e = c.args.term.now in
    let x = c.args.number.0 in
    let w = form_walks g d [] p ctx a (choose x e) c.requires.form c.requires.grounds.0.0 c.requires.grounds.0.1 in
    in_scene s vs p c.scene_at.result (λ ops y. Reads ops d y e) c.scene_at.ensures.table c.scene_at.ensures.context w.1

pub chosen_ends-requires : goal.chosen_ends-requires
chosen_ends-requires c =
    let s = c.args.stage in
    let g = setting c.args.stage in
    let vs = map value c.args.slots.now in
    let ctx = before c.args.stage (map value c.args.slots.now) in
    let d = c.args.depth in
    let p = c.args.places in
    let a = part_term c.args.part in
    let e = c.args.term.now in
    let x = c.args.number.0 in
    let w = form_walks g d [] p ctx a (choose x e) c.requires.form c.requires.grounds.0.0 c.requires.grounds.0.1 in
    record { room = c.requires.room; within = w.0; sound = c.in-Ok.ensures.sound }

pub returns-in-Ok : goal.returns-in-Ok
returns-in-Ok c =
    let s = c.args.stage in
    let g = setting c.args.stage in
    let vs = map value c.args.slots.now in
    let ctx = before c.args.stage (map value c.args.slots.now) in
    let d = c.args.depth in
    let p = c.args.places in
    let a = part_term c.args.part in
    let e = c.args.term.now in
    let x = c.args.number.0 in
    let w = form_walks g d [] p ctx a (choose x e) c.requires.form c.requires.grounds.0.0 c.requires.grounds.0.1 in
    let at : c.term.inside.at ≡ place_of c.args.term.now = ap place_of c.term.view_is in
    let there = on_stage s vs p c.scene_at.result (λ ops y. MeansSet (Describes ops d) y e (Ok c.in-Ok.set)) c.scene_at.ensures.table c.scene_at.ensures.context c.in-Ok.ensures.fine in
    ok_then c.chosen_ends.result _ _ (λ y h. chosen_row g c.args.sparing c.args.room c.requires.room d ctx a p c.requires.grounds x e c.requires.form c.in-Ok.set c.term.inside.at y.items w.0 there at h) c.chosen_ends.ensures

pub returns-in_ok-end-in-Err : goal.returns-in_ok-end-in-Err
returns-in_ok-end-in-Err c =
    let s = c.args.stage in
    let g = setting c.args.stage in
    let vs = map value c.args.slots.now in
    let ctx = before c.args.stage (map value c.args.slots.now) in
    let d = c.args.depth in
    let p = c.args.places in
    let a = part_term c.args.part in
    let e = c.args.term.now in
    let x = c.args.number.0 in
    let w = form_walks g d [] p ctx a (choose x e) c.requires.form c.requires.grounds.0.0 c.requires.grounds.0.1 in
    let there = on_stage s vs p c.scene_at.result (λ ops y. Tells {A = Described} (Err c.in-Err.fault) (MeansSet (Describes ops d) y e)) c.scene_at.ensures.table c.scene_at.ensures.context c.in-Err.ensures.fine in
    ok_then c.one_end.result _ _ (λ y h. no_set_row g c.args.sparing c.args.room c.requires.room d ctx a p c.requires.grounds x e c.requires.form c.in-Err.fault c.in_ok-end-in-Err.end y.items there c.in_ok-end-in-Err.ensures h) c.one_end.ensures
