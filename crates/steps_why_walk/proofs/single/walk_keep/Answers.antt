use Rattle.std.proofs.Common.{[], Ok, Err, sym, subst, map}
use Rattle.base_core.specs.declared.place.Place.{Place}
use Rattle.values_core.specs.Data.{Val}
use Rattle.names_terms.specs.Terms.{place_of}
use Rattle.eval_meanings.specs.Answers.{Tells}
use Rattle.eval_meanings.specs.Evaluates.{Evaluates}
use Rattle.actions_meanings.specs.Forms.{assign}
use Rattle.eval_meanings.specs.Reads.{Reads}
use Rattle.eval_parts.specs.Following.{variable_at}
use Rattle.eval_parts.specs.Scenes.{context, table}
use Rattle.actions_rows.specs.Rows.{before, part_term, setting}
use Rattle.steps_walk.proofs.Rows.{form_walks}
use Rattle.steps_walk.proofs.Taken.{in_scene, on_stage}
use Rattle.steps_why_walk.proofs.Keeping.{ok_then}
use Rattle.steps_why_walk.proofs.LeafRows.{equated_row, unequated_row}
use Rattle.steps_why_walk.proofs.single.walk_keep.Goals as goal
use denote.Ref.{Bor}

abbrev value : Bor Val → Val
value x = x.now

pub kept_value-requires : goal.kept_value-requires
kept_value-requires c =
    let s = c.args.stage in
    let g = setting c.args.stage in
    let vs = map value c.args.slots.now in
    let ctx = before c.args.stage (map value c.args.slots.now) in
    let d = c.args.depth in
    let p = c.args.places in
    let a = part_term c.args.part in
    let e = variable_at (place_of a) c.args.number.0 in
    let w = form_walks g d [] p ctx a (assign c.args.number.0 e) c.requires.form c.requires.grounds.0.0 c.requires.grounds.0.1 in
    let there = in_scene s vs p c.scene_at.result (λ ops x. Reads ops d x e) c.scene_at.ensures.table c.scene_at.ensures.context w.1 in
    subst (λ (at : Place). Reads (table c.scene_at.result) d (context c.scene_at.result) (variable_at at c.args.number.0)) (sym c.part_place.ensures) there

pub equated_end-requires : goal.equated_end-requires
equated_end-requires c =
    let s = c.args.stage in
    let g = setting c.args.stage in
    let vs = map value c.args.slots.now in
    let ctx = before c.args.stage (map value c.args.slots.now) in
    let d = c.args.depth in
    let p = c.args.places in
    let a = part_term c.args.part in
    let e = variable_at (place_of a) c.args.number.0 in
    let w = form_walks g d [] p ctx a (assign c.args.number.0 e) c.requires.form c.requires.grounds.0.0 c.requires.grounds.0.1 in
    w.0

pub returns-in_ok-end-in-Ok : goal.returns-in_ok-end-in-Ok
returns-in_ok-end-in-Ok c =
    let s = c.args.stage in
    let g = setting c.args.stage in
    let vs = map value c.args.slots.now in
    let ctx = before c.args.stage (map value c.args.slots.now) in
    let d = c.args.depth in
    let p = c.args.places in
    let a = part_term c.args.part in
    let e = variable_at (place_of a) c.args.number.0 in
    let w = form_walks g d [] p ctx a (assign c.args.number.0 e) c.requires.form c.requires.grounds.0.0 c.requires.grounds.0.1 in
    let told = subst (λ (at : Place). Evaluates (table c.scene_at.result) d (context c.scene_at.result) (variable_at at c.args.number.0) (Ok c.in-Ok.value)) c.part_place.ensures c.in-Ok.ensures in
    let there = on_stage s vs p c.scene_at.result (λ ops x. Evaluates ops d x e (Ok c.in-Ok.value)) c.scene_at.ensures.table c.scene_at.ensures.context told in
    ok_then c.one_end.result _ _ (λ x h k l. equated_row g c.args.sparing k l d ctx a p c.requires.grounds c.args.number.0 e c.requires.form c.in-Ok.value c.in_ok-end-in-Ok.end x.items w.0 there c.in_ok-end-in-Ok.ensures h) c.one_end.ensures

pub returns-in_ok-end-in-Err : goal.returns-in_ok-end-in-Err
returns-in_ok-end-in-Err c =
    let s = c.args.stage in
    let g = setting c.args.stage in
    let vs = map value c.args.slots.now in
    let ctx = before c.args.stage (map value c.args.slots.now) in
    let d = c.args.depth in
    let p = c.args.places in
    let a = part_term c.args.part in
    let e = variable_at (place_of a) c.args.number.0 in
    let told = subst (λ (at : Place). Tells {A = Val} (Err c.in-Err.fault) (Evaluates (table c.scene_at.result) d (context c.scene_at.result) (variable_at at c.args.number.0))) c.part_place.ensures c.in-Err.ensures in
    let there = on_stage s vs p c.scene_at.result (λ ops x. Tells {A = Val} (Err c.in-Err.fault) (Evaluates ops d x e)) c.scene_at.ensures.table c.scene_at.ensures.context told in
    ok_then c.one_end-in-Err.result _ _ (λ x h k l. unequated_row g c.args.sparing k l d ctx a p c.requires.grounds c.args.number.0 e c.requires.form c.in-Err.fault c.in_ok-end-in-Err.end x.items there c.in_ok-end-in-Err.ensures h) c.one_end-in-Err.ensures
