use Rattle.std.proofs.Common.{Bool, true, false, Ok, Err, refl, map, subst, ℕ}
use Rattle.values_core.specs.Data.{Val}
use Rattle.eval_meanings.specs.Answers.{Tells}
use Rattle.eval_meanings.specs.Evaluates.{Evaluates}
use Rattle.eval_meanings.specs.Unchanged.{TruthOf, changed_of}
use Rattle.names_terms.specs.Terms.{Term}
use Rattle.eval_meanings.specs.Reads.{Reads}
use Rattle.eval_parts.specs.Scenes.{context, table}
use Rattle.eval_parts.specs.declared.scene.Scene.{Scene}
use Rattle.actions_rows.specs.Rows.{before, setting}
use Rattle.steps_walk.proofs.Taken.{in_scene, on_stage}
use Rattle.steps_why_walk.proofs.Keeping.{ok_then}
use Rattle.steps_why_walk.proofs.LeafRows.{altered_refused}
use Rattle.steps_why_walk.proofs.changes.changed_end.Goals as goal
use denote.Ref.{Bor}

abbrev value : Bor Val → Val
value x = x.now

abbrev Answered : Scene → ℕ → Term → Bool → Type 0
Answered scene d e b = TruthOf (Evaluates (table scene) d) (context scene) e (Ok b)

pub changed_truth-requires : goal.changed_truth-requires
changed_truth-requires c =
    let s = c.args.stage in
    let g = setting c.args.stage in
    let vs = map value c.args.slots.now in
    let ctx = before c.args.stage (map value c.args.slots.now) in
    let d = c.args.depth in
    let ch = changed_of c.args.at c.args.term.now in
    in_scene s vs c.args.places c.scene_at.result (λ ops x. Reads ops d x ch) c.scene_at.ensures.table c.scene_at.ensures.context c.requires

pub returns-in-Ok-true : goal.returns-in-Ok-true
returns-in-Ok-true c =
    let s = c.args.stage in
    let g = setting c.args.stage in
    let vs = map value c.args.slots.now in
    let ctx = before c.args.stage (map value c.args.slots.now) in
    let d = c.args.depth in
    let ch = changed_of c.args.at c.args.term.now in
    let here = subst (λ (b : Bool). Answered c.scene_at.result d ch b) c.in-Ok-true.field-0-test c.in-Ok-true.ensures in
    let there = on_stage s vs c.args.places c.scene_at.result (λ ops x. TruthOf (Evaluates ops d) x ch (Ok true)) c.scene_at.ensures.table c.scene_at.ensures.context here in
    (Ok true, there, refl)

pub returns-in-Ok-false : goal.returns-in-Ok-false
returns-in-Ok-false c =
    let s = c.args.stage in
    let g = setting c.args.stage in
    let vs = map value c.args.slots.now in
    let ctx = before c.args.stage (map value c.args.slots.now) in
    let d = c.args.depth in
    let ch = changed_of c.args.at c.args.term.now in
    let here = subst (λ (b : Bool). Answered c.scene_at.result d ch b) c.in-Ok-false.field-0-test c.in-Ok-false.ensures in
    let there = on_stage s vs c.args.places c.scene_at.result (λ ops x. TruthOf (Evaluates ops d) x ch (Ok false)) c.scene_at.ensures.table c.scene_at.ensures.context here in
    (Ok false, there, c.ends_at.ensures)

pub returns-in-Err : goal.returns-in-Err
returns-in-Err c =
    let s = c.args.stage in
    let g = setting c.args.stage in
    let vs = map value c.args.slots.now in
    let ctx = before c.args.stage (map value c.args.slots.now) in
    let d = c.args.depth in
    let ch = changed_of c.args.at c.args.term.now in
    let there = on_stage s vs c.args.places c.scene_at.result (λ ops x. Tells {A = Bool} (Err c.in-Err.fault) (TruthOf (Evaluates ops d) x ch)) c.scene_at.ensures.table c.scene_at.ensures.context c.in-Err.ensures in
    ok_then c.fault_end.result _ _ (λ n h. altered_refused g d ctx ch c.args.places c.args.spared c.in-Err.fault n there h) c.fault_end.ensures
