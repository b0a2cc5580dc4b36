use Rattle.std.proofs.Common.{◌≡◌, ℕ, suc, ◌+◌, Bool, Ok, Err, subst, map, arith}
use Rattle.values_core.specs.Data.{Val}
use Rattle.eval_meanings.specs.Answers.{Tells}
use Rattle.eval_meanings.specs.Evaluates.{Evaluates}
use Rattle.eval_meanings.specs.Unchanged.{TruthOf}
use Rattle.actions_meanings.specs.Forms.{test}
use Rattle.eval_meanings.specs.Reads.{Reads}
use Rattle.eval_parts.specs.Scenes.{context, table}
use Rattle.actions_rows.specs.Rows.{before, part_term, setting}
use Rattle.steps_walk.specs.Walking.{listed}
use Rattle.steps_walk.proofs.Rows.{form_walks}
use Rattle.steps_walk.proofs.Taken.{in_scene, on_stage, tested_there}
use Rattle.steps_walk.proofs.Values.{tested_row, untested_row}
use Rattle.steps_walk.proofs.leaves.walk_test.Goals as goal
use denote.Ref.{Bor}

abbrev value : Bor Val → Val
value x = x.now

pub part_truth-requires : goal.part_truth-requires
part_truth-requires c =
    let s = c.args.course.now.stage in
    let g = setting c.args.course.now.stage in
    let vs = map value c.args.slots.now in
    let ctx = before c.args.course.now.stage (map value c.args.slots.now) in
    let d = c.args.depth in
    let sees = c.args.course.now.stage.sees.now in
    let p = c.args.places in
    let a = part_term c.args.part in
    let more : suc c.args.depth ≡ c.args.depth + 1 = omega arith in
    let reads = form_walks g d sees p ctx a test c.requires.form c.requires.grounds.0 c.requires.grounds.1 in
    record { read = subst (λ (n : ℕ). Reads (table c.scene_at.result) n (context c.scene_at.result) a) more (in_scene s vs p c.scene_at.result (λ ops x. Reads ops (suc d) x a) c.scene_at.ensures.table c.scene_at.ensures.context reads); tested = tested_there s vs p c.scene_at.result c.args.part c.scene_at.ensures.table c.scene_at.ensures.context c.requires.form }

pub returns-in-Ok-clause-found : goal.returns-in-Ok-clause-found
returns-in-Ok-clause-found c =
    let s = c.args.course.now.stage in
    let g = setting c.args.course.now.stage in
    let vs = map value c.args.slots.now in
    let ctx = before c.args.course.now.stage (map value c.args.slots.now) in
    let d = c.args.depth in
    let sees = c.args.course.now.stage.sees.now in
    let p = c.args.places in
    let a = part_term c.args.part in
    let less : c.args.depth + 1 ≡ suc c.args.depth = omega arith in
    let told = subst (λ (n : ℕ). TruthOf (Evaluates (table c.scene_at.result) n) (context c.scene_at.result) a (Ok c.in-Ok.holds)) less c.in-Ok.ensures in
    let there = on_stage s vs p c.scene_at.result (λ ops x. TruthOf (Evaluates ops (suc d)) x a (Ok c.in-Ok.holds)) c.scene_at.ensures.table c.scene_at.ensures.context told in
    tested_row g d sees p ctx a c.in-Ok.holds (listed c.found_if.result) c.requires.form there c.found_if.ensures

pub returns-in-Err-clause-fault : goal.returns-in-Err-clause-fault
returns-in-Err-clause-fault c =
    let s = c.args.course.now.stage in
    let g = setting c.args.course.now.stage in
    let vs = map value c.args.slots.now in
    let ctx = before c.args.course.now.stage (map value c.args.slots.now) in
    let d = c.args.depth in
    let sees = c.args.course.now.stage.sees.now in
    let p = c.args.places in
    let a = part_term c.args.part in
    let less : c.args.depth + 1 ≡ suc c.args.depth = omega arith in
    let told = subst (λ (n : ℕ). Tells {A = Bool} (Err c.in-Err.fault) (TruthOf (Evaluates (table c.scene_at.result) n) (context c.scene_at.result) a)) less c.in-Err.ensures in
    let there = on_stage s vs p c.scene_at.result (λ ops x. Tells {A = Bool} (Err c.in-Err.fault) (TruthOf (Evaluates ops (suc d)) x a)) c.scene_at.ensures.table c.scene_at.ensures.context told in
    untested_row g d sees p ctx a c.in-Err.fault c.requires.form there
