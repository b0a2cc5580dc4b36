use Rattle.std.proofs.Common.{◌≡◌, [], Bool, None, Ok, Err, ℕ, suc, ◌+◌, subst, map, arith}
use Rattle.values_core.specs.Data.{Val}
use Rattle.eval_meanings.specs.Answers.{Tells}
use Rattle.eval_meanings.specs.Evaluates.{Evaluates}
use Rattle.eval_meanings.specs.Unchanged.{TruthOf}
use Rattle.actions_meanings.specs.Forms.{test}
use Rattle.eval_meanings.specs.Reads.{Reads}
use Rattle.eval_parts.specs.Scenes.{context, table}
use Rattle.actions_rows.specs.Rows.{before, part_term, setting}
use Rattle.steps_walk.proofs.Rows.{form_walks}
use Rattle.steps_walk.proofs.Taken.{in_scene, on_stage, tested_there}
use Rattle.steps_why_branches.specs.declared.why.Ended.TheVariants.{Passed}
use Rattle.steps_why_branches.specs.declared.why.WhyKind.TheVariants as why
use Rattle.steps_why_walk.specs.Ends.{fail_end}
use Rattle.steps_why_walk.proofs.Keeping.{ok_then}
use Rattle.steps_why_walk.proofs.LeafRows.{end_by_truth, test_row, untested_row}
use Rattle.steps_why_walk.proofs.single.walk_test.Goals as goal
use denote.Ref.{Bor}

abbrev value : Bor Val → Val
value x = x.now

pub part_truth-requires : goal.part_truth-requires
part_truth-requires c =
    let s = c.args.stage in
    let g = setting c.args.stage in
    let vs = map value c.args.slots.now in
    let ctx = before c.args.stage (map value c.args.slots.now) in
    let d = c.args.depth in
    let p = c.args.places in
    let a = part_term c.args.part in
    let more : suc c.args.depth ≡ c.args.depth + 1 = omega arith in
    let reads = form_walks g d [] p ctx a test c.requires.form c.requires.grounds.0.0 c.requires.grounds.0.1 in
    record { read = subst (λ (n : ℕ). Reads (table c.scene_at.result) n (context c.scene_at.result) a) more (in_scene s vs p c.scene_at.result (λ ops x. Reads ops (suc d) x a) c.scene_at.ensures.table c.scene_at.ensures.context reads); tested = tested_there s vs p c.scene_at.result c.args.part c.scene_at.ensures.table c.scene_at.ensures.context c.requires.form }

pub returns-in_ok-end-in-Ok : goal.returns-in_ok-end-in-Ok
returns-in_ok-end-in-Ok c =
    let s = c.args.stage in
    let g = setting c.args.stage in
    let vs = map value c.args.slots.now in
    let ctx = before c.args.stage (map value c.args.slots.now) in
    let d = c.args.depth in
    let p = c.args.places in
    let a = part_term c.args.part in
    let less : c.args.depth + 1 ≡ suc c.args.depth = omega arith in
    let told = subst (λ (n : ℕ). TruthOf (Evaluates (table c.scene_at.result) n) (context c.scene_at.result) a (Ok c.in-Ok.holds)) less c.in-Ok.ensures in
    let there = on_stage s vs p c.scene_at.result (λ ops x. TruthOf (Evaluates ops (suc d)) x a (Ok c.in-Ok.holds)) c.scene_at.ensures.table c.scene_at.ensures.context told in
    let end = end_by_truth (Passed p None) (fail_end c.args.sparing p vs a why.TestFalse None) c.in_ok-end-in-Ok.end c.in-Ok.holds c.in_ok-end-in-Ok.ensures in
    ok_then c.one_end.result _ _ (λ x h k l. test_row g c.args.sparing k l d ctx a p c.requires.grounds c.in-Ok.holds c.in_ok-end-in-Ok.end x.items c.requires.form there end h) c.one_end.ensures

pub returns-in_ok-end-in-Err : goal.returns-in_ok-end-in-Err
returns-in_ok-end-in-Err c =
    let s = c.args.stage in
    let g = setting c.args.stage in
    let vs = map value c.args.slots.now in
    let ctx = before c.args.stage (map value c.args.slots.now) in
    let d = c.args.depth in
    let p = c.args.places in
    let a = part_term c.args.part in
    let less : c.args.depth + 1 ≡ suc c.args.depth = omega arith in
    let told = subst (λ (n : ℕ). Tells {A = Bool} (Err c.in-Err.fault) (TruthOf (Evaluates (table c.scene_at.result) n) (context c.scene_at.result) a)) less c.in-Err.ensures in
    let there = on_stage s vs p c.scene_at.result (λ ops x. Tells {A = Bool} (Err c.in-Err.fault) (TruthOf (Evaluates ops (suc d)) x a)) c.scene_at.ensures.table c.scene_at.ensures.context told in
    ok_then c.one_end-in-Err.result _ _ (λ x h k l. untested_row g c.args.sparing k l d ctx a p c.requires.grounds c.in-Err.fault c.in_ok-end-in-Err.end x.items c.requires.form there c.in_ok-end-in-Err.ensures h) c.one_end-in-Err.ensures
