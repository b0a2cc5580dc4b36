use Rattle.std.proofs.Common.{◌+◌, arith, [], List, string_bytes, subst, sym, take}
use Rattle.std.specs.Prelude.{All}
use Rattle.std.proofs.lemmas.List.{take_all}
use Rattle.std.proofs.lemmas.List.Elements.{All-more, All-nil}
use Rattle.states_core.specs.States.{Values}
use Rattle.run_texts.specs.Answers.{named}
use Rattle.steps_why_walk.proofs.Keeping.{ok_then}
use Rattle.run_near_lines.specs.Adding.{Adds, OneSays}
use Rattle.run_near_lines.specs.Repairs.{AreReached}
use Rattle.run_near_lines.specs.Tells.{IsNearLine}
use Rattle.run_near_lines.proofs.FirstTexts.{adds_few}
use Rattle.run_near_lines.proofs.Loops.{one_ends, one_starts, one_step}
use Rattle.run_near_lines.proofs.Known.{on_any_ok}
use Rattle.run_near_lines.proofs.Telling.{near_is}
use Rattle.run_near_lines.proofs.asking.near_lines.Goals as goal

pub loop-entry-init : goal.loop-entry-init
loop-entry-init c =
    let P = IsNearLine c.args.spec.now c.args.line.now (named c.args.labels.now) in
    record {
      keeps = subst (λ ks. Adds (c.args.most + 1) (OneSays P (take 0 c.args.entries.now)) [] ks) (sym c.new-texts.ensures.empty) (one_starts P (c.args.most + 1) c.args.entries.now [] (omega arith));
      reached = All-nil (AreReached c.args.spec.now c.args.line.now);
    }

pub keep_entry-requires-clause-few : goal.keep_entry-requires-clause-few
keep_entry-requires-clause-few c =
    adds_few (c.args.most + 1) (OneSays (IsNearLine c.args.spec.now c.args.line.now (named c.args.labels.now)) (take c.loop-entry.entry-index c.args.entries.now)) [] c.loop-entry.texts.keys c.loop-entry.invariant.keeps

pub loop-entry-preserved : goal.loop-entry-preserved
loop-entry-preserved c =
    let g = c.args.spec.now in
    let line = c.args.line.now in
    let i = c.loop-entry.entry-index in
    let s = c.entry-item.result in
    record {
      keeps = one_step (IsNearLine g line (named c.args.labels.now)) (c.args.most + 1) c.args.entries.now [] c.loop-entry.texts.keys c.keep_entry.new.texts.keys i s c.loop-entry-test.true c.entry-item.is c.loop-entry.invariant.keeps c.in_ok-keep_entry.ensures.keeps;
      reached = All-more (AreReached g line) c.args.entries.now i s c.loop-entry-test.true c.loop-entry.invariant.reached (subst (λ (t : Values). AreReached g line t) c.entry-item.is c.in_ok-keep_entry.ensures.reached);
    }

pub returns-clause-told : goal.returns-clause-told
returns-clause-told c =
    let g = c.args.spec.now in
    let line = c.args.line.now in
    let l = named c.args.labels.now in
    let keys = c.loop-entry.texts.keys in
    let all = one_ends (IsNearLine g line l) (c.args.most + 1) c.args.entries.now [] keys c.loop-entry.entry-index c.loop-entry-test.false c.loop-entry.invariant.keeps in
    ok_then c.near_told.result _ _ (λ told e. near_is g line l c.args.most c.args.entries.now keys (string_bytes told) all e) c.near_told.ensures

pub returns-clause-reached : goal.returns-clause-reached
returns-clause-reached c =
    let R = AreReached c.args.spec.now c.args.line.now in
    on_any_ok c.near_told.result (All R c.args.entries.now) (subst (λ (ss : List Values). All R ss) (take_all c.loop-entry.entry-index c.args.entries.now c.loop-entry-test.false) c.loop-entry.invariant.reached)
