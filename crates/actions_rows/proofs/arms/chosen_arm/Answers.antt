use Rattle.std.proofs.Common.{◌<◌, ◌≤◌, List, length, Bool, Ok, Err, sym, subst, map, refl, [], arith}
use Rattle.std.proofs.lemmas.List.{length-map}
use Rattle.std.specs.Prelude.{Option, option_copied}
use Rattle.values_core.specs.declared.fault.EvalKind.TheVariants.{NoCase}
use Rattle.eval_meanings.specs.Evaluates.{Evaluates}
use Rattle.eval_meanings.specs.Outcomes.{fault}
use Rattle.eval_meanings.specs.Unchanged.{TruthOf}
use Rattle.actions_meanings.specs.Holds.{Chosen}
use Rattle.names_terms.specs.Terms.{Term}
use Rattle.names_terms.specs.TermViews.{arm_item}
use Rattle.eval_meanings.specs.Reads.{Reads, ReadsEach}
use Rattle.eval_parts.specs.Scenes.{Stops, context, table}
use Rattle.eval_parts.proofs.Loops.{arms_are, cut_at, cut_mapped}
use Rattle.actions_rows.proofs.ArmLemmas.{chosen_end, chosen_passed, chosen_stops, chosen_taken, tests_read}
use Rattle.actions_rows.proofs.arms.chosen_arm.Goals as goal
use denote.Ref.{Bor}

pub loop-arm-init : goal.loop-arm-init
loop-arm-init c =
    ((λ r h. h), subst (λ (es : List (Term × Term)). ReadsEach (Reads (table c.args.scene) c.args.depth) (context c.args.scene) (map (λ (q : Term × Term). q.0) es)) (sym (arms_are c.items-arm-items.result.now c.args.arms.now c.items-arm-items.ensures)) c.requires)

pub eval_truth-requires : goal.eval_truth-requires
eval_truth-requires c =
    let items = c.items-arm-items.result.now in
    let xs = map arm_item c.items-arm-items.result.now in
    let i = c.loop-arm.arm-index in
    let below : c.loop-arm.arm-index < length c.items-arm-items.result.now = omega arith in
    let cut = cut_mapped arm_item items i c.arm-item.result (cut_at items i c.arm-item.result below c.arm-item.is) in
    (tests_read (Reads (table c.args.scene) c.args.depth) (context c.args.scene) xs i (arm_item c.arm-item.result) cut c.loop-arm.invariant.1).0

pub returns-in-Ok-true-clause-chosen : goal.returns-in-Ok-true-clause-chosen
returns-in-Ok-true-clause-chosen c =
    let truth = TruthOf (Evaluates (table c.args.scene) c.args.depth) (context c.args.scene) in
    let other = option_copied c.args.other in
    let items = c.items-arm-items.result.now in
    let xs = map arm_item c.items-arm-items.result.now in
    let are = arms_are c.items-arm-items.result.now c.args.arms.now c.items-arm-items.ensures in
    let i = c.loop-arm.arm-index in
    let below : c.loop-arm.arm-index < length c.items-arm-items.result.now = omega arith in
    let cut = cut_mapped arm_item items i c.arm-item.result (cut_at items i c.arm-item.result below c.arm-item.is) in
    let holds = subst (λ (b : Bool). TruthOf (Evaluates (table c.args.scene) c.args.depth) (context c.args.scene) c.arm-item.result.test (Ok b)) c.in-Ok-true.field-0-test c.in-Ok-true.ensures in
    subst (λ (es : List (Term × Term)). Chosen truth c.args.at es other (Ok c.arm-item.result.value)) are (chosen_taken truth c.args.at other xs i (arm_item c.arm-item.result) cut holds c.loop-arm.invariant.0)

pub returns-in-Err-clause-fault : goal.returns-in-Err-clause-fault
returns-in-Err-clause-fault c =
    let truth = TruthOf (Evaluates (table c.args.scene) c.args.depth) (context c.args.scene) in
    let other = option_copied c.args.other in
    let items = c.items-arm-items.result.now in
    let xs = map arm_item c.items-arm-items.result.now in
    let are = arms_are c.items-arm-items.result.now c.args.arms.now c.items-arm-items.ensures in
    let i = c.loop-arm.arm-index in
    let below : c.loop-arm.arm-index < length c.items-arm-items.result.now = omega arith in
    let cut = cut_mapped arm_item items i c.arm-item.result (cut_at items i c.arm-item.result below c.arm-item.is) in
    subst (λ (es : List (Term × Term)). Stops (Chosen truth c.args.at es other) c.in-Err.fault) are (chosen_stops truth c.args.at other xs i (arm_item c.arm-item.result) c.in-Err.fault cut c.in-Err.ensures c.loop-arm.invariant.0)

pub loop-arm-preserved : goal.loop-arm-preserved
loop-arm-preserved c =
    let truth = TruthOf (Evaluates (table c.args.scene) c.args.depth) (context c.args.scene) in
    let other = option_copied c.args.other in
    let items = c.items-arm-items.result.now in
    let xs = map arm_item c.items-arm-items.result.now in
    let i = c.loop-arm.arm-index in
    let below : c.loop-arm.arm-index < length c.items-arm-items.result.now = omega arith in
    let cut = cut_mapped arm_item items i c.arm-item.result (cut_at items i c.arm-item.result below c.arm-item.is) in
    let fails = subst (λ (b : Bool). TruthOf (Evaluates (table c.args.scene) c.args.depth) (context c.args.scene) c.arm-item.result.test (Ok b)) c.in-Ok-false.field-0-test c.in-Ok-false.ensures in
    (chosen_passed truth c.args.at other xs i (arm_item c.arm-item.result) cut fails c.loop-arm.invariant.0, (tests_read (Reads (table c.args.scene) c.args.depth) (context c.args.scene) xs i (arm_item c.arm-item.result) cut c.loop-arm.invariant.1).1)

pub returns-in-Some-clause-chosen : goal.returns-in-Some-clause-chosen
returns-in-Some-clause-chosen c =
    let truth = TruthOf (Evaluates (table c.args.scene) c.args.depth) (context c.args.scene) in
    let other = option_copied c.args.other in
    let xs = map arm_item c.items-arm-items.result.now in
    let are = arms_are c.items-arm-items.result.now c.args.arms.now c.items-arm-items.ensures in
    let i = c.loop-arm.arm-index in
    let passed : length c.items-arm-items.result.now ≤ c.loop-arm.arm-index = omega arith in
    let over : length xs ≤ c.loop-arm.arm-index = omega (arith, passed, length-map c.items-arm-items.result.now arm_item) in
    let told = subst (λ (o : Option (Bor Term)). Chosen truth c.args.at [] (option_copied o) (Ok c.in-Some.term.now)) (sym c.in-Some.is) refl in
    subst (λ (es : List (Term × Term)). Chosen truth c.args.at es other (Ok c.in-Some.term.now)) are (chosen_end truth c.args.at other xs i (Ok c.in-Some.term.now) over told c.loop-arm.invariant.0)

pub returns-in-None-clause-fault : goal.returns-in-None-clause-fault
returns-in-None-clause-fault c =
    let truth = TruthOf (Evaluates (table c.args.scene) c.args.depth) (context c.args.scene) in
    let other = option_copied c.args.other in
    let xs = map arm_item c.items-arm-items.result.now in
    let are = arms_are c.items-arm-items.result.now c.args.arms.now c.items-arm-items.ensures in
    let i = c.loop-arm.arm-index in
    let passed : length c.items-arm-items.result.now ≤ c.loop-arm.arm-index = omega arith in
    let over : length xs ≤ c.loop-arm.arm-index = omega (arith, passed, length-map c.items-arm-items.result.now arm_item) in
    let told = subst (λ (o : Option (Bor Term)). Chosen truth c.args.at [] (option_copied o) (Err (fault NoCase c.args.at))) (sym c.in-None.is) refl in
    subst (λ (es : List (Term × Term)). Chosen truth c.args.at es other (Err (fault NoCase c.args.at))) are (chosen_end truth c.args.at other xs i (Err (fault NoCase c.args.at)) over told c.loop-arm.invariant.0)
