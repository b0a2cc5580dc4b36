use Rattle.std.proofs.Common.{◌∙◌, subst, sym, List, Ok, Err}
use Rattle.eval_meanings.specs.Contexts.{Places}
use Rattle.actions_meanings.specs.Reads.{in_none}
use Rattle.steps_lines_defs.specs.Asks.{AreSeen}
use Rattle.steps_lines_defs.specs.Steps.{FaultFirst, IsFirst}
use Rattle.states_layers.specs.Gives.{Gives}
use Rattle.states_layers.specs.declared.steps.StepFault.{StepFault}
use Rattle.steps_successors.specs.Among.{IsAmong}
use Rattle.steps_successors.proofs.Beginning.{init_found, init_grounded}
use Rattle.steps_successors.proofs.Giving.{first_fault, first_listed}
use Rattle.steps_successors.proofs.first.initial.Goals as goal

pub walk-requires : goal.walk-requires
walk-requires c =
    let t = c.stage_of_init-stage in
    init_grounded c.orderly_law.ensures c.whole_law.ensures c.ground_law.ensures.first c.args.spec.now c.requires.ready c.args.sees.now t.result c.in_ok-places.places c.in_ok-places.ensures c.items.result.now
    t.ensures.setting (t.ensures.state ∙ c.in_ok-before.ensures ∙ sym c.in_ok-places.ensures) t.ensures.sees c.items.ensures

pub returns-in-Ok : goal.returns-in-Ok
returns-in-Ok c =
    let t = c.stage_of_init-stage in
    let found = init_found c.orderly_law.ensures c.whole_law.ensures c.ground_law.ensures.first c.args.spec.now c.requires.ready c.args.sees.now t.result c.in_ok-places.places c.in_ok-places.ensures c.items.result.now
    t.ensures.setting (t.ensures.state ∙ c.in_ok-before.ensures ∙ sym c.in_ok-places.ensures) t.ensures.sees c.items.ensures (Ok c.in-Ok.found.items) c.in-Ok.ensures.found in
    first_listed c.orderly_law.ensures c.whole_law.ensures c.seen_laws.ensures.whole c.args.spec.now c.requires.ready c.args.sees.now c.args.bound c.requires.sees c.in-Ok.found.items found c.states_of.result
    (subst (λ (qs : List Places). Gives (IsAmong qs) (λ t f. ⊥) (λ t. Unit {0}) c.args.bound c.states_of.result) c.deref.ensures.value c.states_of.ensures)

pub returns : goal.returns
returns c =
    let t = c.stage_of_init-stage in
    let found = init_found c.orderly_law.ensures c.whole_law.ensures c.ground_law.ensures.first c.args.spec.now c.requires.ready c.args.sees.now t.result c.in_ok-places.places c.in_ok-places.ensures c.items.result.now
    t.ensures.setting (t.ensures.state ∙ c.in_ok-before.ensures ∙ sym c.in_ok-places.ensures) t.ensures.sees c.items.ensures (Err c.in-Err.fault) c.in-Err.ensures.fault in
    subst (λ (f : StepFault). Gives (IsFirst c.args.spec.now c.args.sees.now) (FaultFirst c.args.spec.now in_none) (AreSeen c.args.sees.now) c.args.bound (Err f)) (sym c.refused.ensures)
    (first_fault c.orderly_law.ensures c.whole_law.ensures c.seen_laws.ensures.whole c.args.spec.now c.requires.ready c.args.sees.now c.args.bound c.in-Err.fault found)
