use Rattle.std.proofs.Common.{[], subst, sym, List, Ok, Err, length}
use Rattle.eval_meanings.specs.Contexts.{Places}
use Rattle.actions_meanings.specs.Reads.{in_none}
use Rattle.steps_lines_defs.specs.Steps.{FaultSilent, Silent, silent_act}
use Rattle.states_layers.specs.Gives.{Gives}
use Rattle.states_layers.specs.declared.steps.StepFault.{StepFault}
use Rattle.steps_successors.specs.Among.{IsAmong}
use Rattle.steps_successors.specs.Taken.{BothFound, IsStart}
use Rattle.steps_successors.proofs.Giving.{silent_fault, silent_listed, silent_start}
use Rattle.steps_successors.proofs.steps.silent_steps.Goals as goal

pub silent_found-requires-clause-start : goal.silent_found-requires-clause-start
silent_found-requires-clause-start c =
    let g = c.args.spec.now in
    let fills = (c.ground_law.ensures.first (length g.variables) []).0 in (
      in_none,
      subst (λ (q : Places). IsStart g [] (silent_act g.silent) in_none q) (sym c.in_ok-places.ensures)
          (silent_start c.orderly_law.ensures c.whole_law.ensures c.seen_laws.ensures.whole c.seen_laws.ensures.shown g c.requires.ready c.args.from.now c.requires.state c.args.bound fills),
    )

pub returns-in-Ok : goal.returns-in-Ok
returns-in-Ok c =
    let g = c.args.spec.now in
    let fills = (c.ground_law.ensures.first (length g.variables) []).0 in
    silent_listed c.orderly_law.ensures c.whole_law.ensures c.seen_laws.ensures.whole c.seen_laws.ensures.shown g c.requires.ready c.args.from.now c.requires.state c.args.bound fills c.in-Ok.found.items
    (subst (λ (q : Places). BothFound g c.args.from.now [] (silent_act g.silent) q (Ok c.in-Ok.found.items)) c.in_ok-places.ensures c.in-Ok.ensures.found)
    c.states_of.result (subst (λ (qs : List Places). Gives (IsAmong qs) (λ t f. ⊥) (λ t. Unit {0}) c.args.bound c.states_of.result) c.deref.ensures.value c.states_of.ensures)

pub returns : goal.returns
returns c =
    let g = c.args.spec.now in
    let fills = (c.ground_law.ensures.first (length g.variables) []).0 in
    subst (λ (f : StepFault). Gives (Silent g c.args.from.now) (FaultSilent g in_none c.args.from.now) (λ t. Unit {0}) c.args.bound (Err f)) (sym c.refused.ensures)
    (silent_fault c.orderly_law.ensures c.whole_law.ensures c.seen_laws.ensures.whole c.seen_laws.ensures.shown g c.requires.ready c.args.from.now c.requires.state c.args.bound fills c.in-Err.fault
    (subst (λ (q : Places). BothFound g c.args.from.now [] (silent_act g.silent) q (Err c.in-Err.fault)) c.in_ok-places.ensures c.in-Err.ensures.fault))
