use Rattle.std.proofs.Common.{◌≡◌, ◌∙◌, ◌+◌, ◌++◌, ◌<◌, ◌≤◌, Ok, Err, ap, map, sym, subst, length, length-append, arith}
use Rattle.std.proofs.lemmas.List.{length-map}
use Rattle.states_core.specs.States.{Values}
use Rattle.steps_lines_defs.specs.Says.{IsState}
use Rattle.base_cuts.specs.Cuts.{Cut, next, with_one}
use Rattle.base_cuts.specs.Orders.{IsReadyAt}
use Rattle.base_cuts.proofs.Ends.{ready_inside}
use Rattle.states_layers.specs.Gives.{Gives}
use Rattle.logs_tied.proofs.Small.{countable}
use Rattle.steps_tied.specs.Tied.{CutState}
use Rattle.steps_cut_source.specs.Listing.{at_cut}
use Rattle.steps_cut_source.specs.Spoken.{spoken}
use Rattle.steps_cut_source.proofs.Adding.{added, line_ready, passes, stops}
use Rattle.steps_cut_source.proofs.Untied.{untied}
use Rattle.steps_cut_source.proofs.listing.add_line.Goals as goal

pub successors-requires-clause-ready : goal.successors-requires-clause-ready
successors-requires-clause-ready c = c.requires.ready.spec

pub successors-requires-clause-fits : goal.successors-requires-clause-fits
successors-requires-clause-fits c =
    line_ready c.args.steps.now.spec.now c.args.steps.now.logs.now.files.items (next c.args.from.now.cut c.args.file) c.args.line.now c.requires.stands c.requires.ready.lines

pub successors-requires-clause-state : goal.successors-requires-clause-state
successors-requires-clause-state c = subst (IsState (length c.args.steps.now.spec.now.variables)) (sym (ap (λ (x : CutState). x.state) c.from.view_is)) c.requires.state

pub returns-then-len-bound-clause-stopped : goal.returns-then-len-bound-clause-stopped
returns-then-len-bound-clause-stopped c =
    let k = spoken c.args.steps.now in
    let logs = c.args.steps.now.logs.now in
    let made = (untied logs c.args.steps.now.tied).made in
    let e = c.args.from.now in
    let few = c.requires.few in
    let more : c.args.bound < length c.args.made.items + length c.in-Ok.states.items = grind arith in
    record {
      stops = passes k logs.files.items logs.order made e c.args.file c.args.line.now c.requires.next c.requires.stands (ready_inside logs.order made e.cut (next e.cut c.args.file) c.requires.next) c.args.bound
          c.args.made.items c.in-Ok.states c.requires.below.gives
          (subst (λ (s : Values). Gives (k.Step c.args.line.now s) (k.FaultStep c.args.line.now s) (k.Seen c.args.line.now) c.args.bound (Ok c.in-Ok.states)) (ap (λ (x : CutState). x.state) c.from.view_is) c.in-Ok.ensures)
          more;
    }

pub take-requires-clause-made : goal.take-requires-clause-made
take-requires-clause-made c = (untied c.args.steps.now.logs.now c.args.steps.now.tied).made

pub take-requires-clause-countable : goal.take-requires-clause-countable
take-requires-clause-countable c = countable c.args.steps.now.logs.now.order c.args.steps.now.few_lines

pub take-requires-clause-ready : goal.take-requires-clause-ready
take-requires-clause-ready c =
    subst (λ (d : Cut). IsReadyAt c.args.steps.now.logs.now.order d (next d c.args.file)) (sym (ap (λ (x : CutState). x.cut) c.from.view_is)) c.requires.next

pub returns-in_ok-now-in-Ok-clause-few : goal.returns-in_ok-now-in-Ok-clause-few
returns-in_ok-now-in-Ok-clause-few c =
    let few = c.requires.few in
    let room : length c.in-Ok.states.items + length c.args.made.items ≤ c.args.bound = grind arith in
    let is = c.in_ok-now-in-Ok.ensures in
    let l = ap length is in
    let both = length-append c.args.made.items (map (at_cut c.in_ok-cut-in-Ok.cut) c.in-Ok.states.items) in
    let long = length-map c.in-Ok.states.items (at_cut c.in_ok-cut-in-Ok.cut) in
    omega (arith, room, l, both, long)

pub returns-in_ok-now-in-Ok-clause-all : goal.returns-in_ok-now-in-Ok-clause-all
returns-in_ok-now-in-Ok-clause-all c =
    let k = spoken c.args.steps.now in
    let logs = c.args.steps.now.logs.now in
    let made = (untied logs c.args.steps.now.tied).made in
    let e = c.args.from.now in
    let cut : c.in_ok-cut-in-Ok.cut ≡ with_one e.cut c.args.file = c.in_ok-cut-in-Ok.ensures ∙ ap (λ (x : CutState). with_one x.cut c.args.file) c.from.view_is in
    record {
      gives = added k logs.files.items logs.order made e c.args.file c.args.line.now c.requires.next c.requires.stands (ready_inside logs.order made e.cut (next e.cut c.args.file) c.requires.next) c.args.bound
          c.args.made.items c.in_ok-now-in-Ok.now.items c.in-Ok.states c.requires.below.gives
          (subst (λ (s : Values). Gives (k.Step c.args.line.now s) (k.FaultStep c.args.line.now s) (k.Seen c.args.line.now) c.args.bound (Ok c.in-Ok.states)) (ap (λ (x : CutState). x.state) c.from.view_is) c.in-Ok.ensures)
          (subst (λ (d : Cut). c.in_ok-now-in-Ok.now.items ≡ c.args.made.items ++ map (at_cut d) c.in-Ok.states.items) cut c.in_ok-now-in-Ok.ensures);
    }

pub returns-in-Err-clause-stopped : goal.returns-in-Err-clause-stopped
returns-in-Err-clause-stopped c =
    let k = spoken c.args.steps.now in
    let logs = c.args.steps.now.logs.now in
    let made = (untied logs c.args.steps.now.tied).made in
    let e = c.args.from.now in
    record {
      stops = stops k logs.files.items logs.order made e c.args.file c.args.line.now c.requires.next c.requires.stands (ready_inside logs.order made e.cut (next e.cut c.args.file) c.requires.next) c.args.bound c.in-Err.stop
          (subst (λ (s : Values). Gives (k.Step c.args.line.now s) (k.FaultStep c.args.line.now s) (k.Seen c.args.line.now) c.args.bound (Err c.in-Err.stop)) (ap (λ (x : CutState). x.state) c.from.view_is) c.in-Err.ensures);
    }
