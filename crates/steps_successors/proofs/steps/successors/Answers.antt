use Rattle.std.proofs.Common.{◌≡◌, ◌↔◌, subst, sym, List, Ok, Err, length, true, false, arith}
use Rattle.states_core.specs.States.{Values}
use Rattle.eval_meanings.specs.Contexts.{Places}
use Rattle.eval_meanings.specs.Laws.{HoldValues}
use Rattle.logs_updates.specs.declared.update.See.{See}
use Rattle.steps_lines_defs.specs.Says.{IsState}
use Rattle.steps_lines_defs.specs.Asks.{AreSeen, Moves, act_of, asks, updated}
use Rattle.steps_lines_defs.specs.Steps.{FaultStep, Step}
use Rattle.actions_meanings.specs.Filled.{Completes, Fills}
use Rattle.steps_found_states.specs.Walks.{Agrees}
use Rattle.states_layers.specs.Gives.{Gives}
use Rattle.states_layers.specs.declared.steps.StepFault.{StepFault}
use Rattle.steps_successors.specs.Among.{IsAmong}
use Rattle.steps_successors.specs.Taken.{AddsIf, BothFound, IsStart, MayRest}
use Rattle.steps_successors.proofs.Answering.{adds_where, not_so, some_of}
use Rattle.steps_successors.proofs.Giving.{line_fault, line_listed, line_start, unseen}
use Rattle.steps_successors.proofs.steps.successors.Goals as goal

pub returns-then-not-agrees : goal.returns-then-not-agrees
returns-then-not-agrees c =
    let g = c.args.spec.now in
    let s = c.args.from.now in
    let line = c.args.line.now in
    let p = c.in-Some.places in
    let m = c.in_ok-places in
    let long = some_of m.field-0 p (λ q. length q ≡ length s) c.in-Some.is m.ensures.long in
    let filled = some_of m.field-0 p (λ q. Fills (updated line.updates) q) c.in-Some.is m.ensures.filled in
    let values = some_of m.field-0 p (λ q. HoldValues q) c.in-Some.is m.ensures.values in
    let exact = some_of m.field-0 p (λ q. (t : Values) → Completes q t ↔ (IsState (length s) t × Moves line.updates s t)) c.in-Some.is m.ensures.exact in
    let no : c.agrees.result ≡ false = grind arith in
    unseen c.orderly_law.ensures c.whole_law.ensures c.seen_laws.ensures.whole c.seen_laws.ensures.shown g c.requires.ready s c.requires.state c.args.bound c.args.stutter line c.requires.fits p long filled values exact
    (λ a. not_so c.agrees.result (Agrees c.items-sees.result.now p) c.agrees.ensures no (subst (λ (ss : List See). Agrees ss p) (sym c.items-sees.ensures) a)) c.new-then-not-agrees.result c.new-then-not-agrees.ensures.items

pub event_found-requires-clause-start : goal.event_found-requires-clause-start
event_found-requires-clause-start c =
    let g = c.args.spec.now in
    let s = c.args.from.now in
    let line = c.args.line.now in
    let p = c.in-Some.places in
    let m = c.in_ok-places in
    let long = some_of m.field-0 p (λ q. length q ≡ length s) c.in-Some.is m.ensures.long in
    let filled = some_of m.field-0 p (λ q. Fills (updated line.updates) q) c.in-Some.is m.ensures.filled in
    let values = some_of m.field-0 p (λ q. HoldValues q) c.in-Some.is m.ensures.values in
    let exact = some_of m.field-0 p (λ q. (t : Values) → Completes q t ↔ (IsState (length s) t × Moves line.updates s t)) c.in-Some.is m.ensures.exact in
    let yes : c.agrees.result ≡ true = grind arith in
    let agreed = subst (λ (ss : List See). Agrees ss p) c.items-sees.ensures (c.agrees.ensures.0 yes) in
    (updated line.updates, subst (λ (ss : List See). IsStart g ss (act_of line.event) (updated line.updates) p) (sym c.items-sees.ensures) (line_start c.orderly_law.ensures c.whole_law.ensures c.seen_laws.ensures.whole c.seen_laws.ensures.shown g c.requires.ready s c.requires.state c.args.bound c.args.stutter line c.requires.fits p long filled values exact agreed))

pub returns-in-Ok : goal.returns-in-Ok
returns-in-Ok c =
    let g = c.args.spec.now in
    let s = c.args.from.now in
    let line = c.args.line.now in
    let p = c.in-Some.places in
    let m = c.in_ok-places in
    let long = some_of m.field-0 p (λ q. length q ≡ length s) c.in-Some.is m.ensures.long in
    let filled = some_of m.field-0 p (λ q. Fills (updated line.updates) q) c.in-Some.is m.ensures.filled in
    let values = some_of m.field-0 p (λ q. HoldValues q) c.in-Some.is m.ensures.values in
    let exact = some_of m.field-0 p (λ q. (t : Values) → Completes q t ↔ (IsState (length s) t × Moves line.updates s t)) c.in-Some.is m.ensures.exact in
    let yes : c.agrees.result ≡ true = grind arith in
    let agreed = subst (λ (ss : List See). Agrees ss p) c.items-sees.ensures (c.agrees.ensures.0 yes) in
    line_listed c.orderly_law.ensures c.whole_law.ensures c.seen_laws.ensures.whole c.seen_laws.ensures.shown g c.requires.ready s c.requires.state c.args.bound c.args.stutter line c.requires.fits p long filled values exact agreed c.in-Ok.found.items c.add_rest.new.found.items
    (subst (λ (ss : List See). BothFound g s ss (act_of line.event) p (Ok c.in-Ok.found.items)) c.items-sees.ensures c.in-Ok.ensures.found)
    (subst (λ (q : Places). AddsIf (MayRest c.args.stutter line p q) q c.in-Ok.found.items c.add_rest.new.found.items) c.in_ok-whole.ensures
    (adds_where _ _ _ _ _ c.rests-stays.ensures c.in_ok-add_rest-in-Ok.ensures))
    c.states_of.result (subst (λ (qs : List Places). Gives (IsAmong qs) (λ t f. ⊥) (λ t. Unit {0}) c.args.bound c.states_of.result) c.deref.ensures.value c.states_of.ensures)

pub returns : goal.returns
returns c =
    let g = c.args.spec.now in
    let s = c.args.from.now in
    let line = c.args.line.now in
    let p = c.in-Some.places in
    let m = c.in_ok-places in
    let long = some_of m.field-0 p (λ q. length q ≡ length s) c.in-Some.is m.ensures.long in
    let filled = some_of m.field-0 p (λ q. Fills (updated line.updates) q) c.in-Some.is m.ensures.filled in
    let values = some_of m.field-0 p (λ q. HoldValues q) c.in-Some.is m.ensures.values in
    let exact = some_of m.field-0 p (λ q. (t : Values) → Completes q t ↔ (IsState (length s) t × Moves line.updates s t)) c.in-Some.is m.ensures.exact in
    let yes : c.agrees.result ≡ true = grind arith in
    let agreed = subst (λ (ss : List See). Agrees ss p) c.items-sees.ensures (c.agrees.ensures.0 yes) in
    subst (λ (f : StepFault). Gives (Step (asks g c.args.stutter line) s) (FaultStep (asks g c.args.stutter line) (updated line.updates) s) (AreSeen line.sees) c.args.bound (Err f)) (sym c.refused.ensures)
    (line_fault c.orderly_law.ensures c.whole_law.ensures c.seen_laws.ensures.whole c.seen_laws.ensures.shown g c.requires.ready s c.requires.state c.args.bound c.args.stutter line c.requires.fits p long filled values exact agreed c.in-Err.fault (subst (λ (ss : List See). BothFound g s ss (act_of line.event) p (Err c.in-Err.fault)) c.items-sees.ensures c.in-Err.ensures.fault))
