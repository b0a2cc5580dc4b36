use Rattle.std.proofs.Common.{◌≡◌, ◌↔◌, ◌<◌, subst, sym, ℕ, length}
use Rattle.std.specs.Prelude.{All}
use Rattle.states_core.specs.States.{Values}
use Rattle.eval_meanings.specs.Laws.{HoldValues}
use Rattle.logs_updates.specs.declared.update.Update.{Update}
use Rattle.steps_lines_defs.specs.Says.{IsState}
use Rattle.steps_lines_defs.specs.Asks.{Moves, updated}
use Rattle.actions_meanings.specs.Filled.{Completes, Fills}
use Rattle.steps_why_walk.proofs.Keeping.{ok_then}
use Rattle.steps_why_not.proofs.Answering.{none_of, some_of, stuck_are, stuck_show, stuck_some}
use Rattle.steps_why_not.proofs.Updated.{updated_is}
use Rattle.steps_why_not.proofs.asking.why.Goals as goal

pub no_result-requires-clause-none : goal.no_result-requires-clause-none
no_result-requires-clause-none c =
    let s = c.args.state.now in
    let us = c.args.line.now.updates in
    none_of c.in_ok-next.next ((t : Values) → IsState (length s) t → ¬ Moves us s t) c.in-None.is c.in_ok-next.ensures.none

pub first_whys-requires-clause-updated : goal.first_whys-requires-clause-updated
first_whys-requires-clause-updated c =
    let s = c.args.state.now in
    let us = c.args.line.now.updates in
    let p = c.in-Some.places in
    let o = c.in_ok-next.next in
    let m = c.in_ok-next.ensures in
    let within : All (λ (u : Update). u.path.variable.0 < length s) us = subst (λ (n : ℕ). All (λ (u : Update). u.path.variable.0 < n) us) (sym c.requires.state.long) c.requires.fits.updates in
    updated_is us s p within (some_of o p (λ q. length q ≡ length s) c.in-Some.is m.long) (some_of o p (λ q. Fills (updated us) q) c.in-Some.is m.filled) (some_of o p (λ q. HoldValues q) c.in-Some.is m.values)
    (some_of o p (λ q. (t : Values) → Completes q t ↔ (IsState (length s) t × Moves us s t)) c.in-Some.is m.exact)

pub first_whys-requires-clause-exact : goal.first_whys-requires-clause-exact
first_whys-requires-clause-exact c =
    let s = c.args.state.now in
    let us = c.args.line.now.updates in
    some_of c.in_ok-next.next c.in-Some.places (λ q. (t : Values) → Completes q t ↔ (IsState (length s) t × Moves us s t)) c.in-Some.is c.in_ok-next.ensures.exact

pub returns-in-None-clause-list : goal.returns-in-None-clause-list
returns-in-None-clause-list c =
    ok_then c.no_result.result _ _ (λ whys h. stuck_are c.args.spec.now c.args.line.now c.args.state.now c.args.most h.0 whys.list.items whys.more h.1 h.2 h.3) c.no_result.ensures

pub returns-in-None-clause-some : goal.returns-in-None-clause-some
returns-in-None-clause-some c = ok_then c.no_result.result _ _ (λ whys h. stuck_some whys.list.items h.0 h.2) c.no_result.ensures

pub returns-in-None-clause-shows : goal.returns-in-None-clause-shows
returns-in-None-clause-shows c =
    let s = c.args.state.now in
    let us = c.args.line.now.updates in
    let none = none_of c.in_ok-next.next ((t : Values) → IsState (length s) t → ¬ Moves us s t) c.in-None.is c.in_ok-next.ensures.none in
    ok_then c.no_result.result _ _ (λ whys h. stuck_show c.args.spec.now c.args.line.now s whys.list.items whys.more c.requires.state none) c.no_result.ensures
