use Rattle.std.proofs.Common.{◌≡◌, ◌↔◌, ◌<◌, ℕ, length, subst, sym}
use Rattle.std.specs.Prelude.{All}
use Rattle.states_core.specs.States.{Values}
use Rattle.eval_meanings.specs.Laws.{HoldValues}
use Rattle.logs_updates.specs.declared.update.Update.{Update}
use Rattle.steps_lines_defs.specs.Says.{IsState}
use Rattle.steps_lines_defs.specs.Asks.{Moves, updated}
use Rattle.actions_meanings.specs.Filled.{Completes, Fills}
use Rattle.run_texts.specs.Answers.{named}
use Rattle.steps_why_not.proofs.Updated.{updated_is}
use Rattle.run_near_lines.specs.Tells.{IsNearLine}
use Rattle.run_near_lines.proofs.FirstTexts.{adds_none}
use Rattle.run_near_lines.proofs.Nearing.{stuck_lines, stuck_reached}
use Rattle.run_near_lines.proofs.Known.{none_of, some_of}
use Rattle.run_near_lines.proofs.asking.keep_entry.Goals as goal

pub keep_from-requires-clause-updated : goal.keep_from-requires-clause-updated
keep_from-requires-clause-updated c =
    let s = c.args.entry.now in
    let us = c.args.subject.line.now.updates in
    let p = c.in-Some.places in
    let o = c.in_ok-moved.field-0 in
    let m = c.in_ok-moved.ensures in
    let within : All (λ (u : Update). u.path.variable.0 < length s) us = subst (λ (n : ℕ). All (λ (u : Update). u.path.variable.0 < n) us) (sym c.requires.state.long) c.requires.fits.updates in
    updated_is us s p within (some_of o p (λ q. length q ≡ length s) c.in-Some.is m.long) (some_of o p (λ q. Fills (updated us) q) c.in-Some.is m.filled) (some_of o p (λ q. HoldValues q) c.in-Some.is m.values)
    (some_of o p (λ q. (t : Values) → Completes q t ↔ (IsState (length s) t × Moves us s t)) c.in-Some.is m.exact)

pub returns-in-None-clause-keeps : goal.returns-in-None-clause-keeps
returns-in-None-clause-keeps c =
    let g = c.args.subject.spec.now in
    let line = c.args.subject.line.now in
    let l = named c.args.subject.labels.now in
    let s = c.args.entry.now in
    let none = none_of c.in_ok-moved.field-0 ((t : Values) → IsState (length s) t → Moves line.updates s t → ⊥) c.in-None.is c.in_ok-moved.ensures.none in
    adds_none c.args.room (IsNearLine g line l s) c.args.texts.now.keys c.requires.few (stuck_lines g line l s none)

pub returns-in-None-clause-reached : goal.returns-in-None-clause-reached
returns-in-None-clause-reached c =
    let line = c.args.subject.line.now in
    let s = c.args.entry.now in
    stuck_reached c.args.subject.spec.now line (named c.args.subject.labels.now) s (none_of c.in_ok-moved.field-0 ((t : Values) → IsState (length s) t → Moves line.updates s t → ⊥) c.in-None.is c.in_ok-moved.ensures.none)
