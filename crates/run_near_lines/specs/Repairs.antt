-- What a near line tells: had the parts that it names held, or the one thing that it names been seen, the line would have a step.
use Rattle.std.specs.Prelude.{◌≡◌, ◌++◌, List, [], false, Option, None, Some, slice_get}
use Rattle.base_core.specs.declared.place.Place.{Place}
use Rattle.states_core.specs.States.{Values}
use Rattle.names_terms.specs.declared.operator.Operator.{Operator}
use Rattle.names_terms.specs.declared.spec.Spec.{Spec}
use Rattle.eval_meanings.specs.Contexts.{Places}
use Rattle.eval_meanings.specs.Evaluates.{max_evaluations}
use Rattle.actions_meanings.specs.declared.which.Which.TheVariants as which
use Rattle.logs_updates.specs.declared.line.Line.{Line}
use Rattle.logs_updates.specs.declared.update.See.{See}
use Rattle.steps_lines_defs.specs.Says.{Act, BothHold, at_states, setting}
use Rattle.steps_lines_defs.specs.Asks.{AreSeen, LineAsks, act_of, asks}
use Rattle.steps_lines_defs.specs.Steps.{Step}
use Rattle.actions_meanings.specs.Filled.{Completes}
use Rattle.steps_why_branches.specs.Repaired.{HoldsBut}
use Rattle.steps_why_branches.specs.Told.{IsSpared}
use Rattle.steps_why_branches.specs.Traces.{SparedPart}
use Rattle.steps_why_branches.specs.declared.sparing.Passing.TheVariants.{At}
use Rattle.steps_why_branches.specs.declared.sparing.Spared.{Spared}
use Rattle.run_near_lines.specs.Near.{FailsAt, LacksSee}

-- the event's operator, where there is one, and Next, where the parts at the place are taken to hold
abbrev pub BothHoldBut : Spec → Place → Option Act → Values → Values → Type 0
BothHoldBut g at None s t = HoldsBut (setting which.Action g) (At at) max_evaluations (at_states [] s t) g.next
BothHoldBut g at (Some a) s t =
    ((o : Operator) × (slice_get g.operators a.operator ≡ Some o) × HoldsBut (setting which.Action g) (At at) max_evaluations (at_states a.arguments s t) o.body)
    × HoldsBut (setting which.Action g) (At at) max_evaluations (at_states [] s t) g.next

-- what the line asks, but that this is asked of both states, and that these things alone are to be seen
abbrev pub asks_but : Spec → Line → (Values → Values → Type 0) → List See → LineAsks
asks_but g line acts sees = record {
  States = (asks g false line).States;
  Moves = (asks g false line).Moves;
  Acts = acts;
  Shows = AreSeen sees;
  Stutters = (asks g false line).Stutters;
  fixed = (asks g false line).fixed;
  Fails = (asks g false line).Fails;
}

-- Of each state that extends what is filled: the part that is told of fails there; and if the parts at its place held, it would be a step.
abbrev pub PartRepairs : Spec → Line → Values → Type 0
PartRepairs g line s = (at : Place) (w : Spared) (q : Places) → FailsAt g line s at w q
    → ((part : SparedPart) × (part.told ≡ w) × IsSpared (setting which.Action g) (At at) q part)
    × ((t : Values) → Completes q t → Step (asks_but g line (BothHoldBut g at (act_of line.event)) line.sees) s t)

-- Of each state that extends what is filled: if the one thing were not to be seen, it would be a step.
abbrev pub SeeRepairs : Spec → Line → Values → Type 0
SeeRepairs g line s = (see : See) (q : Places) (r : LacksSee g line s see q) (t : Values) → Completes q t
    → Step (asks_but g line (BothHold g (act_of line.event)) (r.alone.before ++ r.alone.behind)) s t

-- so of each branch that is near
pub record AreRepairs (g : Spec) (line : Line) (s : Values) : Type 0 where
  pub parts : PartRepairs g line s
  pub sees : SeeRepairs g line s

-- Some state extends what is filled in each of them: so there is the step that the line would have.
pub record AreReached (g : Spec) (line : Line) (s : Values) : Type 0 where
  pub parts : (at : Place) (w : Spared) (q : Places) → FailsAt g line s at w q → (t : Values) × Completes q t
  pub sees : (see : See) (q : Places) → LacksSee g line s see q → (t : Values) × Completes q t
