-- The branches of a line from a state: through its event's operator, where it has one, and then Next, from what its updates have filled.
use Rattle.std.specs.Prelude.{◌≡◌, ◌∷◌, ◌++◌, [], ℕ, List, map, All, Option, Some, None, slice_get}
use Rattle.values_core.specs.Data.{Val}
use Rattle.states_core.specs.States.{Values}
use Rattle.names_terms.specs.declared.operator.Operator.{Operator}
use Rattle.names_terms.specs.declared.spec.Spec.{Spec}
use Rattle.eval_meanings.specs.Contexts.{Context, Places}
use Rattle.eval_meanings.specs.Evaluates.{max_evaluations}
use Rattle.actions_meanings.specs.declared.which.Which.TheVariants as which
use Rattle.logs_updates.specs.Changes.{LeadsTo}
use Rattle.logs_updates.specs.declared.line.Line.{Line}
use Rattle.logs_updates.specs.declared.update.See.{See}
use Rattle.steps_lines_defs.specs.Says.{Act, setting}
use Rattle.steps_lines_defs.specs.Asks.{act_of}
use Rattle.steps_found_states.specs.Parts.{Parts}
use Rattle.steps_why_branches.specs.Choices.{Choices}
use Rattle.steps_why_branches.specs.Traces.{Trace, here}
use Rattle.steps_why_branches.specs.PassedOver.{nothing}
use Rattle.steps_why_branches.specs.Branches.{Onward, Turns}
use Rattle.steps_why_branches.specs.Told.{filled_at}
use Rattle.steps_why_branches.specs.declared.sparing.Sparing.{Sparing}
use Rattle.steps_why_branches.specs.declared.why.Ended.{Ended}
use Rattle.steps_why_branches.specs.declared.why.Ended.TheVariants.{Ends, Passed}
use Rattle.steps_why_branches.specs.declared.why.Why.{Why}
use Rattle.steps_why_branches.specs.declared.why.WhyKind.TheVariants as why
use Rattle.steps_why_walk.specs.Ends.{end_of}
use Rattle.steps_why_not.specs.Results.{AreUpdated, IsStuck}

-- with these slots, in the state before
abbrev pub standing : List Val → Values → Context
standing vs s = record { slots = vs; now = map Some s; next = map Some s }

-- the parts that a step must pass: the operator on its arguments, where there is one, and Next
abbrev pub AreBoth : Spec → Option Act → Values → Parts → Type 0
AreBoth g None s es = es ≡ (standing [] s, g.next) ∷ []
AreBoth g (Some a) s es = (o : Operator) × (slice_get g.operators a.operator ≡ Some o) × (es ≡ (standing a.arguments s, o.body) ∷ (standing [] s, g.next) ∷ [])

-- a branch through both, from what the updates have filled, where some parts may be passed over
abbrev pub GoesThroughBut : Sparing → Spec → Line → Values → Trace → Type 0
GoesThroughBut sp g line s x =
    (p : Places) × AreUpdated line.updates s p × ((es : Parts) × AreBoth g (act_of line.event) s es × Onward (Turns (setting which.Action g) sp max_evaluations) max_evaluations es (here p) x)

-- and where none may
abbrev pub GoesThrough : Spec → Line → Values → Trace → Type 0
GoesThrough g line s x = GoesThroughBut nothing g line s x

-- what is seen stands in the places
abbrev pub StandsIn : Places → See → Type 0
StandsIn q see = (v : Val) × (slice_get q see.path.variable.0 ≡ Some (Some v)) × LeadsTo see.path.keys v see.value

-- the first that is seen and does not stand there is of the variable
pub record IsUnseen (sees : List See) (q : Places) (x : ℕ) : Type 0 where
  pub before : List See
  pub see : See
  pub behind : List See
  pub all : sees ≡ before ++ see ∷ behind
  pub is : see.path.variable.0 ≡ x
  pub earlier : All (StandsIn q) before
  pub lacks : ¬ StandsIn q see

-- reasons that stand at no place
abbrev pub no_update : ℕ → Why
no_update x = record { at = None; reason = why.NoUpdate (record { 0 = x }) }

abbrev pub not_seen : ℕ → Why
not_seen x = record { at = None; reason = why.NotSeen (record { 0 = x }) }

-- why a branch of the line ends: as it ended on the way, or by what is not seen where it was gone through
abbrev pub EndsFor : List See → Ended → Why → Type 0
EndsFor sees (Passed q o) v = (x : ℕ) × IsUnseen sees q x × (v ≡ not_seen x)
EndsFor sees (Ends w) v = v ≡ w

-- THE BRANCHES OF A LINE: the choices of one, what is filled where it ends, and why it ends.
pub data IsBranch (g : Spec) (line : Line) (s : Values) : Choices → Places → Why → Type 0 where
  is_stuck : (x : ℕ) → IsStuck line.updates s x → IsBranch g line s [] (map Some s) (no_update x)
  is_ended : (x : Trace) (w : Why) → GoesThrough g line s x → EndsFor line.sees (end_of x) w → IsBranch g line s x.choices (filled_at x.end) w
