-- For the prover: what the functions below the answer give.
use Rattle.std.specs.Prelude.{◌≡◌, ◌↔◌, ℕ, List, length, All, Some, slice_get}
use Rattle.states_core.specs.States.{Values}
use Rattle.names_terms.specs.declared.operator.Operator.{Operator}
use Rattle.names_terms.specs.declared.spec.Spec.{Spec}
use Rattle.names_terms.specs.Terms.{Term}
use Rattle.eval_meanings.specs.Contexts.{Places}
use Rattle.eval_meanings.specs.Evaluates.{max_evaluations}
use Rattle.actions_meanings.specs.declared.which.Which.TheVariants as which
use Rattle.logs_updates.specs.declared.line.Line.{Line}
use Rattle.logs_updates.specs.declared.update.See.{See}
use Rattle.logs_updates.specs.declared.update.Update.{Update}
use Rattle.steps_lines_defs.specs.Says.{IsState, setting}
use Rattle.steps_lines_defs.specs.Asks.{Moves, act_of}
use Rattle.actions_meanings.specs.Filled.{Completes}
use Rattle.steps_found_states.specs.Parts.{Parts}
use Rattle.steps_why_branches.specs.declared.why.Ended.{Ended}
use Rattle.steps_why_branches.specs.declared.why.Ended.TheVariants.{Ends, Passed}
use Rattle.steps_why_branches.specs.declared.sparing.Sparing.{Sparing}
use Rattle.steps_why_walk.specs.Walking.{AllListed}
use Rattle.steps_why_not.specs.Lines.{AreBoth, StandsIn}

-- each state to which the updates lead completes these places, and no other
abbrev pub LeadsThere : List Update → Values → Places → Type 0
LeadsThere us s p = (t : Values) → Completes p t ↔ (IsState (length s) t × Moves us s t)

-- the body of the definition of that number
abbrev pub IsBodyOf : Spec → ℕ → Term → Type 0
IsBodyOf g k e = (o : Operator) × (slice_get g.operators k ≡ Some o) × (e ≡ o.body)

-- the ends of the first k branches of a line, from these places, where some parts may be passed over
abbrev pub AreEnds : Sparing → Spec → Line → Values → ℕ → Places → List Ended → Type 0
AreEnds sp g line s k p ends = (es : Parts) × AreBoth g (act_of line.event) s es × AllListed (setting which.Action g) sp k max_evaluations p es ends

-- where it was gone through, something that is seen does not stand there
abbrev pub Lacks : List See → Ended → Type 0
Lacks sees (Passed q o) = ¬ All (StandsIn q) sees
Lacks sees (Ends w) = Unit {0}
