-- For the prover: what is told of an assumption, by its truth value or its fault.
use Rattle.std.specs.Prelude.{◌≡◌, ℕ, Bool, true, false, [], Option, Some, None, Result, Ok, Err}
use Rattle.base_core.specs.declared.place.Place.{Place}
use Rattle.names_terms.specs.declared.spec.Spec.{Spec}
use Rattle.names_terms.specs.Terms.{Term, place_of}
use Rattle.eval_meanings.specs.declared.fault.EvalFault.{EvalFault}
use Rattle.eval_meanings.specs.declared.fault.EvalFault.TheVariants as evaluation
use Rattle.eval_meanings.specs.Answers.{Tells}
use Rattle.eval_meanings.specs.Evaluates.{Evaluates, max_evaluations}
use Rattle.eval_meanings.specs.Outcomes.{Outcome, fault}
use Rattle.eval_meanings.specs.Unchanged.{TruthOf}
use Rattle.steps_lines_defs.specs.Says.{at_states}
use Rattle.states_layers.specs.declared.steps.StepFault.{StepFault}
use Rattle.states_layers.specs.declared.steps.StepFault.TheVariants as step

-- its place where it is FALSE
abbrev pub told_of : Result Bool EvalFault → Place → Result (Option Place) StepFault
told_of (Ok true) at = Ok None
told_of (Ok false) at = Ok (Some at)
told_of (Err (evaluation.Refused kind p)) at = Err (step.Eval (fault kind p))
told_of (Err evaluation.NoMemory) at = Err step.NoMemory

-- the truth value of a term that reads no variable, where at most d evaluations stand inside one another
abbrev pub TruthAlone : Spec → ℕ → Term → Outcome Bool
TruthAlone g d e = TruthOf (Evaluates g.operators d) (at_states [] [] []) e

abbrev pub Judged : Spec → Term → Result (Option Place) StepFault → Type 0
Judged g e r = (truth : Result Bool EvalFault) × Tells truth (TruthAlone g max_evaluations e) × (r ≡ told_of truth (place_of e))
