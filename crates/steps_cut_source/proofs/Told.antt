-- Assumptions are told of beside a log without lines.
use Rattle.std.proofs.Common.{◌≡◌, ℕ, ◌<◌, false, length, Option, Some, None, Result, Ok, Err, sym, subst, arith}
use Rattle.base_core.specs.declared.place.Place.{Place}
use Rattle.names_terms.specs.declared.spec.Spec.{Spec}
use Rattle.names_terms.specs.Lists.{terms_list}
use Rattle.logs_updates.specs.declared.line.Log.{Log}
use Rattle.steps_lines_defs.specs.Logs.{Asked, system}
use Rattle.states_layers.specs.Gives.{Tells}
use Rattle.states_layers.specs.declared.steps.StepFault.{StepFault}
use Rattle.states_layers.specs.declared.steps.StepFault.TheVariants.{Eval, TooMany, NoMemory}
use Rattle.steps_ready_defs.specs.Beside.{IsReady, asked}
use Rattle.steps_ready_defs.specs.Ready.{IsReadySpec}
use Rattle.logs_tied.specs.declared.logs.Logs.{Logs}
use Rattle.steps_tied.specs.Tied.{tied_system}
use Rattle.steps_cut_source.specs.Assumed.{no_lines, system_alone}

alone_ready : (g : Spec) → IsReadySpec g → IsReady g no_lines
alone_ready g ready = record { spec = ready; first = λ k d h. absurd (omega (arith, h)); lines = λ k d h. absurd (omega (arith, h)) }

pub ready_alone : (g : Spec) (log : Log) → log ≡ no_lines → IsReadySpec g → IsReady g log
ready_alone g log e ready = subst (IsReady g) (sym e) (alone_ready g ready)

pub told_alone : (g : Spec) (log : Log) (k : ℕ) (r : Result (Option Place) StepFault) → log ≡ no_lines → (k < length (terms_list g.assumes) → Tells (system g log (asked false 1 0)) k r)
    → k < length (terms_list g.assumes) → Tells (system_alone g) k r
told_alone g log k r e h below = subst (λ (l : Log). Tells (system g l (asked false 1 0)) k r) e (h below)

-- so they are beside any logs
pub told_beside : (g : Spec) (logs : Logs) (a : Asked) (k : ℕ) (r : Result (Option Place) StepFault) → Tells (system_alone g) k r → Tells (tied_system g logs a) k r
told_beside g logs a k (Ok None) h = h
told_beside g logs a k (Ok (Some at)) h = h
told_beside g logs a k (Err (Eval f)) h = h
told_beside g logs a k (Err TooMany) h = h
told_beside g logs a k (Err NoMemory) h = tt
