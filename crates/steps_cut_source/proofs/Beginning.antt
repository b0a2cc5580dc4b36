-- First entries, and those that a step leads to that no line shows.
use Rattle.std.proofs.Common.{◌≡◌, ℕ, map, Ok, Err, Vec, subst, refl}
use Rattle.std.specs.declared.alloc.Global.{Global}
use Rattle.states_core.specs.States.{Values}
use Rattle.states_core.specs.System.{Begins}
use Rattle.names_terms.specs.declared.spec.Spec.{Spec}
use Rattle.actions_meanings.specs.Reads.{in_none}
use Rattle.steps_lines_defs.specs.Asks.{AreSeen}
use Rattle.steps_lines_defs.specs.Logs.{Asked}
use Rattle.steps_lines_defs.specs.Steps.{FaultFirst, FaultSilent, IsFirst, Silent}
use Rattle.base_cuts.specs.Cuts.{Cut}
use Rattle.base_cuts.specs.Orders.{start}
use Rattle.states_layers.specs.Gives.{Gives}
use Rattle.states_layers.specs.declared.steps.StepFault.{StepFault}
use Rattle.logs_tied.specs.declared.logs.Logs.{Logs}
use Rattle.steps_tied.specs.Tied.{CutState, tied_system}
use Rattle.steps_cut_source.specs.Listing.{at_cut}
use Rattle.steps_cut_source.proofs.Placed.{IsAtCut, gives_placed, gives_stop}

module _ (g : Spec) (logs : Logs) (a : Asked) (bound : ℕ) where
  first_at : IsAtCut (start logs.order) (IsFirst g logs.init) (FaultFirst g in_none) (AreSeen logs.init) (Begins (tied_system g logs a)) (tied_system g logs a).FaultInit (tied_system g logs a).InitSeen
  first_at = record { to = λ s p. ((refl, p.0), p.1); from = λ e q. (q.0.0, (q.0.1, q.1)); worse = λ s f b. (refl, b); bad = λ e f w. w.1; seen = λ e s. s }

  pub first_given : (states : Vec Values Global) (now : Vec CutState Global) (c : Cut) → Gives (IsFirst g logs.init) (FaultFirst g in_none) (AreSeen logs.init) bound (Ok states)
      → c ≡ start logs.order → now.items ≡ map (at_cut c) states.items → Gives (Begins (tied_system g logs a)) (tied_system g logs a).FaultInit (tied_system g logs a).InitSeen bound (Ok now)
  first_given states now c h is e =
      gives_placed (start logs.order) (IsFirst g logs.init) (FaultFirst g in_none) (AreSeen logs.init) (Begins (tied_system g logs a)) (tied_system g logs a).FaultInit (tied_system g logs a).InitSeen first_at bound
      states now h (subst (λ (d : Cut). now.items ≡ map (at_cut d) states.items) is e)

  pub first_stop : (stop : StepFault) → Gives (IsFirst g logs.init) (FaultFirst g in_none) (AreSeen logs.init) bound (Err stop)
      → Gives (Begins (tied_system g logs a)) (tied_system g logs a).FaultInit (tied_system g logs a).InitSeen bound (Err stop)
  first_stop stop h =
      gives_stop (start logs.order) (IsFirst g logs.init) (FaultFirst g in_none) (AreSeen logs.init) (Begins (tied_system g logs a)) (tied_system g logs a).FaultInit (tied_system g logs a).InitSeen first_at bound stop h

  -- from a state at a cut, which is seen as an entry
  module _ (c : Cut) (s : Values) (e : CutState) (is : at_cut c s ≡ e) where
    silent_at : IsAtCut c (Silent g s) (FaultSilent g in_none s) (λ t. Unit {0}) ((tied_system g logs a).Silent (at_cut c s)) ((tied_system g logs a).FaultSilent (at_cut c s)) (λ t. Unit {0})
    silent_at = record { to = λ t p. (refl, p); from = λ f q. q; worse = λ t f b. (refl, b); bad = λ f x w. w.1; seen = λ f t. tt }

    pub silent_given : (states : Vec Values Global) (now : Vec CutState Global) → Gives (Silent g s) (FaultSilent g in_none s) (λ t. Unit {0}) bound (Ok states) → now.items ≡ map (at_cut c) states.items
        → Gives ((tied_system g logs a).Silent e) ((tied_system g logs a).FaultSilent e) (λ t. Unit {0}) bound (Ok now)
    silent_given states now h same =
        subst (λ (x : CutState). Gives ((tied_system g logs a).Silent x) ((tied_system g logs a).FaultSilent x) (λ t. Unit {0}) bound (Ok now)) is
        (gives_placed c (Silent g s) (FaultSilent g in_none s) (λ t. Unit {0}) ((tied_system g logs a).Silent (at_cut c s)) ((tied_system g logs a).FaultSilent (at_cut c s)) (λ t. Unit {0}) silent_at bound
        states now h same)

    pub silent_stop : (stop : StepFault) → Gives (Silent g s) (FaultSilent g in_none s) (λ t. Unit {0}) bound (Err stop)
        → Gives ((tied_system g logs a).Silent e) ((tied_system g logs a).FaultSilent e) (λ t. Unit {0}) bound (Err stop)
    silent_stop stop h =
        subst (λ (x : CutState). Gives ((tied_system g logs a).Silent x) ((tied_system g logs a).FaultSilent x) (λ t. Unit {0}) bound (Err stop)) is
        (gives_stop c (Silent g s) (FaultSilent g in_none s) (λ t. Unit {0}) ((tied_system g logs a).Silent (at_cut c s)) ((tied_system g logs a).FaultSilent (at_cut c s)) (λ t. Unit {0}) silent_at bound stop h)
