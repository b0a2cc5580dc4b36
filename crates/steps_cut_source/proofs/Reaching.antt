-- What is reached has a cut of the order, and a state of the specification.
use Rattle.std.proofs.Common.{◌≡◌, ℕ, List, length, ap, sym, ◌∙◌}
use Rattle.std.proofs.lemmas.List.{length-map}
use Rattle.states_core.specs.Runs.{Run, start, wait, go}
use Rattle.states_core.specs.declared.state.Shown.{Shown}
use Rattle.names_terms.specs.declared.spec.Spec.{Spec}
use Rattle.steps_lines_defs.specs.Logs.{Asked}
use Rattle.steps_lines_defs.specs.Says.{IsState}
use Rattle.base_cuts.specs.Cuts.{Cut, total}
use Rattle.base_cuts.specs.Orders.{IsCut}
use Rattle.base_cuts.proofs.Ends.{cut_long}
use Rattle.base_cuts.proofs.Growing.{with_long}
use Rattle.states_layers.specs.Gives.{IsReached}
use Rattle.logs_tied.specs.Lines.{AreTied}
use Rattle.logs_tied.specs.declared.logs.Logs.{Logs}
use Rattle.steps_tied.specs.Languages.{language}
use Rattle.steps_tied.specs.Tied.{CutState, tied_system}
use Rattle.steps_tied.proofs.Ties.{cuts_reached}

module _ (g : Spec) (logs : Logs) (a : Asked) where
  run_state : (n j : ℕ) (e : CutState) (w : List Shown) → Run (tied_system g logs a) n j e w → IsState (length g.variables) e.state
  run_state _ _ _ _ (start s init seen) = init.1.0
  run_state _ _ _ _ (wait n j s t w r left within step) = step.1.0
  run_state _ _ _ _ (go n j s t w r left step) = step.holds.0

  pub reached_state : (n : ℕ) (e : CutState) → IsReached (tied_system g logs a) n e → IsState (length g.variables) e.state
  reached_state n e r = run_state n r.0 e r.1.states r.1.run

  module _ (tied : AreTied logs) where
    pub reached_cut : (n : ℕ) (e : CutState) → IsReached (tied_system g logs a) n e → IsCut logs.order e.cut × (total e.cut ≡ n)
    reached_cut n e r = cuts_reached (language g logs.init a) logs.files.items logs.order tied.made tied.sizes n r.0 e r.1.states r.1.run

    pub cut_files : (c : Cut) → IsCut logs.order c → length c ≡ length logs.files.items
    cut_files c cut = sym (ap length cut.1) ∙ cut_long logs.order cut.0 ∙ ap length tied.sizes ∙ length-map logs.files.items length

    pub reached_long : (n : ℕ) (e : CutState) → IsReached (tied_system g logs a) n e → length e.cut ≡ length logs.files.items
    reached_long n e r = cut_files e.cut (reached_cut n e r).0

    pub step_long : (n : ℕ) (e f : CutState) → IsReached (tied_system g logs a) n e → (tied_system g logs a).Step n e f → length f.cut ≡ length logs.files.items
    step_long n e f r t = ap length t.further ∙ with_long e.cut t.place.file ∙ reached_long n e r
