-- For the prover: the steps over cuts from the first logs alone, and what stops their listing.
use Rattle.std.specs.Prelude.{ℕ, ◌<◌, List}
use Rattle.states_core.specs.Sets.{HasMoreThan, IsList}
use Rattle.states_core.specs.States.{Values}
use Rattle.states_core.specs.System.{System}
use Rattle.states_core.specs.declared.fault.Fault.{Fault}
use Rattle.logs_updates.specs.declared.line.Line.{Line}
use Rattle.base_cuts.specs.Cuts.{Cut}
use Rattle.base_cuts.specs.Orders.{Order}
use Rattle.steps_tied.specs.Languages.{Language}
use Rattle.steps_tied.specs.Tied.{CutState, TakesLine}
use Rattle.states_layers.specs.declared.steps.StepFault.{StepFault}
use Rattle.states_layers.specs.declared.steps.StepFault.TheVariants.{Eval, TooMany, NoMemory}

-- a line of one of the first i logs is taken
abbrev pub TakesBelow : List (List Line) → Order → ℕ → Cut → Cut → (Line → Type 0) → Type 0
TakesBelow files o i c d P = (h : TakesLine files o c d P) × (h.place.file < i)

-- a state at the cut
abbrev pub at_cut : Cut → Values → CutState
at_cut c s = record { cut = c; state = s }

-- These are the steps from e by the lines of the first i logs, each once, and nothing that agrees with what such a line
-- shows faults.
pub record GivesBelow (k : Language) (files : List (List Line)) (o : Order) (e : CutState) (i : ℕ) (made : List CutState) : Type 0 where
  pub list : IsList (λ f. TakesBelow files o i e.cut f.cut (λ l. k.Step l e.state f.state)) made
  pub clear : (f : CutState) (x : Fault) → TakesBelow files o i e.cut f.cut (λ l. k.FaultStep l e.state f.state x)
      → TakesBelow files o i e.cut f.cut (λ l. k.Seen l f.state) → ⊥

-- a step from e faults so; or there are more steps than the bound; or memory is wanting
abbrev pub Stops : {A : Type 0} → System A → A → ℕ → StepFault → Type 0
Stops {A} y e bound (Eval f) = (t : A) × y.FaultStep 0 e t f
Stops y e bound TooMany = HasMoreThan (y.Step 0 e) bound
Stops y e bound NoMemory = Unit {0}
