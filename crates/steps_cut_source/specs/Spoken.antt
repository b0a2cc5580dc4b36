-- For the prover: what the specification says of states and lines, as a source of steps asks for it, and the steps that are listed so far.
use Rattle.std.specs.Prelude.{ℕ, List}
use Rattle.states_core.specs.System.{System}
use Rattle.steps_ready_defs.specs.Beside.{asked}
use Rattle.steps_tied.specs.Languages.{Language, language}
use Rattle.steps_tied.specs.Tied.{CutState, tied_system}
use Rattle.states_layers.specs.declared.steps.StepFault.{StepFault}
use Rattle.steps_cut_source.specs.Listing.{GivesBelow, Stops}
use Rattle.steps_cut_source.specs.declared.steps.CutSteps.{CutSteps}

abbrev pub spoken : CutSteps → Language
spoken s = language s.spec.now s.logs.now.init (asked s.stutter s.within s.limit)

abbrev pub system_of : CutSteps → System CutState
system_of s = tied_system s.spec.now s.logs.now (asked s.stutter s.within s.limit)

-- these are the steps from e by the lines of the first i logs
pub record AreListed (s : CutSteps) (e : CutState) (i : ℕ) (made : List CutState) : Type 0 where
  pub gives : GivesBelow (spoken s) s.logs.now.files.items s.logs.now.order e i made

-- the listing of the steps from e stops so
pub record IsStopped (s : CutSteps) (e : CutState) (bound : ℕ) (stop : StepFault) : Type 0 where
  pub stops : Stops (system_of s) e bound stop
