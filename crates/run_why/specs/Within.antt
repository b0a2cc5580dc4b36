-- Whether one more silent step would reach more than is reached.
use Rattle.std.specs.Prelude.{◌≢◌, ◌<◌, ◌++◌, ℕ, List, [], codes, decimal, None}
use Rattle.states_core.specs.Sets.{HasAtMost}
use Rattle.states_core.specs.States.{Values}
use Rattle.states_core.specs.declared.fault.Fault.{Fault}
use Rattle.names_terms.specs.declared.spec.Spec.{Spec}
use Rattle.actions_meanings.specs.Reads.{in_none}
use Rattle.steps_lines_defs.specs.Logs.{Asked}
use Rattle.steps_lines_defs.specs.Steps.{FaultSilent, Silent}

-- One silent step leads from the state to what is not reached. None of the silent steps from it faults, and they lead to no more states than a layer may have.
pub record LeadsBeyond (g : Spec) (limit : ℕ) (Reached : Values → Type 0) (s : Values) : Type 0 where
  pub clear : (t : Values) (f : Fault) → ¬ FaultSilent g in_none s t f
  pub few : HasAtMost (Silent g s) limit
  pub to : Values
  pub silent : Silent g s to
  pub beyond : ¬ Reached to

-- An operator is named whose steps alone may be silent, fewer of them are allowed than may be, and with one more of them more would be reached.
pub record WouldReachMore (g : Spec) (a : Asked) (Reached : Values → Type 0) : Type 0 where
  pub named : g.silent ≢ None
  pub fewer : a.within < 8
  pub from : Values
  pub reached : Reached from
  pub leads : LeadsBeyond g a.limit Reached from

-- the line that tells of it
abbrev pub within_text : ℕ → List ℕ
within_text within = codes "WITHIN " ++ decimal within ++ codes " REACHED\n"

-- the line stands where one more silent step would reach more, and only there
pub data TellsWithin (g : Spec) (a : Asked) (Reached : Values → Type 0) : List ℕ → Type 0 where
  reaches_more : WouldReachMore g a Reached → TellsWithin g a Reached (within_text a.within)
  reaches_all : ¬ WouldReachMore g a Reached → TellsWithin g a Reached []
