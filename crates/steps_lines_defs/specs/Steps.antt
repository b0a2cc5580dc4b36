-- Steps and their faults: those of a line, those that no line shows, and the first states.
use Rattle.std.specs.Prelude.{◌≡◌, ◌⊎◌, List, [], Option, Some, None, length}
use Rattle.states_core.specs.States.{Values}
use Rattle.states_core.specs.declared.fault.Fault.{Fault}
use Rattle.names_terms.specs.declared.ids.DefId.{DefId}
use Rattle.names_terms.specs.declared.spec.Spec.{Spec}
use Rattle.actions_meanings.specs.Reads.{VariableSet}
use Rattle.logs_updates.specs.declared.update.See.{See}
use Rattle.steps_lines_defs.specs.Says.{Act, BothHold, BothFail, InitHolds, InitFails, IsState}
use Rattle.steps_lines_defs.specs.Asks.{LineAsks, AreSeen}

-- a line without event may leave the state as it is, where its updates do and what it sees holds
abbrev pub Rests : LineAsks → Values → Values → Type 0
Rests a s t = a.Stutters × (t ≡ s) × a.Moves s t × a.Shows t

abbrev pub Step : LineAsks → Values → Values → Type 0
Step a s t = a.States t × ((a.Moves s t × a.Acts s t × a.Shows t) ⊎ Rests a s t)

abbrev pub FaultStep : LineAsks → VariableSet → Values → Values → Fault → Type 0
FaultStep a B s t f = a.States t × a.Moves s t × a.Fails B s t f

-- the operator of the steps that no line shows, where there is one, has no arguments
abbrev pub silent_act : Option DefId → Option Act
silent_act None = None
silent_act (Some d) = Some (record { operator = d.0; arguments = [] })

abbrev pub Silent : Spec → Values → Values → Type 0
Silent g s t = IsState (length g.variables) t × BothHold g (silent_act g.silent) s t

abbrev pub FaultSilent : Spec → VariableSet → Values → Values → Fault → Type 0
FaultSilent g B s t f = IsState (length g.variables) t × BothFail g (silent_act g.silent) B s t f

abbrev pub IsInitial : Spec → Values → Type 0
IsInitial g t = IsState (length g.variables) t × InitHolds g t

-- a first state in which what is seen at first holds
abbrev pub IsFirst : Spec → List See → Values → Type 0
IsFirst g sees t = IsInitial g t × AreSeen sees t

abbrev pub FaultFirst : Spec → VariableSet → Values → Fault → Type 0
FaultFirst g B t f = IsState (length g.variables) t × InitFails g B t f
