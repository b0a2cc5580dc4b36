-- The steps from one member, or an answer, which speaks of no assumption yet.
use Rattle.std.specs.Prelude.{List}
use Rattle.states_core.specs.System.{System}
use Rattle.states_core.specs.Sets.{IsList, HasMoreThan}
use Rattle.states_core.specs.Runs.{Layer}
use Rattle.states_core.specs.declared.fault.Fault.{Fault}
use Rattle.states_layers.specs.Answers.{fault, IsAssumeFault, IsAssumeFalse, IsExplained, IsNotExplained, IsNoInitial, IsStateFault, IsTotalLimit}
use Rattle.states_layers.specs.Moves.{Moves, MoveFaults, MoveSeen}
use Rattle.states_layers.specs.declared.answer.Answer.{Answer}
use Rattle.states_layers.specs.declared.answer.Answer.TheVariants.{Explained, NotExplained, NoInitial, InitFault, Fault as StateFault, AssumeFault, AssumeFalse, LayerLimit, TotalLimit}
use Rattle.states_layers.specs.declared.answer.Stop.{Stop}
use Rattle.states_layers.specs.declared.answer.Stop.TheVariants.{Answered, NoMemory}
use Rattle.states_layers.specs.declared.node.Move.{Move}

-- What an answer says of the layers. Those on an assumption are not given by the search.
abbrev pub Says : {A : Type 0} → System A → Answer → Type 0
Says y (Explained w widest) = IsExplained y w widest
Says y (NotExplained n of after w) = IsNotExplained y n of after w
Says y NoInitial = IsNoInitial y
Says {A} y (InitFault kind at) = (t : A) × y.FaultInit t (fault kind at)
Says y (StateFault n j state kind at) = IsStateFault y n j state (fault kind at)
Says y (AssumeFault kind at) = ⊥
Says y (AssumeFalse at) = ⊥
Says y (LayerLimit n j) = HasMoreThan (Layer y n j) y.limit
Says y (TotalLimit n j) = IsTotalLimit y n j

-- What an answer says with which the search stops before its end: all but that lines are explained.
abbrev pub Ends : {A : Type 0} → System A → Answer → Type 0
Ends y (Explained w widest) = ⊥
Ends y (NotExplained n of after w) = ⊥
Ends y answer = Says y answer

-- The search stops with a true answer, or for want of memory.
abbrev pub IsStop : {A : Type 0} → System A → Stop → Type 0
IsStop y (Answered a) = Ends y a
IsStop y NoMemory = Unit {0}

-- The answer is that an assumption faults, or is FALSE, and all before it are TRUE.
abbrev pub IsUnassumed : {A : Type 0} → System A → Answer → Type 0
IsUnassumed y (AssumeFault kind at) = IsAssumeFault y (fault kind at)
IsUnassumed y (AssumeFalse at) = IsAssumeFalse y at
IsUnassumed y answer = ⊥

-- These are what the move leads to from s, each once, and nothing that agrees with the log faults.
pub record Expands {A : Type 0} (y : System A) (move : Move) (s : A) (listed : List A) : Type 0 where
  pub list : IsList (Moves y move s) listed
  pub clear : (t : A) (f : Fault) → MoveFaults y move s t f → MoveSeen y move s t → ⊥
