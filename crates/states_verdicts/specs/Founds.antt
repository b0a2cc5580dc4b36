-- For the prover: what is found of one state.
use Rattle.std.specs.Prelude.{ℕ, Bool, true, false, Option, Some}
use Rattle.states_core.specs.States.{Values}
use Rattle.states_core.specs.declared.state.Shown.{Shown}
use Rattle.states_verdicts.specs.Asks.{PairAsks}
use Rattle.states_verdicts.specs.Cleans.{Reached, IsClean}
use Rattle.states_verdicts.specs.Verdicts.{IsReason, IsFault}
use Rattle.states_verdicts.specs.declared.verdict.Reason.{Reason}
use Rattle.states_verdicts.specs.declared.verdict.Reason.TheVariants.{NotSeen}
use Rattle.states_verdicts.specs.declared.pairs.Told.{Told}
use Rattle.states_verdicts.specs.declared.pairs.Told.TheVariants.{Holds, Fails, Faults as ToldFault}
use Rattle.states_verdicts.specs.declared.judging.Found.{Found}
use Rattle.states_verdicts.specs.declared.judging.Found.TheVariants.{Clean, Wrong, Faults as FoundFault}

abbrev pub IsFound : PairAsks → Reached → Option Shown → Found → Type 0
IsFound a p x Clean = IsClean a p x
IsFound a p x (Wrong r) = IsReason a p x r
IsFound a p x (FoundFault f) = IsFault a p x f

abbrev pub seen_found : Bool → Found
seen_found true = Clean
seen_found false = Wrong NotSeen

-- a fault, the reason where it fails, and else by whether all is seen
abbrev pub found_of : Told → Reason → Bool → Found
found_of Holds r seen = seen_found seen
found_of Fails r seen = Wrong r
found_of (ToldFault f) r seen = FoundFault f

-- s is reached by n lines and j silent states
abbrev pub behind : ℕ → ℕ → Values → Reached
behind n j s = record { line = n; silents = j; last = Some s }
