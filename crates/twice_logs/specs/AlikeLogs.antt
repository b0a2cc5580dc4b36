-- What is the same of logs that are read beside two specifications that are alike: all but the numbers of the definitions that their events name.
use Rattle.std.specs.Prelude.{◌≡◌, ℕ, List, Option, Some, None}
use Rattle.std.specs.List.{AllZip}
use Rattle.values_core.specs.Data.{Val}
use Rattle.names_terms.specs.declared.operator.Operator.{Operator}
use Rattle.logs_updates.specs.declared.line.Event.{Event}
use Rattle.logs_updates.specs.declared.line.Line.{Line}
use Rattle.logs_updates.specs.declared.line.Log.{Log}
use Rattle.twice_terms.specs.Alike.{AlikeRows}
use Rattle.twice_terms.specs.Laws.{AreOne}

-- the operators are alike and have the same arguments, or neither line has one
pub data AlikeEvents (ops all : List Operator) : Option Event → Option Event → Type 0 where
  no_event : AlikeEvents ops all None None
  both_events : (k j : ℕ) (args : List Val) → AlikeRows AreOne ops all k j
      → AlikeEvents ops all (Some (record { operator = k; args = args })) (Some (record { operator = j; args = args }))

pub record AreAlikeLines (ops all : List Operator) (l m : Line) : Type 0 where
  pub at : l.at ≡ m.at
  pub clock : l.clock ≡ m.clock
  pub event : AlikeEvents ops all l.event m.event
  pub updates : l.updates ≡ m.updates
  pub sees : l.sees ≡ m.sees

-- Logs that differ by the numbers of the definitions that their events name alone.
pub record AreAlikeLogs (ops all : List Operator) (log m : Log) : Type 0 where
  pub init : log.init ≡ m.init
  pub lines : AllZip (AreAlikeLines ops all) log.lines m.lines
