-- Several logs that are read beside two specifications that are alike: all but the numbers of the definitions that their events name is the same.
use Rattle.std.specs.Prelude.{◌≡◌, List}
use Rattle.std.specs.List.{AllZip}
use Rattle.names_terms.specs.declared.operator.Operator.{Operator}
use Rattle.names_terms.specs.declared.spec.Spec.{Spec}
use Rattle.names_term_parts.specs.Slots.{UsesSmaller}
use Rattle.twice_tables.specs.Outcome.{AreAlike}
use Rattle.twice_logs.specs.AlikeLogs.{AreAlikeLines}
use Rattle.logs_tied.specs.declared.logs.Logs.{Logs}

-- The same is seen at first, the lines of the logs are alike one by one, and their lines may stand in the same orders.
pub record AreAlikeTied (ops all : List Operator) (logs others : Logs) : Type 0 where
  pub init : logs.init ≡ others.init
  pub files : AllZip (AllZip (AreAlikeLines ops all)) logs.files.items others.files.items
  pub order : logs.order ≡ others.order

-- Two specifications that are alike, each with the definitions in order of their uses, beside logs that are alike.
pub record AreBesideTied (s t : Spec) (a b : Logs) : Type 0 where
  pub specs : AreAlike s t
  pub smaller : UsesSmaller s.operators
  pub smaller_other : UsesSmaller t.operators
  pub logs : AreAlikeTied s.operators t.operators a b
