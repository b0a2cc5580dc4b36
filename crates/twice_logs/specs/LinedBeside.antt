-- The lines of all logs that are read beside two specifications that are alike: all but the numbers of the definitions that their events name is the same.
use Rattle.std.specs.Prelude.{List}
use Rattle.names_terms.specs.declared.operator.Operator.{Operator}
use Rattle.names_terms.specs.declared.spec.Spec.{Spec}
use Rattle.names_term_parts.specs.Slots.{UsesSmaller}
use Rattle.twice_tables.specs.Outcome.{AreAlike}
use Rattle.logs_tied.specs.declared.logs.Lined.{Lined}
use Rattle.logs_tied.specs.declared.logs.Lined.TheVariants.{Sequence, Tied}
use Rattle.twice_logs.specs.AlikeLogs.{AreAlikeLogs}
use Rattle.twice_logs.specs.TiesBeside.{AreAlikeTied}

-- both are one log, or both are logs whose lines may stand in the same orders, and the lines are alike one by one
abbrev pub AreAlikeLined : List Operator → List Operator → Lined → Lined → Type 0
AreAlikeLined ops all (Sequence log) (Sequence other) = AreAlikeLogs ops all log other
AreAlikeLined ops all (Tied logs) (Tied others) = AreAlikeTied ops all logs others
AreAlikeLined ops all (Sequence log) (Tied others) = ⊥
AreAlikeLined ops all (Tied logs) (Sequence other) = ⊥

-- Two specifications that are alike, each with the definitions in order of their uses, beside lines that are alike.
pub record AreBesideLined (s t : Spec) (a b : Lined) : Type 0 where
  pub specs : AreAlike s t
  pub smaller : UsesSmaller s.operators
  pub smaller_other : UsesSmaller t.operators
  pub lines : AreAlikeLined s.operators t.operators a b
