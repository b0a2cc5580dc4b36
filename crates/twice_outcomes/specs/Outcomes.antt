-- Evaluation is the same of two terms that differ by the numbers of definitions alone, each over its table.
use Rattle.std.specs.Prelude.{ℕ, Result, length}
use Rattle.values_core.specs.Data.{Val}
use Rattle.states_core.specs.declared.fault.Fault.{Fault}
use Rattle.names_terms.specs.Terms.{Term}
use Rattle.values_sets.specs.DescribedSets.{Described}
use Rattle.eval_meanings.specs.Contexts.{Context, Table}
use Rattle.eval_meanings.specs.Evaluates.{Evaluates, Describes}
use Rattle.eval_meanings.specs.Unchanged.{behind}
use Rattle.twice_outcomes.specs.Alikes.{AreOrdered, AreAlikeTerms, AreFoundAlike}

-- what the one term evaluates to the other does
abbrev pub EvaluatesAlike : Type 0
EvaluatesAlike =
    (ops all : Table) → AreOrdered ops → AreOrdered all → (e f : Term) → AreAlikeTerms ops all e f → (d : ℕ) (c : Context) (r : Result Val Fault) → Evaluates ops d c e r → Evaluates all d c f r

-- and what the one describes the other does
abbrev pub DescribesAlike : Type 0
DescribesAlike =
    (ops all : Table) → AreOrdered ops → AreOrdered all → (e f : Term) → AreAlikeTerms ops all e f → (d : ℕ) (c : Context) (r : Result Described Fault) → Describes ops d c e r → Describes all d c f r

-- behind alike names stand alike terms
abbrev pub BehindAlike : Type 0
BehindAlike =
    (ops all : Table) → AreOrdered ops → AreOrdered all → (m : ℕ) (e f : Term) → AreAlikeTerms ops all e f → AreFoundAlike ops all (behind ops (length ops) m e) (behind all (length all) m f)
