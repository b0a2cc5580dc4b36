-- For the prover: what is told of one entry, of some, and behind a report.
use Rattle.std.specs.Prelude.{◌≡◌, ℕ, ◌+◌, true, false, List, ◌++◌, length, Option, Some, None}
use Rattle.states_core.specs.States.{Values}
use Rattle.names_terms.specs.declared.spec.Spec.{Spec}
use Rattle.logs_updates.specs.declared.line.Line.{Line}
use Rattle.run_texts.specs.Answers.{Named}
use Rattle.steps_why_branches.specs.declared.why.Why.{Why}
use Rattle.steps_why_not.specs.Whys.{AreWhys}
use Rattle.run_why.specs.Lines.{why_more}
use Rattle.run_why.specs.Reports.{IsAsked}
use Rattle.run_why.specs.Tells.{Tells, entry_lines}

-- behind a text stands the entry with all its branches, and so many more may be told of; or with the first of them, and that there are more
abbrev pub IsTold : Spec → Line → Named → ℕ → Values → Option ℕ → List ℕ → List ℕ → Type 0
IsTold g line l most s None old new = (ws : List Why) × AreWhys g line s most ws true × (new ≡ old ++ (entry_lines l line s ws ++ why_more))
IsTold g line l most s (Some left) old new = (ws : List Why) × AreWhys g line s most ws false × (most ≡ length ws + left) × (new ≡ old ++ entry_lines l line s ws)

-- What is told of some entries, of which those from here on are left: whatever is told of these, behind what stands there, tells of all.
pub record SoFar (g : Spec) (line : Line) (l : Named) (most : ℕ) (all : List Values) (left : ℕ) (behind : List Values) (old now : List ℕ) : Type 0 where
  pub told : List ℕ
  pub stands : now ≡ old ++ told
  pub goes_on : (rest : List ℕ) → Tells g line l left behind rest → Tells g line l most all (told ++ rest)

-- behind a text stands one of which this holds
abbrev pub StandsBehind : (List ℕ → Type 0) → List ℕ → List ℕ → Type 0
StandsBehind P old new = (told : List ℕ) × P told × (new ≡ old ++ told)

-- behind a text stands what is told, where it is asked for
abbrev pub GoesOn : Option ℕ → (ℕ → List ℕ → Type 0) → List ℕ → List ℕ → Type 0
GoesOn asked Tells old new = StandsBehind (IsAsked asked Tells) old new

-- behind a text it is told of these entries
abbrev pub TellsBehind : Spec → Line → Named → ℕ → List Values → List ℕ → List ℕ → Type 0
TellsBehind g line l most ss old new = (told : List ℕ) × Tells g line l most ss told × (new ≡ old ++ told)
