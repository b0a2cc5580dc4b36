-- Lines that tell why, and near lines, are passed over where a report is read as a file of states.
use Rattle.std.specs.Prelude.{◌≡◌, ◌++◌, ℕ, List, length, All, Ok, Option}
use Rattle.base_core.specs.declared.place.LineAt.{LineAt}
use Rattle.values_core.specs.IsValue.{IsValue}
use Rattle.states_core.specs.States.{Values}
use Rattle.states_core.specs.declared.state.Shown.{Shown}
use Rattle.names_terms.specs.declared.operator.Operator.{Operator}
use Rattle.names_terms.specs.declared.spec.Spec.{Spec}
use Rattle.logs_updates.specs.declared.line.Line.{Line}
use Rattle.logs_updates.specs.declared.line.Log.{Log}
use Rattle.steps_lines_defs.specs.Logs.{Asked}
use Rattle.states_layers.specs.declared.answer.Answer.TheVariants.{NotExplained}
use Rattle.states_files.specs.Files.{StateFileSays}
use Rattle.run_texts.specs.Answers.{Named, answer_text}
use Rattle.twice_printed.specs.StateFiles.{AreNames, IsOneLine, IsShown}
use Rattle.run_why.specs.Reports.{IsReport}
use Rattle.run_why.specs.Tells.{Tells}

-- no line feed stands in the names of files, logs and variables
pub record AreOneLine (l : Named) : Type 0 where
  pub files : All IsOneLine l.files
  pub logs : All IsOneLine l.logs
  pub variables : All IsOneLine l.variables

-- a value for each of the names
pub record IsWhole (names : List (List ℕ)) (s : Values) : Type 0 where
  pub whole : length s ≡ length names
  pub values : All IsValue s

-- the report of a log that is explained in part, with what tells why of some entries, is read as its behaviour
abbrev pub WhyReadsBack : Type 0
WhyReadsBack = (g : Spec) (line : Line) (l : Named) (prefix all most : ℕ) (next : LineAt) (behaviour : List Shown) (entries : List Values) (told : List ℕ)
    → AreNames l.variables → All (IsShown l.variables) behaviour → All IsOneLine l.unchecked → AreOneLine l → All (IsWhole l.variables) entries → Tells g line l most entries told
    → StateFileSays l.variables (answer_text l (NotExplained prefix all next behaviour) ++ told) (Ok behaviour)

-- no line feed stands in the name of an operator
abbrev pub AreNamedInOneLine : List Operator → Type 0
AreNamedInOneLine = All (λ o. IsOneLine o.name)

-- So is each report of such an answer, whatever is asked for behind it. The report has the names of the variables of the specification.
abbrev pub ReportReadsBack : Type 0
ReportReadsBack = (g : Spec) (log : Log) (a : Asked) (l : Named) (why near : Option ℕ) (prefix all : ℕ) (next : LineAt) (behaviour : List Shown) (report : List ℕ)
    → AreNames l.variables → length l.variables ≡ length g.variables → All (IsShown l.variables) behaviour → All IsOneLine l.unchecked → AreOneLine l → AreNamedInOneLine g.operators
    → IsReport g log a l why near (NotExplained prefix all next behaviour) report → StateFileSays l.variables report (Ok behaviour)
