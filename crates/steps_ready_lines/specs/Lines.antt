-- What was read under the names of a specification can be asked of it.
use Rattle.std.specs.Prelude.{ℕ, List, All, Bool, Option, Some, None, Ok}
use Rattle.names_terms.specs.declared.spec.Spec.{Spec}
use Rattle.eval_meanings.specs.Laws.{AreValues}
use Rattle.names_specification_laws.specs.IsSpec.{IsSpec}
use Rattle.logs_updates.specs.declared.line.Event.{Event}
use Rattle.logs_updates.specs.declared.line.Line.{Line}
use Rattle.logs_updates.specs.declared.line.Log.{Log}
use Rattle.logs_updates.specs.declared.update.See.{See}
use Rattle.logs_lines.specs.Lines.{LineSays}
use Rattle.logs_lines.specs.declared.clocks.ClockForm.{ClockForm}
use Rattle.logs_lines.specs.declared.position.Position.{Position}
use Rattle.logs_lines.specs.declared.kind.Outcome.TheVariants.{Init, Step}
use Rattle.logs_lines.specs.Files.{FileSays, first_line}
use Rattle.logs_lines.specs.declared.file.FileLines.{FileLines}
use Rattle.logs_files.specs.Lined.{IsLinedOf}
use Rattle.logs_files.specs.Logs.{IsLogOf, LogsSay, sees_of}
use Rattle.logs_tied.specs.declared.logs.Lined.{Lined}
use Rattle.logs_tied.specs.declared.logs.Lined.TheVariants.{Sequence, Tied}
use Rattle.logs_tied.specs.declared.logs.Logs.{Logs}
use Rattle.steps_names.specs.Names.{names_of}
use Rattle.steps_ready_defs.specs.Ready.{AreOfVariables, IsReadyLine}

-- the arguments of the event are values
abbrev pub HasValues : Option Event → Type 0
HasValues None = Unit {0}
HasValues (Some e) = AreValues e.args

-- each line of the log can be asked of the specification, and what it sees at first is of the specification's variables
pub record IsReadyLog (s : Spec) (log : Log) : Type 0 where
  pub init : AreOfVariables s log.init
  pub lines : All (IsReadyLine s) log.lines

-- the same of each line of several logs
pub record AreReadyLogs (s : Spec) (logs : Logs) : Type 0 where
  pub init : AreOfVariables s logs.init
  pub lines : All (λ file. All (IsReadyLine s) file) logs.files.items

-- the same of the lines of all logs, in one order or in each that is allowed
abbrev pub IsReadyLined : Spec → Lined → Type 0
IsReadyLined s (Sequence log) = IsReadyLog s log
IsReadyLined s (Tied logs) = AreReadyLogs s logs

-- the arguments of the events of all their lines are values
abbrev pub HaveValues : Lined → Type 0
HaveValues (Sequence log) = All (λ line. HasValues line.event) log.lines
HaveValues (Tied logs) = All (λ file. All (λ line. HasValues line.event) file) logs.files.items

-- what a file says can be asked of the specification, where the arguments of its events are values
pub record IsReadyFile (s : Spec) (f : FileLines) : Type 0 where
  pub init : AreOfVariables s (sees_of f.init)
  pub steps : All (λ line. HasValues line.event → IsReadyLine s line) f.steps

abbrev pub LinesAreReady : Type 0
LinesAreReady = (s : Spec) (at : Position) (text : List ℕ) (line : Line) (form : ClockForm) → IsSpec s → LineSays (names_of s) at text (Step line form) → HasValues line.event → IsReadyLine s line

abbrev pub SeesAreReady : Type 0
SeesAreReady = (s : Spec) (at : Position) (text : List ℕ) (sees : List See) → IsSpec s → LineSays (names_of s) at text (Init sees) → AreOfVariables s sees

abbrev pub LogsAreReady : Type 0
LogsAreReady = (s : Spec) (texts : List (List ℕ)) (log : Log) → IsSpec s → LogsSay (names_of s) texts (Ok log) → All (λ line. HasValues line.event) log.lines → IsReadyLog s log

abbrev pub FilesAreReady : Type 0
FilesAreReady = (s : Spec) (file : ℕ) (many : Bool) (room : ℕ) (form : ClockForm) (bytes : List ℕ) (f : FileLines) → IsSpec s → FileSays (names_of s) (first_line file many room form) bytes (Ok f) → IsReadyFile s f

-- the log of files that can be asked
abbrev pub TogetherReady : Type 0
TogetherReady = (s : Spec) (files : List FileLines) (log : Log) → IsSpec s → All (IsReadyFile s) files → IsLogOf files log → All (λ line. HasValues line.event) log.lines → IsReadyLog s log

-- the lines of all files that can be asked
abbrev pub LinedAreReady : Type 0
LinedAreReady = (s : Spec) (ties : Bool) (files : List FileLines) (lined : Lined) → IsSpec s → All (IsReadyFile s) files → IsLinedOf ties files lined → HaveValues lined → IsReadyLined s lined
