-- A log that was read under the names of a specification.
use Rattle.std.proofs.Common.{◌≡◌, ◌+◌, ◌-◌, ◌<◌, ℕ, List, [], ◌∷◌, ◌++◌, length, map, All, Bool, Some, Result, Ok, Err, sym, subst}
use Rattle.std.specs.Prelude.{slice_get}
use Rattle.std.specs.List.{AllZip, AllByRecursion as Each}
use Rattle.std.proofs.lemmas.List.Elements.{All-append, All-from_recursion, All-get_or, All-nil, All-push, recursion_from_All}
use Rattle.std.proofs.lemmas.Option.{slice_get_within, get_or_from_slice_get}
use Rattle.names_terms.specs.declared.spec.Spec.{Spec}
use Rattle.names_specification_laws.specs.IsSpec.{IsSpec}
use Rattle.logs_updates.specs.declared.line.Line.{Line}
use Rattle.logs_updates.specs.declared.line.Log.{Log}
use Rattle.logs_updates.specs.declared.update.See.{See}
use Rattle.base_clock_order.specs.declared.order.LineRef.{LineRef}
use Rattle.logs_lines.specs.Files.{FileSays, GoesOn, LinesSay, behind_blank, behind_init, behind_step, first_line, nothing_found, pieces_of}
use Rattle.logs_lines.specs.declared.clocks.ClockForm.{ClockForm}
use Rattle.logs_lines.specs.declared.clocks.ClockForm.TheVariants.{Free}
use Rattle.logs_lines.specs.declared.position.Position.{Position}
use Rattle.logs_lines.specs.declared.kind.Outcome.{Outcome}
use Rattle.logs_lines.specs.declared.kind.Outcome.TheVariants.{Blank, Init, Step, Refused}
use Rattle.logs_lines.specs.declared.file.FileLines.{FileLines}
use Rattle.logs_lines.specs.declared.file.Refusal.{Refusal}
use Rattle.logs_tied.specs.declared.logs.Lined.{Lined}
use Rattle.logs_tied.specs.declared.logs.Lined.TheVariants.{Sequence, Tied}
use Rattle.logs_tied.specs.declared.logs.Logs.{Logs}
use Rattle.logs_files.specs.Lined.{AreLogsOf, IsLinedOf}
use Rattle.logs_files.specs.Logs.{FilesSay, GoesOn as FilesGoOn, IsLogOf, StandsAt, Together, are_several, first_sees, max_steps, sees_of}
use Rattle.logs_files.specs.declared.logs.LogRefusal.{LogRefusal}
use Rattle.steps_names.specs.Names.{names_of}
use Rattle.steps_ready_lines.specs.Lines.{AreReadyLogs, FilesAreReady, HasValues, HaveValues, IsReadyFile, IsReadyLined, IsReadyLog, LinedAreReady, LinesAreReady, LogsAreReady, SeesAreReady, TogetherReady}
use Rattle.steps_ready_defs.specs.Ready.{AreOfVariables, IsReadyLine}
use Rattle.steps_ready_lines.proofs.Events.{FormLaws}
use Rattle.steps_ready_lines.proofs.LineLemmas.{IfReady, line_ready}

abbrev IfValues : Spec → Line → Type 0
IfValues s line = HasValues line.event → IsReadyLine s line

file_is : (a b : FileLines) → ◌≡◌ {A = Result FileLines Refusal} (Ok a) (Ok b) → a ≡ b
file_is a b e = cc

module _ (s : Spec) (is : IsSpec s) (laws : FormLaws) where
  -- ONE FILE

  file_on : (rest : List (List ℕ)) (f : FileLines) (at : Position) (found : FileLines) (o : Outcome)
      → ((next : Position) (more : FileLines) → IsReadyFile s more → LinesSay (names_of s) next more rest (Ok f) → IsReadyFile s f)
      → IsReadyFile s found → IfReady s o → GoesOn (λ next more. LinesSay (names_of s) next more rest (Ok f)) at found (Ok f) o → IsReadyFile s f
  file_on rest f at found Blank next k fits h = next (behind_blank at) found k h
  file_on rest f at found (Init sees) next k fits h =
      next (behind_init at) (record { init = Some sees; steps = found.steps; form = found.form }) (record { init = fits; steps = k.steps }) h
  file_on rest f at found (Step line form) next k fits h =
      next (behind_step at form line.clock) (record { init = found.init; steps = found.steps ++ line ∷ []; form = form }) (record { init = k.init; steps = All-push (IfValues s) found.steps line k.steps fits }) h
  file_on rest f at found (Refused why) next k fits h = absurd cc

  lines_ready : (ps : List (List ℕ)) (f : FileLines) (at : Position) (found : FileLines) → IsReadyFile s found → LinesSay (names_of s) at found ps (Ok f) → IsReadyFile s f
  lines_ready [] f at found k h = subst (IsReadyFile s) (sym (file_is f found h)) k
  lines_ready (p ∷ ps) f at found k h = file_on ps f at found h.0 (lines_ready ps f) k (line_ready s is laws at p h.0 h.1) h.2

  file_ready : (file : ℕ) (many : Bool) (room : ℕ) (form : ClockForm) (bytes : List ℕ) (f : FileLines) → FileSays (names_of s) (first_line file many room form) bytes (Ok f) → IsReadyFile s f
  file_ready file many room form bytes f h = lines_ready (pieces_of bytes) f (first_line file many room form) (nothing_found form) (record { init = All-nil _; steps = All-nil _ }) h

  -- ALL FILES

  files_is : (a b : List FileLines) → ◌≡◌ {A = Result (List FileLines) LogRefusal} (Ok a) (Ok b) → a ≡ b
  files_is a b e = cc

  files_on : (many : Bool) (file room : ℕ) (form : ClockForm) (found fs : List FileLines) (text : List ℕ) (texts : List (List ℕ)) → ((f : FileLines) → IsReadyFile s f → FilesSay (names_of s) many (file + 1) (room - length f.steps) f.form (found ++ f ∷ []) texts (Ok fs) → All (IsReadyFile s) fs)
      → (r : Result FileLines Refusal) → FileSays (names_of s) (first_line file many room form) text r
      → FilesGoOn (λ f. FilesSay (names_of s) many (file + 1) (room - length f.steps) f.form (found ++ f ∷ []) texts (Ok fs)) file (Ok fs) r → All (IsReadyFile s) fs
  files_on many file room form found fs text texts next (Ok f) says h = next f (file_ready file many room form text f says) h
  files_on many file room form found fs text texts next (Err refusal) says h = absurd cc

  files_ready : (texts : List (List ℕ)) (many : Bool) (file room : ℕ) (form : ClockForm) (found fs : List FileLines) → All (IsReadyFile s) found → FilesSay (names_of s) many file room form found texts (Ok fs) → All (IsReadyFile s) fs
  files_ready [] many file room form found fs k h = subst (All (IsReadyFile s)) (sym (files_is fs found h)) k
  files_ready (text ∷ texts) many file room form found fs k h =
      files_on many file room form found fs text texts (λ f ready. files_ready texts many (file + 1) (room - length f.steps) f.form (found ++ f ∷ []) fs (All-push (IsReadyFile s) found f k ready)) h.0 h.1 h.2

  -- ONE LOG

  seen_first : (fs : List FileLines) → Each (IsReadyFile s) fs → AreOfVariables s (first_sees fs)
  seen_first [] h = All-nil _
  seen_first (f ∷ fs) h = All-append (λ (see : See). see.path.variable.0 < length s.variables) (sees_of f.init) (first_sees fs) h.0.init (seen_first fs h.1)

  item_so : {A : Type 0} (P : A → Type 0) (xs : List A) (i : ℕ) (x : A) → slice_get xs i ≡ Some x → All P xs → P x
  item_so P xs i x q h = subst P (get_or_from_slice_get xs i x x q) (All-get_or P xs i x (slice_get_within xs i x q) h)

  stands_ready : (files : List FileLines) (place : LineRef) (line : Line) → All (IsReadyFile s) files → StandsAt files place line → IfValues s line
  stands_ready files place line h stands =
      item_so (IfValues s) stands.0.steps place.index line stands.2 (item_so (IsReadyFile s) files place.file stands.0 stands.1 h).steps

  lines_stand : (files : List FileLines) (order : List LineRef) (lines : List Line) → All (IsReadyFile s) files → AllZip (StandsAt files) order lines → Each (λ line. HasValues line.event) lines → Each (IsReadyLine s) lines
  lines_stand files [] [] h zip values = tt
  lines_stand files [] (line ∷ lines) h zip values = absurd zip
  lines_stand files (place ∷ order) [] h zip values = absurd zip
  lines_stand files (place ∷ order) (line ∷ lines) h zip values = (stands_ready files place line h zip.0 values.0, lines_stand files order lines h zip.1 values.1)

  log_of_files : (files : List FileLines) (log : Log) → All (IsReadyFile s) files → IsLogOf files log → All (λ line. HasValues line.event) log.lines → IsReadyLog s log
  log_of_files files log h of values = record {
    init = subst (AreOfVariables s) (sym of.init) (seen_first files (recursion_from_All (IsReadyFile s) files h));
    lines = All-from_recursion (IsReadyLine s) log.lines (lines_stand files of.order log.lines h of.lines (recursion_from_All (λ (line : Line). HasValues line.event) log.lines values));
  }

  -- SEVERAL LOGS

  all_ready : (lines : List Line) → Each (IfValues s) lines → Each (λ line. HasValues line.event) lines → Each (IsReadyLine s) lines
  all_ready [] ready values = tt
  all_ready (line ∷ lines) ready values = (ready.0 values.0, all_ready lines ready.1 values.1)

  steps_ready : (f : FileLines) → IsReadyFile s f → All (λ line. HasValues line.event) f.steps → All (IsReadyLine s) f.steps
  steps_ready f h values =
      All-from_recursion (IsReadyLine s) f.steps (all_ready f.steps (recursion_from_All (IfValues s) f.steps h.steps) (recursion_from_All (λ (line : Line). HasValues line.event) f.steps values))

  abbrev AllValues : List Line → Type 0
  AllValues lines = All (λ line. HasValues line.event) lines

  abbrev AllReady : List Line → Type 0
  AllReady lines = All (IsReadyLine s) lines

  each_ready : (files : List FileLines) → Each (IsReadyFile s) files → Each AllValues (map (λ f. f.steps) files) → Each AllReady (map (λ f. f.steps) files)
  each_ready [] h values = tt
  each_ready (f ∷ fs) h values = (steps_ready f h.0 values.0, each_ready fs h.1 values.1)

  logs_of_files : (files : List FileLines) (logs : Logs) → All (IsReadyFile s) files → AreLogsOf files logs → All AllValues logs.files.items → AreReadyLogs s logs
  logs_of_files files logs h of values =
      let each = recursion_from_All (IsReadyFile s) files h in
      let lines : List (List Line) = map (λ f. f.steps) files in
      let there : All AllValues lines = subst (All AllValues) of.lines values in
      let ready : All AllReady lines = All-from_recursion AllReady lines (each_ready files each (recursion_from_All AllValues lines there)) in
      record {
        init = subst (AreOfVariables s) (sym of.init) (seen_first files each);
        lines = subst (All AllReady) (sym of.lines) ready;
      }

  lined_ready : (ties : Bool) (files : List FileLines) (lined : Lined) → All (IsReadyFile s) files → IsLinedOf ties files lined → HaveValues lined → IsReadyLined s lined
  lined_ready ties files (Sequence log) h of values = log_of_files files log h of.1 values
  lined_ready ties files (Tied logs) h of values = logs_of_files files logs h of.2 values

  log_is : (a b : Log) → ◌≡◌ {A = Result Log LogRefusal} (Ok a) (Ok b) → a ≡ b
  log_is a b e = cc

  together_ready : (texts : List (List ℕ)) (log : Log) (r : Result (List FileLines) LogRefusal) → FilesSay (names_of s) (are_several texts) 1 max_steps Free [] texts r → Together r (Ok log) → All (λ line. HasValues line.event) log.lines → IsReadyLog s log
  together_ready texts log (Ok files) says h values =
      let of : IsLogOf files log = subst (IsLogOf files) (sym (log_is log h.0 h.2)) h.1 in
      log_of_files files log (files_ready texts (are_several texts) 1 max_steps Free [] files (All-nil _) says) of values
  together_ready texts log (Err refusal) says h values = absurd cc

pub logs_ready : FormLaws → LogsAreReady
logs_ready laws s texts log is h values = together_ready s is laws texts log h.0 h.1 h.2 values

pub lines_are_ready : FormLaws → LinesAreReady
lines_are_ready laws s at text line form is h = line_ready s is laws at text (Step line form) h

pub sees_are_ready : FormLaws → SeesAreReady
sees_are_ready laws s at text sees is h = line_ready s is laws at text (Init sees) h

pub files_are_ready : FormLaws → FilesAreReady
files_are_ready laws s file many room form bytes f is h = file_ready s is laws file many room form bytes f h

pub together_are_ready : FormLaws → TogetherReady
together_are_ready laws s files log is h of values = log_of_files s is laws files log h of values

pub lined_are_ready : FormLaws → LinedAreReady
lined_are_ready laws s ties files lined is h of values = lined_ready s is laws ties files lined h of values
