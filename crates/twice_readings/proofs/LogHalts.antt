-- Two readings that do not go on at a log.
use Rattle.std.proofs.Common.{◌≡◌, ◌∙◌, ◌+◌, ◌-◌, ◌<◌, ℕ, List, ◌∷◌, length, Some, Ok, Err, Result, ap, subst, sym}
use Rattle.std.specs.Prelude.{drop}
use Rattle.base_core.specs.Device.{File}
use Rattle.reading_trees.specs.declared.config.Config.{Config}
use Rattle.reading_trees.specs.declared.module.Program.{Program}
use Rattle.names_terms.specs.declared.spec.Spec.{Spec}
use Rattle.names_specification_laws.specs.IsSpec.{IsSpec}
use Rattle.twice_tables.specs.Outcome.{AreAlike}
use Rattle.logs_lines.specs.Files.{FileSays, first_line}
use Rattle.logs_lines.specs.declared.clocks.ClockForm.{ClockForm}
use Rattle.logs_lines.specs.declared.file.FileLines.{FileLines}
use Rattle.logs_lines.specs.declared.file.Refusal.{Refusal}
use Rattle.steps_names.specs.Names.{names_of}
use Rattle.twice_logs.specs.AlikeFiles.{AreAlikeResults}
use Rattle.twice_logs.specs.Logs.{FilesSayAlike}
use Rattle.run_words.specs.declared.job.Job.{Job}
use Rattle.run_texts.specs.Logs.{log_refusal}
use Rattle.run_reading_defs.specs.Texts.{HasText, LogsRead, are_several, bytes_left, steps_left}
use Rattle.run_reading_defs.specs.Reaches.{LogSays, Reaches, logged}
use Rattle.twice_readings.proofs.SameLogs.{AreAlikeReads, same_logs}
use Rattle.twice_readings.proofs.Stages.{head_is, still_named}
use Rattle.twice_readings.proofs.LogsBeside.{LogAt, log_at}
use Rattle.twice_readings.proofs.FileHalts.{FileHalts, no_halt, one_halt}

-- the text of a log is refused with this report
abbrev pub LogRefused : Job → Spec → LogsRead → List ℕ → List ℕ → List ℕ → Type 0
LogRefused job s read name text report = (refusal : Refusal) × LogSays job s read text (Err refusal) × (report ≡ log_refusal name refusal)

abbrev pub LogHalts : List File → Job → Spec → LogsRead → List ℕ → List ℕ → Type 0
LogHalts files job s read name = FileHalts files name (bytes_left read) (LogRefused job s read name)

module _ (files : List File) (job : Job) (says : FilesSayAlike) (s t : Spec) (first : IsSpec s) (second : IsSpec t) (alike : AreAlike s t) (p q : Program) (c d : Config) where
  -- what one reading says of a text beside the other, as many logs being read before
  moved : (read other : LogsRead) → length read.found ≡ length other.found → AreAlikeReads s.operators t.operators read other → (text : List ℕ) (r : Result FileLines Refusal)
      → LogSays job t other text r → FileSays (names_of t) (first_line (1 + length read.found) (are_several job.logs) (steps_left read) read.form) text r
  moved read other count same text r said =
      let many = are_several job.logs in
      let number : FileSays (names_of t) (first_line (1 + length read.found) many (steps_left other) other.form) text r =
      subst (λ (n : ℕ). FileSays (names_of t) (first_line (1 + n) many (steps_left other) other.form) text r) (sym count) said in
      let left : FileSays (names_of t) (first_line (1 + length read.found) many (steps_left read) other.form) text r =
      subst (λ (n : ℕ). FileSays (names_of t) (first_line (1 + length read.found) many (200000 - n) other.form) text r) (sym same.steps) number in
      subst (λ (form : ClockForm). FileSays (names_of t) (first_line (1 + length read.found) many (steps_left read) form) text r) (sym same.form) left

  -- the names of the logs that are next, as many being read before
  one_name : (read other : LogsRead) (name also : List ℕ) (names others : List (List ℕ)) → Reaches (Some files) job (logged p c s read (name ∷ names))
      → Reaches (Some files) job (logged q d t other (also ∷ others)) → length read.found ≡ length other.found → name ≡ also
  one_name read other name also names others a b count =
      let left = still_named (Some files) job p c s read (name ∷ names) a in
      let right = still_named (Some files) job q d t other (also ∷ others) b in
      head_is name also names others (sym left ∙ (ap (λ (n : ℕ). drop n job.logs) count ∙ right))

  alike_so : (read other : LogsRead) (names others : List (List ℕ)) → Reaches (Some files) job (logged p c s read names) → Reaches (Some files) job (logged q d t other others)
      → length read.found ≡ length other.found → AreAlikeReads s.operators t.operators read other
  alike_so read other names others a b count = same_logs files job says s t first second alike q d p c read names other others a b count

  -- a text is accepted in both readings, or refused for one reason
  says_one : (read other : LogsRead) → length read.found ≡ length other.found → AreAlikeReads s.operators t.operators read other → (text : List ℕ) (r k : Result FileLines Refusal)
      → LogSays job s read text r → LogSays job t other text k → AreAlikeResults s.operators t.operators r k
  says_one read other count same text r k a b =
      says s t first second alike (first_line (1 + length read.found) (are_several job.logs) (steps_left read) read.form) text r k a (moved read other count same text k b)

  -- a log that the first reading went on behind
  pub log_never : (all other : LogsRead) (rest : List (List ℕ)) (name : List ℕ) (names : List (List ℕ)) (report : List ℕ) → Reaches (Some files) job (logged p c s all rest)
      → Reaches (Some files) job (logged q d t other (name ∷ names)) → length other.found < length all.found → LogHalts files job t other name report → ⊥
  log_never all other rest name names report a b before halts =
      let at : LogAt (Some files) job p c s (length other.found) = log_at (Some files) job p c s all rest a (length other.found) before in
      let named : at.name ≡ name = one_name at.read other at.name name at.names names at.reaches b at.count in
      let same : AreAlikeReads s.operators t.operators at.read other = alike_so at.read other (at.name ∷ at.names) (name ∷ names) at.reaches b at.count in
      let here : HasText (Some files) name (bytes_left at.read) at.text = subst (λ (x : List ℕ). HasText (Some files) x (bytes_left at.read) at.text) named at.log in
      let has : HasText (Some files) name (bytes_left other) at.text = subst (λ (n : ℕ). HasText (Some files) name (67108864 - n) at.text) same.bytes here in
      no_halt files name (bytes_left other) (LogRefused job t other name) at.text has
      (λ r bad. says_one at.read other at.count same at.text (Ok at.file) (Err bad.0) at.says bad.1) report halts

  refused_alone : (read other : LogsRead) → length read.found ≡ length other.found → AreAlikeReads s.operators t.operators read other → (name text r k : List ℕ)
      → LogRefused job s read name text r → LogRefused job t other name text k → r ≡ k
  refused_alone read other count same name text r k bad worse =
      let one : bad.0 ≡ worse.0 = says_one read other count same text (Err bad.0) (Err worse.0) bad.1 worse.1 in
      bad.2 ∙ (ap (log_refusal name) one ∙ sym worse.2)

  -- one log, at which neither goes on
  pub log_alone : (read other : LogsRead) (name also : List ℕ) (names others : List (List ℕ)) (r k : List ℕ) → Reaches (Some files) job (logged p c s read (name ∷ names))
      → Reaches (Some files) job (logged q d t other (also ∷ others)) → length read.found ≡ length other.found → LogHalts files job s read name r → LogHalts files job t other also k → r ≡ k
  log_alone read other name also names others r k a b count here there =
      let named : name ≡ also = one_name read other name also names others a b count in
      let same : AreAlikeReads s.operators t.operators read other = alike_so read other (name ∷ names) (also ∷ others) a b count in
      let called : LogHalts files job t other name k = subst (λ (x : List ℕ). LogHalts files job t other x k) (sym named) there in
      let left : FileHalts files name (bytes_left read) (LogRefused job t other name) k = subst (λ (n : ℕ). FileHalts files name (67108864 - n) (LogRefused job t other name) k) (sym same.bytes) called in
      one_halt files name (bytes_left read) (LogRefused job s read name) (LogRefused job t other name) (refused_alone read other count same name) r k here left
