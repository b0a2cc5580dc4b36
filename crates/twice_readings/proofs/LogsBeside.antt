-- The logs of an accepted reading beside those of another, log by log.
use Rattle.std.proofs.Common.{◌≡◌, ◌⊎◌, ◌+◌, ◌-◌, ◌<◌, ℕ, suc, List, [], ◌∷◌, length, Option, Some, Ok, Err, inl, inr, refl, ap, sym, ◌∙◌, subst, arith}
use Rattle.std.specs.Prelude.{drop}
use Rattle.base_core.specs.Device.{File}
use Rattle.reading_trees.specs.declared.config.Config.{Config}
use Rattle.reading_trees.specs.declared.module.Program.{Program}
use Rattle.names_terms.specs.declared.spec.Spec.{Spec}
use Rattle.names_specification_laws.specs.IsSpec.{IsSpec}
use Rattle.twice_tables.specs.Outcome.{AreAlike}
use Rattle.logs_lines.specs.Files.{FileSays, first_line}
use Rattle.logs_lines.specs.declared.clocks.ClockForm.{ClockForm}
use Rattle.logs_lines.specs.declared.file.FileLines.{FileLines}
use Rattle.logs_lines.specs.declared.file.Refusal.{Refusal}
use Rattle.steps_names.specs.Names.{names_of}
use Rattle.steps_forms.specs.Forms.{AreWhole}
use Rattle.twice_logs.specs.Logs.{FilesSayAlike}
use Rattle.run_words.specs.declared.job.Job.{Job}
use Rattle.run_reading_defs.specs.Texts.{HasText, LogsRead, are_several, bytes_left, steps_left}
use Rattle.run_reading_defs.specs.Reaches.{IsLog, LogSays, Reaches, has_forms, logged, reads_log}
use Rattle.twice_readings.proofs.SameLogs.{AreAlikeReads, one_text, same_logs}
use Rattle.twice_readings.proofs.Stages.{counted, head_is, one_longer, still_named}

below_or_at : (m n : ℕ) → m < suc n → (m ≡ n) ⊎ (m < n)
below_or_at m n h = grind arith

none_below : (m : ℕ) → m < 0 → ⊥
none_below m h = omega (arith, h)

module _ (holds : Option (List File)) (job : Job) where
  pub whole_forms : (p : Program) (c : Config) (s : Spec) (read : LogsRead) (names : List (List ℕ)) → Reaches holds job (logged p c s read names) → AreWhole s
  whole_forms _ _ _ _ _ (has_forms p c s reaches whole) = whole
  whole_forms _ _ _ _ _ (reads_log p c s read name names text f reaches log says) = whole_forms p c s read (name ∷ names) reaches

  -- the log behind so many others
  pub record LogAt (p : Program) (c : Config) (s : Spec) (number : ℕ) : Type 0 where
    pub read : LogsRead
    pub name : List ℕ
    pub names : List (List ℕ)
    pub text : List ℕ
    pub file : FileLines
    pub reaches : Reaches holds job (logged p c s read (name ∷ names))
    pub log : IsLog holds read name text
    pub says : LogSays job s read text (Ok file)
    pub count : length read.found ≡ number

  pub log_at : (p : Program) (c : Config) (s : Spec) (all : LogsRead) (names : List (List ℕ)) → Reaches holds job (logged p c s all names) → (number : ℕ) → number < length all.found
      → LogAt p c s number
  log_at _ _ _ _ _ (has_forms p c s reaches whole) number l = absurd (none_below number l)
  log_at _ _ _ _ _ (reads_log p c s read name names text f reaches log says) number l =
      elim (below_or_at number (length read.found) (subst (λ (n : ℕ). number < n) (one_longer read.found f) l)) [
        | inl at ↦ record { read = read; name = name; names = names; text = text; file = f; reaches = reaches; log = log; says = says; count = sym at }
        | inr below ↦ log_at p c s read (name ∷ names) reaches number below
      ]

module _ (files : List File) (job : Job) (says : FilesSayAlike) (s t : Spec) (first : IsSpec s) (second : IsSpec t) (alike : AreAlike s t) (p q : Program) (c d : Config) where
  -- the accepted log that stands where the other reading has come to
  record Beside (other : LogsRead) (name : List ℕ) : Type 0 where
    accepted : LogAt (Some files) job p c s (length other.found)
    named : accepted.name ≡ name
    reads : AreAlikeReads s.operators t.operators accepted.read other

  beside : (all other : LogsRead) (name : List ℕ) (names : List (List ℕ)) → Reaches (Some files) job (logged p c s all []) → Reaches (Some files) job (logged q d t other (name ∷ names))
      → Beside other name
  beside all other name names a b =
      let m : length all.found + 0 ≡ length job.logs = counted (Some files) job p c s all [] a in
      let n : length other.found + suc (length names) ≡ length job.logs = counted (Some files) job q d t other (name ∷ names) b in
      let l : length other.found < length all.found = omega (arith, m, n) in
      let at : LogAt (Some files) job p c s (length other.found) = log_at (Some files) job p c s all [] a (length other.found) l in
      let left = still_named (Some files) job p c s at.read (at.name ∷ at.names) at.reaches in
      let right = still_named (Some files) job q d t other (name ∷ names) b in
      record {
        accepted = at;
        named = head_is at.name name at.names names (sym left ∙ (ap (λ (k : ℕ). drop k job.logs) at.count ∙ right));
        reads = same_logs files job says s t first second alike q d p c at.read (at.name ∷ at.names) other (name ∷ names) at.reaches b at.count;
      }

  text_beside : (other : LogsRead) (name : List ℕ) → (b : Beside other name) → HasText (Some files) name (bytes_left other) b.accepted.text
  text_beside other name b =
      let at : LogAt (Some files) job p c s (length other.found) = b.accepted in
      let here : HasText (Some files) name (bytes_left at.read) at.text = subst (λ (x : List ℕ). HasText (Some files) x (bytes_left at.read) at.text) b.named at.log in
      subst (λ (n : ℕ). HasText (Some files) name (67108864 - n) at.text) b.reads.bytes here

  -- the log that the other reading comes to has a text
  pub log_there : (all other : LogsRead) (name : List ℕ) (names : List (List ℕ)) → Reaches (Some files) job (logged p c s all []) → Reaches (Some files) job (logged q d t other (name ∷ names))
      → (text : List ℕ) × HasText (Some files) name (bytes_left other) text
  log_there all other name names a b = let x = beside all other name names a b in (x.accepted.text, text_beside other name x)

  -- and is not refused
  pub log_accepted : (all other : LogsRead) (name : List ℕ) (names : List (List ℕ)) (text : List ℕ) (refusal : Refusal) → Reaches (Some files) job (logged p c s all [])
      → Reaches (Some files) job (logged q d t other (name ∷ names)) → IsLog (Some files) other name text → LogSays job t other text (Err refusal) → ⊥
  log_accepted all other name names text refusal a b log refused =
      let x = beside all other name names a b in
      let at : LogAt (Some files) job p c s (length other.found) = x.accepted in
      let many = are_several job.logs in
      let texts : text ≡ at.text = one_text files name name _ _ text at.text refl log (text_beside other name x) in
      let moved : FileSays (names_of t) (first_line (1 + length at.read.found) many (steps_left other) other.form) text (Err refusal) =
      subst (λ (n : ℕ). FileSays (names_of t) (first_line (1 + n) many (steps_left other) other.form) text (Err refusal)) (sym at.count) refused in
      let left : FileSays (names_of t) (first_line (1 + length at.read.found) many (steps_left at.read) other.form) text (Err refusal) =
      subst (λ (n : ℕ). FileSays (names_of t) (first_line (1 + length at.read.found) many (200000 - n) other.form) text (Err refusal)) (sym x.reads.steps) moved in
      let formed : FileSays (names_of t) (first_line (1 + length at.read.found) many (steps_left at.read) at.read.form) text (Err refusal) =
      subst (λ (form : ClockForm). FileSays (names_of t) (first_line (1 + length at.read.found) many (steps_left at.read) form) text (Err refusal)) (sym x.reads.form) left in
      let there : FileSays (names_of t) (first_line (1 + length at.read.found) many (steps_left at.read) at.read.form) at.text (Err refusal) =
      subst (λ (y : List ℕ). FileSays (names_of t) (first_line (1 + length at.read.found) many (steps_left at.read) at.read.form) y (Err refusal)) texts formed in
      says s t first second alike (first_line (1 + length at.read.found) many (steps_left at.read) at.read.form) at.text (Ok at.file) (Err refusal) at.says there
