-- By what each stage of reading was reached.
use Rattle.std.proofs.Common.{◌≡◌, ◌⊎◌, ◌+◌, ℕ, zero, suc, List, [], ◌∷◌, ◌++◌, length, length-append, Option, Some, None, Ok, inl, inr, refl, ap, ◌∙◌, arith}
use Rattle.std.specs.Prelude.{drop}
use Rattle.base_core.specs.Device.{File}
use Rattle.reading_trees.specs.declared.config.Config.{Config}
use Rattle.reading_trees.specs.declared.module.Program.{Program}
use Rattle.reading_trees.specs.declared.module.WholeProgram.{WholeProgram}
use Rattle.reading_modules.specs.declared.notes.Noted.{Noted}
use Rattle.reading_modules.specs.Loads.{IsProgramBy}
use Rattle.reading_modules.specs.Paths.{IsPath}
use Rattle.reading_wide_configuration.specs.Wide.{ReadsBy}
use Rattle.reading_wide_modules.specs.declared.unread.Unread.{Unread}
use Rattle.reading_wide_modules.specs.Wide.{reading_by}
use Rattle.names_terms.specs.declared.spec.Spec.{Spec}
use Rattle.names_specification.specs.Resolving.{ResolvedBy}
use Rattle.names_whole_programs.specs.Expansion.{ExpansionBy}
use Rattle.run_wide.specs.Passing.{Passes}
use Rattle.logs_lines.specs.declared.file.FileLines.{FileLines}
use Rattle.run_words.specs.declared.job.Job.{Job}
use Rattle.run_reading_defs.specs.Texts.{HasText, LogsRead, config_limit, no_logs, with_log, without_file}
use Rattle.run_reading_defs.specs.Reaches.{IsLog, LogSays, Reaches, configured, given, has_forms, loaded, loads, logged, needs_no_configuration, passes, reads_configuration, reads_log, resolved, resolves}

pub some_is : {A : Type 0} (a b : A) → Some a ≡ Some b → a ≡ b
some_is a b e = cc

pub none_is_some : {A : Type 0} (a : A) → None ≡ Some a → ⊥
none_is_some a e = cc

none_left : {A : Type 0} (y : A) (ys : List A) → [] ≡ y ∷ ys → ⊥
none_left y ys e = cc

rest_is : {A : Type 0} (x y : A) (xs ys : List A) → x ∷ xs ≡ y ∷ ys → xs ≡ ys
rest_is x y xs ys e = cc

pub head_is : {A : Type 0} (x y : A) (xs ys : List A) → x ∷ xs ≡ y ∷ ys → x ≡ y
head_is x y xs ys e = cc

drop_next : {A : Type 0} (n : ℕ) (xs : List A) (y : A) (ys : List A) → drop n xs ≡ y ∷ ys → drop (suc n) xs ≡ ys
drop_next zero [] y ys e = absurd (none_left y ys e)
drop_next zero (x ∷ xs) y ys e = rest_is x y xs ys e
drop_next (suc n) [] y ys e = absurd (none_left y ys e)
drop_next (suc n) (x ∷ xs) y ys e = drop_next n xs y ys e

pub one_longer : (fs : List FileLines) (f : FileLines) → length (fs ++ f ∷ []) ≡ suc (length fs)
one_longer fs f = omega (arith, length-append fs (f ∷ []))

module _ (holds : Option (List File)) (job : Job) where
  abbrev pub LoadedBy : WholeProgram → List (Noted Unread) → Type 0
  LoadedBy whole unread = (folder : List ℕ) × (name : List ℕ) × IsPath job.module folder name × IsProgramBy (reading_by job.wide) holds folder name whole unread

  pub loaded_by : (whole : WholeProgram) (unread : List (Noted Unread)) → Reaches holds job (loaded whole unread) → LoadedBy whole unread
  loaded_by _ _ (loads folder name whole unread path is) = (folder, name, path, is)

  abbrev pub WithoutText : Config → Type 0
  WithoutText c = (job.config ≡ None) × (c ≡ without_file)

  abbrev pub WithText : WholeProgram → Config → Type 0
  WithText w c = (name : List ℕ) × (text : List ℕ) × (job.config ≡ Some name) × HasText holds name config_limit text × ReadsBy job.wide (length w.program.files) name text (Ok c)

  pub given_by : (w : WholeProgram) (unread : List (Noted Unread)) (c : Config) → Reaches holds job (given w unread c) → Reaches holds job (loaded w unread) × (WithoutText c ⊎ WithText w c)
  given_by _ _ _ (needs_no_configuration p unread reaches none) = (reaches, inl (none, refl))
  given_by _ _ _ (reads_configuration p unread name text c reaches some has reads) = (reaches, inr (name, text, some, has, reads))

  -- the texts of which it is what is left
  pub record ConfiguredBy (q : Program) (d : Config) : Type 0 where
    pub whole : WholeProgram
    pub program : Program
    pub unread : List (Noted Unread)
    pub config : Config
    pub reaches : Reaches holds job (given whole unread config)
    pub expands : ExpansionBy job.wide whole (Ok program)
    pub passed : Passes program config job.silent unread job.wide q d

  pub configured_by : (q : Program) (d : Config) → Reaches holds job (configured q d) → ConfiguredBy q d
  configured_by _ _ (passes w p q unread c d reaches expands is) = record { whole = w; program = p; unread = unread; config = c; reaches = reaches; expands = expands; passed = is }

  pub resolved_by : (p : Program) (c : Config) (s : Spec) → Reaches holds job (resolved p c s) → Reaches holds job (configured p c) × ResolvedBy job.wide p c job.silent (Ok s)
  resolved_by _ _ _ (resolves p c s reaches is) = (reaches, is)

  pub logged_from : (p : Program) (c : Config) (s : Spec) (read : LogsRead) (names : List (List ℕ)) → Reaches holds job (logged p c s read names) → Reaches holds job (resolved p c s)
  logged_from _ _ _ _ _ (has_forms p c s reaches whole) = reaches
  logged_from _ _ _ _ _ (reads_log p c s read name names text f reaches log says) = logged_from p c s read (name ∷ names) reaches

  -- the last log that was read
  pub record LastRead (p : Program) (c : Config) (s : Spec) (all : LogsRead) (names : List (List ℕ)) : Type 0 where
    pub read : LogsRead
    pub name : List ℕ
    pub text : List ℕ
    pub file : FileLines
    pub reaches : Reaches holds job (logged p c s read (name ∷ names))
    pub log : IsLog holds read name text
    pub says : LogSays job s read text (Ok file)
    pub is : all ≡ with_log read text file

  pub logged_by : (p : Program) (c : Config) (s : Spec) (all : LogsRead) (names : List (List ℕ)) → Reaches holds job (logged p c s all names)
      → (all ≡ no_logs) ⊎ LastRead p c s all names
  logged_by _ _ _ _ _ (has_forms p c s reaches whole) = inl refl
  logged_by _ _ _ _ _ (reads_log p c s read name names text f reaches log says) =
      inr (record { read = read; name = name; text = text; file = f; reaches = reaches; log = log; says = says; is = refl })

  -- the logs that are still to be read are those behind as many as were read
  pub still_named : (p : Program) (c : Config) (s : Spec) (read : LogsRead) (names : List (List ℕ)) → Reaches holds job (logged p c s read names) → drop (length read.found) job.logs ≡ names
  still_named _ _ _ _ _ (has_forms p c s reaches whole) = refl
  still_named _ _ _ _ _ (reads_log p c s read name names text f reaches log says) =
      let before : drop (length read.found) job.logs ≡ name ∷ names = still_named p c s read (name ∷ names) reaches in
      ap (λ (n : ℕ). drop n job.logs) (one_longer read.found f) ∙ drop_next (length read.found) job.logs name names before

  pub counted : (p : Program) (c : Config) (s : Spec) (read : LogsRead) (names : List (List ℕ)) → Reaches holds job (logged p c s read names)
      → length read.found + length names ≡ length job.logs
  counted _ _ _ _ _ (has_forms p c s reaches whole) = omega arith
  counted _ _ _ _ _ (reads_log p c s read name names text f reaches log says) =
      let before : length read.found + suc (length names) ≡ length job.logs = counted p c s read (name ∷ names) reaches in
      omega (arith, before, one_longer read.found f)
