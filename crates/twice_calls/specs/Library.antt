-- What holds of a call over files of one's own with the library behind them. It is said of files that tell what they hold.
use Rattle.std.specs.Prelude.{◌≡◌, ℕ, false, List, Option, Some}
use Rattle.base_core.specs.Device.{File, found}
use Rattle.base_core.specs.Failures.{Failures}
use Rattle.reading_trees.specs.declared.config.Config.{Config}
use Rattle.reading_trees.specs.declared.module.Program.{Program}
use Rattle.states_core.specs.declared.state.Shown.{Shown}
use Rattle.names_terms.specs.declared.spec.Spec.{Spec}
use Rattle.logs_tied.specs.declared.logs.Lined.{Lined}
use Rattle.run_words.specs.declared.job.Job.{Job}
use Rattle.run_words.specs.declared.job.Words.TheVariants.{Check, Validate}
use Rattle.run_words.specs.Words.{AreWords}
use Rattle.run_reading_defs.specs.Given.{AllGiven}
use Rattle.run_reading_defs.specs.Reaches.{AllRead}
use Rattle.run_call.specs.declared.call.Status.{Status}
use Rattle.run_call.specs.Run.{IsWanted}
use Rattle.twice_readings.specs.Readings.{widened}
use Rattle.run_library.specs.Behind.{files_behind}
use Rattle.run_library.specs.Calls.{CallEnds, LibraryAt}

-- the library stands in one folder, or in none
abbrev pub OneFolder : Type 0
OneFolder = (words : List (List ℕ)) (folder other : Option (List ℕ)) → LibraryAt words folder → LibraryAt words other → folder ≡ other

-- What a job reads of files it reads of them with the library behind them.
abbrev pub LibraryIsUnseen : Type 0
LibraryIsUnseen =
    (folder : Option (List ℕ)) (files : List File) (job : Job) (p : Program) (c : Config) (s : Spec) (lined : Lined) → AllRead (Some files) job p c s lined
    → AllRead (Some (files_behind folder files)) job p c s lined

-- So what a call of `validate` reads without the word `--wide` it reads with it: the same program and configuration, and with it what is told as not checked, the same
-- specification and lines of logs.
abbrev pub AcceptedStays : Type 0
AcceptedStays =
    (words again : List (List ℕ)) (job : Job) (files : List File) (folder other : Option (List ℕ)) → AreWords words (Validate job) → AreWords again (Validate (widened job))
    → job.wide ≡ false → LibraryAt words folder → LibraryAt again other
    → (p : Program) (c : Config) (s : Spec) (lined : Lined) → AllRead (Some (files_behind folder files)) job p c s lined → AllRead (Some (files_behind other files)) (widened job) p c s lined

-- and a call of `check` the same states besides
abbrev pub GivenStays : Type 0
GivenStays =
    (words again : List (List ℕ)) (job : Job) (witness : List ℕ) (files : List File) (folder other : Option (List ℕ)) → AreWords words (Check job witness)
    → AreWords again (Check (widened job) witness) → job.wide ≡ false → LibraryAt words folder → LibraryAt again other
    → (p : Program) (c : Config) (s : Spec) (lined : Lined) (w : List Shown) → AllGiven (Some (files_behind folder files)) job witness p c s lined w
    → AllGiven (Some (files_behind other files)) (widened job) witness p c s lined w

-- the files tell the same of each file that the call asks for over the first of them
abbrev pub TellSameBehind : List (List ℕ) → Option (List ℕ) → List File → List File → Type 0
TellSameBehind words folder files others = (name : List ℕ) → IsWanted words (Some (files_behind folder files)) name → found name others ≡ found name files

-- what a call over these files may end with, it may end with over the others
abbrev pub EndsAlso : List (List ℕ) → List File → List File → Type 0
EndsAlso words files others =
    (before now out_before out_now : ℕ) (first last : Failures) (old new : Option (List ℕ)) (end : Status)
    → CallEnds words (Some files) before now out_before out_now first last old new end → CallEnds words (Some others) before now out_before out_now first last old new end

-- Files that a call does not ask for are not seen: over files that differ in such alone it ends in the same ways.
abbrev pub UnaskedOwnAreUnseen : Type 0
UnaskedOwnAreUnseen =
    (words : List (List ℕ)) (folder : Option (List ℕ)) (files others : List File) → LibraryAt words folder → TellSameBehind words folder files others
    → EndsAlso words files others × EndsAlso words others files
