-- What reading does not see: a file that is not asked for. It is said of files that tell what they hold.
use Rattle.std.specs.Prelude.{◌≡◌, ℕ, List, Some}
use Rattle.base_core.specs.Device.{File, found}
use Rattle.reading_trees.specs.declared.config.Config.{Config}
use Rattle.reading_trees.specs.declared.module.Program.{Program}
use Rattle.names_terms.specs.declared.spec.Spec.{Spec}
use Rattle.logs_tied.specs.declared.logs.Lined.{Lined}
use Rattle.run_words.specs.declared.job.Job.{Job}
use Rattle.run_words.specs.declared.job.Words.TheVariants.{Validate}
use Rattle.run_reading_defs.specs.Reaches.{AllRead}
use Rattle.run_call.specs.declared.call.Status.{Status}
use Rattle.run_call.specs.Run.{AsksFor, IsWanted, Runs}

-- the files tell the same of each file that the words ask for beside the first of them
abbrev pub TellSame : List (List ℕ) → List File → List File → Type 0
TellSame words files others = (name : List ℕ) → IsWanted words (Some files) name → found name others ≡ found name files

-- what the words call for beside these files they call for beside the others, and so it is with the files that they ask for
pub record CallsSo (words : List (List ℕ)) (files others : List File) : Type 0 where
  pub calls : (before now : ℕ) (end : Status) (report : List ℕ) → Runs words (Some files) before now end report → Runs words (Some others) before now end report
  pub asks : (name : List ℕ) → IsWanted words (Some files) name → IsWanted words (Some others) name

-- Files that the words do not ask for are not seen: beside files that differ in such alone the words call for the same, and ask for the same files.
abbrev pub UnaskedAreUnseen : Type 0
UnaskedAreUnseen = (words : List (List ℕ)) (files others : List File) → TellSame words files others → CallsSo words files others × CallsSo words others files

-- and a job reads the same
abbrev pub ReadUnseen : Type 0
ReadUnseen =
    (job : Job) (files others : List File) → ((name : List ℕ) → AsksFor (Some files) name (Validate job) → found name others ≡ found name files)
    → (p : Program) (c : Config) (s : Spec) (lined : Lined) → AllRead (Some files) job p c s lined → AllRead (Some others) job p c s lined
