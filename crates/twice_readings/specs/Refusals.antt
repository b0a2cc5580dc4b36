-- Two refusals of one run are one, at whatever counts of faults. It is said of files that tell what they hold, where two refusals of the modules are one, and two for a
-- piece that is needed and was not read.
use Rattle.std.specs.Prelude.{◌≡◌, ℕ, List, None, Some, Ok}
use Rattle.base_core.specs.Device.{File, IsLonger, found}
use Rattle.reading_trees.specs.declared.config.Config.{Config}
use Rattle.reading_trees.specs.declared.module.Program.{Program}
use Rattle.reading_trees.specs.declared.module.WholeProgram.{WholeProgram}
use Rattle.reading_modules.specs.declared.notes.Noted.{Noted}
use Rattle.names_whole_programs.specs.Expansion.{ExpansionBy}
use Rattle.reading_wide_modules.specs.declared.unread.Unread.{Unread}
use Rattle.run_words.specs.declared.job.Job.{Job}
use Rattle.run_texts.specs.Files.{missing_text, too_long_text}
use Rattle.run_reading_defs.specs.Reaches.{IsNext, Reaches, Stage, begun, given}
use Rattle.run_reading_defs.specs.Refusals.{IsRefusal, Rejects}

-- reading does not go on from that stage, and this is the report: the file that is next is missing or too long, or what is read or tested next is refused
pub data Halts (files : List File) (job : Job) (stage : Stage) : List ℕ → Type 0 where
  at_missing : (name : List ℕ) (limit : ℕ) → IsNext (Some files) job stage name limit → found name files ≡ None → Halts files job stage (missing_text name)
  at_long : (name : List ℕ) (limit : ℕ) → IsNext (Some files) job stage name limit → IsLonger name (Some files) limit → Halts files job stage (too_long_text name)
  at_text : (report : List ℕ) → Rejects (Some files) job stage report → Halts files job stage report

-- two refusals of the modules are one
abbrev pub ModulesHaltOnce : List File → Job → Type 0
ModulesHaltOnce files job = (r q : List ℕ) → Halts files job begun r → Halts files job begun q → r ≡ q

-- nothing is wrong with an instance of the program
abbrev pub IsMade : Job → WholeProgram → Type 0
IsMade job w = (p : Program) × ExpansionBy job.wide w (Ok p)

-- and so are two for a piece that is needed and was not read
abbrev pub PiecesHaltOnce : List File → Job → Type 0
PiecesHaltOnce files job =
    (p q : WholeProgram) (unread others : List (Noted Unread)) (c d : Config) (r s : List ℕ) → IsMade job p → IsMade job q → Reaches (Some files) job (given p unread c) → Reaches (Some files) job (given q others d)
    → Halts files job (given p unread c) r → Halts files job (given q others d) s → r ≡ s

abbrev pub RefusalIsOne : Type 0
RefusalIsOne =
    (files : List File) (job : Job) → ModulesHaltOnce files job → PiecesHaltOnce files job → (before now earlier later : ℕ) (r q : List ℕ)
    → IsRefusal (Some files) before now job r → IsRefusal (Some files) earlier later job q → r ≡ q
