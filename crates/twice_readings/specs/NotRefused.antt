-- What is read and accepted is not refused. It is said of files that tell what they hold: where they do not, a read may fail at any time.
use Rattle.std.specs.Prelude.{ℕ, List, Some}
use Rattle.base_core.specs.Device.{File}
use Rattle.reading_trees.specs.declared.config.Config.{Config}
use Rattle.reading_trees.specs.declared.module.Program.{Program}
use Rattle.states_core.specs.declared.state.Shown.{Shown}
use Rattle.names_terms.specs.declared.spec.Spec.{Spec}
use Rattle.logs_tied.specs.declared.logs.Lined.{Lined}
use Rattle.run_words.specs.declared.job.Job.{Job}
use Rattle.run_reading_defs.specs.Given.{AllGiven, IsGivenRefusal}
use Rattle.run_reading_defs.specs.Reaches.{AllRead}
use Rattle.run_reading_defs.specs.Refusals.{IsRefusal}

-- what `validate` reads
abbrev pub ReadNotRefused : Type 0
ReadNotRefused =
    (files : List File) (before now : ℕ) (job : Job) (p : Program) (c : Config) (s : Spec) (lined : Lined) (report : List ℕ) → AllRead (Some files) job p c s lined
    → IsRefusal (Some files) before now job report → ⊥

-- what `check` reads: the file of states is not refused either
abbrev pub GivenNotRefused : Type 0
GivenNotRefused =
    (files : List File) (before now : ℕ) (job : Job) (witness : List ℕ) (p : Program) (c : Config) (s : Spec) (lined : Lined) (w : List Shown) (report : List ℕ)
    → AllGiven (Some files) job witness p c s lined w → IsGivenRefusal (Some files) before now job witness report → ⊥
