-- Two readings of the same files come to the same. It is said of files that tell what they hold. And what is read without the word `--wide` is read so with it.
use Rattle.std.specs.Prelude.{◌≡◌, ℕ, true, false, List, Option, Some}
use Rattle.base_core.specs.Device.{File}
use Rattle.reading_trees.specs.declared.config.Config.{Config}
use Rattle.reading_trees.specs.declared.module.Program.{Program}
use Rattle.states_core.specs.declared.state.Shown.{Shown}
use Rattle.names_terms.specs.declared.spec.Spec.{Spec}
use Rattle.names_specification_laws.specs.IsSpec.{IsSpec}
use Rattle.twice_tables.specs.Outcome.{AreAlike}
use Rattle.logs_tied.specs.declared.logs.Lined.{Lined}
use Rattle.twice_logs.specs.LinedBeside.{AreAlikeLined}
use Rattle.run_words.specs.declared.job.Job.{Job}
use Rattle.run_reading_defs.specs.Given.{AllGiven}
use Rattle.run_reading_defs.specs.Reaches.{AllRead}

-- One program and one configuration, and specifications in order that differ by the numbers of definitions alone, as the lines of the logs do.
pub record AreSame (p q : Program) (c d : Config) (s t : Spec) (lined other : Lined) : Type 0 where
  pub programs : p ≡ q
  pub configurations : c ≡ d
  pub specs : AreAlike s t
  pub ordered : IsSpec s
  pub other_ordered : IsSpec t
  pub lines : AreAlikeLined s.operators t.operators lined other

-- what `validate` reads
abbrev pub ReadingIsOne : Type 0
ReadingIsOne =
    (files : List File) (job : Job) (p q : Program) (c d : Config) (s t : Spec) (lined other : Lined) → AllRead (Some files) job p c s lined → AllRead (Some files) job q d t other
    → AreSame p q c d s t lined other

-- what `check` reads: the states are the same besides
abbrev pub GivenIsOne : Type 0
GivenIsOne =
    (files : List File) (job : Job) (witness : List ℕ) (p q : Program) (c d : Config) (s t : Spec) (lined other : Lined) (w v : List Shown)
    → AllGiven (Some files) job witness p c s lined w → AllGiven (Some files) job witness q d t other v → AreSame p q c d s t lined other × (w ≡ v)

-- ---- with the word `--wide`

-- the same job, with the word
abbrev pub widened : Job → Job
widened job = record job { wide = true }

-- What is read without it is read so with it: the same program and configuration, and with it what is told as not checked, the same specification and lines of logs.
abbrev pub StrictStaysWide : Type 0
StrictStaysWide =
    (holds : Option (List File)) (job : Job) (p : Program) (c : Config) (s : Spec) (lined : Lined) → job.wide ≡ false → AllRead holds job p c s lined
    → AllRead holds (widened job) p c s lined

-- and the same states
abbrev pub GivenStaysWide : Type 0
GivenStaysWide =
    (holds : Option (List File)) (job : Job) (witness : List ℕ) (p : Program) (c : Config) (s : Spec) (lined : Lined) (w : List Shown) → job.wide ≡ false
    → AllGiven holds job witness p c s lined w → AllGiven holds (widened job) witness p c s lined w

-- where files tell, nothing else is read with it
abbrev pub WideIsStrict : Type 0
WideIsStrict =
    (files : List File) (job : Job) (p q : Program) (c d : Config) (s t : Spec) (lined other : Lined) → job.wide ≡ false → AllRead (Some files) job p c s lined
    → AllRead (Some files) (widened job) q d t other → AreSame p q c d s t lined other
