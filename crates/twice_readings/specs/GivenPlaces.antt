-- Where what a configuration gives stands, once all texts of a specification are read: in the configuration, which is named behind the files of the modules
-- (`all_files` of `run_reading_defs`). So it is of what is left with the word `--wide`, too. It is said whatever the files tell.
use Rattle.std.specs.Prelude.{◌≡◌, [], ℕ, All, List, None, Option, Some}
use Rattle.base_core.specs.Device.{File}
use Rattle.reading_trees.specs.declared.config.Config.{Config}
use Rattle.reading_trees.specs.declared.module.Program.{Program}
use Rattle.names_terms.specs.declared.spec.Spec.{Spec}
use Rattle.logs_tied.specs.declared.logs.Lined.{Lined}
use Rattle.reading_laws.specs.GivenPlaces.{IsGivenBehind}
use Rattle.run_words.specs.declared.job.Job.{Job}
use Rattle.run_reading_defs.specs.Reaches.{AllRead, Reaches, configured}
use Rattle.run_reading_defs.specs.Texts.{HasText, config_limit}

-- no configuration is read, and none gives anything; or each name that it tells of stands in its text, behind the files of the modules
pub data GivensStand (holds : Option (List File)) (job : Job) (p : Program) (c : Config) : Type 0 where
  nothing_is_given : job.config ≡ None → c.givens ≡ [] → GivensStand holds job p c
  all_stand : (text : List ℕ) → job.config ≡ Some c.file → HasText holds c.file config_limit text → All (IsGivenBehind p.files c.file text) c.givens
      → GivensStand holds job p c

-- of a job whose specification is to be resolved
abbrev pub ConfiguredGivensStand : Type 0
ConfiguredGivensStand = (holds : Option (List File)) (job : Job) (p : Program) (c : Config) → Reaches holds job (configured p c) → GivensStand holds job p c

-- and of one that is accepted
abbrev pub AcceptedGivensStand : Type 0
AcceptedGivensStand =
    (holds : Option (List File)) (job : Job) (p : Program) (c : Config) (s : Spec) (lined : Lined) → AllRead holds job p c s lined → GivensStand holds job p c
