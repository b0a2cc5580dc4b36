-- Where the lines of several logs stand.
use Rattle.std.specs.Prelude.{List, Option}
use Rattle.base_core.specs.Device.{File}
use Rattle.reading_trees.specs.declared.config.Config.{Config}
use Rattle.reading_trees.specs.declared.module.Program.{Program}
use Rattle.names_terms.specs.declared.spec.Spec.{Spec}
use Rattle.logs_tied.specs.declared.logs.Lined.{Lined}
use Rattle.steps_lined.specs.Beside.{AreTellable}
use Rattle.run_words.specs.declared.job.Job.{Job}
use Rattle.run_reading_defs.specs.Reaches.{AllRead}

-- No two lines of logs that are read, and whose lines may stand in several orders, have one place.
abbrev pub ReadAreTellable : Type 0
ReadAreTellable = (holds : Option (List File)) (job : Job) (p : Program) (c : Config) (s : Spec) (lined : Lined) → AllRead holds job p c s lined → AreTellable lined
