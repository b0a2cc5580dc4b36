-- Why the reading of `check` stops.
use Rattle.std.specs.Prelude.{ℕ, List, Option, string_bytes}
use Rattle.base_core.specs.Device.{File, Rose}
use Rattle.run_words.specs.declared.job.Job.{Job}
use Rattle.run_reading_defs.specs.Given.{GivenWants, IsGivenRefusal}
use Rattle.run_stages.specs.declared.stop.Stop.{Stop}
use Rattle.run_stages.specs.declared.stop.Stop.TheVariants.{Refused, Device, NoMemory}

-- The first refusal, with its report; or a read of a file failed that is read next, nothing before it being refused; or memory is wanting.
abbrev pub GivenStopsBy : Option (List File) → ℕ → ℕ → Job → List ℕ → Stop → Type 0
GivenStopsBy holds before now job witness (Refused report) = IsGivenRefusal holds before now job witness (string_bytes report)
GivenStopsBy holds before now job witness (Device name) = Rose before now × ((limit : ℕ) × GivenWants holds job witness name limit)
GivenStopsBy holds before now job witness NoMemory = Unit {0}
