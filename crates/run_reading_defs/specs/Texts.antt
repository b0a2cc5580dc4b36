-- The texts that are read, with their limits, and the configuration where none is read.
use Rattle.std.specs.Prelude.{◌≡◌, ◌≤◌, ◌+◌, ◌-◌, ℕ, List, [], ◌∷◌, ◌++◌, length, Option, Some, None, Bool, nat_lt, codes}
use Rattle.base_core.specs.Device.{File, IsWhole}
use Rattle.reading_trees.specs.declared.config.Config.{Config}
use Rattle.logs_lines.specs.declared.clocks.ClockForm.{ClockForm}
use Rattle.logs_lines.specs.declared.clocks.ClockForm.TheVariants.{Free}
use Rattle.logs_lines.specs.declared.file.FileLines.{FileLines}
use Rattle.logs_files.specs.Logs.{max_steps}

-- a configuration's file has at most this many bytes, and all logs have at most so many together
abbrev pub config_limit : ℕ
config_limit = 65536

abbrev pub logs_limit : ℕ
logs_limit = 67108864

-- where the files tell: these are the bytes of the file; and they are no more than it may have
pub record HasText (holds : Option (List File)) (name : List ℕ) (limit : ℕ) (text : List ℕ) : Type 0 where
  pub whole : IsWhole name holds text
  pub short : length text ≤ limit

-- what holds where no configuration is read: `INIT Init NEXT Next`
abbrev pub without_file : Config
without_file = record { file = []; init = Some (codes "Init"); next = Some (codes "Next"); specification = None; givens = []; unchecked = [] }

-- what was read of the logs: their bytes and their steps together, the form of their clocks, and what each says
pub record LogsRead : Type 0 where
  pub bytes : ℕ
  pub steps : ℕ
  pub form : ClockForm
  pub found : List FileLines

abbrev pub no_logs : LogsRead
no_logs = record { bytes = 0; steps = 0; form = Free; found = [] }

-- one log more, of that text
abbrev pub with_log : LogsRead → List ℕ → FileLines → LogsRead
with_log read text f = record { bytes = read.bytes + length text; steps = read.steps + length f.steps; form = f.form; found = read.found ++ f ∷ [] }

-- how many bytes the logs behind may have together, and how many steps
abbrev pub bytes_left : LogsRead → ℕ
bytes_left read = logs_limit - read.bytes

abbrev pub steps_left : LogsRead → ℕ
steps_left read = max_steps - read.steps

-- there is more than one log
abbrev pub are_several : List (List ℕ) → Bool
are_several logs = nat_lt 1 (length logs)
