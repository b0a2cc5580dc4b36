-- The module Ring and its log. A token goes round five holders, and each pass is counted; the log shows the count, and who made the last pass.
use Rattle.std.specs.Prelude.{ℕ, zero, suc, ◌-◌, List, [], ◌∷◌, ◌++◌, None, false, codes}
use Rattle.std.specs.Fmt.{decimal}
use Rattle.base_core.specs.Device.{File}
use Rattle.run_words.specs.declared.job.Job.{Job}

abbrev pub ring_module : List ℕ
ring_module = codes "---- MODULE Ring ----\nEXTENDS Integers\nVARIABLES holder, count\nInit == holder \\in 0..4 /\\ count = 0\nPass(n) == /\\ holder = n\n           /\\ holder' = (n + 1) % 5\n           /\\ count' = count + 1\nNext == \\E n \\in 0..4 : Pass(n)\n====\n"

-- how often the token was passed, and the end of the line
unfoldable pub seen_part : ℕ → List ℕ
seen_part n = codes "\"see\":[[\"count\"," ++ decimal n ++ codes "]]}\n"

-- the clock of a line
unfoldable pub clock_part : ℕ → List ℕ
clock_part n = codes "{\"clock\":" ++ decimal n ++ codes ","

-- the clock of a line whose event is the pass by the holder 0
unfoldable pub pass_part : ℕ → List ℕ
pass_part n = codes "{\"args\":[0],\"clock\":" ++ decimal n ++ codes ",\"event\":\"Pass\","

abbrev pub count_line : ℕ → List ℕ
count_line n = clock_part n ++ seen_part n

abbrev pub last_line : ℕ → List ℕ
last_line n = pass_part n ++ seen_part n

-- the lines of the first passes, so many
abbrev pub count_lines : ℕ → List ℕ
count_lines zero = []
count_lines (suc n) = count_lines n ++ count_line (suc n)

-- the log of so many passes
abbrev pub ring_log : ℕ → List ℕ
ring_log lines = count_lines (lines - 1) ++ last_line lines

abbrev pub ring_files : ℕ → List File
ring_files lines = (codes "Ring.tla", ring_module) ∷ (codes "Ring.log", ring_log lines) ∷ []

-- `validate Ring.tla Ring.log`
abbrev pub ring_job : Job
ring_job = record {
  «module» = codes "Ring.tla";
  logs = codes "Ring.log" ∷ [];
  config = None;
  silent = None;
  options = record { within = 1; stutter = false; limit = 10000 };
  why = None;
  near = None;
  wide = false;
  ties = false;
}
