use Rattle.std.proofs.Common.{◌≡◌, ◌++◌, drop}
use Rattle.logs_files.specs.Logs.{first_sees}
use Rattle.logs_files.proofs.placing.all_first_sees.Given as goal

abbrev pub invariant-loop-file : goal.invariant-loop-file
invariant-loop-file l = l.sees ++ first_sees (drop l.file-index l.files) ≡ first_sees l.files
