use Rattle.std.proofs.Common.{◌≡◌, take}
use Rattle.base_cuts.specs.Views.{logs_of}
use Rattle.logs_files.specs.Logs.{vectors_in}
use Rattle.logs_files.proofs.vectors.all_vectors.Given as goal

abbrev pub invariant-loop-file : goal.invariant-loop-file
invariant-loop-file l = logs_of l.vectors.items ≡ vectors_in (take l.file-index l.files)
