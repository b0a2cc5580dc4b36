-- proofs/path/files_of/Invariants.antt
use Rattle.std.proofs.Common.{◌≡◌, ◌++◌, drop}
use Rattle.reading_modules.specs.Loads.{files_of}
use Rattle.reading_modules.proofs.path.files_of.Given as goal

abbrev pub invariant-loop-name : goal.invariant-loop-name
invariant-loop-name l = l.files ++ files_of l.folder (drop l.name-index l.name-items) ≡ files_of l.folder l.modules
