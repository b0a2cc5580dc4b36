use Rattle.std.proofs.Common.{◌≡◌, drop}
use Rattle.base_core.specs.Device.{found}
use Rattle.base_core.specs.Memory.{files_of}
use Rattle.base_core.proofs.held.position.Given as goal

abbrev pub invariant-loop-i : goal.invariant-loop-i
invariant-loop-i l = found l.name (files_of l.files) ≡ found l.name (files_of (drop l.i l.files))
