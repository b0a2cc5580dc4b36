-- proofs/so_far/list_names/Invariants.antt
use Rattle.std.proofs.Common.{◌≡◌, drop}
use Rattle.reading_modules.specs.Flattened.{joined}
use Rattle.reading_modules.proofs.so_far.list_names.Given as goal

abbrev pub invariant-loop-name : goal.invariant-loop-name
invariant-loop-name l = joined l.names (drop l.name-index l.more) ≡ joined l.fn.names l.more
