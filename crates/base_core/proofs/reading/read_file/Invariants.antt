use Rattle.std.proofs.Common.{◌≡◌, ◌≤◌, ◌-◌, Some, vec_len}
use Rattle.base_core.specs.Reading.{IsRead}
use Rattle.base_core.proofs.reading.read_file.Given as goal

abbrev pub invariant-loop-count : goal.invariant-loop-count
invariant-loop-count g l = record {
  read : IsRead l.name (g.F.Files.holds l.fn.files) l.bytes.items (g.F.Files.at l.files);
  same : g.F.Files.holds l.files ≡ g.F.Files.holds l.fn.files;
  within : vec_len l.bytes ≤ l.limit;
  later : g.F.Files.faults l.fn.files ≤ g.F.Files.faults l.files;
  asked : g.F.Files.asked l.files ≡ Some l.name;
  quiet : g.F.Files.failures l.files ≡ g.F.Files.failures l.fn.files;
}

abbrev pub decreases-loop-count : goal.decreases-loop-count
decreases-loop-count g l = l.limit - vec_len l.bytes
