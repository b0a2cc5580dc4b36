use Rattle.std.proofs.Common.{◌≡◌, ◌≤◌, drop}
use Rattle.run_stages.specs.Logs.{IsOnTheWay}
use Rattle.run_stages.proofs.logs.read_logs.Given as goal

abbrev pub invariant-loop-name : goal.invariant-loop-name
invariant-loop-name g l =
    (g.F.Files.holds l.files ≡ g.F.Files.holds l.fn.files) × (g.F.Files.faults l.fn.files ≤ g.F.Files.faults l.files) × (g.F.Files.failures l.files ≡ g.F.Files.failures l.fn.files) × (l.names.spec.now ≡ l.course.spec.now)
    × IsOnTheWay (g.F.Files.holds l.fn.files) l.course l.so (drop l.name-index l.name-items)
