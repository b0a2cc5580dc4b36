use Rattle.std.proofs.Common.{length}
use Rattle.logs_lines.specs.Files.{first_line}
use Rattle.logs_lines.proofs.WalkLemmas.{IsWalked}
use Rattle.logs_lines.proofs.file.read_log.Given as goal

abbrev pub invariant-loop-scratch : goal.invariant-loop-scratch
invariant-loop-scratch g l = IsWalked (g.N.SpecNames.setting l.names) (first_line l.fn.file l.fn.many l.fn.room l.fn.form) l.fn.bytes l.walk l.rest

abbrev pub decreases-loop-scratch : goal.decreases-loop-scratch
decreases-loop-scratch g l = length l.rest
