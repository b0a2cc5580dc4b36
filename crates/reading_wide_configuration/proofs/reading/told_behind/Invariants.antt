use Rattle.std.proofs.Common.{◌≡◌, drop}
use Rattle.reading_wide_configuration.specs.Wide.{also_told}
use Rattle.reading_wide_configuration.proofs.reading.told_behind.Given as goal

abbrev pub invariant-loop-line : goal.invariant-loop-line
invariant-loop-line l = also_told (drop l.line-index l.line-items) l.config ≡ also_told l.line-items l.fn.config
