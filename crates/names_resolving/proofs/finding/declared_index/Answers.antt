use Rattle.std.proofs.Common.{map}
use Rattle.std.specs.Borrow.{Bor}
use Rattle.reading_trees.specs.declared.module.Declared.{Declared}
use Rattle.names_program.specs.Names.{names_declared}
use Rattle.names_program.proofs.NameLemmas.{from_zero}
use Rattle.names_resolving.proofs.finding.declared_index.Goals as goal

pub loop-index-init : goal.loop-index-init
loop-index-init c = from_zero (names_declared (map (λ (d : Bor Declared). d.now) c.args.declared.now)) c.args.name.now
