use Rattle.std.proofs.Common.{map}
use Rattle.std.specs.Borrow.{Bor}
use Rattle.reading_trees.specs.declared.expr.Definition.{Definition}
use Rattle.names_program.specs.Names.{names_defined}
use Rattle.names_program.proofs.NameLemmas.{from_zero}
use Rattle.names_program.proofs.replacing.definition_index.Goals as goal

pub loop-index-init : goal.loop-index-init
loop-index-init c = from_zero (names_defined (map (λ (d : Bor Definition). d.now) c.args.definitions.now)) c.args.name.now
