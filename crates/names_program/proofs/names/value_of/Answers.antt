use Rattle.std.proofs.Common.{sym}
use Rattle.names_program.proofs.EntryLemmas.{value_here}
use Rattle.names_program.proofs.names.value_of.Goals as goal

pub returns : goal.returns
returns c = sym (value_here c.args.values.now c.args.index c.index-values-index.result c.requires c.index-values-index.is)
