use Rattle.std.proofs.Common.{rules, append_assoc}
use Rattle.reading_trees.proofs.qualified_names.qualified.Goals as goal

pub returns : goal.returns
returns c = search (rules, append_assoc)
