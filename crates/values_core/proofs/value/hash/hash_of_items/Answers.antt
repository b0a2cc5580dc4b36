use Rattle.std.proofs.Common.{◌∙◌}
use Rattle.values_core.proofs.Hashing.{sequence_hash}
use Rattle.values_core.proofs.value.hash.hash_of_items.Goals as goal

pub returns : goal.returns
returns c = c.with_items.ensures ∙ sequence_hash _ 1 c.args.items.now.items
