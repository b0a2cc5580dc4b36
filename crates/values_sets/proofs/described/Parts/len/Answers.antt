use Rattle.std.proofs.Common.{arith}
use Rattle.values_sets.proofs.Items.{parts_listed}
use Rattle.values_sets.proofs.described.Parts.len.Goals as goal

pub returns : goal.returns
returns c = rw (← c.self.view_is, parts_listed c.self.inside.items.items) (omega arith)
