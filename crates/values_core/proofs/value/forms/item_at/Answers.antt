use Rattle.std.proofs.Common.{sym, arith}
use Rattle.values_core.proofs.Forms.{item_read, item_past}
use Rattle.values_core.proofs.value.forms.item_at.Goals as goal

pub returns-then-i-len : goal.returns-then-i-len
returns-then-i-len c = sym (item_read c.args.items.now.items c.args.i c.index.result.now (omega arith) c.index.ensures)

pub returns-else-i-len : goal.returns-else-i-len
returns-else-i-len c = sym (item_past c.args.items.now.items c.args.i (omega arith))
