use Rattle.std.proofs.Common.{sym, arith}
use Rattle.values_core.proofs.Entries.{value_read, value_past}
use Rattle.values_core.proofs.value.forms.entry_at.Goals as goal

pub returns-then-i-len : goal.returns-then-i-len
returns-then-i-len c = sym (value_read c.args.entries.now.items c.args.i c.index-entry.result.now (omega arith) c.index-entry.ensures)

pub returns-else-i-len : goal.returns-else-i-len
returns-else-i-len c = sym (value_past c.args.entries.now.items c.args.i (omega arith))
