use Rattle.std.proofs.Common.{sym, arith}
use Rattle.values_core.proofs.Forms.{field_read, field_past}
use Rattle.values_core.proofs.value.forms.field_at.Goals as goal

pub returns-then-i-len : goal.returns-then-i-len
returns-then-i-len c = sym (field_read c.args.fields.now.items c.args.i c.index-field.result.now (omega arith) c.index-field.ensures)

pub returns-else-i-len : goal.returns-else-i-len
returns-else-i-len c = sym (field_past c.args.fields.now.items c.args.i (omega arith))
