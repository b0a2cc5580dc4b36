use Rattle.std.proofs.Common.{sym, ap, ◌∙◌, Some, arith}
use Rattle.values_core.specs.Data.{Val, string}
use Rattle.values_core.proofs.Forms.{name_read, name_past}
use Rattle.values_core.proofs.value.forms.name_at.Goals as goal

pub returns-in_ok-name : goal.returns-in_ok-name
returns-in_ok-name c =
    ap (λ (v : Val). Some v) (c.string.ensures ∙ ap string c.in_ok-name.ensures) ∙ sym (name_read c.args.fields.now.items c.args.i c.index-field.result.now (omega arith) c.index-field.ensures)

pub returns-else-i-len : goal.returns-else-i-len
returns-else-i-len c = sym (name_past c.args.fields.now.items c.args.i (omega arith))
