use Rattle.std.proofs.Common.{sym, ap, ◌∙◌, Some, arith}
use Rattle.values_core.specs.Data.{Val}
use Rattle.values_core.proofs.Entries.{key_read, key_past}
use Rattle.values_core.proofs.value.forms.key_of_entry.Goals as goal

pub returns-in_ok-key : goal.returns-in_ok-key
returns-in_ok-key c =
    ap (λ (v : Val). Some v) c.in_ok-key.ensures ∙ sym (key_read c.args.entries.now.items c.args.i c.index-entry.result.now (omega arith) c.index-entry.ensures)

pub returns-else-i-len : goal.returns-else-i-len
returns-else-i-len c = sym (key_past c.args.entries.now.items c.args.i (omega arith))
