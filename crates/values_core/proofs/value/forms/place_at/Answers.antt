use Rattle.std.proofs.Common.{rules, ◌+◌, sym, ap, ◌∙◌, Some, arith}
use Rattle.std.proofs.lemmas.Int.{to_z-of_z}
use Rattle.std.specs.Int.{w64}
use Rattle.std.specs.Prelude.{FitsSigned}
use Rattle.values_core.specs.Data.{Val, integer}
use Rattle.values_core.proofs.Forms.{place_read, place_past}
use Rattle.values_core.proofs.value.forms.place_at.Goals as goal

pub returns-then-i-len : goal.returns-then-i-len
returns-then-i-len c =
    let fits : FitsSigned w64 c.place.result = search rules in
    ap (λ (v : Val). Some v) (c.int.ensures ∙ ap integer (to_z-of_z w64 c.place.result fits ∙ c.place.ensures)) ∙ sym (place_read 1 c.args.items.now.items c.args.i (c.args.i + 1) (omega arith) (omega arith))

pub returns-else-i-len : goal.returns-else-i-len
returns-else-i-len c = sym (place_past 1 c.args.items.now.items c.args.i (omega arith))
