use Rattle.std.proofs.Common.{rules, ◌≡◌, ◌+◌, pos, sym, ap, ◌∙◌, arith}
use Rattle.std.proofs.lemmas.Int.{to_z-of_z}
use Rattle.std.specs.Int.{w64}
use Rattle.std.specs.Prelude.{FitsSigned}
use Rattle.values_core.specs.Data.{integer}
use Rattle.values_core.proofs.Forms.{numbered_more}
use Rattle.values_core.proofs.value.forms.number_items.Goals as goal

pub loop-i-preserved : goal.loop-i-preserved
loop-i-preserved c =
    let fits : FitsSigned w64 c.place.result = search rules in
    let key : c.int.result ≡ integer (pos (c.loop-i.i + 1)) = c.int.ensures ∙ ap integer (to_z-of_z w64 c.place.result fits ∙ c.place.ensures) in
    c.in_ok-push.ensures.items
    ∙ rw (key, c.in_ok-value.ensures, c.loop-i.invariant) (sym (numbered_more c.args.items.now.items c.loop-i.i (c.loop-i.i + 1) c.index.result.now (omega arith) (omega arith) c.index.ensures))
