use Rattle.std.proofs.Common.{◌<◌, ◌++◌, ◌∷◌, [], List, length, map, ap, ◌∙◌, arith}
use Rattle.values_core.specs.Data.{Val}
use Rattle.eval_parts.proofs.Loops.{cut_at, cut_mapped}
use Rattle.eval_parts.proofs.Walking.{one_value_more}
use Rattle.eval_parts.proofs.bound_values.copies.Goals as goal
use denote.Ref.{Bor}

abbrev value : Bor Val → Val
value x = x.now

pub loop-value-preserved : goal.loop-value-preserved
loop-value-preserved c =
    let values = c.args.values.now in
    let i = c.loop-value.value-index in
    let below : c.loop-value.value-index < length c.args.values.now = omega arith in
    let cut = cut_mapped value values i c.value-item.result (cut_at values i c.value-item.result below c.value-item.is) in
    let pushed = c.in_ok-push.ensures.items ∙ ap (λ (v : Val). c.loop-value.all.items ++ v ∷ []) c.in_ok-copy.ensures in
    one_value_more (map value values) i c.value-item.result.now c.loop-value.all.items c.push.new.self.items (map value values) cut pushed c.loop-value.invariant
