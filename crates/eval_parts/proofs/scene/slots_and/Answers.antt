use Rattle.std.proofs.Common.{◌≤◌, ◌++◌, map, length, ap, sym, ◌∙◌, arith}
use Rattle.std.specs.List.{take-map}
use Rattle.eval_parts.proofs.Loops.{slots_end}
use Rattle.eval_parts.proofs.scene.slots_and.Goals as goal

pub returns : goal.returns
returns c =
    let passed : length c.args.values.now ≤ c.loop-value.value-index = omega arith in
    slots_end _ _ _ c.loop-value.value-index passed c.loop-value.invariant ∙ ap (λ ys. ys ++ c.args.values.now) (ap (map (λ v. v.now)) c.in_ok-all.ensures ∙ sym (take-map (λ v. v.now) c.args.kept c.args.slots.now))
