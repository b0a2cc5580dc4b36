use Rattle.std.proofs.Common.{◌++◌, ◌∷◌, [], take, drop, ap, sym, ◌∙◌, append_assoc, arith}
use Rattle.values_core.specs.Functions.{values_in}
use Rattle.values_operations.proofs.Parts.{part_more, part_none}
use Rattle.values_operations.proofs.sequences.push_values.Goals as goal
use Rattle.values_operations.proofs.sequences.push_values.Goals.{in-Some+in_ok-push_copy, in_default}

pub loop-i-preserved : goal.loop-i-preserved
loop-i-preserved c =
    let vs = values_in c.args.s.now in
    let old = c.args.values.now.items in
    elim c.match-value_at.branch [
      | in-Some+in_ok-push_copy w ↦
          ap (λ t. t.items) w.values-is ∙ w.in_ok-push_copy.ensures
          ∙ rw (c.loop-i.invariant) (append_assoc old (drop c.args.from (take c.loop-i.i vs)) (w.in-Some.value.now ∷ []))
          ∙ ap (λ zs. old ++ zs) (sym (part_more vs c.args.from c.loop-i.i w.in-Some.value.now (omega arith) (sym w.in-Some.ensures)))
      | in_default w ↦
          ap (λ t. t.items) w.values-is ∙ c.loop-i.invariant
          ∙ ap (λ zs. old ++ zs) (sym (part_none vs c.args.from c.loop-i.i (omega arith) (sym w.in_default.ensures)))
    ]
