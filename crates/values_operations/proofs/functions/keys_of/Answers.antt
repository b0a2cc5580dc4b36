use Rattle.std.proofs.Common.{◌≡◌, ◌++◌, ◌∷◌, [], ◌∙◌, ap, sym, arith}
use Rattle.values_core.specs.Functions.{keys_in}
use Rattle.std.proofs.lemmas.List.{take_all}
use Rattle.values_operations.proofs.Parts.{count_keys, part_more, take_none}
use Rattle.values_operations.proofs.functions.keys_of.Goals as goal
use Rattle.values_operations.proofs.functions.keys_of.Goals.{in-Some+in_ok-push, in_default}

pub loop-i-preserved : goal.loop-i-preserved
loop-i-preserved c =
    let ks = keys_in c.args.f.now in
    elim c.match-key.branch [
      | in-Some+in_ok-push w ↦
          ap (λ t. t.items) w.keys-is ∙ w.in_ok-push.ensures.items
          ∙ ap (λ zs. zs ++ w.in-Some.key ∷ []) c.loop-i.invariant
          ∙ sym (part_more ks 0 c.loop-i.i w.in-Some.key (omega arith) (sym c.in_ok-key.ensures ∙ w.in-Some.is))
      | in_default w ↦ ap (λ t. t.items) w.keys-is ∙ c.loop-i.invariant ∙ sym (take_none ks c.loop-i.i (sym c.in_ok-key.ensures ∙ w.in_default.is))
    ]

pub returns : goal.returns
returns c = c.loop-i.invariant ∙ take_all c.loop-i.i (keys_in c.args.f.now) (omega (arith, count_keys c.args.f.now, c.len-count.ensures))
