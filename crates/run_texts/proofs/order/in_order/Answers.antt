use Rattle.std.proofs.Common.{◌≡◌, ℕ, suc, ◌+◌, length, ap, ◌∙◌, subst, arith}
use Rattle.run_texts.specs.States.{in_order_below, with_number}
use Rattle.run_texts.proofs.order.in_order.Goals as goal

one_more : (n : ℕ) → suc n ≡ n + 1
one_more n = omega arith

pub loop-number-preserved : goal.loop-number-preserved
loop-number-preserved c =
    let names = c.args.names.now in
    let n = c.loop-number.number in
    subst (λ (m : ℕ). c.insert_number.new.sorted.items ≡ in_order_below names m) (one_more n) (c.in_ok-insert_number.ensures ∙ ap (with_number names n) c.loop-number.invariant)

pub returns : goal.returns
returns c =
    let names = c.args.names.now in
    let all : c.loop-number.number ≡ length names = omega arith in
    c.loop-number.invariant ∙ ap (in_order_below names) all
