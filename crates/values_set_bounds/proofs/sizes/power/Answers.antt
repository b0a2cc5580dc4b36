use Rattle.std.proofs.Common.{◌≡◌, ℕ, ◌+◌, ◌*◌, ◌^◌, ap, sym, ◌∙◌, subst, add-one, arith}
use Rattle.std.proofs.Math.Nat.{pow-zero, pow-suc}
use Rattle.values_set_bounds.proofs.sizes.power.Goals as goal

one_more : (b i m n : ℕ) → m ≡ b ^ i → n ≡ m * b → n ≡ b ^ (i + 1)
one_more b i m n e f = f ∙ ap (λ k. k * b) e ∙ sym (pow-suc b i) ∙ ap (λ k. b ^ k) (sym (add-one i))

pub loop-i-init : goal.loop-i-init
loop-i-init c = (sym (pow-zero c.args.base), omega arith)

pub loop-i-preserved : goal.loop-i-preserved
loop-i-preserved c = (one_more c.args.base c.loop-i.i c.loop-i.members c.in-Some.more c.loop-i.invariant.0 c.in-Some.ensures.0, c.in-Some.ensures.1)

pub returns : goal.returns
returns c =
    let done : c.loop-i.i ≡ c.args.exponent = omega arith in
    (subst (λ k. c.loop-i.members ≡ c.args.base ^ k) done c.loop-i.invariant.0, c.loop-i.invariant.1)
