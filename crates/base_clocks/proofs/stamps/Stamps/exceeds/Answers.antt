use Rattle.std.proofs.Common.{◌≡◌, refl, true, arith}
use Rattle.base_clocks.proofs.Numbers.{is_above}
use Rattle.base_clocks.proofs.stamps.Stamps.exceeds.Goals as goal

pub returns-in-Some : goal.returns-in-Some
returns-in-Some c =
    let yes : c.is_at_most.result ≡ true = grind arith in
    (λ _. is_above c.args.self.now c.args.other.now c.in-Some.field-0.now (c.is_at_most.ensures.0 yes) c.in-Some.ensures, λ _. refl)
