use Rattle.std.proofs.Common.{◌≡◌, ap, ◌∙◌, arith, Ok, pos, negsuc, refl}
use Rattle.std.proofs.lemmas.Int.{ints}
use Rattle.values_operations.proofs.Powers.{at_zero, at_one, at_minus_one, too_large}
use Rattle.values_operations.proofs.integers.large_power.Goals as goal

pub returns-then-x-eq0 : goal.returns-then-x-eq0
returns-then-x-eq0 c = let e : c.args.x ≡ pos 0 = omega (arith, ints) in ap Ok c.int.ensures ∙ at_zero c.args.x c.args.y e c.requires

pub returns-then-x-eq1 : goal.returns-then-x-eq1
returns-then-x-eq1 c = let e : c.args.x ≡ pos 1 = omega (arith, ints) in ap Ok c.int-then-x-eq1.ensures ∙ at_one c.args.x c.args.y e c.requires

pub returns-then-x-eqminus1 : goal.returns-then-x-eqminus1
returns-then-x-eqminus1 c = let e : c.args.x ≡ negsuc 0 = omega (arith, ints) in at_minus_one c.args.x c.args.y c.unit.result e c.requires (λ n f. let u : c.unsigned_abs.result ≡ n = omega (arith, ints) in c.unit.ensures ∙ rw u refl)

pub returns : goal.returns
returns c = too_large c.args.x c.args.y (λ e. omega (arith, ints)) (λ e. omega (arith, ints)) (λ e. omega (arith, ints)) c.requires
