use Rattle.std.proofs.Common.{length, ap, ◌∙◌, arith}
use Rattle.states_tests.proofs.operations_tests.product_of_two.Goals as goal

pub product-requires : goal.product-requires
product-requires c = omega (arith, ap (λ vs. length vs) (c.as_slice.ensures.value ∙ c.in_ok-parts.ensures))
