use Rattle.std.proofs.Common.{◌≡◌, false, true, ◌<◌, ◌≤◌, arith}
use Rattle.names_term_parts.proofs.Lists.{item_in}
use Rattle.names_term_parts.proofs.ordered.are_below.Goals as goal

pub returns-then-number-count : goal.returns-then-number-count
returns-then-number-count c = (
  (λ h. absurd (let q : false ≡ true = h in cc)),
  (λ all. absurd (let lt : c.in-Some.number.0 < c.args.count = all c.in-Some.number.0 (item_in c.args.numbers.now c.loop-index.index c.in-Some.number.0 c.in-Some.ensures) in let ge : c.args.count ≤ c.in-Some.number.0 = c.if-number-count.true in omega arith)),
)
