use Rattle.std.proofs.Common.{◌≡◌, ◌≤◌, ◌+◌, drop, map}
use Rattle.names_terms.specs.TermViews.{step_item}
use Rattle.eval_parts.specs.ChangePaths.{primes_in}
use Rattle.eval_parts.proofs.changing.primes_among.Given as goal

abbrev pub invariant-loop-item : goal.invariant-loop-item
invariant-loop-item l =
    (l.primes + primes_in (drop l.item-index (map step_item l.item-items)) ≡ primes_in (map step_item l.item-items)) × (l.primes ≤ l.item-index)
