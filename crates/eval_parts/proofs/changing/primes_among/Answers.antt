use Rattle.std.proofs.Common.{◌≡◌, ◌<◌, ◌≤◌, length, map, ap, ◌∙◌, arith}
use Rattle.std.proofs.lemmas.List.{length-map}
use Rattle.names_terms.specs.TermViews.{step_item}
use Rattle.eval_parts.specs.ChangePaths.{primes_in}
use Rattle.eval_parts.proofs.Loops.{cut_at, cut_mapped}
use Rattle.eval_parts.proofs.StepWalk.{no_primes, one_prime, primes_from, steps_are}
use Rattle.eval_parts.proofs.changing.primes_among.Goals as goal

pub loop-item-preserved : goal.loop-item-preserved
loop-item-preserved c =
    let items = c.items-item-items.result.now in
    let i = c.loop-item.item-index in
    let below : c.loop-item.item-index < length c.items-item-items.result.now = omega arith in
    let x = step_item c.item-item.result in
    let cut = cut_mapped step_item items i c.item-item.result (cut_at items i c.item-item.result below c.item-item.is) in
    let primes = primes_from (map step_item items) i x cut in
    let few = one_prime x.1 in (
      omega (arith, primes, c.prime_count-primes.ensures, c.loop-item.invariant.0),
      omega (arith, few, c.prime_count-primes.ensures, c.loop-item.invariant.1),
    )

pub returns : goal.returns
returns c =
    let items = c.items-item-items.result.now in
    let are = steps_are items c.args.steps.now c.items-item-items.ensures in
    let passed : length c.items-item-items.result.now ≤ c.loop-item.item-index = omega arith in
    let over : length (map step_item c.items-item-items.result.now) ≤ c.loop-item.item-index = omega (arith, passed, length-map c.items-item-items.result.now step_item) in
    let none = no_primes (map step_item items) c.loop-item.item-index over in
    let all : c.loop-item.primes ≡ primes_in (map step_item c.items-item-items.result.now) = omega (arith, none, c.loop-item.invariant.0) in
    all ∙ ap primes_in are
