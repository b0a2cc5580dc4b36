use Rattle.std.proofs.Common.{◌≡◌, ◌≤◌, length, true, false, arith}
use Rattle.base_cuts.specs.Heads.{HasBelow}
use Rattle.base_cuts.specs.Views.{logs_of}
use Rattle.base_cuts.proofs.Heading.{all_below, found_below, no_both, none_further, one_more}
use Rattle.base_cuts.proofs.least.none_below.Goals as goal

pub returns-then-is_below : goal.returns-then-is_below
returns-then-is_below g c =
    let yes : c.is_below.result ≡ true = grind arith in
    found_below (λ i. HasBelow g.K.Clock.above (logs_of c.args.clocks.now.items) c.args.cut.now i c.args.clock.now) c.loop-other.other (c.is_below.ensures.0 yes)

pub loop-other-preserved : goal.loop-other-preserved
loop-other-preserved g c =
    let off : c.is_below.result ≡ false = grind arith in
    one_more (λ i. HasBelow g.K.Clock.above (logs_of c.args.clocks.now.items) c.args.cut.now i c.args.clock.now) c.loop-other.other c.loop-other.invariant (λ p. no_both c.is_below.result (c.is_below.ensures.1 p) off)

pub returns : goal.returns
returns g c =
    let end : length c.args.clocks.now.items ≤ c.loop-other.other = grind arith in
    all_below (λ i. HasBelow g.K.Clock.above (logs_of c.args.clocks.now.items) c.args.cut.now i c.args.clock.now)
    (none_further g.K.Clock.above c.args.clocks.now.items c.args.cut.now c.args.clock.now (λ i l. c.loop-other.invariant i (omega (arith, l, end))))
