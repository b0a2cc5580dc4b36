use Rattle.base_cuts.specs.Views.{logs_of}
use Rattle.base_cuts.proofs.Heading.{least_clock}
use Rattle.base_cuts.proofs.least.is_least.Goals as goal

pub returns-in-Some : goal.returns-in-Some
returns-in-Some g c =
    let law = least_clock g.K.Clock.above (logs_of c.args.clocks.now.items) c.args.cut.now c.args.file c.in-Some.clock.now c.in-Some.ensures in
    (λ r. law.0 (c.none_below.ensures.0 r), λ l. c.none_below.ensures.1 (law.1 l))
