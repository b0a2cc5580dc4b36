use Rattle.std.proofs.Common.{◌≡◌, min, length, ap, sym, ◌∙◌, map, arith}
use Rattle.std.specs.List.{take-map}
use Rattle.values_core.specs.Data.{Val}
use Rattle.steps_walk.proofs.Answering.{take_least}
use Rattle.steps_walk.proofs.lists.outermost.Goals as goal
use denote.Ref.{Bor}

abbrev value : Bor Val → Val
value x = x.now

pub returns : goal.returns
returns c =
    let least : c.min-count.result ≡ min c.args.kept (length c.args.slots.now) = omega (arith, c.min-count.ensures) in
    ap (map value) (take_least c.args.slots.now c.args.kept c.min-count.result least) ∙ sym (take-map value c.args.kept c.args.slots.now)
