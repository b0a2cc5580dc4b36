use Rattle.std.proofs.Common.{◌≡◌, ℕ, min, List, length, map, take, ap, sym, ◌∙◌, arith}
use Rattle.std.proofs.lemmas.List.{take_min}
use Rattle.std.specs.List.{take-map}
use Rattle.values_core.specs.Data.{Val}
use Rattle.eval_parts.specs.Scenes.{with_slots}
use Rattle.judge_truth.specs.Pairs.{at}
use Rattle.judge_truth.proofs.pair.narrowed.Goals as goal
use denote.Ref.{Bor}

abbrev value : Bor Val → Val
value x = x.now

pub returns-clause-context : goal.returns-clause-context
returns-clause-context c =
    let slots = c.args.pair.scene.slots.now in
    let least : c.min.result ≡ min c.args.kept (length c.args.pair.scene.slots.now) = omega (arith, c.min.ensures) in
    let few = ap (λ (n : ℕ). map value (take n slots)) least ∙ ap (map value) (take_min c.args.kept slots) ∙ sym (take-map value c.args.kept slots) in
    c.pair_with.ensures.context ∙ ap (λ (vs : List Val). with_slots (at c.args.pair) vs) few
