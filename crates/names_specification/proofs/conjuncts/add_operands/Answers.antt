use Rattle.std.proofs.Common.{map}
use Rattle.std.specs.Borrow.{Bor}
use Rattle.std.proofs.lemmas.List.{map-append}
use Rattle.std.proofs.Common.{◌∙◌, ap}
use Rattle.reading_trees.specs.Trees.{Tree}
use Rattle.names_specification.proofs.Listed.{all_operands_added}
use Rattle.names_specification.proofs.conjuncts.add_operands.Goals as goal

pub returns : goal.returns
returns c =
    all_operands_added (map (λ (e : Bor Tree). e.now) c.loop-operand.found.items) (map (λ (e : Bor Tree). e.now) c.args.found.now.items) (map (λ (e : Bor Tree). e.now) c.push.new.self.items)
    c.parts.result.0.now c.parts.result.1.now c.loop-operand.operand-index c.args.operands.now c.loop-operand-test.false c.parts.ensures
    (ap (map (λ (e : Bor Tree). e.now)) c.in_ok-push.ensures.items ∙ map-append (λ (e : Bor Tree). e.now) c.args.found.now.items _) c.loop-operand.invariant
