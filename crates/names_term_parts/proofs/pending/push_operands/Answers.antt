use Rattle.std.proofs.Common.{[], ◌∷◌}
use Rattle.names_term_parts.specs.Parts.{part, parts_of}
use Rattle.names_term_parts.specs.Waiting.{waiting}
use Rattle.names_term_parts.proofs.Lists.{ok_mapped, operands_listed, stacked}
use Rattle.std.specs.Prelude.{map}
use Rattle.names_term_parts.proofs.pending.push_operands.Goals as goal

pub returns : goal.returns
returns c =
    ok_mapped c.push_others.result _ _ (λ h. stacked (waiting c.push.new.stack.items) (waiting c.push_others.new.stack.items) (waiting c.args.stack.now.items) (part c.args.primed c.parts.result.0.now ∷ []) (parts_of c.args.primed (map (λ x. x.value) c.parts.result.1.now)) _ h c.in_ok-push.ensures (operands_listed c.args.primed c.parts.result.0.now c.parts.result.1.now c.args.operands.now c.parts.ensures)) c.push_others.ensures
