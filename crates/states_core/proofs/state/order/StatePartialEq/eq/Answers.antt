use Rattle.std.proofs.Common.{ap, sym, ◌∙◌}
use Rattle.states_core.specs.StateHash.{state_hash}
use Rattle.states_core.proofs.StateHashes.{unlike}
use Rattle.states_core.proofs.state.order.StatePartialEq.eq.Goals as goal

pub returns-then-self-other : goal.returns-then-self-other
returns-then-self-other c =
    sym (unlike c.args.self.now c.args.other.now c.self.inside.hash c.other.inside.hash (c.self.invariant ∙ ap state_hash c.self.view_is) (c.other.invariant ∙ ap state_hash c.other.view_is) c.if-self-other.true)
