use Rattle.states_layers.proofs.Shared.{found_same}
use Rattle.states_layers.proofs.sharing.SharedValues.find.Goals as goal

pub returns : goal.returns
returns c = found_same _ _ _ c.get.ensures.key
