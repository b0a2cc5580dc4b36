use Rattle.names_literals.proofs.Members.{one_value}
use Rattle.names_literals.proofs.laws.literal_laws.Goals as goal

pub returns : goal.returns
returns c = one_value
