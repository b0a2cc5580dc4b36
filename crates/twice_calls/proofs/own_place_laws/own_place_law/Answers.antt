use Rattle.twice_calls.proofs.Numbered.{read_are_tellable}
use Rattle.twice_calls.proofs.own_place_laws.own_place_law.Goals as goal

pub returns : goal.returns
returns c = read_are_tellable
