use Rattle.values_sets.proofs.Collecting.{lists_its_members, lists_as_one}
use Rattle.values_sets.proofs.lists.list_laws.Goals as goal

pub returns : goal.returns
returns c = record { members = lists_its_members; one = lists_as_one }
