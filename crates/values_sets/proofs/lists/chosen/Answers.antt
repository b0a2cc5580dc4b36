use Rattle.std.specs.List.{Contains}
use Rattle.values_sets.specs.ListedParts.{IsChosen}
use Rattle.values_operations.proofs.Listing.{gives_as}
use Rattle.values_sets.proofs.lists.chosen.Goals as goal

pub returns : goal.returns
returns c = gives_as (Contains c.in_ok-kept.kept.items) (IsChosen c.args.all.now c.args.right.now c.args.inside) c.set_from.result c.in_ok-kept.ensures c.set_from.ensures
