use Rattle.values_sets.proofs.Rests.{Keeps}
use Rattle.values_sets.proofs.lists.choose.Given as goal

abbrev pub invariant-loop-item : goal.invariant-loop-item
invariant-loop-item l = Keeps l.items l.right l.inside l.item-index l.kept.items
