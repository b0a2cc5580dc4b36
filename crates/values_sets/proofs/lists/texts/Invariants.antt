use Rattle.std.proofs.Common.{◌≡◌, ◌++◌, drop}
use Rattle.values_sets.specs.DescribedViews.{fields_of}
use Rattle.values_sets.specs.ListedParts.{texts_of}
use Rattle.values_sets.proofs.lists.texts.Given as goal

abbrev pub invariant-loop-field : goal.invariant-loop-field
invariant-loop-field l = l.names.items ++ texts_of (fields_of (drop l.field-index l.items)) ≡ texts_of (fields_of l.items)
