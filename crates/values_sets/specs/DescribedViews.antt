-- For the prover: the described set that the fields of a value of Rust stand for, and the parts of its items.
use Rattle.std.specs.Prelude.{List, [], ◌∷◌}
use Rattle.values_core.specs.Data.{Val}
use Rattle.values_sets.specs.DescribedSets as sets
use Rattle.values_sets.specs.DescribedSets.{Described, Fields, Parts}
use Rattle.values_sets.specs.declared.described.DescribedNode.{DescribedNode}
use Rattle.values_sets.specs.declared.described.DescribedNode.TheVariants as node
use Rattle.values_sets.specs.declared.described.Field.{Field}

abbrev pub fields_of : List Field → Fields
fields_of [] = sets.NoFields
fields_of (x ∷ xs) = sets.MoreFields x.name x.part (fields_of xs)

abbrev pub parts_of : List Described → Parts
parts_of [] = sets.NoParts
parts_of (x ∷ xs) = sets.MoreParts x (parts_of xs)

-- what stands in the list of fields for an item
abbrev pub field_item : Field → Val × Described
field_item x = (x.name, x.part)

abbrev pub node_view : DescribedNode → Described
node_view node.Nat = sets.Nat
node_view node.Int = sets.Int
node_view node.Strings = sets.Strings
node_view node.Booleans = sets.Booleans
node_view (node.SeqOf d) = sets.SeqOf d.value
node_view (node.PowerOf d) = sets.PowerOf d.value
node_view (node.Interval y z) = sets.Interval y z
node_view (node.Functions a d) = sets.Functions a d.value
node_view (node.Records fs) = sets.Records fs
node_view (node.Product ps) = sets.Product ps
node_view (node.Union c d) = sets.Union c.value d.value
node_view (node.Inter c d) = sets.Inter c.value d.value
node_view (node.Minus c d) = sets.Minus c.value d.value
node_view (node.Listed s) = sets.Listed s
