-- For the prover: each part of a described set has a smaller number than the set.
use Rattle.std.specs.Prelude.{◌≤◌, ◌+◌, max, List, [], ◌∷◌}
use Rattle.std.proofs.Common.{arith}
use denote.Param.Weighed.{most}
use Rattle.values_sets.specs.DescribedSets.{Described}
use Rattle.values_sets.specs.DescribedSizes.{described_size, fields_size, parts_size}
use Rattle.values_sets.specs.DescribedViews.{node_view, fields_of, parts_of}
use Rattle.values_sets.specs.declared.described.DescribedNode.{DescribedNode}
use Rattle.values_sets.specs.declared.described.DescribedNode.TheVariants as node
use Rattle.values_sets.specs.declared.described.Field.{Field}
use Rattle.values_sets.specs.declared.described.Described.TheDeep.{deep-DescribedNode, deep-Field}

most_fields : (xs : List Field) → most deep-Field xs ≤ fields_size (fields_of xs)
most_fields [] = omega arith
most_fields (x ∷ xs) = omega (arith, most_fields xs)

pub fields_falls : (xs : List Field) → max (most deep-Field xs) 0 ≤ fields_size (fields_of xs)
fields_falls xs = omega (arith, most_fields xs)

most_parts : (xs : List Described) → most (λ d. described_size d + 1) xs ≤ parts_size (parts_of xs)
most_parts [] = omega arith
most_parts (x ∷ xs) = omega (arith, most_parts xs)

pub parts_falls : (xs : List Described) → max (most (λ d. described_size d + 1) xs) 0 ≤ parts_size (parts_of xs)
parts_falls xs = omega (arith, most_parts xs)

pub described_falls : (n : DescribedNode) → max (deep-DescribedNode n) 0 ≤ described_size (node_view n)
described_falls node.Nat = omega arith
described_falls node.Int = omega arith
described_falls node.Strings = omega arith
described_falls node.Booleans = omega arith
described_falls (node.SeqOf d) = omega arith
described_falls (node.PowerOf d) = omega arith
described_falls (node.Interval y z) = omega arith
described_falls (node.Functions a d) = omega arith
described_falls (node.Records fs) = omega arith
described_falls (node.Product ps) = omega arith
described_falls (node.Union c d) = omega arith
described_falls (node.Inter c d) = omega arith
described_falls (node.Minus c d) = omega arith
described_falls (node.Listed s) = omega arith
