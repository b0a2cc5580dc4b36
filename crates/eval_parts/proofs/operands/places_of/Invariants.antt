use Rattle.std.proofs.Common.{◌≡◌, ◌++◌, map, drop}
use Rattle.names_terms.specs.Terms.{place_of}
use Rattle.eval_parts.proofs.operands.places_of.Given as goal

abbrev pub invariant-loop-term : goal.invariant-loop-term
invariant-loop-term l = l.places.items ++ map place_of (drop l.term-index l.term-items) ≡ map place_of l.term-items
