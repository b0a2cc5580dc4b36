use Rattle.std.proofs.Common.{◌≡◌, ◌++◌, map, drop}
use Rattle.eval_meanings.specs.Unchanged.{unchanged_of}
use Rattle.actions_rows.specs.Rows.{part_term}
use Rattle.actions_rows.proofs.part.unchanged_parts.Given as goal

abbrev pub invariant-loop-term : goal.invariant-loop-term
invariant-loop-term l = map part_term l.parts.items ++ map (unchanged_of l.at) (drop l.term-index l.term-items) ≡ map (unchanged_of l.at) l.term-items
