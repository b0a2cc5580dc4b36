use Rattle.std.proofs.Common.{◌≡◌, ◌++◌, map, drop}
use Rattle.actions_rows.specs.Rows.{part_term}
use Rattle.actions_rows.proofs.part.plain_parts.Given as goal

abbrev pub invariant-loop-term : goal.invariant-loop-term
invariant-loop-term l = map part_term l.parts.items ++ drop l.term-index l.term-items ≡ l.term-items
