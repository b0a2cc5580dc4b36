use Rattle.std.proofs.Common.{◌≡◌, ◌≤◌, ◌-◌, drop, length}
use Rattle.reading_tokens.specs.Spellings.{kind_in}
use Rattle.reading_tokens.specs.Tables.{table_of}
use Rattle.reading_tokens.proofs.spellings.kind_of.Given as goal

abbrev pub invariant-loop-spelling : goal.invariant-loop-spelling
invariant-loop-spelling l = (l.i ≤ length (table_of l.table)) × (kind_in (drop l.i (table_of l.table)) l.bytes ≡ kind_in (table_of l.table) l.bytes)

abbrev pub decreases-loop-spelling : goal.decreases-loop-spelling
decreases-loop-spelling l = length (table_of l.table) - l.i
