use Rattle.std.proofs.Common.{◌-◌, length, drop}
use Rattle.reading_trees.specs.Modules.{DeclaredOperatorsText}
use Rattle.reading_units.specs.Parts.{Part}
use Rattle.reading_units.specs.Reads.{Leads}
use Rattle.reading_units.specs.Rests.{◌▹◌, Operators, OperatorsLeft, Tail}
use Rattle.reading_units.proofs.operators.declared_operators.Given as goal

abbrev pub invariant-loop-operators : goal.invariant-loop-operators
invariant-loop-operators l = record { part : Part (DeclaredOperatorsText l.operators) l.laid l.from l.next; far : Leads (Operators ▹ Tail) OperatorsLeft (drop l.from l.laid) (drop l.next l.laid) }

abbrev pub decreases-loop-operators : goal.decreases-loop-operators
decreases-loop-operators l = length l.laid - l.next
