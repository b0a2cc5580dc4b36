use Rattle.std.proofs.Common.{◌-◌, length, drop}
use Rattle.reading_trees.specs.Grammar.{NamesText}
use Rattle.reading_units.specs.Parts.{Part}
use Rattle.reading_units.specs.Reads.{Leads}
use Rattle.reading_units.specs.Rests.{◌▹◌, Listed, SomeOthers, Tail}
use Rattle.reading_units.proofs.names.names.Given as goal

abbrev pub invariant-loop-names : goal.invariant-loop-names
invariant-loop-names l = record { part : Part (NamesText l.names) l.laid l.from l.next; far : Leads (Listed ▹ Tail) (SomeOthers ▹ Tail) (drop l.from l.laid) (drop l.next l.laid) }

abbrev pub decreases-loop-names : goal.decreases-loop-names
decreases-loop-names l = length l.laid - l.next
