use Rattle.std.proofs.Common.{◌-◌, length, drop}
use Rattle.reading_trees.specs.Modules.{WithsText, WithsFit}
use Rattle.reading_units.specs.Parts.{Part}
use Rattle.reading_units.specs.Reads.{GivenSoFar, Leads}
use Rattle.reading_units.specs.Rests.{MoreLeft, NamedLeft, names_of}
use Rattle.reading_units.proofs.instances.withs.Given as goal

abbrev pub invariant-loop-alloc : goal.invariant-loop-alloc
invariant-loop-alloc l = record {
  part : Part (WithsText l.withs) l.laid l.from l.next;
  fits : WithsFit l.withs;
  far : Leads NamedLeft (MoreLeft (names_of l.withs)) (drop l.from l.laid) (drop l.next l.laid);
  shallow : GivenSoFar (names_of l.withs) (drop l.from l.laid) (drop l.next l.laid);
}

abbrev pub decreases-loop-alloc : goal.decreases-loop-alloc
decreases-loop-alloc l = length l.laid - l.next
