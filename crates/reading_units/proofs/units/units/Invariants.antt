use Rattle.std.proofs.Common.{◌-◌, ◌<◌, length, drop}
use Rattle.reading_trees.specs.Modules.{UnitsText, UnitsFit}
use Rattle.reading_units.specs.Reads.{Leads}
use Rattle.reading_units.specs.Refusals.{ShallowWholeUnits}
use Rattle.reading_units.specs.Rests.{Tail}
use Rattle.reading_units.proofs.units.units.Given as goal

abbrev pub invariant-loop-alloc : goal.invariant-loop-alloc
invariant-loop-alloc l = record {
  spelled : UnitsText l.units (drop l.from l.laid) (drop l.next l.laid);
  fits : UnitsFit l.units;
  within : l.next < length l.laid;
  far : Leads Tail Tail (drop l.from l.laid) (drop l.next l.laid);
  shallow : ShallowWholeUnits (drop l.from l.laid) (drop l.next l.laid);
}

abbrev pub decreases-loop-alloc : goal.decreases-loop-alloc
decreases-loop-alloc l = length l.laid - l.next
