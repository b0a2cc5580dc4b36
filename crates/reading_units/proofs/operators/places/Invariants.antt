use Rattle.std.proofs.Common.{◌-◌, ◌≤◌, length, drop}
use Rattle.reading_trees.specs.Modules.{PlacesText}
use Rattle.reading_units.specs.Parts.{Part}
use Rattle.reading_units.specs.Reads.{Leads}
use Rattle.reading_units.specs.Rests.{◌▹◌, Marked, SomeOthersOf, Places, Closing}
use Rattle.reading_units.specs.declared.marks.Mark.TheVariants as marks
use Rattle.reading_units.proofs.operators.places.Given as goal

-- there are no more places than tokens
abbrev pub invariant-loop-next : goal.invariant-loop-next
invariant-loop-next l = record {
  part : Part (PlacesText l.count) l.laid l.from l.next;
  far : Leads (Places ▹ Closing) (SomeOthersOf (Marked marks.Underscore) ▹ Closing) (drop l.from l.laid) (drop l.next l.laid);
  few : l.count ≤ l.next;
}

abbrev pub decreases-loop-next : goal.decreases-loop-next
decreases-loop-next l = length l.laid - l.next
