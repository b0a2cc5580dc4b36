use Rattle.std.proofs.Common.{length}
use Rattle.reading_trees.specs.Laid.{NoEnd}
use Rattle.reading_wide_modules.specs.Parts.{GoesBefore}
use Rattle.reading_wide_modules.proofs.parted.read_pieces.Given as goal

abbrev pub invariant-loop-size : goal.invariant-loop-size
invariant-loop-size l = record {
  before : GoesBefore l.heading l.last l.tokens l.rest l.body.extends l.body.units l.body.unread.items;
  ends : NoEnd l.rest;
}

abbrev pub decreases-loop-size : goal.decreases-loop-size
decreases-loop-size l = length l.rest
