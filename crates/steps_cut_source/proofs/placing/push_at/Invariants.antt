use Rattle.std.proofs.Common.{◌≡◌, ◌++◌, map}
use Rattle.steps_cut_source.specs.Listing.{at_cut}
use Rattle.steps_cut_source.proofs.placing.push_at.Given as goal

abbrev pub invariant-loop-state : goal.invariant-loop-state
invariant-loop-state l = l.made.items ≡ l.fn.made.items ++ map (at_cut l.cut) l.yielded
