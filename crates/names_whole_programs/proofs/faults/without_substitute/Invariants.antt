use Rattle.std.proofs.Common.{◌≡◌, drop, map}
use Rattle.std.specs.Borrow.{Bor}
use Rattle.reading_trees.specs.declared.module.Declared.{Declared}
use Rattle.names_whole_programs.specs.InstanceFaults.{without_substitute}
use Rattle.names_whole_programs.proofs.faults.without_substitute.Given as goal

abbrev pub invariant-loop-one : goal.invariant-loop-one
invariant-loop-one l =
    without_substitute l.with l.at (map (λ (d : Bor Declared). d.now) (drop l.one-index l.declared)) ≡ without_substitute l.with l.at (map (λ (d : Bor Declared). d.now) l.declared)
