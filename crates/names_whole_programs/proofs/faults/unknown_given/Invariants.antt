use Rattle.std.proofs.Common.{◌≡◌, drop, map}
use Rattle.std.specs.Borrow.{Bor}
use Rattle.reading_trees.specs.declared.module.Declared.{Declared}
use Rattle.names_whole_programs.specs.InstanceFaults.{unknown_given}
use Rattle.names_whole_programs.proofs.faults.unknown_given.Given as goal

abbrev pub invariant-loop-with : goal.invariant-loop-with
invariant-loop-with l =
    unknown_given (map (λ (d : Bor Declared). d.now) l.declared) (drop l.with-index l.with-items) ≡ unknown_given (map (λ (d : Bor Declared). d.now) l.declared) l.with-items
