use Rattle.std.proofs.Common.{◌≡◌, drop, map}
use Rattle.std.specs.Borrow.{Bor}
use Rattle.reading_trees.specs.declared.module.Declared.{Declared}
use Rattle.names_instances.specs.Instances.{declares}
use Rattle.names_whole_programs.proofs.faults.declares.Given as goal

abbrev pub invariant-loop-other : goal.invariant-loop-other
invariant-loop-other l =
    declares (map (λ (d : Bor Declared). d.now) (drop l.other-index l.declared)) l.name ≡ declares (map (λ (d : Bor Declared). d.now) l.declared) l.name
