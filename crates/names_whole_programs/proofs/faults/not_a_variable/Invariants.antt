use Rattle.std.proofs.Common.{◌≡◌, drop, map}
use Rattle.std.specs.Borrow.{Bor}
use Rattle.reading_trees.specs.declared.module.Declared.{Declared}
use Rattle.names_whole_programs.specs.InstanceFaults.{not_a_variable}
use Rattle.names_whole_programs.proofs.faults.not_a_variable.Given as goal

abbrev pub invariant-loop-one : goal.invariant-loop-one
invariant-loop-one l =
    not_a_variable (map (λ (d : Bor Declared). d.now) l.variables) l.with (map (λ (d : Bor Declared). d.now) (drop l.one-index l.own)) ≡ not_a_variable (map (λ (d : Bor Declared). d.now) l.variables) l.with (map (λ (d : Bor Declared). d.now) l.own)
