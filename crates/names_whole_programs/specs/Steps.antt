-- For the prover: how many of the instances of a program a unit is.
use Rattle.std.specs.Prelude.{ℕ}
use Rattle.reading_trees.specs.declared.module.Unit.{Unit as ModuleUnit}
use Rattle.reading_trees.specs.declared.module.Unit.TheVariants.{Variables, Constants, Recursive, Define, Instance, Assume, Passed}

abbrev pub steps_of : ModuleUnit → ℕ
steps_of (Instance m) = 1
steps_of (Variables ds) = 0
steps_of (Constants ds) = 0
steps_of (Define d) = 0
steps_of (Recursive rs) = 0
steps_of (Assume e) = 0
steps_of Passed = 0
