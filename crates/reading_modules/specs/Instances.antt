-- The instances among units.
use Rattle.std.specs.Prelude.{List, [], ◌∷◌, Option, Some, None}
use Rattle.reading_trees.specs.declared.module.Made.{Made}
use Rattle.reading_trees.specs.declared.module.Unit.{Unit as ModuleUnit}
use Rattle.reading_trees.specs.declared.module.Unit.TheVariants.{Variables, Constants, Recursive, Define, Instance, Assume, Passed}

abbrev pub made_by : ModuleUnit → Option Made
made_by (Variables ds) = None
made_by (Constants ds) = None
made_by (Recursive rs) = None
made_by (Define d) = None
made_by (Instance m) = Some m
made_by (Assume e) = None
made_by Passed = None

abbrev pub first_made : List ModuleUnit → Option Made
first_made [] = None
first_made (Variables ds ∷ us) = first_made us
first_made (Constants ds ∷ us) = first_made us
first_made (Recursive rs ∷ us) = first_made us
first_made (Define d ∷ us) = first_made us
first_made (Instance m ∷ us) = Some m
first_made (Assume e ∷ us) = first_made us
first_made (Passed ∷ us) = first_made us
