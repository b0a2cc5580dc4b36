-- What is told of the units that are passed over: of a definition its name and the place of it, of what is assumed its place. Other units are not passed over.
use Rattle.std.specs.Prelude.{List, [], ◌∷◌}
use Rattle.reading_trees.specs.declared.module.Unit.{Unit as ModuleUnit}
use Rattle.reading_trees.specs.declared.module.Unit.TheVariants.{Variables, Constants, Recursive, Define, Instance, Assume, Passed}
use Rattle.reading_trees.specs.Trees.{place_of}
use Rattle.names_pruning.specs.declared.telling.PassedOver.{PassedOver}
use Rattle.names_pruning.specs.declared.telling.PassedOver.TheVariants.{Definition, Assumption}

abbrev pub told : List ModuleUnit → List PassedOver
told [] = []
told (Variables ds ∷ over) = told over
told (Constants ds ∷ over) = told over
told (Define d ∷ over) = Definition d.name d.at ∷ told over
told (Assume e ∷ over) = Assumption (place_of e) ∷ told over
told (Recursive rs ∷ over) = told over
told (Instance m ∷ over) = told over
told (Passed ∷ over) = told over
