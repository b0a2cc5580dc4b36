-- What the units of a program declare, define and assume, in the order of the text.
use Rattle.std.specs.Prelude.{List, [], ◌∷◌, ◌++◌}
use Rattle.reading_trees.specs.Trees.{Tree}
use Rattle.reading_trees.specs.declared.expr.Definition.{Definition}
use Rattle.reading_trees.specs.declared.module.Declared.{Declared}
use Rattle.reading_trees.specs.declared.module.DeclaredOperator.{DeclaredOperator}
use Rattle.reading_trees.specs.declared.module.Unit.{Unit as ModuleUnit}
use Rattle.reading_trees.specs.declared.module.Unit.TheVariants.{Variables, Constants, Recursive, Define, Instance, Assume, Passed}

abbrev pub variables_in : List ModuleUnit → List Declared
variables_in [] = []
variables_in (Variables ds ∷ us) = ds ++ variables_in us
variables_in (Constants ds ∷ us) = variables_in us
variables_in (Define d ∷ us) = variables_in us
variables_in (Assume e ∷ us) = variables_in us
variables_in (Recursive rs ∷ us) = variables_in us
variables_in (Instance m ∷ us) = variables_in us
variables_in (Passed ∷ us) = variables_in us

abbrev pub constants_in : List ModuleUnit → List Declared
constants_in [] = []
constants_in (Variables ds ∷ us) = constants_in us
constants_in (Constants ds ∷ us) = ds ++ constants_in us
constants_in (Define d ∷ us) = constants_in us
constants_in (Assume e ∷ us) = constants_in us
constants_in (Recursive rs ∷ us) = constants_in us
constants_in (Instance m ∷ us) = constants_in us
constants_in (Passed ∷ us) = constants_in us

abbrev pub definitions_in : List ModuleUnit → List Definition
definitions_in [] = []
definitions_in (Variables ds ∷ us) = definitions_in us
definitions_in (Constants ds ∷ us) = definitions_in us
definitions_in (Define d ∷ us) = d ∷ definitions_in us
definitions_in (Assume e ∷ us) = definitions_in us
definitions_in (Recursive rs ∷ us) = definitions_in us
definitions_in (Instance m ∷ us) = definitions_in us
definitions_in (Passed ∷ us) = definitions_in us

abbrev pub assumptions_in : List ModuleUnit → List Tree
assumptions_in [] = []
assumptions_in (Variables ds ∷ us) = assumptions_in us
assumptions_in (Constants ds ∷ us) = assumptions_in us
assumptions_in (Define d ∷ us) = assumptions_in us
assumptions_in (Assume e ∷ us) = e ∷ assumptions_in us
assumptions_in (Recursive rs ∷ us) = assumptions_in us
assumptions_in (Instance m ∷ us) = assumptions_in us
assumptions_in (Passed ∷ us) = assumptions_in us

-- the operators that RECURSIVE declares
abbrev pub recursive_in : List ModuleUnit → List DeclaredOperator
recursive_in [] = []
recursive_in (Variables ds ∷ us) = recursive_in us
recursive_in (Constants ds ∷ us) = recursive_in us
recursive_in (Define d ∷ us) = recursive_in us
recursive_in (Assume e ∷ us) = recursive_in us
recursive_in (Recursive rs ∷ us) = rs ++ recursive_in us
recursive_in (Instance m ∷ us) = recursive_in us
recursive_in (Passed ∷ us) = recursive_in us
