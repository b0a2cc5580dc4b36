-- The names that a run needs: those behind INIT, NEXT and SPECIFICATION, that of the steps without a line, and those of what the configuration puts in
-- place of a name, on both sides. What is written for a constant is a value, and needs no definition.
use Rattle.std.specs.Prelude.{ℕ, List, [], ◌∷◌, ◌++◌, Option}
use Rattle.std.specs.Option.{option_to_list}
use Rattle.reading_trees.specs.declared.config.Config.{Config}
use Rattle.reading_trees.specs.declared.config.Given.{Given}
use Rattle.reading_trees.specs.declared.config.Given.TheVariants.{Constant, Replaced}
use Rattle.reading_trees.specs.declared.config.GivenAt.{GivenAt}

abbrev pub names_given : List ℕ → Given → List (List ℕ)
names_given n (Constant l) = []
names_given n (Replaced m at) = n ∷ m ∷ []

abbrev pub names_replaced : List GivenAt → List (List ℕ)
names_replaced [] = []
names_replaced (g ∷ gs) = names_given g.name g.given ++ names_replaced gs

abbrev pub needed_names : Config → Option (List ℕ) → List (List ℕ)
needed_names c silent =
    option_to_list c.init ++ option_to_list c.next ++ option_to_list c.specification ++ option_to_list silent ++ names_replaced c.givens
