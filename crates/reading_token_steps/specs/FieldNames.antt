-- Whether one of these fields has a name.
use Rattle.std.specs.Prelude.{ℕ, Bool, false, ◌||◌, List, [], ◌∷◌, nat_eq}
use Rattle.std.specs.Cmp.Lexicographic.{pointwise}
use Rattle.reading_trees.specs.declared.expr.Field.{Field}

abbrev pub names_one : List ℕ → List Field → Bool
names_one n [] = false
names_one n (x ∷ xs) = pointwise nat_eq n x.name || names_one n xs
