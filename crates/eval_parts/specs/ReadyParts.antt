-- The parts of a product in the midst of their description: each beside its place.
use Rattle.std.specs.Prelude.{List, [], ◌∷◌}
use Rattle.base_core.specs.declared.place.Place.{Place}
use Rattle.values_sets.specs.DescribedSets.{Described}
use Rattle.eval_meanings.specs.Answers.{IsReady}

-- each is a sound set, or a value that may be no set
abbrev pub AreReady : List (Place × Described) → Type 0
AreReady [] = Unit {0}
AreReady (d ∷ ds) = IsReady d.1 × AreReady ds
