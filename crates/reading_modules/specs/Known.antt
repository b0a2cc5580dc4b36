-- A map that knows where names were declared.
use Rattle.std.specs.Prelude.{◌≡◌, ℕ, List}
use Rattle.std.specs.Str.{bytes_eq}
use Rattle.std.specs.declared.hash.FoldHasher.{FoldHasher}
use Rattle.std.specs.declared.hash.BuildHasherDefault.{BuildHasherDefault}
use Rattle.std.specs.HashMap.{get, HashMap}
use Rattle.base_core.specs.declared.place.Place.{Place}
use Rattle.reading_trees.specs.declared.module.Declared.{Declared}
use Rattle.reading_modules.specs.Twice.{place_among}

abbrev pub Places : Type 0
Places = HashMap (List ℕ) Place (BuildHasherDefault FoldHasher)

-- the map has each name that was declared before, with its place, and no other
abbrev pub Knows : Places → List Declared → Type 0
Knows known before = (name : List ℕ) → get bytes_eq known name ≡ place_among name before
