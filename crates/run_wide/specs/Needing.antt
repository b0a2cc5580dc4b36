-- Which of the pieces that were not read is needed, and by what.
use Rattle.std.specs.Prelude.{◌≡◌, ℕ, ◌<◌, List, [], ◌∷◌, ◌++◌, Option, Some, Contains, slice_get}
use Rattle.reading_trees.specs.declared.config.Config.{Config}
use Rattle.reading_trees.specs.declared.module.Program.{Program}
use Rattle.reading_modules.specs.declared.notes.Noted.{Noted}
use Rattle.reading_wide_modules.specs.declared.unread.Unread.{Unread}
use Rattle.names_pruning.specs.Needed.{needed_names}
use Rattle.names_pruning.specs.Pruning.{IsAskedFor}

-- the names that pieces declare which were not read
abbrev pub names_unread : List (Noted Unread) → List (List ℕ)
names_unread [] = []
names_unread (n ∷ unread) = n.note.names ++ names_unread unread

-- The first piece that declares a name which is asked for: of the names of pieces, one behind the other, none before it is.
pub record IsFirstNeeded (p : Program) (c : Config) (silent : Option (List ℕ)) (unread : List (Noted Unread)) (piece : Noted Unread) (name : List ℕ) : Type 0 where
  pub earlier : List (Noted Unread)
  pub later : List (Noted Unread)
  pub among : unread ≡ earlier ++ piece ∷ later
  pub before : List (List ℕ)
  pub behind : List (List ℕ)
  pub declares : piece.note.names ≡ before ++ name ∷ behind
  pub asked : IsAskedFor p c (needed_names c silent) name
  pub first : (n : List ℕ) → Contains (names_unread earlier ++ before) n → ¬ IsAskedFor p c (needed_names c silent) n

-- of the names that the run needs, the first that asks for it
pub record IsNeededBy (p : Program) (c : Config) (silent : Option (List ℕ)) (name root : List ℕ) : Type 0 where
  pub index : ℕ
  pub stands : slice_get (needed_names c silent) index ≡ Some root
  pub asks : IsAskedFor p c (root ∷ []) name
  pub first : (j : ℕ) (other : List ℕ) → j < index → slice_get (needed_names c silent) j ≡ Some other → ¬ IsAskedFor p c (other ∷ []) name
