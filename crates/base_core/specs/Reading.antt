-- What is left of a file that is being read.
use Rattle.std.specs.Prelude.{◌≡◌, ℕ, List, ◌++◌, Option, Some, None}
use Rattle.base_core.specs.Device.{File, found}

-- where the files tell: the file is these bytes and then what is left
abbrev pub IsRead : List ℕ → Option (List File) → List ℕ → Option (List ℕ) → Type 0
IsRead name None bytes left = Unit {0}
IsRead name (Some files) bytes left = (after : List ℕ) × (left ≡ Some after) × (found name files ≡ Some (bytes ++ after))
