-- For the prover: what stands behind private calls of files with the library behind them.
use Rattle.std.specs.Prelude.{◌≡◌, ℕ, List, Option, Some, None}
use Rattle.base_core.specs.Device.{File, found}
use Rattle.reading_library.specs.Texts.{library}
use Rattle.run_library.specs.Behind.{files_in}

-- what is left of the open file: of a text of the library, or else of the files
abbrev pub left_of : Option (List ℕ) → Option (List ℕ) → Option (List ℕ)
left_of (Some rest) left = Some rest
left_of None left = left

-- the file of that name that the library has in its folder, if it stands in one
abbrev pub served : Option (List ℕ) → List ℕ → Option (List ℕ)
served None name = None
served (Some folder) name = found name (files_in folder library)
