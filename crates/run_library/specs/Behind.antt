-- Files, and the modules of the library behind them: a file of one's own is found first.
use Rattle.std.specs.Prelude.{ℕ, List, ◌++◌, map, Option, Some, None}
use Rattle.base_core.specs.Device.{File}
use Rattle.reading_modules.specs.Paths.{file_of}
use Rattle.reading_library.specs.Texts.{library}

-- the files of modules, in a folder
abbrev pub files_in : List ℕ → List File → List File
files_in folder modules = map (λ m. (file_of folder m.0, m.1)) modules

-- files, and behind them the library's modules in that folder, where there is one
abbrev pub files_behind : Option (List ℕ) → List File → List File
files_behind None files = files
files_behind (Some folder) files = files ++ files_in folder library

-- the same where the files tell
abbrev pub behind : Option (List ℕ) → Option (List File) → Option (List File)
behind folder None = None
behind folder (Some files) = Some (files_behind folder files)
