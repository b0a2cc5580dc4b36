-- The path of a module's file that the words may name has a folder and a name.
use Rattle.std.proofs.Common.{ℕ, List}
use Rattle.run_words.specs.Names.{IsModule}
use Rattle.reading_modules.specs.Paths.{IsPath}

pub path_parts : (path : List ℕ) → IsModule path → (folder : List ℕ) × (name : List ℕ) × IsPath path folder name
path_parts path m = (m.folder, m.name, m.parts)
