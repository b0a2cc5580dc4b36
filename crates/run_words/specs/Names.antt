-- The names of the language, and the paths of its modules.
use Rattle.std.specs.Prelude.{ℕ, List}
use Rattle.reading_modules.specs.Paths.{IsPath}
pub use Rattle.reading_tokens.specs.Names.{IsName}

-- the path of a module's file, under a name of the language
pub record IsModule (path : List ℕ) : Type 0 where
  pub folder : List ℕ
  pub name : List ℕ
  pub parts : IsPath path folder name
  pub named : IsName name
