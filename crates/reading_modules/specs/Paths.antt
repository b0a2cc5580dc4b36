-- The files of modules.
--
-- A module is sought in the folder of the main module's file, under its name with `.tla` behind it. A folder ends with a slash, or
-- is none, and a name has no slash: so a path names one folder and one main module.
use Rattle.std.specs.Prelude.{◌≡◌, ◌≢◌, ◌⊎◌, ℕ, List, [], ◌∷◌, ◌++◌, codes, All}

abbrev pub file_of : List ℕ → List ℕ → List ℕ
file_of folder name = folder ++ (name ++ codes ".tla")

pub record IsPath (path folder name : List ℕ) : Type 0 where
  pub parts : path ≡ file_of folder name
  pub whole : (folder ≡ []) ⊎ ((front : List ℕ) × (folder ≡ front ++ 47 ∷ []))
  pub plain : All (λ b. b ≢ 47) name
