-- A path names one module, and a name of the language has no slash.
use Rattle.std.proofs.Common.{◌≡◌, ◌≢◌, ◌⊎◌, ◌∙◌, sym, ap, subst, refl, ℕ, ◌<◌, List, [], ◌∷◌, ◌++◌, length, get_or}
use Rattle.std.specs.List.{list_all}
use Rattle.std.proofs.lemmas.Bool.{false≢true}
use Rattle.std.proofs.lemmas.List.Elements.{All-from_get_or}
use Rattle.std.proofs.lemmas.List.Recursion.{and_at}
use Rattle.reading_tokens.specs.Shapes.{is_word}
use Rattle.reading_tokens.proofs.NameLaws.{name_bytes}
use Rattle.reading_modules.specs.Paths.{IsPath, file_of}
use Rattle.reading_modules.proofs.PathLaws.{path_same}
use Rattle.run_words.specs.Names.{IsModule, IsName}

abbrev IsFolder : List ℕ → Type 0
IsFolder folder = (folder ≡ []) ⊎ ((front : List ℕ) × (folder ≡ front ++ 47 ∷ []))

no_slash : (name : List ℕ) (k : ℕ) → IsName name → k < length name → get_or name k 0 ≢ 47
no_slash name k h l is = false≢true (ap is_word (sym is) ∙ and_at (list_all is_word) is_word refl (λ _ _. refl) name k 0 l (name_bytes name h))

-- a name in a folder makes the path of a module
pub module_in : (folder name : List ℕ) → IsFolder folder → IsName name → IsModule (file_of folder name)
module_in folder name whole h = record {
  folder = folder;
  name = name;
  parts = record { parts = refl; whole = whole; plain = All-from_get_or (λ (b : ℕ). b ≢ 47) name 0 (λ k l. no_slash name k h l) };
  named = h;
}

pub module_name : (path folder name : List ℕ) → IsPath path folder name → IsModule path → IsName name
module_name path folder name p m = subst IsName (path_same path m.folder folder m.name name m.parts p).1 m.named
