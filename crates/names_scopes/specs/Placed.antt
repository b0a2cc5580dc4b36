-- For the prover: where the first entry of each name stands.
use Rattle.std.specs.Prelude.{◌≡◌, ℕ, suc, if◌then◌else◌, List, [], ◌∷◌, Option, Some, None, option_map}
use Rattle.std.specs.Str.{bytes_eq}
use Rattle.std.specs.declared.hash.FoldHasher.{FoldHasher}
use Rattle.std.specs.declared.hash.BuildHasherDefault.{BuildHasherDefault}
use Rattle.std.specs.HashMap.{get, HashMap}
use Rattle.names_scopes.specs.declared.meant.Entry.{Entry}

-- where the first entry of a name stands
abbrev pub place_in : List Entry → List ℕ → Option ℕ
place_in [] n = None
place_in (e ∷ es) n = if bytes_eq e.name n then Some 0 else option_map suc (place_in es n)

-- each name stands at its first place
abbrev pub ArePlaced : List Entry → HashMap (List ℕ) ℕ (BuildHasherDefault FoldHasher) → Type 0
ArePlaced entries places = (n : List ℕ) → get bytes_eq places n ≡ place_in entries n
