-- A name that is none of a list's is not found there.
use Rattle.std.proofs.Common.{◌≡◌, ℕ, List, Option, Some, None, Bool, true, false, refl, sym}
use Rattle.std.specs.Prelude.{if◌then◌else◌}
use Rattle.std.specs.Str.{bytes_eq}
use Rattle.std.proofs.lemmas.Slice.Eq.{bytes_eq-Decides}

passed : (b : Bool) (x rest : Option (List ℕ)) → (b ≡ true → ⊥) → rest ≡ None → (if b then x else rest) ≡ None
passed true x rest never none = absurd (never refl)
passed false x rest never none = none

pub missing : (module_name name text : List ℕ) (rest : Option (List ℕ)) → (name ≡ module_name → ⊥) → rest ≡ None → (if bytes_eq module_name name then Some text else rest) ≡ None
missing module_name name text rest differs none = passed (bytes_eq module_name name) (Some text) rest (λ e. differs (sym ((bytes_eq-Decides module_name name).0 e))) none
