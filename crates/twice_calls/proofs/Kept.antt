-- Files with a text kept under a name: there are such, and one more file makes them where the name is new.
use Rattle.std.proofs.Common.{◌≡◌, ℕ, List, ◌∷◌, Option, Some, Bool, true, false, refl, sym, true≢false}
use Rattle.std.specs.Prelude.{if◌then◌else◌}
use Rattle.std.specs.Str.{bytes_eq}
use Rattle.std.proofs.lemmas.Slice.Eq.{bytes_eq-Decides}
use Rattle.base_core.specs.Device.{File, found}
use Rattle.twice_calls.specs.AfterExplained.{AreWith}

is_first : (b : Bool) (x y : Option (List ℕ)) → b ≡ true → (if b then x else y) ≡ x
is_first true x y e = refl
is_first false x y e = absurd (true≢false (sym e))

is_behind : (b : Bool) (x y : Option (List ℕ)) → (b ≡ true → ⊥) → (if b then x else y) ≡ y
is_behind true x y e = absurd (e refl)
is_behind false x y e = refl

pub one_more : (files : List File) (name text : List ℕ) → AreWith files ((name, text) ∷ files) name text
one_more files name text = record {
  text_is = is_first (bytes_eq name name) (Some text) (found name files) ((bytes_eq-Decides name name).1 refl);
  rest = λ other differs. is_behind (bytes_eq name other) (Some text) (found other files) (λ e. differs (sym ((bytes_eq-Decides name other).0 e)));
}
