-- Members of a layer as they are found, each with the index of the node that it was reached from.
use Rattle.std.specs.Prelude.{◌≡◌, ◌≢◌, ◌⊎◌, ℕ, ◌≤◌, List, [], ◌∷◌, ◌++◌, length, map, AllPairs, Contains}

-- A member with that index.
abbrev pub Found : Type 0 → Type 0
Found A = A × ℕ

-- The members without the indexes.
abbrev pub members_of : {A : Type 0} → List (Found A) → List A
members_of xs = map (λ f. f.0) xs

-- These, each with that index.
abbrev pub all_from : {A : Type 0} → ℕ → List A → List (Found A)
all_from k xs = map (λ x. (x, k)) xs

-- No two are the same.
abbrev pub IsDistinct : {A : Type 0} → List A → Type 0
IsDistinct xs = AllPairs (λ a b. a ≢ b) xs

-- The member is added at the end where it is not there; else nothing changes.
abbrev pub AddsNew : {A : Type 0} → List (Found A) → A → ℕ → List (Found A) → Type 0
AddsNew old s from now = (Contains (members_of old) s × (now ≡ old))
    ⊎ ((Contains (members_of old) s → ⊥) × (now ≡ old ++ (s, from) ∷ []))

-- What the list has and what was not there is added, each once; and where there are at most `most` at the end, all of it.
pub record Merged {A : Type 0} (old : List (Found A)) (list : List A) (from most : ℕ) (now : List (Found A)) : Type 0 where
  pub kept : (s : A) → Contains (members_of old) s → Contains (members_of now) s
  pub new : (f : Found A) → Contains now f → Contains old f ⊎ ((f.1 ≡ from) × Contains list f.0)
  pub distinct : IsDistinct (members_of old) → IsDistinct (members_of now)
  pub all : length now ≤ most → (s : A) → Contains list s → Contains (members_of now) s
