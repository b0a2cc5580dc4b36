-- Definitions of which some are marked, as those that use themselves: an order of uses that asks nothing of these.
use Rattle.std.specs.Prelude.{◌≡◌, ◌≢◌, ◌<◌, ◌↔◌, ℕ, Bool, true, false, List, [], ◌∷◌, ◌++◌, length, AllPairs, Contains}
use Rattle.std.specs.List.{slice_index_or}
use Rattle.base_use_order.specs.Uses.{Table, Uses}

-- An order in which the definitions may be resolved: each once, and what one uses before it, unless it is marked.
pub record IsOrderApart (marks : List Bool) (uses : Table) (order : List ℕ) : Type 0 where
  pub all : (a : ℕ) → (a < length uses) ↔ Contains order a
  pub once : AllPairs (λ a b. a ≢ b) order
  pub used_before : (a b : ℕ) (before after : List ℕ) → order ≡ before ++ a ∷ after → slice_index_or marks a false ≡ false → Uses uses a b → Contains before b

-- For the prover: what a definition uses with this mark.
abbrev pub kept_by : Bool → List ℕ → List ℕ
kept_by true used = []
kept_by false used = used

-- the same definitions, of which the marked ones use nothing
pub record AreApart (marks : List Bool) (uses others : Table) : Type 0 where
  pub as_many : length others ≡ length uses
  pub uses_are : (a b : ℕ) → Uses others a b ↔ ((slice_index_or marks a false ≡ false) × Uses uses a b)
