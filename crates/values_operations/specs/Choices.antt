-- One member of each of several sets at once, in all ways, which are numbered from 0: for helpers of the
-- large sets.
use Rattle.std.specs.Prelude.{ℕ, ◌≡◌, ◌⊎◌, ◌/◌, ◌%◌, ◌<◌, ◌≤◌, List, [], ◌∷◌, length, map, Contains}
use Rattle.std.specs.List.{zip}
use Rattle.std.proofs.Common.{get_or}
use Rattle.values_core.specs.Data.{Val, depth}
use Rattle.values_core.specs.IsValue.{IsValue, max_members}
use Rattle.values_core.specs.Sets.{IsSet, items_of}
use Rattle.values_core.specs.Functions.{IsFunctionOf}
use Rattle.values_core.specs.SetOperations.{AreDifferent}
use Rattle.values_core.specs.Products.{AreOneOfEach}

-- the members in the way of this number
abbrev pub choice : List Val → ℕ → List Val
choice [] n = []
choice (p ∷ ps) n = get_or (items_of p) (n % length (items_of p)) p ∷ choice ps (n / length (items_of p))

-- vs are values of the numbers below n, each of them related to its number by Q
pub record AreNumbered (Q : ℕ → Val → Type 0) (n : ℕ) (vs : List Val) : Type 0 where
  pub each : (v : Val) → Contains vs v → (k : ℕ) × (k < n) × Q k v
  pub all : (k : ℕ) → k < n → (v : Val) × Contains vs v × Q k v

-- f has at each key a member of the part beside it
abbrev pub IsChoice : List Val → List Val → Val → Type 0
IsChoice keys parts f = (vs : List Val) × AreOneOfEach vs parts × IsFunctionOf (zip keys vs) f

-- f does so in the way of this number
abbrev pub IsChoiceOf : List Val → List Val → ℕ → Val → Type 0
IsChoiceOf keys parts n f = IsFunctionOf (zip keys (choice parts n)) f

-- a value that may stand in another
pub record IsInner (v : Val) : Type 0 where
  pub valid : IsValue v
  pub shallow : depth v ≤ 31

-- keys of a function, each once, and a set beside each of them
pub record AreKeysAndParts (keys parts : List Val) : Type 0 where
  pub as_many : length parts ≡ length keys
  pub few : length keys ≤ max_members
  pub different : AreDifferent keys
  pub inner : (k : Val) → Contains keys k → IsInner k
  pub valid : (p : Val) → Contains parts p → IsValue p
  pub sets : (p : Val) → Contains parts p → IsSet p

-- one of the values is so deep
abbrev pub HasDeep : ℕ → List Val → Type 0
HasDeep levels vs = (v : Val) × Contains vs v × (levels ≤ depth v)

-- a key is 31 deep, or a part 32 and hence a member of it 31: a function with it is 32 deep
abbrev pub AreDeep : List Val → List Val → Type 0
AreDeep keys parts = HasDeep 31 keys ⊎ HasDeep 32 parts

-- pairs of a function: no key comes twice, they are few, and all may stand in another value
pub record ArePairs (pairs : List (Val × Val)) : Type 0 where
  pub different : AreDifferent (map (λ p. p.0) pairs)
  pub few : length pairs ≤ max_members
  pub inner : (p : Val × Val) → Contains pairs p → IsInner p.0 × IsInner p.1
