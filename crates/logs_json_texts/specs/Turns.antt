-- For the prover: one turn of reading items into the places of others.
use Rattle.std.specs.Prelude.{◌≡◌, ℕ, ◌+◌, ◌<◌, ◌++◌, ◌∷◌, [], List, Some, length, take}
use Rattle.json.specs.Token.{Token}
use Rattle.json.specs.Json.{items, parse_map, value}
use Rattle.serde_json.specs.Data.{array}
use Rattle.serde_json.specs.Read.{converted, of_items, of_json}
use Rattle.serde_json.specs.View.{view}
use Rattle.serde_json.specs.declared.value.Value.{Value}

-- a value is read, and stands behind so many of the items
pub record AddsItem (depth count : ℕ) (before behind : List Token) (old new : List Value) : Type 0 where
  pub item : Value
  pub read : converted of_json (value depth before) ≡ Some (view item, behind)
  pub is : take (count + 1) new ≡ take count old ++ item ∷ []
  pub within : count < length new

-- the items of an array are read, and the value is the array of them
abbrev pub ReadsArray : ℕ → List Token → Value → List Token → Type 0
ReadsArray depth before place behind = parse_map array (converted of_items (items (value depth) (length before) before)) ≡ Some (view place, behind)
