-- For the prover: a value is read, and put at a key.
use Rattle.std.specs.Prelude.{◌≡◌, ℕ, List, Option, Some}
use Rattle.json.specs.Token.{Token}
use Rattle.json.specs.Json.{value}
use Rattle.serde_json.specs.Data.{Data, Members}
use Rattle.serde_json.specs.Read.{converted, of_json}
use Rattle.logs_shapes.specs.Objects.{PutsAt}

-- a value is read, and is what stands there
abbrev pub Fills : List Token → Option Data → List Token → Type 0
Fills before content behind = (d : Data) × (content ≡ Some d) × (converted of_json (value 126 before) ≡ Some (d, behind))

-- a value is read, and put at the key of that name
abbrev pub ReadsAt : List ℕ → List Token → List Token → Members → Members → Type 0
ReadsAt name before behind old new = (d : Data) × (converted of_json (value 126 before) ≡ Some (d, behind)) × PutsAt name d old new
