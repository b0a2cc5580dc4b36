-- For the prover: how many tasks are still to come at most.
use Rattle.std.specs.Prelude.{ℕ, ◌+◌, Bool, List, [], ◌∷◌, length, if◌then◌else◌}
use Rattle.base_use_order.specs.Uses.{Table}

-- two for each definition that waits, and one for each that it uses
abbrev pub weight : {A : Type 0} → (A → Bool) → List A → Table → ℕ
weight waits [] uses = 0
weight waits (m ∷ ms) [] = 0
weight waits (m ∷ ms) (used ∷ uses) = (if waits m then 2 + length used else 0) + weight waits ms uses
