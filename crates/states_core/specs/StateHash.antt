-- The hash of a state, made once and kept beside its values.
use Rattle.std.specs.Prelude.{ℕ, List}
use Rattle.values_core.specs.Data.{Val, vals_of}
use Rattle.values_core.specs.HashOf.{with_members}

-- The hash of each value in turn is mixed in.
unfoldable pub state_hash : List Val → ℕ
state_hash values = with_members 0 (vals_of values)
