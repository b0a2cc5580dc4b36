-- What a set of variables stands for: those of its variables that are below 64.
use Rattle.std.specs.Prelude.{◌&&◌, ◌==◌, ℕ, nat_lt}
use Rattle.std.specs.Int.{bit_at}
use Rattle.actions_meanings.specs.Reads.{VariableSet}

unfoldable pub shown : ℕ → VariableSet
shown s x = nat_lt x 64 && (bit_at s x == 1)
