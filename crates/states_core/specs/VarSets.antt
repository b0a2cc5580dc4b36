-- Sets of variables, as numbers: a variable is in the set where the digit of its number is 1.
use Rattle.std.specs.Prelude.{◌≡◌, ℕ}
use Rattle.std.specs.Int.{bit_at}

abbrev pub Has : ℕ → ℕ → Type 0
Has set x = bit_at set x ≡ 1
