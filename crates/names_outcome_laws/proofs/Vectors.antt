-- A list as a vector, where it is not too long for one.
use Rattle.std.proofs.Common.{refl, arith}
use Rattle.std.specs.Prelude.{List, Vec, length, ◌<◌, ◌^◌}
use Rattle.std.specs.declared.alloc.Global.{Global}
use denote.RawPtr.{null_ptr}

-- the length that a vector can have
abbrev pub IsShort : {A : Type 0} → List A → Type 0
IsShort xs = length xs < 2 ^ 63

abbrev pub nowhere : Global
nowhere = record { memory = record { seal = tt } }

abbrev pub vector : {A : Type 0} (xs : List A) → IsShort xs → Vec A Global
vector xs few = record { items = xs; ptr = null_ptr; alloc = nowhere; len = length xs; cap = length xs; ok = (refl, omega arith); small = few }
