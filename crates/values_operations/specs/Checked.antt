-- What stands for a checked sum, difference or product.
use Rattle.std.specs.Prelude.{ℤ, Option, Some, None, Result, Ok, Err}
use Rattle.values_core.specs.Data.{Val, integer}
use Rattle.values_core.specs.Integers.{the_term}
use Rattle.values_core.specs.declared.fault.EvalKind.TheVariants.{Overflow}
use Rattle.values_core.specs.declared.fault.OpFault.{OpFault}
use Rattle.values_core.specs.declared.fault.OpFault.TheVariants.{Refused}

-- the integer, or that the term overflows
abbrev pub checked : Option ℤ → Result Val OpFault
checked (Some z) = Ok (integer z)
checked None = Err (Refused Overflow the_term)
