-- That listing a set has one outcome.
use Rattle.std.specs.Prelude.{◌≡◌, ◌⊎◌, Result, Err}
use Rattle.values_core.specs.Data.{Val}
use Rattle.values_core.specs.declared.fault.OpFault.{OpFault}
use Rattle.values_core.specs.declared.fault.OpFault.TheVariants.{NoMemory}
use Rattle.values_sets.specs.DescribedSets.{Described}
use Rattle.values_sets.specs.Listings.{Lists}

-- of two outcomes that P allows one is want of memory, or they are one
abbrev pub HasOneOutcome : (Result Val OpFault → Type 0) → Type 0
HasOneOutcome P = (q r : Result Val OpFault) → P q → P r → (q ≡ Err NoMemory) ⊎ ((r ≡ Err NoMemory) ⊎ (q ≡ r))

abbrev pub ListsOneWay : Type 0
ListsOneWay = (d : Described) → HasOneOutcome (Lists d)
