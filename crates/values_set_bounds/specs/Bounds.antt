-- Bounds of a described set: how many members it has at most, and how deep it is at most, where it is listed for sure.
use Rattle.std.specs.Prelude.{◌≡◌, ◌⊎◌, ℕ, ◌≤◌, Result, Ok, Err}
use Rattle.values_core.specs.Data.{Val, depth}
use Rattle.values_core.specs.Sets.{count_of}
use Rattle.values_core.specs.declared.fault.OpFault.{OpFault}
use Rattle.values_core.specs.declared.fault.OpFault.TheVariants.{NoMemory}
use Rattle.values_sets.specs.DescribedSets.{Described, Listed}
use Rattle.values_sets.specs.Listings.{Lists}

-- The set is listed as a value that has no more members and is no deeper than these; a set that is a value already, as itself.
pub record IsListedWithin (d : Described) (members levels : ℕ) : Type 0 where
  pub listed : Val
  pub lists : Lists d (Ok listed)
  pub itself : (s : Val) → d ≡ Listed s → listed ≡ s
  pub few : count_of listed ≤ members
  pub shallow : depth listed ≤ levels

-- such a set is listed as that value, and as nothing else: it has no fault but want of memory
abbrev pub ListsForSure : Type 0
ListsForSure =
    (d : Described) (members levels : ℕ) (w : IsListedWithin d members levels) (r : Result Val OpFault) → Lists d r → (r ≡ Ok w.listed) ⊎ (r ≡ Err NoMemory)
