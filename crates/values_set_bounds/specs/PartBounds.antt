-- For the prover: bounds of the parts of a set of tuples or of records.
use Rattle.std.specs.Prelude.{◌≡◌, ℕ, ◌≤◌, true, List, length, Contains}
use Rattle.values_core.specs.Data.{Val, depth}
use Rattle.values_core.specs.IsValue.{IsValue, max_members}
use Rattle.values_operations.specs.Counts.{ways}
use Rattle.values_sets.specs.DescribedSets.{Fields, Parts, parts_list}
use Rattle.values_sets.specs.Listings.{parts_are_finite}
use Rattle.values_sets.specs.ListedParts.{AreListings, sets_of}
use Rattle.values_sets.specs.Membership.{names_of}

-- The parts are listed as sets none of which is deeper, and of which there is one member each in no more ways.
pub record AreWithin (ps : Parts) (count levels : ℕ) : Type 0 where
  pub sets : List Val
  pub finite : parts_are_finite ps ≡ true
  pub listings : AreListings ps sets
  pub few : ways sets ≤ count
  pub shallow : (s : Val) → Contains sets s → depth s ≤ levels

-- there is room for what has a part of each: for so many, and for one level more
pub record IsRoom (parts count levels : ℕ) : Type 0 where
  pub short : parts ≤ max_members
  pub few : count ≤ max_members
  pub some : 1 ≤ levels
  pub fits : levels ≤ 31

-- the parts are within the bounds, and there is room for tuples of them
pub record AreBounded (ps : Parts) (count levels : ℕ) : Type 0 where
  pub within : AreWithin ps count levels
  pub room : IsRoom (length (parts_list ps)) count levels

-- the sets of the fields are so, and the names of the fields are values
pub record FieldsAreBounded (fs : Fields) (count levels : ℕ) : Type 0 where
  pub within : AreWithin (sets_of fs) count levels
  pub named : (key : Val) → Contains (names_of fs) key → IsValue key
  pub room : IsRoom (length (names_of fs)) count levels
