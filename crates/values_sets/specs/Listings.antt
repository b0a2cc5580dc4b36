-- What listing a described set answers. The parts that are listed for it are listed from left to right: all of them but the right part
-- of an intersection or a difference. The answer is the first of these: that the set, or a part that has to be listed, however deep, has no
-- end; the fault of the first part whose own listing is too large or too deep; that no value has as its members all values that belong
-- to the set, since they are too many or one is too deep; and else that value. Only want of memory may come at any time.
use Rattle.std.specs.Prelude.{◌≡◌, ◌⊎◌, Bool, true, false, ◌&&◌, MatchBool, Result, Ok, Err}
use Rattle.values_core.specs.Data.{Val}
use Rattle.values_core.specs.Sets.{IsSet}
use Rattle.values_core.specs.SetOperations.{GivesSet, IsSetWith}
use Rattle.values_core.specs.declared.fault.EvalKind.TheVariants.{NotFinite, NotSet}
use Rattle.values_core.specs.declared.fault.OpFault.{OpFault}
use Rattle.values_core.specs.declared.fault.OpFault.TheVariants.{Refused}
use Rattle.values_sets.specs.DescribedSets.{Described, Nat, Int, Strings, Booleans, SeqOf, PowerOf, Interval, Functions, Records, Product, Union, Inter, Minus, Listed, Fields, NoFields, MoreFields, Parts, NoParts, MoreParts}
use Rattle.values_sets.specs.Membership.{IsMember}

abbrev mutual
  -- neither the set nor a part that has to be listed for it is one of the sets without end
  pub is_finite : Described → Bool
  is_finite Nat = false
  is_finite Int = false
  is_finite Strings = false
  is_finite Booleans = true
  is_finite (SeqOf d) = false
  is_finite (PowerOf d) = is_finite d
  is_finite (Interval y z) = true
  is_finite (Functions a d) = is_finite d
  is_finite (Records fs) = fields_are_finite fs
  is_finite (Product ps) = parts_are_finite ps
  is_finite (Union c d) = is_finite c && is_finite d
  is_finite (Inter c d) = is_finite c
  is_finite (Minus c d) = is_finite c
  is_finite (Listed s) = true

  pub fields_are_finite : Fields → Bool
  fields_are_finite NoFields = true
  fields_are_finite (MoreFields n d fs) = is_finite d && fields_are_finite fs

  pub parts_are_finite : Parts → Bool
  parts_are_finite NoParts = true
  parts_are_finite (MoreParts d ps) = is_finite d && parts_are_finite ps

-- what the set of all values that belong to d is
abbrev pub Collects : Described → Result Val OpFault → Type 0
Collects d r = GivesSet (IsMember d) r

-- the refusal of the one, or else, where it has a value, what Q says
abbrev pub Before : (Result Val OpFault → Type 0) → (Result Val OpFault → Type 0) → Result Val OpFault → Type 0
Before P Q r = ((e : OpFault) × P (Err e) × (r ≡ Err e)) ⊎ ((s : Val) × P (Ok s) × Q r)

abbrev mutual
  -- what listing a set answers whose listed parts all have an end
  pub Listing : Described → Result Val OpFault → Type 0
  Listing Nat r = Collects Nat r
  Listing Int r = Collects Int r
  Listing Strings r = Collects Strings r
  Listing Booleans r = Collects Booleans r
  Listing (SeqOf d) r = Collects (SeqOf d) r
  Listing (PowerOf d) r = Before (Listing d) (Collects (PowerOf d)) r
  Listing (Interval y z) r = Collects (Interval y z) r
  Listing (Functions a d) r = Before (Listing d) (Collects (Functions a d)) r
  Listing (Records fs) r = BeforeFields fs (Collects (Records fs)) r
  Listing (Product ps) r = BeforeParts ps (Collects (Product ps)) r
  Listing (Union c d) r = Before (Listing c) (Before (Listing d) (Collects (Union c d))) r
  Listing (Inter c d) r = Before (Listing c) (Collects (Inter c d)) r
  Listing (Minus c d) r = Before (Listing c) (Collects (Minus c d)) r
  Listing (Listed s) r = Collects (Listed s) r

  pub BeforeFields : Fields → (Result Val OpFault → Type 0) → Result Val OpFault → Type 0
  BeforeFields NoFields Q r = Q r
  BeforeFields (MoreFields n d fs) Q r = Before (Listing d) (BeforeFields fs Q) r

  pub BeforeParts : Parts → (Result Val OpFault → Type 0) → Result Val OpFault → Type 0
  BeforeParts NoParts Q r = Q r
  BeforeParts (MoreParts d ps) Q r = Before (Listing d) (BeforeParts ps Q) r

-- what listing a set answers
abbrev pub Lists : Described → Result Val OpFault → Type 0
Lists d r = MatchBool (is_finite d) (Listing d r) (r ≡ Err (Refused NotFinite 0))

-- the described set that a value is, which must be a set
abbrev pub IsListed : Val → Result Described OpFault → Type 0
IsListed v (Ok d) = IsSet v × (d ≡ Listed v)
IsListed v (Err e) = ¬ IsSet v × (e ≡ Refused NotSet 0)

-- a set that is listed is the set of all values that belong to it
abbrev pub ListsItsMembers : Type 0
ListsItsMembers = (d : Described) (s : Val) → Lists d (Ok s) → IsSetWith (IsMember d) s

-- a set is listed as one value
abbrev pub ListsAsOne : Type 0
ListsAsOne = (d : Described) (s t : Val) → Lists d (Ok s) → Lists d (Ok t) → s ≡ t
