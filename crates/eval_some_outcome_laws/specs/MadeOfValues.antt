-- Described sets that are made of values alone.
use Rattle.std.specs.Prelude.{FitsSigned}
use Rattle.std.specs.Int.{w64}
use Rattle.values_core.specs.IsValue.{IsValue}
use Rattle.values_sets.specs.DescribedSets.{Described, Nat, Int, Strings, Booleans, SeqOf, PowerOf, Interval, Functions, Records, Product, Union, Inter, Minus, Listed, Fields, NoFields, MoreFields, Parts, NoParts, MoreParts}

-- A described set: the ends of its intervals have 64 bits, and its domains and its listed sets are values.
abbrev mutual
  pub IsMadeOfValues : Described → Type 0
  IsMadeOfValues Nat = Unit {0}
  IsMadeOfValues Int = Unit {0}
  IsMadeOfValues Strings = Unit {0}
  IsMadeOfValues Booleans = Unit {0}
  IsMadeOfValues (SeqOf d) = IsMadeOfValues d
  IsMadeOfValues (PowerOf d) = IsMadeOfValues d
  IsMadeOfValues (Interval y z) = FitsSigned w64 y × FitsSigned w64 z
  IsMadeOfValues (Functions a d) = IsValue a × IsMadeOfValues d
  IsMadeOfValues (Records fs) = AreFieldsOfValues fs
  IsMadeOfValues (Product ps) = ArePartsOfValues ps
  IsMadeOfValues (Union c d) = IsMadeOfValues c × IsMadeOfValues d
  IsMadeOfValues (Inter c d) = IsMadeOfValues c × IsMadeOfValues d
  IsMadeOfValues (Minus c d) = IsMadeOfValues c × IsMadeOfValues d
  IsMadeOfValues (Listed s) = IsValue s

  pub AreFieldsOfValues : Fields → Type 0
  AreFieldsOfValues NoFields = Unit {0}
  AreFieldsOfValues (MoreFields n d fs) = IsMadeOfValues d × AreFieldsOfValues fs

  pub ArePartsOfValues : Parts → Type 0
  ArePartsOfValues NoParts = Unit {0}
  ArePartsOfValues (MoreParts d ps) = IsMadeOfValues d × ArePartsOfValues ps
