-- Which described sets are sound: a domain and what is listed already are sets, and the name of a field is a string and stands once.
use Rattle.values_core.specs.Data.{Val, string}
use Rattle.values_core.specs.Sets.{IsSet}
use Rattle.values_core.specs.SetOperations.{AreDifferent}
use Rattle.values_sets.specs.DescribedSets.{Described, Nat, Int, Strings, Booleans, SeqOf, PowerOf, Interval, Functions, Records, Product, Union, Inter, Minus, Listed, Fields, NoFields, MoreFields, Parts, NoParts, MoreParts}
use Rattle.values_sets.specs.Membership.{names_of}

-- the value is a string
abbrev pub IsString : Val → Type 0
IsString (string s) = Unit {0}
IsString _ = ⊥

abbrev mutual
  pub IsSound : Described → Type 0
  IsSound Nat = Unit {0}
  IsSound Int = Unit {0}
  IsSound Strings = Unit {0}
  IsSound Booleans = Unit {0}
  IsSound (SeqOf d) = IsSound d
  IsSound (PowerOf d) = IsSound d
  IsSound (Interval y z) = Unit {0}
  IsSound (Functions a d) = IsSet a × IsSound d
  IsSound (Records fs) = AreDifferent (names_of fs) × FieldsAreSound fs
  IsSound (Product ps) = PartsAreSound ps
  IsSound (Union c d) = IsSound c × IsSound d
  IsSound (Inter c d) = IsSound c × IsSound d
  IsSound (Minus c d) = IsSound c × IsSound d
  IsSound (Listed s) = IsSet s

  pub FieldsAreSound : Fields → Type 0
  FieldsAreSound NoFields = Unit {0}
  FieldsAreSound (MoreFields n d fs) = IsString n × IsSound d × FieldsAreSound fs

  pub PartsAreSound : Parts → Type 0
  PartsAreSound NoParts = Unit {0}
  PartsAreSound (MoreParts d ps) = IsSound d × PartsAreSound ps
