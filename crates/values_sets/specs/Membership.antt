-- Which values belong to a described set, by cases on the set: no set is listed for it. A value of another kind belongs to none.
use Rattle.std.specs.Prelude.{◌≡◌, ◌⊎◌, ◌↔◌, ℕ, ℤ, pos, ◌≤ℤ◌, Bool, List, [], ◌∷◌, Contains}
use Rattle.values_core.specs.Data.{Val, truth, integer, string}
use Rattle.values_core.specs.IsValue.{IsValue}
use Rattle.values_core.specs.Sets.{IsSet, Member}
use Rattle.values_core.specs.Functions.{IsFunction, IsSequence, InDomain, HasPair, sequence_of, values_in}
use Rattle.values_sets.specs.DescribedSets.{Described, Nat, Int, Strings, Booleans, SeqOf, PowerOf, Interval, Functions, Records, Product, Union, Inter, Minus, Listed, Fields, NoFields, MoreFields, Parts, NoParts, MoreParts}

-- the names of the fields, in their order
abbrev pub names_of : Fields → List Val
names_of NoFields = []
names_of (MoreFields n d fs) = n ∷ names_of fs

abbrev mutual
  -- the value belongs to the set
  pub Belongs : Described → Val → Type 0
  Belongs Nat v = (n : ℤ) × (v ≡ integer n) × (pos 0 ≤ℤ n)
  Belongs Int v = (n : ℤ) × (v ≡ integer n)
  Belongs Strings v = (s : List ℕ) × (v ≡ string s)
  Belongs Booleans v = (b : Bool) × (v ≡ truth b)
  Belongs (SeqOf d) v = IsSequence v × ((w : Val) → Contains (values_in v) w → Belongs d w)
  Belongs (PowerOf d) v = IsSet v × ((w : Val) → Member w v → Belongs d w)
  Belongs (Interval y z) v = (n : ℤ) × (v ≡ integer n) × (y ≤ℤ n) × (n ≤ℤ z)
  Belongs (Functions a d) v = IsFunction v × ((key : Val) → InDomain key v ↔ Member key a) × ((key w : Val) → HasPair v key w → Belongs d w)
  Belongs (Records fs) v = IsFunction v × FieldsBelong fs v × ((key : Val) → InDomain key v → Contains (names_of fs) key)
  Belongs (Product ps) v = (vs : List Val) × (v ≡ sequence_of vs) × AreOfParts ps vs
  Belongs (Union c d) v = Belongs c v ⊎ Belongs d v
  Belongs (Inter c d) v = Belongs c v × Belongs d v
  Belongs (Minus c d) v = Belongs c v × ¬ Belongs d v
  Belongs (Listed s) v = Member v s

  -- the function has each of the fields, with a value that belongs to its part
  pub FieldsBelong : Fields → Val → Type 0
  FieldsBelong NoFields v = Unit {0}
  FieldsBelong (MoreFields n d fs) v = ((w : Val) × HasPair v n w × Belongs d w) × FieldsBelong fs v

  -- the values are one of each part, in the order of the parts
  pub AreOfParts : Parts → List Val → Type 0
  AreOfParts NoParts [] = Unit {0}
  AreOfParts NoParts (w ∷ ws) = ⊥
  AreOfParts (MoreParts d ps) [] = ⊥
  AreOfParts (MoreParts d ps) (w ∷ ws) = Belongs d w × AreOfParts ps ws

-- v is a value that belongs to the set
abbrev pub IsMember : Described → Val → Type 0
IsMember d v = IsValue v × Belongs d v
