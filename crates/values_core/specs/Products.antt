-- The large sets that are made of other sets: of functions, of tuples and of records. A member of a value is
-- at most 31 deep, so that a function with such keys and values is at most 32 deep, and a value: the word
-- "value" leaves out none of those that belong. Where one is 32 deep, it is the set that is too deep.
use Rattle.std.specs.Prelude.{◌≡◌, ◌⊎◌, ◌↔◌, ℕ, suc, List, [], ◌∷◌, Contains, Result, Err}
use Rattle.values_core.specs.Data.{Val, string, set}
use Rattle.values_core.specs.IsValue.{IsValue, IsCanonical}
use Rattle.values_core.specs.Sets.{IsSet, Member}
use Rattle.values_core.specs.Functions.{IsFunction, InDomain, HasPair, sequence_of}
use Rattle.values_core.specs.SetOperations.{GivesSet, OnSets}
use Rattle.values_core.specs.declared.fault.EvalKind.TheVariants.{NotSet}
use Rattle.values_core.specs.declared.fault.OpFault.{OpFault}
use Rattle.values_core.specs.declared.fault.OpFault.TheVariants.{Refused}

-- f is a function with the domain d and values in c
abbrev pub InFunctionSet : Val → Val → Val → Type 0
InFunctionSet d c f = IsValue f × IsFunction f × ((key : Val) → InDomain key f ↔ Member key d) × ((key v : Val) → HasPair f key v → Member v c)

abbrev pub ListsFunctions : Val → Val → Result Val OpFault → Type 0
ListsFunctions d c r = OnSets d c (GivesSet (InFunctionSet d c)) r

-- the values are one of each part, in the order of the parts
abbrev pub AreOneOfEach : List Val → List Val → Type 0
AreOneOfEach [] [] = Unit {0}
AreOneOfEach [] (p ∷ ps) = ⊥
AreOneOfEach (v ∷ vs) [] = ⊥
AreOneOfEach (v ∷ vs) (p ∷ ps) = Member v p × AreOneOfEach vs ps

-- f is a tuple of one value of each part
abbrev pub InProduct : List Val → Val → Type 0
InProduct parts f = IsValue f × ((vs : List Val) × (f ≡ sequence_of vs) × AreOneOfEach vs parts)

-- f has the fields of these names, and in each a value of its part
abbrev pub HasFields : List (List ℕ) → List Val → Val → Type 0
HasFields [] ps f = Unit {0}
HasFields (n ∷ ns) [] f = ⊥
HasFields (n ∷ ns) (p ∷ ps) f = ((v : Val) × HasPair f (string n) v × Member v p) × HasFields ns ps f

-- the key is one of the names
abbrev pub IsName : List (List ℕ) → Val → Type 0
IsName [] key = ⊥
IsName (n ∷ ns) key = (key ≡ string n) ⊎ IsName ns key

-- f is a record with just these fields
abbrev pub InRecordSet : List (List ℕ) → List Val → Val → Type 0
InRecordSet names parts f = IsValue f × IsFunction f × HasFields names parts f × ((key : Val) → InDomain key f → IsName names key)

-- of several operands the first that is no set is refused, by its number
abbrev pub OnAllSets : ℕ → List Val → (Result Val OpFault → Type 0) → Result Val OpFault → Type 0
OnAllSets n [] Q r = Q r
OnAllSets n (set vs ∷ ps) Q r = OnAllSets (suc n) ps Q r
OnAllSets n (p ∷ ps) Q r = r ≡ Err (Refused NotSet n)

abbrev pub ListsTuples : List Val → Result Val OpFault → Type 0
ListsTuples parts r = OnAllSets 0 parts (GivesSet (InProduct parts)) r

abbrev pub ListsRecords : List (List ℕ) → List Val → Result Val OpFault → Type 0
ListsRecords names parts r = OnAllSets 0 parts (GivesSet (InRecordSet names parts)) r

-- sets of members of a value, functions from one value to another, and tuples and records of members of
-- values are no deeper than a value may be
abbrev pub SubsetsAreValues : Type 0
SubsetsAreValues = (a s : Val) → IsValue a → IsCanonical s → IsSet s → ((v : Val) → Member v s → Member v a) → IsValue s

abbrev pub FunctionsAreValues : Type 0
FunctionsAreValues =
    (d c f : Val) → IsValue d → IsValue c → IsCanonical f → IsFunction f → ((key : Val) → InDomain key f → Member key d) → ((key v : Val) → HasPair f key v → Member v c) → IsValue f

abbrev pub TuplesAreValues : Type 0
TuplesAreValues = (parts vs : List Val) → ((p : Val) → Contains parts p → IsValue p) → AreOneOfEach vs parts → IsCanonical (sequence_of vs) → IsValue (sequence_of vs)

abbrev pub RecordsAreValues : Type 0
RecordsAreValues =
    (names : List (List ℕ)) (parts : List Val) (f : Val) → ((p : Val) → Contains parts p → IsValue p) → IsCanonical f → IsFunction f → HasFields names parts f → ((key : Val) → InDomain key f → IsName names key) → IsValue f
