-- For helpers of `list`: several parts that are listed one after another.
use Rattle.std.specs.Prelude.{◌≡◌, ◌⊎◌, ℕ, Bool, MatchBool, List, [], ◌∷◌, Ok, Err}
use Rattle.values_core.specs.Data.{Val, string}
use Rattle.values_core.specs.Sets.{Member}
use Rattle.values_core.specs.declared.fault.OpFault.{OpFault}
use Rattle.values_core.specs.declared.fault.OpFault.TheVariants.{NoMemory}
use Rattle.values_sets.specs.DescribedSets.{Described, Fields, NoFields, MoreFields, Parts, NoParts, MoreParts}
use Rattle.values_sets.specs.Listings.{Listing}
use Rattle.values_sets.specs.Membership.{Belongs}

-- the sets of the fields, in their order
abbrev pub sets_of : Fields → Parts
sets_of NoFields = NoParts
sets_of (MoreFields n d fs) = MoreParts d (sets_of fs)

-- the text of a string
abbrev pub text_in : Val → List ℕ
text_in (string s) = s
text_in _ = []

-- the names of the fields as texts
abbrev pub texts_of : Fields → List (List ℕ)
texts_of NoFields = []
texts_of (MoreFields n d fs) = text_in n ∷ texts_of fs

-- the values are what the parts list as, in the order of the parts
abbrev pub AreListings : Parts → List Val → Type 0
AreListings NoParts [] = Unit {0}
AreListings NoParts (s ∷ ss) = ⊥
AreListings (MoreParts d ps) [] = ⊥
AreListings (MoreParts d ps) (s ∷ ss) = Listing d (Ok s) × AreListings ps ss

-- the first part that is refused is refused so
abbrev pub IsRefused : Parts → OpFault → Type 0
IsRefused NoParts e = ⊥
IsRefused (MoreParts d ps) e = Listing d (Err e) ⊎ ((s : Val) × Listing d (Ok s) × IsRefused ps e)

-- a part is refused so, or memory is wanted
abbrev pub MayBeRefused : Parts → OpFault → Type 0
MayBeRefused ps e = (e ≡ NoMemory) ⊎ IsRefused ps e

-- v is a member of the left set, and in the right one or not
abbrev pub IsChosen : Val → Described → Bool → Val → Type 0
IsChosen s d inside v = Member v s × MatchBool inside (Belongs d v) (¬ Belongs d v)
