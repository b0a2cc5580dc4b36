-- Sets by their members.
use Rattle.std.specs.Prelude.{◌≡◌, ℕ, ◌<◌, ◌≤◌, ◌↔◌, List, [], length, Contains, Result, Ok, Err}
use Rattle.std.specs.List.Sorted.{IsStrictlySortedBy}
use Rattle.values_core.specs.Data.{Val, set, function, vals_of, members, entries, depth}
use Rattle.values_core.specs.Order.{val_cmp}
use Rattle.values_core.specs.IsValue.{IsValue, max_members, max_depth}
use Rattle.values_core.specs.declared.value.ValueFault.{ValueFault}
use Rattle.values_core.specs.declared.value.ValueFault.TheVariants.{KeyTwice, TooLarge, TooDeep, NoMemory}

-- the value is a set
abbrev pub IsSet : Val → Type 0
IsSet (set vs) = Unit {0}
IsSet _ = ⊥

-- the members of a set in ascending order, and none where the value is no set
abbrev pub items_of : Val → List Val
items_of (set vs) = members vs
items_of _ = []

-- v is a member of the set s
abbrev pub Member : Val → Val → Type 0
Member v s = Contains (items_of s) v

-- how many members a set, or pairs a function, has, and 0 for all else
abbrev pub count_of : Val → ℕ
count_of (set vs) = length (members vs)
count_of (function ps) = length (entries ps)
count_of _ = 0

-- s is the set of the values xs
pub record IsSetOf (xs : List Val) (s : Val) : Type 0 where
  pub valid : IsValue s
  pub is_set : IsSet s
  pub same : (v : Val) → Member v s ↔ Contains xs v

-- ks are the values xs, each once and in ascending order
pub record IsAscendingOf (xs ks : List Val) : Type 0 where
  pub ascending : IsStrictlySortedBy val_cmp ks
  pub same : (v : Val) → Contains ks v ↔ Contains xs v

-- the values xs, each counted once, are more than a set may have
pub record IsTooLarge (xs : List Val) : Type 0 where
  pub keys : List Val
  pub lists : IsAscendingOf xs keys
  pub large : max_members < length keys

-- the values xs are not too many, but their set would be deeper than a value may be
pub record IsTooDeep (xs : List Val) : Type 0 where
  pub keys : List Val
  pub lists : IsAscendingOf xs keys
  pub few : length keys ≤ max_members
  pub deep : max_depth < depth (set (vals_of keys))

-- What making a set of the values xs answers: their set; that they are too many; that they are not,
-- and too deep. Only want of memory may come at any time. No key can be given twice.
abbrev pub MakesSet : List Val → Result Val ValueFault → Type 0
MakesSet xs (Ok s) = IsSetOf xs s
MakesSet xs (Err KeyTwice) = ⊥
MakesSet xs (Err TooLarge) = IsTooLarge xs
MakesSet xs (Err TooDeep) = IsTooDeep xs
MakesSet xs (Err NoMemory) = Unit {0}

-- two sets with the same members are equal
abbrev pub SetsByMembers : Type 0
SetsByMembers = (s t : Val) → IsValue s → IsValue t → IsSet s → IsSet t → ((v : Val) → Member v s ↔ Member v t) → s ≡ t

-- of these no two hold: there is a set of the values xs; they are too many; their set would be too deep
pub record SetAnswers (xs : List Val) : Type 0 where
  pub not_large : (s : Val) → IsSetOf xs s → IsTooLarge xs → ⊥
  pub not_deep : (s : Val) → IsSetOf xs s → IsTooDeep xs → ⊥
  pub not_both : IsTooLarge xs → IsTooDeep xs → ⊥

-- what is a member of a value is a value
abbrev pub MembersAreValues : Type 0
MembersAreValues = (s v : Val) → IsValue s → Member v s → IsValue v
