-- What the operations on sets answer, by membership.
use Rattle.std.specs.Prelude.{◌≡◌, ◌⊎◌, ◌↔◌, ◌<◌, ◌≤◌, ℤ, pos, ◌≤ℤ◌, List, [], ◌∷◌, length, Contains, Result, Ok, Err}
use Rattle.values_core.specs.Data.{Val, set, integer, members, depth}
use Rattle.values_core.specs.IsValue.{IsValue, max_members, max_depth}
use Rattle.values_core.specs.Sets.{IsSet, Member}
use Rattle.values_core.specs.Integers.{the_term, int_operands}
use Rattle.values_core.specs.declared.fault.EvalKind.TheVariants.{NotSet, TooLarge, TooDeep}
use Rattle.values_core.specs.declared.fault.OpFault.{OpFault}
use Rattle.values_core.specs.declared.fault.OpFault.TheVariants.{Refused, NoMemory}

-- s is the set of just the values that meet P
pub record IsSetWith (P : Val → Type 0) (s : Val) : Type 0 where
  pub valid : IsValue s
  pub is_set : IsSet s
  pub same : (v : Val) → Member v s ↔ P v

-- nothing stands twice in the list
abbrev pub AreDifferent : {X : Type 0} → List X → Type 0
AreDifferent [] = Unit {0}
AreDifferent (x ∷ xs) = ¬ Contains xs x × AreDifferent xs

-- more values than a set may have meet P
pub record AreTooMany (P : Val → Type 0) : Type 0 where
  pub some : List Val
  pub different : AreDifferent some
  pub each : (v : Val) → Contains some v → P v
  pub many : max_members < length some

-- a value that meets P is too deep for a set to hold it
pub record IsOneTooDeep (P : Val → Type 0) : Type 0 where
  pub one : Val
  pub meets : P one
  pub deep : max_depth ≤ depth one

-- What the set of the values that meet P answers: the set; that they are too many; that they are not, and
-- one is too deep. Only want of memory may come at any time.
abbrev pub GivesSet : (Val → Type 0) → Result Val OpFault → Type 0
GivesSet P (Ok s) = IsSetWith P s
GivesSet P (Err NoMemory) = Unit {0}
GivesSet P (Err (Refused TooLarge n)) = (n ≡ the_term) × AreTooMany P
GivesSet P (Err (Refused TooDeep n)) = (n ≡ the_term) × ¬ AreTooMany P × IsOneTooDeep P
GivesSet P (Err (Refused kind n)) = ⊥

-- an operand that is no set is refused
abbrev pub OnSet : Val → (Result Val OpFault → Type 0) → Result Val OpFault → Type 0
OnSet (set vs) Q r = Q r
OnSet a Q r = r ≡ Err (Refused NotSet 0)

-- of two operands the first that is no set is refused
abbrev pub OnSets : Val → Val → (Result Val OpFault → Type 0) → Result Val OpFault → Type 0
OnSets (set us) (set vs) Q r = Q r
OnSets (set us) b Q r = r ≡ Err (Refused NotSet 1)
OnSets a b Q r = r ≡ Err (Refused NotSet 0)

-- v is in a or in b
abbrev pub InUnion : Val → Val → Val → Type 0
InUnion a b v = Member v a ⊎ Member v b

-- v is in both
abbrev pub InIntersection : Val → Val → Val → Type 0
InIntersection a b v = Member v a × Member v b

-- v is in a and not in b
abbrev pub InDifference : Val → Val → Val → Type 0
InDifference a b v = Member v a × ¬ Member v b

-- v is an integer from y to z
abbrev pub InInterval : ℤ → ℤ → Val → Type 0
InInterval y z v = (n : ℤ) × (v ≡ integer n) × (y ≤ℤ n) × (n ≤ℤ z)

-- v is a set of members of a: none of them is deeper than 31, so that each such set is a value
abbrev pub InPowerset : Val → Val → Type 0
InPowerset a v = IsValue v × IsSet v × ((w : Val) → Member w v → Member w a)

-- v is in a set that is in a
abbrev pub InBigUnion : Val → Val → Type 0
InBigUnion a v = (s : Val) × Member s a × Member v s

abbrev pub Unites : Val → Val → Result Val OpFault → Type 0
Unites a b r = OnSets a b (GivesSet (InUnion a b)) r

abbrev pub Intersects : Val → Val → Result Val OpFault → Type 0
Intersects a b r = OnSets a b (GivesSet (InIntersection a b)) r

abbrev pub TakesAway : Val → Val → Result Val OpFault → Type 0
TakesAway a b r = OnSets a b (GivesSet (InDifference a b)) r

abbrev pub ListsSubsets : Val → Result Val OpFault → Type 0
ListsSubsets a r = OnSet a (GivesSet (InPowerset a)) r

-- UNION is of a set of sets: where a member is no set, its operand is refused
abbrev pub UnitesMembers : Val → Result Val OpFault → Type 0
UnitesMembers a r = OnSet a (λ o. (((v : Val) → Member v a → IsSet v) × GivesSet (InBigUnion a) o) ⊎ (((v : Val) × Member v a × ¬ IsSet v) × (o ≡ Err (Refused NotSet 0)))) r

-- the integers from one to the other, both included; none where the first is above the second
abbrev pub ListsBetween : Result (ℤ × ℤ) OpFault → Result Val OpFault → Type 0
ListsBetween (Ok p) r = GivesSet (InInterval p.0 p.1) r
ListsBetween (Err e) r = r ≡ Err e

abbrev pub ListsInterval : Val → Val → Result Val OpFault → Type 0
ListsInterval a b r = ListsBetween (int_operands a b) r

-- how many members a set has
abbrev pub cardinality_of : Val → Result Val OpFault
cardinality_of (set vs) = Ok (integer (pos (length (members vs))))
cardinality_of a = Err (Refused NotSet 0)
