-- What the operations on functions and sequences answer, by their pairs.
use Rattle.std.specs.Prelude.{◌≡◌, ◌⊎◌, ◌↔◌, ℕ, ◌+◌, ◌<◌, ◌≤◌, max, ℤ, pos, ◌≤ℤ◌, ◌<ℤ◌, List, [], ◌∷◌, ◌++◌, length, take, drop, Contains, Option, Some, None, Result, Ok, Err}
use Rattle.values_core.specs.Data.{Val, function, integer, int_of, depth}
use Rattle.values_core.specs.IsValue.{IsValue, max_members, max_depth}
use Rattle.values_core.specs.Functions.{HasKeyTwice, IsFunction, IsSequence, InDomain, HasPair, sequence_of, values_in}
use Rattle.values_core.specs.Integers.{the_term}
use Rattle.values_core.specs.SetOperations.{GivesSet}
use Rattle.values_core.specs.declared.fault.EvalKind.TheVariants.{NotFunction, NotSequence, NotInteger, OutsideDomain, EmptySequence, BadRange, TooLarge, TooDeep}
use Rattle.values_core.specs.declared.fault.OpFault.{OpFault}
use Rattle.values_core.specs.declared.fault.OpFault.TheVariants.{Refused, NoMemory}

-- f is the function with just the pairs that meet P
pub record IsFunctionWith (P : Val → Val → Type 0) (f : Val) : Type 0 where
  pub valid : IsValue f
  pub is_function : IsFunction f
  pub same : (key v : Val) → HasPair f key v ↔ P key v

-- more pairs than a function may have meet P, and no key comes twice
pub record AreTooManyPairs (P : Val → Val → Type 0) : Type 0 where
  pub some : List (Val × Val)
  pub once : ¬ HasKeyTwice some
  pub each : (key v : Val) → Contains some (key, v) → P key v
  pub many : max_members < length some

-- a pair that meets P is too deep for a function to hold it
pub record IsPairTooDeep (P : Val → Val → Type 0) : Type 0 where
  pub key : Val
  pub value : Val
  pub meets : P key value
  pub deep : max_depth ≤ max (depth key) (depth value)

-- What the function with the pairs that meet P answers: the function; that they are too many; that they
-- are not, and one is too deep. Only want of memory may come at any time.
abbrev pub GivesFunction : (Val → Val → Type 0) → Result Val OpFault → Type 0
GivesFunction P (Ok f) = IsFunctionWith P f
GivesFunction P (Err NoMemory) = Unit {0}
GivesFunction P (Err (Refused TooLarge n)) = (n ≡ the_term) × AreTooManyPairs P
GivesFunction P (Err (Refused TooDeep n)) = (n ≡ the_term) × ¬ AreTooManyPairs P × IsPairTooDeep P
GivesFunction P (Err (Refused kind n)) = ⊥

-- a value, if there is memory for it
abbrev pub GivesValue : (Val → Type 0) → Result Val OpFault → Type 0
GivesValue P (Ok v) = P v
GivesValue P (Err NoMemory) = Unit {0}
GivesValue P (Err (Refused kind n)) = ⊥

-- What the sequence of the values vs answers.
abbrev pub GivesSequence : List Val → Result Val OpFault → Type 0
GivesSequence vs (Ok f) = (f ≡ sequence_of vs) × IsValue f
GivesSequence vs (Err NoMemory) = Unit {0}
GivesSequence vs (Err (Refused TooLarge n)) = (n ≡ the_term) × (max_members < length vs)
GivesSequence vs (Err (Refused TooDeep n)) = (n ≡ the_term) × (length vs ≤ max_members) × (max_depth < depth (sequence_of vs))
GivesSequence vs (Err (Refused kind n)) = ⊥

-- an operand that is no function is refused
abbrev pub OnFunction : Val → (Result Val OpFault → Type 0) → Result Val OpFault → Type 0
OnFunction (function ps) Q r = Q r
OnFunction a Q r = r ≡ Err (Refused NotFunction 0)

-- of two operands the first that is no function is refused
abbrev pub OnFunctions : Val → Val → (Result Val OpFault → Type 0) → Result Val OpFault → Type 0
OnFunctions (function ps) (function qs) Q r = Q r
OnFunctions (function ps) b Q r = r ≡ Err (Refused NotFunction 1)
OnFunctions a b Q r = r ≡ Err (Refused NotFunction 0)

-- the operand with the number n is a sequence of values, of which Q speaks, or it is refused
abbrev pub OnSequence : ℕ → Val → (List Val → Result Val OpFault → Type 0) → Result Val OpFault → Type 0
OnSequence n a Q r = (IsSequence a × Q (values_in a) r) ⊎ (¬ IsSequence a × (r ≡ Err (Refused NotSequence n)))

-- the domain of f
abbrev pub ListsDomain : Val → Result Val OpFault → Type 0
ListsDomain f r = OnFunction f (GivesSet (λ key. InDomain key f)) r

-- the value of f at the key, which must be in its domain
abbrev pub AppliesAt : Val → Val → Result Val OpFault → Type 0
AppliesAt f key r = OnFunction f (λ o. (InDomain key f × GivesValue (HasPair f key) o) ⊎ (¬ InDomain key f × (o ≡ Err (Refused OutsideDomain the_term)))) r

-- the function on the one key with this value
abbrev pub MapsOne : Val → Val → Result Val OpFault → Type 0
MapsOne key v r = GivesFunction (λ k w. (k ≡ key) × (w ≡ v)) r

-- f where it is defined, and g elsewhere
abbrev pub InMerge : Val → Val → Val → Val → Type 0
InMerge f g key v = HasPair f key v ⊎ (¬ InDomain key f × HasPair g key v)

abbrev pub Merges : Val → Val → Result Val OpFault → Type 0
Merges f g r = OnFunctions f g (GivesFunction (InMerge f g)) r

-- f with another value at the key
abbrev pub InExcept : Val → Val → Val → Val → Val → Type 0
InExcept f key new k v = ((k ≡ key) × (v ≡ new)) ⊎ (¬ (k ≡ key) × HasPair f k v)

-- where the key is outside the domain the function stays
abbrev pub Excepts : Val → Val → Val → Result Val OpFault → Type 0
Excepts f key new r = OnFunction f (λ o. (InDomain key f × GivesFunction (InExcept f key new) o) ⊎ (¬ InDomain key f × GivesValue (λ h. h ≡ f) o)) r

-- the number of values of a sequence
abbrev pub GivesLength : Val → Result Val OpFault → Type 0
GivesLength s r = OnSequence 0 s (λ vs o. o ≡ Ok (integer (pos (length vs)))) r

-- the first of the values, of which there must be one
abbrev pub GivesFirst : List Val → Result Val OpFault → Type 0
GivesFirst [] r = r ≡ Err (Refused EmptySequence the_term)
GivesFirst (v ∷ vs) r = GivesValue (λ w. w ≡ v) r

-- the values behind the first, of which there must be one
abbrev pub GivesRest : List Val → Result Val OpFault → Type 0
GivesRest [] r = r ≡ Err (Refused EmptySequence the_term)
GivesRest (v ∷ vs) r = GivesSequence vs r

abbrev pub GivesHead : Val → Result Val OpFault → Type 0
GivesHead s r = OnSequence 0 s GivesFirst r

abbrev pub GivesTail : Val → Result Val OpFault → Type 0
GivesTail s r = OnSequence 0 s GivesRest r

abbrev pub Appends : Val → Val → Result Val OpFault → Type 0
Appends s v r = OnSequence 0 s (λ vs o. GivesSequence (vs ++ v ∷ []) o) r

abbrev pub Concatenates : Val → Val → Result Val OpFault → Type 0
Concatenates s t r = OnSequence 0 s (λ vs o. OnSequence 1 t (λ ws p. GivesSequence (vs ++ ws) p) o) r

-- Of the values vs those from the m-th to the n-th, which count from 1: none where m is above n, and
-- else both must count a value.
abbrev pub GivesPart : List Val → ℤ → ℤ → Result Val OpFault → Type 0
GivesPart vs m n r =
    ((n <ℤ m) × GivesSequence [] r)
    ⊎ ((from to : ℕ) × (m ≡ pos (from + 1)) × (n ≡ pos to) × (from < to) × (to ≤ length vs) × GivesSequence (drop from (take to vs)) r)
    ⊎ ((m ≤ℤ n) × ((m <ℤ pos 1) ⊎ (pos (length vs) <ℤ n)) × (r ≡ Err (Refused BadRange the_term)))

-- the same where the bounds may be no integers, the second and the third operand
abbrev pub GivesPartBetween : List Val → Option ℤ → Option ℤ → Result Val OpFault → Type 0
GivesPartBetween vs (Some m) (Some n) r = GivesPart vs m n r
GivesPartBetween vs (Some m) None r = r ≡ Err (Refused NotInteger 2)
GivesPartBetween vs None n r = r ≡ Err (Refused NotInteger 1)

abbrev pub TakesPart : Val → Val → Val → Result Val OpFault → Type 0
TakesPart s m n r = OnSequence 0 s (λ vs o. GivesPartBetween vs (int_of m) (int_of n) o) r
