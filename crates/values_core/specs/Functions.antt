-- Functions by their pairs.
use Rattle.std.specs.Prelude.{◌≡◌, ℕ, suc, ◌<◌, ◌≤◌, ◌↔◌, List, [], ◌∷◌, length, map, count_by, Contains, Option, Some, None, Result, Ok, Err, pos}
use Rattle.values_core.specs.Data.{Val, integer, string, function, pairs_of, entries, depth}
use Rattle.values_core.specs.Order.{val_eq}
use Rattle.values_core.specs.IsValue.{IsValue, max_members, max_depth}
use Rattle.values_core.specs.declared.value.ValueFault.{ValueFault}
use Rattle.values_core.specs.declared.value.ValueFault.TheVariants.{KeyTwice, TooLarge, TooDeep, NoMemory}

-- the value is a function
abbrev pub IsFunction : Val → Type 0
IsFunction (function ps) = Unit {0}
IsFunction _ = ⊥

-- the pairs of key and value of a function, ascending by key, and none where the value is no function
abbrev pub pairs_in : Val → List (Val × Val)
pairs_in (function ps) = entries ps
pairs_in _ = []

-- the keys of a function, and its values in the order of their keys
abbrev pub keys_in : Val → List Val
keys_in f = map (λ p. p.0) (pairs_in f)

abbrev pub values_in : Val → List Val
values_in f = map (λ p. p.1) (pairs_in f)

-- the key is in the domain of the function f
abbrev pub InDomain : Val → Val → Type 0
InDomain key f = Contains (keys_in f) key

-- the function f has the value v at the key
abbrev pub HasPair : Val → Val → Val → Type 0
HasPair f key v = Contains (pairs_in f) (key, v)

-- what applying f to a key gives: its value there, and none where the key is not in its domain
abbrev pub Applies : Val → Val → Option Val → Type 0
Applies f key None = ¬ InDomain key f
Applies f key (Some v) = HasPair f key v

-- some key is that of two or more of the pairs
pub record HasKeyTwice (pairs : List (Val × Val)) : Type 0 where
  pub key : Val
  pub twice : 2 ≤ count_by (λ p. val_eq p.0 key) pairs

-- f is the function with these pairs
pub record IsFunctionOf (pairs : List (Val × Val)) (f : Val) : Type 0 where
  pub valid : IsValue f
  pub is_function : IsFunction f
  pub same : (key v : Val) → HasPair f key v ↔ Contains pairs (key, v)

-- What making a function of pairs answers: that a key is given twice; that the pairs are more than a
-- function may have; that they are not, and the function would be deeper than a value may be; and
-- else the function. Only want of memory may come at any time.
abbrev pub MakesFunction : List (Val × Val) → Result Val ValueFault → Type 0
MakesFunction pairs (Ok f) = ¬ HasKeyTwice pairs × IsFunctionOf pairs f
MakesFunction pairs (Err KeyTwice) = HasKeyTwice pairs
MakesFunction pairs (Err TooLarge) = ¬ HasKeyTwice pairs × (max_members < length pairs)
MakesFunction pairs (Err TooDeep) = ¬ HasKeyTwice pairs × (length pairs ≤ max_members) × (max_depth < depth (function (pairs_of pairs)))
MakesFunction pairs (Err NoMemory) = Unit {0}

-- the pairs of the values vs with the numbers from n on
abbrev pub numbered_from : ℕ → List Val → List (Val × Val)
numbered_from n [] = []
numbered_from n (v ∷ vs) = (integer (pos n), v) ∷ numbered_from (suc n) vs

-- the sequence of the values vs: the function on 1 to their number
abbrev pub sequence_of : List Val → Val
sequence_of vs = function (pairs_of (numbered_from 1 vs))

-- f is a sequence: its keys are 1 to the number of its values
abbrev pub IsSequence : Val → Type 0
IsSequence f = f ≡ sequence_of (values_in f)

-- What making a sequence answers: the function on 1 to the number of the values, unless they are too
-- many, or too deep. No key can be given twice.
abbrev pub MakesSequence : List Val → Result Val ValueFault → Type 0
MakesSequence vs (Ok f) = (f ≡ sequence_of vs) × IsValue f
MakesSequence vs (Err KeyTwice) = ⊥
MakesSequence vs (Err TooLarge) = max_members < length vs
MakesSequence vs (Err TooDeep) = (length vs ≤ max_members) × (max_depth < depth (sequence_of vs))
MakesSequence vs (Err NoMemory) = Unit {0}

-- the pairs of a record's fields: each name as a string, with its value
abbrev pub fields_as_pairs : List (List ℕ × Val) → List (Val × Val)
fields_as_pairs = map (λ f. (string f.0, f.1))

-- two functions with the same pairs are equal
abbrev pub FunctionsByPairs : Type 0
FunctionsByPairs = (f g : Val) → IsValue f → IsValue g → IsFunction f → IsFunction g → ((key v : Val) → HasPair f key v ↔ HasPair g key v) → f ≡ g

-- a function has one value at a key
abbrev pub OneValueAtKey : Type 0
OneValueAtKey = (f key v w : Val) → IsValue f → HasPair f key v → HasPair f key w → v ≡ w

-- a key is in the domain of a function where it has a value there
abbrev pub DomainByPairs : Type 0
DomainByPairs = (f key : Val) → InDomain key f ↔ ((v : Val) × HasPair f key v)

-- a key of a value, and what it has there, are values
abbrev pub PairsAreValues : Type 0
PairsAreValues = (f key v : Val) → IsValue f → HasPair f key v → IsValue key × IsValue v

-- each key and each value of the pairs is a value
abbrev pub OfValues : List (Val × Val) → Type 0
OfValues pairs = (key v : Val) → Contains pairs (key, v) → IsValue key × IsValue v

-- Of pairs no key of which comes twice: there is one function with them, where they are pairs of values, no
-- more than a function may have, and not too deep; and where they are too many, or too deep, there is none.
pub record FunctionAnswers (pairs : List (Val × Val)) : Type 0 where
  pub made : OfValues pairs → ¬ HasKeyTwice pairs → length pairs ≤ max_members → depth (function (pairs_of pairs)) ≤ max_depth → (f : Val) × IsFunctionOf pairs f
  pub one : (f g : Val) → IsFunctionOf pairs f → IsFunctionOf pairs g → f ≡ g
  pub not_large : (f : Val) → ¬ HasKeyTwice pairs → IsFunctionOf pairs f → max_members < length pairs → ⊥
  pub not_deep : (f : Val) → IsFunctionOf pairs f → max_depth < depth (function (pairs_of pairs)) → ⊥
