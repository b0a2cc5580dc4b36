-- How many sets, functions, tuples and records there are at most: a bound on the large sets before they are listed.
use Rattle.std.specs.Prelude.{◌≡◌, ℕ, ◌*◌, ◌^◌, ◌≤◌, List, [], ◌∷◌, length, Contains}
use Rattle.std.proofs.Common.{arith}
use Rattle.values_core.specs.Data.{Val}
use Rattle.values_core.specs.IsValue.{IsValue, max_members}
use Rattle.values_core.specs.Sets.{items_of}
use Rattle.values_core.specs.SetOperations.{AreDifferent, AreTooMany, InPowerset}
use Rattle.values_core.specs.Products.{InFunctionSet, InProduct, InRecordSet}

-- no more than n values meet P
abbrev pub HasAtMost : ℕ → (Val → Type 0) → Type 0
HasAtMost n P = (vs : List Val) → AreDifferent vs → ((v : Val) → Contains vs v → P v) → length vs ≤ n

-- so few values are not too many for a set
pub not_too_many : (n : ℕ) (P : Val → Type 0) → n ≤ max_members → HasAtMost n P → ¬ AreTooMany P
not_too_many n P few h many = omega (arith, few, h many.some many.different many.each, many.many)

-- in how many ways there is one member of each part
abbrev pub ways : List Val → ℕ
ways [] = 1
ways (p ∷ ps) = length (items_of p) * ways ps

-- a set of n members has no more than 2 ^ n subsets
abbrev pub SubsetsAreCounted : Type 0
SubsetsAreCounted = (a : Val) → HasAtMost (2 ^ length (items_of a)) (InPowerset a)

-- so that those of a set of 16 members are not too many for a set
abbrev pub SubsetsAreFew : Type 0
SubsetsAreFew = (a : Val) → length (items_of a) ≤ 16 → ¬ AreTooMany (InPowerset a)

-- there are no more functions from d to c than one member of c for each member of d allows
abbrev pub FunctionsAreCounted : Type 0
FunctionsAreCounted = (d c : Val) → IsValue d → HasAtMost (length (items_of c) ^ length (items_of d)) (InFunctionSet d c)

-- there are no more tuples than ways to take one member of each part
abbrev pub TuplesAreCounted : Type 0
TuplesAreCounted = (parts : List Val) → HasAtMost (ways parts) (InProduct parts)

-- nor more records with as many names
abbrev pub RecordsAreCounted : Type 0
RecordsAreCounted = (names : List (List ℕ)) (parts : List Val) → length names ≡ length parts → HasAtMost (ways parts) (InRecordSet names parts)
