-- Which trees are values.
use Rattle.std.specs.Prelude.{ℕ, ◌≤◌, List, length, map, IsUtf8, FitsSigned}
use Rattle.std.specs.Int.{w64}
use Rattle.std.specs.List.Sorted.{IsStrictlySortedBy}
use Rattle.values_core.specs.Data.{Val, model, truth, integer, string, set, function, Vals, no_vals, more_vals, Pairs, no_pairs, more_pairs, members, entries, depth}
use Rattle.values_core.specs.Order.{val_cmp}

-- how many members a set, or pairs a function, may have
abbrev pub max_members : ℕ
max_members = 100000

-- how deep a value may be
abbrev pub max_depth : ℕ
max_depth = 32

-- the keys of a function's pairs, in their order
abbrev pub keys : Pairs → List Val
keys ps = map (λ p. p.0) (entries ps)

-- each is below those after it, and there are no more than a value may have
pub record IsOrdered (keys : List Val) : Type 0 where
  pub ascending : IsStrictlySortedBy val_cmp keys
  pub few : length keys ≤ max_members

-- Texts are UTF-8 and integers have 64 bits. The members of a set, and the keys of a function,
-- stand in ascending order, each once, and are no more than allowed. So it is at every level.
abbrev mutual
  pub IsCanonical : Val → Type 0
  IsCanonical (model s) = IsUtf8 s
  IsCanonical (truth b) = Unit {0}
  IsCanonical (integer z) = FitsSigned w64 z
  IsCanonical (string s) = IsUtf8 s
  IsCanonical (set vs) = IsOrdered (members vs) × AreCanonical vs
  IsCanonical (function ps) = IsOrdered (keys ps) × HaveCanonical ps

  pub AreCanonical : Vals → Type 0
  AreCanonical no_vals = Unit {0}
  AreCanonical (more_vals v vs) = IsCanonical v × AreCanonical vs

  pub HaveCanonical : Pairs → Type 0
  HaveCanonical no_pairs = Unit {0}
  HaveCanonical (more_pairs k v ps) = IsCanonical k × IsCanonical v × HaveCanonical ps

-- a tree is a value: canonical, and no deeper than allowed
pub record IsValue (v : Val) : Type 0 where
  pub canonical : IsCanonical v
  pub shallow : depth v ≤ max_depth
