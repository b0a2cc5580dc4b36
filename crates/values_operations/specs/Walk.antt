-- Two ascending lists of values walked together, for a helper of the operations on sets.
use Rattle.std.specs.Prelude.{Bool, cond, List, [], ◌∷◌}
use Rattle.std.specs.Ordering.{match_ordering}
use Rattle.values_core.specs.Data.{Val}
use Rattle.values_core.specs.Order.{val_cmp}
use Rattle.values_operations.specs.declared.sets.Keep.{Keep}

-- v before vs, if it is kept
abbrev pub when : Bool → Val → List Val → List Val
when keep v vs = cond keep (v ∷ vs) vs

-- x and what follows it on the left, beside a list on the right
abbrev pub beside : Keep → Val → (List Val → List Val) → List Val → List Val
beside k x rest [] = when k.left x (rest [])
beside k x rest (y ∷ ys) = match_ordering (val_cmp x y) (when k.left x (rest (y ∷ ys))) (when k.both x (rest ys)) (when k.right y (beside k x rest ys))

abbrev pub merged : Keep → List Val → List Val → List Val
merged k [] = λ ys. cond k.right ys []
merged k (x ∷ xs) = beside k x (merged k xs)
