-- Whether a value stands in a list, as a test.
use Rattle.std.specs.Prelude.{Bool, true, false, cond, List, [], ◌∷◌}
use Rattle.values_core.specs.Data.{Val}
use Rattle.values_core.specs.Order.{val_eq}

-- whether the value is among those of the list
abbrev pub among : List Val → Val → Bool
among [] v = false
among (k ∷ ks) v = cond (val_eq k v) true (among ks v)
