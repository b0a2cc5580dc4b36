-- Pairs of functions that are changed or left out, for helpers of the operations on functions.
use Rattle.std.specs.Prelude.{cond, not, filter, List}
use Rattle.values_core.specs.Data.{Val}
use Rattle.values_core.specs.Order.{val_eq}
use Rattle.values_operations.specs.Among.{among}

-- the pair with another value, if it has the key
abbrev pub replaced : Val → Val → Val × Val → Val × Val
replaced key new p = (p.0, cond (val_eq p.0 key) new p.1)

-- the pairs whose key is not among the keys
abbrev pub outside : List Val → List (Val × Val) → List (Val × Val)
outside keys = filter (λ p. not (among keys p.0))
