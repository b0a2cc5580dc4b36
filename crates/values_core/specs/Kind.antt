-- The kind of a value.
use Rattle.values_core.specs.Data.{Val, model, truth, integer, string, set, function}
use Rattle.values_core.specs.declared.value.ValueKind.{ValueKind}
use Rattle.values_core.specs.declared.value.ValueKind.TheVariants.{Model, Bool, Int, String, Set, Function}

-- each constructor of values is one kind
abbrev pub kind_of : Val → ValueKind
kind_of (model s) = Model
kind_of (truth b) = Bool
kind_of (integer z) = Int
kind_of (string s) = String
kind_of (set vs) = Set
kind_of (function ps) = Function
