-- Of what kind a value is, in words.
use Rattle.std.specs.Prelude.{ℕ, Bool, true, false, ◌&&◌, ◌||◌, List, [], ◌++◌, codes, if◌then◌else◌}
use Rattle.std.specs.List.{list_all}
use Rattle.std.specs.Str.{bytes_eq}
use Rattle.values_core.specs.Data.{Val, model, truth, integer, string, set, function, no_pairs, more_pairs, entries}
use Rattle.values_json.specs.Prints.{are_numbered}

abbrev pub is_string : Val → Bool
is_string (string s) = true
is_string _ = false

abbrev pub have_strings : List (Val × Val) → Bool
have_strings ps = list_all (λ p. is_string p.0) ps

-- of a function that is no sequence
abbrev pub keyed_name : List (Val × Val) → List ℕ
keyed_name ps = if have_strings ps then codes "record" else codes "function"

-- a function is a sequence where its keys are 1 to some number, and a record where they are strings
abbrev pub kind_name : Val → List ℕ
kind_name (model s) = codes "model value"
kind_name (truth b) = codes "truth value"
kind_name (integer z) = codes "number"
kind_name (string s) = codes "string"
kind_name (set vs) = codes "set"
kind_name (function ps) = if are_numbered 1 ps then codes "sequence" else keyed_name (entries ps)

abbrev pub is_function : Val → Bool
is_function (function ps) = true
is_function _ = false

-- the function without a key, which is a sequence, a record and a function at once
abbrev pub is_empty : Val → Bool
is_empty (function no_pairs) = true
is_empty _ = false

abbrev pub are_alike : Val → Val → Bool
are_alike v w = if is_function v && is_function w && (is_empty v || is_empty w) then true else bytes_eq (kind_name v) (kind_name w)

-- behind two values, where they are of different kinds
abbrev pub kinds_text : Val → Val → List ℕ
kinds_text v w = if are_alike v w then [] else codes " kinds " ++ kind_name v ++ codes " and " ++ kind_name w
