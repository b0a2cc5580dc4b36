-- The one spelling of a value in JSON.
use Rattle.std.specs.Prelude.{◌≡◌, ◌&&◌, ℕ, suc, pos, List, Bool, true, false, not, codes, if◌then◌else◌}
use Rattle.std.specs.Str.{bytes_eq}
use Rattle.serde_json.specs.Data.{Data, null, boolean, number, array, object, Items, no_items, item, Members, no_members, member}
use Rattle.serde_json.specs.Data as json
use Rattle.serde_json.specs.Find.{of_integer}
use Rattle.values_core.specs.Data.{Val, model, truth, integer, string, set, function, Vals, no_vals, more_vals, Pairs, no_pairs, more_pairs}
use Rattle.values_core.specs.Order.{val_eq}
use Rattle.values_core.specs.IsValue.{IsValue}
use Rattle.values_json.specs.Reads.{Reads, is_marked}

-- the keys are the numbers from n on
abbrev pub are_numbered : ℕ → Pairs → Bool
are_numbered n no_pairs = true
are_numbered n (more_pairs k v ps) = val_eq k (integer (pos n)) && are_numbered (suc n) ps

-- the value is a string that does not begin with $
abbrev pub is_name : Val → Bool
is_name (string s) = not (is_marked s)
is_name _ = false

abbrev pub are_named : Pairs → Bool
are_named no_pairs = true
are_named (more_pairs k v ps) = is_name k && are_named ps

-- the text of a string, and none of all else
abbrev pub name_of : Val → List ℕ
name_of (string s) = s
name_of _ = codes ""

-- an object with this one key
abbrev pub marked : List ℕ → Data → Data
marked k d = object (member k d no_members)

-- A function is an array where its domain is 1 to some number, otherwise an object where its keys are names,
-- and else a list of pairs. Only the model value null is null.
abbrev mutual
  pub prints : Val → Data
  prints (model s) = if bytes_eq s (codes "null") then null else marked (codes "$model") (json.string s)
  prints (truth b) = boolean b
  prints (integer z) = number (of_integer z)
  prints (string s) = json.string s
  prints (set vs) = marked (codes "$set") (array (print_members vs))
  prints (function ps) =
      if are_numbered 1 ps then array (print_values ps)
      else (if are_named ps then object (print_fields ps) else marked (codes "$fun") (array (print_pairs ps)))

  pub print_members : Vals → Items
  print_members no_vals = no_items
  print_members (more_vals v vs) = item (prints v) (print_members vs)

  pub print_values : Pairs → Items
  print_values no_pairs = no_items
  print_values (more_pairs k v ps) = item (prints v) (print_values ps)

  pub print_fields : Pairs → Members
  print_fields no_pairs = no_members
  print_fields (more_pairs k v ps) = member (name_of k) (prints v) (print_fields ps)

  pub print_pairs : Pairs → Items
  print_pairs no_pairs = no_items
  print_pairs (more_pairs k v ps) = item (array (item (prints k) (item (prints v) no_items))) (print_pairs ps)

-- what is printed stands for the value, and for no other
abbrev pub PrintsReadBack : Type 0
PrintsReadBack = (v : Val) → IsValue v → Reads (prints v) v × ((w : Val) → Reads (prints v) w → w ≡ v)
