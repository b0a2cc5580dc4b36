-- The value that the fields of a `Value` stand for.
use Rattle.std.specs.Prelude.{◌≡◌, ℕ, ◌<◌, List, [], ◌∷◌, length}
use Rattle.values_core.specs.Data.{Val, model, truth, integer, string, set, function, vals_of, Pairs, no_pairs, more_pairs, depth}
use Rattle.std.specs.declared.cmp.Ordering.{Ordering}
use Rattle.std.specs.Ordering.{nat_cmp, ordering_then}
use Rattle.std.specs.Cmp.Lexicographic.{slice_cmp}
use Rattle.values_core.specs.Functions.{IsSequence, sequence_of}
use Rattle.values_core.specs.HashOf.{hash_of}
use Rattle.values_core.specs.Order.{val_cmp}
use Rattle.values_core.specs.IsValue.{IsValue}
use Rattle.values_core.specs.declared.value.Entry.{Entry}
use Rattle.values_core.specs.declared.value.Field.{Field}
use Rattle.values_core.specs.declared.value.Node.{Node}
use Rattle.values_core.specs.declared.value.Node.TheVariants.{Model, Bool, Int, String, Set, Sequence, Record, Function}

abbrev pub entries_view : List Entry → Pairs
entries_view [] = no_pairs
entries_view (e ∷ es) = more_pairs e.key e.value (entries_view es)

-- the pairs of a record: each name as a string, with its value
abbrev pub fields_view : List Field → Pairs
fields_view [] = no_pairs
fields_view (f ∷ fs) = more_pairs (string f.name) f.value (fields_view fs)

abbrev pub node_view : Node → Val
node_view (Model t) = model t
node_view (Bool b) = truth b
node_view (Int z) = integer z
node_view (String t) = string t
node_view (Set v) = set (vals_of v.value.items.items)
node_view (Sequence v) = sequence_of v.value.items.items
node_view (Record v) = function (fields_view v.value.fields.items)
node_view (Function v) = function (entries_view v.value.entries.items)

-- the depth that a node keeps: sets and functions alone have one
abbrev pub kept_levels : Node → ℕ
kept_levels (Set v) = v.value.levels
kept_levels (Sequence v) = v.value.levels
kept_levels (Record v) = v.value.levels
kept_levels (Function v) = v.value.levels
kept_levels _ = 0

-- the hash of a node: sets and functions keep theirs
abbrev pub kept_hash : Node → ℕ
kept_hash (Set v) = v.value.hash
kept_hash (Sequence v) = v.value.hash
kept_hash (Record v) = v.value.hash
kept_hash (Function v) = v.value.hash
kept_hash n = hash_of (node_view n)

-- the value is a string
abbrev pub IsName : Val → Type 0
IsName (string s) = Unit {0}
IsName _ = ⊥

-- each key is a string
abbrev pub AreNamed : Pairs → Type 0
AreNamed no_pairs = Unit {0}
AreNamed (more_pairs k v ps) = IsName k × AreNamed ps

-- One value has one form: a record has a field, and what is kept by its pairs is neither a sequence nor
-- a function on strings alone.
abbrev pub HasOneForm : Node → Type 0
HasOneForm (Record v) = 0 < length v.value.fields.items
HasOneForm (Function v) = ¬ IsSequence (function (entries_view v.value.entries.items)) × ¬ AreNamed (entries_view v.value.entries.items)
HasOneForm _ = Unit {0}

-- what is true of a node: it stands for a value, the depth and the hash that it keeps are that value's,
-- and it has that value's form
pub record IsKept (n : Node) : Type 0 where
  pub valid : IsValue (node_view n)
  pub levels_is : kept_levels n ≡ depth (node_view n)
  pub hash_is : kept_hash n ≡ hash_of (node_view n)
  pub one_form : HasOneForm n

-- the order of pairs of key and value: by the key, then by the value
abbrev pub entry_cmp : Entry → Entry → Ordering
entry_cmp d e = ordering_then (val_cmp d.key e.key) (val_cmp d.value e.value)

-- the order of fields: by the name, then by the value
abbrev pub field_cmp : Field → Field → Ordering
field_cmp f g = ordering_then (slice_cmp nat_cmp f.name g.name) (val_cmp f.value g.value)

-- the same for pairs that are not yet a function's
abbrev pub pair_cmp : Val × Val → Val × Val → Ordering
pair_cmp p q = ordering_then (val_cmp p.0 q.0) (val_cmp p.1 q.1)
