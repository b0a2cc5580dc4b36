-- The parts of a line as they stand: paths, operations and what is seen.
use Rattle.std.specs.Prelude.{ℕ, List, [], ◌∷◌, nat_eq, nat_le, Option, None, Some, option_and_then, option_map, if◌then◌else◌}
use Rattle.serde_json.specs.Data.{Data, string, array, Items, no_items, item}
use Rattle.serde_json.specs.Events.{items_len}
use Rattle.serde_json.specs.Find.{as_str}
use Rattle.logs_shapes.specs.Keys.{contents_of, word_of}
use Rattle.logs_shapes.specs.declared.key.Word.{Word}

-- the name that a path begins with, and the keys behind it
pub record PathShape : Type 0 where
  pub name : List ℕ
  pub keys : Items

-- an operation: its word, its path, and the one or two contents behind
pub record UpdateShape : Type 0 where
  pub word : Word
  pub path : PathShape
  pub contents : Items

pub record SeeShape : Type 0 where
  pub path : PathShape
  pub content : Data

abbrev pub max_keys : ℕ
max_keys = 32

-- an array that begins with a text and has at most 32 further items
abbrev pub path_in : Items → Option PathShape
path_in no_items = None
path_in (item d keys) = option_and_then (λ name. if nat_le (items_len keys) max_keys then Some (record { name = name; keys = keys }) else None) (as_str d)

-- a path is a text, or such an array
abbrev pub path_of : Data → Option PathShape
path_of (string s) = Some (record { name = s; keys = no_items })
path_of (array ds) = path_in ds
path_of _ = None

-- a path, and behind it as many contents as the word asks for
abbrev pub update_behind : Word → Items → Option UpdateShape
update_behind w no_items = None
update_behind w (item d contents) = option_and_then (λ path. if nat_eq (items_len contents) (contents_of w) then Some (record { word = w; path = path; contents = contents }) else None) (path_of d)

-- the word of an operation, and what stands behind such a word
abbrev pub update_in : Items → Option UpdateShape
update_in no_items = None
update_in (item d behind) = option_and_then (λ w. update_behind w behind) (option_and_then word_of (as_str d))

abbrev pub update_of : Data → Option UpdateShape
update_of (array ds) = update_in ds
update_of _ = None

-- a path and a content
abbrev pub see_in : Items → Option SeeShape
see_in (item p (item d no_items)) = option_map (λ path. record { path = path; content = d }) (path_of p)
see_in _ = None

abbrev pub see_of : Data → Option SeeShape
see_of (array ds) = see_in ds
see_of _ = None

-- what each of the items is, or none where one is no such thing
abbrev pub each_of : {A : Type 0} → (Data → Option A) → Items → Option (List A)
each_of f no_items = Some []
each_of f (item d ds) = option_and_then (λ a. option_map (λ more. a ∷ more) (each_of f ds)) (f d)
