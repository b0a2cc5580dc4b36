-- The keys of a line, and the words of operations.
use Rattle.std.specs.Prelude.{ℕ, List, Option, None, Some, codes, if◌then◌else◌}
use Rattle.std.specs.Str.{bytes_eq}
use Rattle.serde_json.specs.Data.{Data, Members}
use Rattle.serde_json.specs.Find.{get_member}
use Rattle.logs_shapes.specs.declared.key.Key.{Key}
use Rattle.logs_shapes.specs.declared.key.Key.TheVariants as key
use Rattle.logs_shapes.specs.declared.key.Word.{Word}
use Rattle.logs_shapes.specs.declared.key.Word.TheVariants.{Set, Put, Drop, Add, Remove, Append}

abbrev pub key_text : Key → List ℕ
key_text key.Init = codes "init"
key_text key.Event = codes "event"
key_text key.Args = codes "args"
key_text key.Clock = codes "clock"
key_text key.Update = codes "update"
key_text key.See = codes "see"

-- what stands at the key among the members
abbrev pub content : Key → Members → Option Data
content k ms = get_member (key_text k) ms

-- the operation that a text names
abbrev pub word_of : List ℕ → Option Word
word_of s =
    if bytes_eq s (codes "set") then Some Set
    else if bytes_eq s (codes "put") then Some Put
    else if bytes_eq s (codes "drop") then Some Drop
    else if bytes_eq s (codes "add") then Some Add
    else if bytes_eq s (codes "remove") then Some Remove
    else if bytes_eq s (codes "append") then Some Append
    else None

-- how many contents stand behind the path: a key and a value for put, else one
abbrev pub contents_of : Word → ℕ
contents_of Put = 2
contents_of Set = 1
contents_of Drop = 1
contents_of Add = 1
contents_of Remove = 1
contents_of Append = 1
