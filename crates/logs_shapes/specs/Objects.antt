-- What stands at the keys of a line, in the place of all members of its object.
use Rattle.std.specs.Prelude.{◌≡◌, ℕ, List, Option, None, Some, option_map, if◌then◌else◌}
use Rattle.std.specs.Str.{bytes_eq}
use Rattle.serde_json.specs.Data.{Data, object, Members, no_members, member}
use Rattle.serde_json.specs.Read.{read}
use Rattle.serde_json.specs.View.{view}
use Rattle.logs_shapes.specs.Keys.{content, key_text}
use Rattle.logs_shapes.specs.declared.key.Key.{Key}
use Rattle.logs_shapes.specs.declared.key.Key.TheVariants as key
use Rattle.logs_shapes.specs.declared.object.LineObject.{LineObject}
use Rattle.logs_shapes.specs.declared.object.Slot.{Slot}
use Rattle.logs_shapes.specs.declared.contents.Contents.{Contents}

-- the members behind this one, if it is there
unfoldable pub with_some : List ℕ → Option Data → Members → Members
with_some name None ms = ms
with_some name (Some d) ms = member name d ms

-- the members with these contents at the keys of a line, in the order of the keys, and no others
unfoldable pub keyed : Option Data → Option Data → Option Data → Option Data → Option Data → Option Data → Members
keyed init event args clock update see =
    with_some (key_text key.Init) init (with_some (key_text key.Event) event (with_some (key_text key.Args) args
    (with_some (key_text key.Clock) clock (with_some (key_text key.Update) update (with_some (key_text key.See) see no_members)))))

-- what stands in a slot, if it is there
abbrev pub content_in : Slot → Option Data
content_in s = option_map view s

abbrev pub members_in : LineObject → Members
members_in o = keyed (content_in o.init) (content_in o.event) (content_in o.args) (content_in o.clock) (content_in o.update) (content_in o.see)

abbrev pub contents_in : Contents → Members
contents_in c =
    keyed (option_map (λ json. view json.now) c.init) (option_map (λ json. view json.now) c.event) (option_map (λ json. view json.now) c.args)
    (option_map (λ json. view json.now) c.clock) (option_map (λ json. view json.now) c.update) (option_map (λ json. view json.now) c.see)

-- both have the same at each key of a line
abbrev pub AgreeAtKeys : Members → Members → Type 0
AgreeAtKeys ms others = (k : Key) → content k ms ≡ content k others

-- the text is an object that has this at the keys of a line
abbrev pub IsObjectWith : List ℕ → Members → Type 0
IsObjectWith text others = (ms : Members) × (read text ≡ Some (object ms)) × AgreeAtKeys ms others

-- both have the same at each key of a line, but for this one, where this stands
abbrev pub PutsAt : List ℕ → Data → Members → Members → Type 0
PutsAt name d old new = (k : Key) → content k new ≡ (if bytes_eq name (key_text k) then Some d else content k old)
