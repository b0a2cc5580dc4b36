-- The shape of a line's JSON: which keys it has and how their contents are built, with no value read yet.
use Rattle.std.specs.Prelude.{ℕ, List, [], Bool, true, false, not, Option, None, Some, Result, Ok, Err, is_some, option_and_then, option_map}
use Rattle.serde_json.specs.Data.{Data, Items, no_items, Members}
use Rattle.serde_json.specs.Find.{as_array, as_bool, as_str}
use Rattle.logs_shapes.specs.Clocks.{ClockShape, clock_of}
use Rattle.logs_shapes.specs.Keys.{content}
use Rattle.logs_shapes.specs.Parts.{UpdateShape, SeeShape, each_of, see_of, update_of}
use Rattle.logs_shapes.specs.declared.key.Key.{Key}
use Rattle.logs_shapes.specs.declared.key.Key.TheVariants as key

pub record LineShape : Type 0 where
  pub init : Bool
  pub event : Option (List ℕ)
  pub args : Items
  pub clock : Option ClockShape
  pub updates : List UpdateShape
  pub sees : List SeeShape

-- what a content is, or what the line says where there is none
abbrev pub content_or : {A : Type 0} → A → (Data → Option A) → Option Data → Option A
content_or absent f None = Some absent
content_or absent f (Some d) = f d

-- nothing has the shape of what may not stand there
abbrev pub where_allowed : {A : Type 0} → Bool → Option A → Option A
where_allowed true o = o
where_allowed false o = None

-- true or false; a line without the key is no init line
abbrev pub init_at : Members → Option Bool
init_at ms = content_or false as_bool (content key.Init ms)

-- a text, which no init line has
abbrev pub event_at : Bool → Members → Option (Option (List ℕ))
event_at init ms = content_or None (λ d. where_allowed (not init) (option_map Some (as_str d))) (content key.Event ms)

-- an array, beside an event alone
abbrev pub args_at : Bool → Members → Option Items
args_at has_event ms = content_or no_items (λ d. where_allowed has_event (as_array d)) (content key.Args ms)

-- a whole number from 0, or such a number of each of at most 64 nodes
abbrev pub clock_at : Members → Option (Option ClockShape)
clock_at ms = content_or None (λ d. option_map Some (clock_of d)) (content key.Clock ms)

-- an array of operations, which no init line has
abbrev pub updates_at : Bool → Members → Option (List UpdateShape)
updates_at init ms = content_or [] (λ d. where_allowed (not init) (option_and_then (each_of update_of) (as_array d))) (content key.Update ms)

-- an array of pairs of a path and a content
abbrev pub sees_at : Members → Option (List SeeShape)
sees_at ms = content_or [] (λ d. option_and_then (each_of see_of) (as_array d)) (content key.See ms)

-- what follows, or the key whose content has not its shape
abbrev pub or_key : {A : Type 0} → Key → Option A → (A → Result LineShape Key) → Result LineShape Key
or_key key None f = Err key
or_key key (Some a) f = f a

-- the shape of an object, or the first of its keys whose content has none; other keys are passed over
abbrev pub shape_of : Members → Result LineShape Key
shape_of ms =
    or_key key.Init (init_at ms) (λ init.
    or_key key.Event (event_at init ms) (λ event.
    or_key key.Args (args_at (is_some event) ms) (λ args.
    or_key key.Clock (clock_at ms) (λ clock.
    or_key key.Update (updates_at init ms) (λ updates.
    or_key key.See (sees_at ms) (λ sees.
    Ok (record { init = init; event = event; args = args; clock = clock; updates = updates; sees = sees })))))))
