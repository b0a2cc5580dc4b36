-- The four keys of a line that tells of a state, and what stands at each.
use Rattle.std.specs.Prelude.{ℕ, ◌^◌, ◌||◌, List, Bool, nat_lt, Option, None, Some, is_some, option_and_then, Result, Ok, Err, codes, if◌then◌else◌}
use Rattle.std.specs.Str.{bytes_eq}
use Rattle.serde_json.specs.Data.{Members, no_members, member}
use Rattle.serde_json.specs.Find.{as_number, as_object, as_str, as_u64, get_member}
use Rattle.states_core.specs.declared.state.Mark.{Mark}
use Rattle.states_core.specs.declared.state.Mark.TheVariants as mark
use Rattle.states_files.specs.declared.step.StepKind.{StepKind}
use Rattle.states_files.specs.declared.step.StepKind.TheVariants.{Init, Silent, Line}

-- the step that a text names
abbrev pub step_of : List ℕ → Option StepKind
step_of s =
    if bytes_eq s (codes "init") then Some Init
    else if bytes_eq s (codes "silent") then Some Silent
    else if bytes_eq s (codes "line") then Some Line
    else None

-- an object
abbrev pub state_at : Members → Option Members
state_at ms = option_and_then as_object (get_member (codes "state") ms)

-- a text that names a step
abbrev pub step_at : Members → Option StepKind
step_at ms = option_and_then step_of (option_and_then as_str (get_member (codes "step") ms))

abbrev pub below_2_32 : ℕ → Option ℕ
below_2_32 n = if nat_lt n (2 ^ 32) then Some n else None

-- a whole number from 0 to 2^32 - 1, written as one: as_u64 gives no other
abbrev pub number_at : List ℕ → Members → Option ℕ
number_at key ms = option_and_then below_2_32 (option_and_then as_u64 (option_and_then as_number (get_member key ms)))

-- what follows, or the key at which nothing fitting stands
abbrev pub or_key : {A B : Type 0} → List ℕ → Option A → (A → Result B (List ℕ)) → Result B (List ℕ)
or_key key None f = Err key
or_key key (Some a) f = f a

-- what follows, or the key that was told before
abbrev pub or_told : {A B : Type 0} → Result A (List ℕ) → (A → Result B (List ℕ)) → Result B (List ℕ)
or_told (Err key) f = Err key
or_told (Ok a) f = f a

-- this mark, where neither `file` nor `line` stands
abbrev pub placeless : Members → Mark → Result Mark (List ℕ)
placeless ms m =
    if is_some (get_member (codes "file") ms) then Err (codes "file")
    else if is_some (get_member (codes "line") ms) then Err (codes "line")
    else Ok m

-- how a state was reached by this step: `file` and `line` stand beside the step `line`, and beside no other
abbrev pub mark_at : StepKind → Members → Result Mark (List ℕ)
mark_at Init ms = placeless ms mark.Init
mark_at Silent ms = placeless ms mark.Silent
mark_at Line ms =
    or_key (codes "file") (number_at (codes "file") ms) (λ file.
    or_key (codes "line") (number_at (codes "line") ms) (λ line.
    Ok (mark.Line (record { file = file; line = line }))))

abbrev pub is_key : List ℕ → Bool
is_key k = bytes_eq k (codes "state") || bytes_eq k (codes "step") || bytes_eq k (codes "file") || bytes_eq k (codes "line")

-- the first key beyond the four; the keys of an object ascend by their bytes
abbrev pub other_key : Members → Option (List ℕ)
other_key no_members = None
other_key (member k d ms) = if is_key k then other_key ms else Some k

-- what follows where there is no such key
abbrev pub or_other : {A : Type 0} → Option (List ℕ) → Result A (List ℕ) → Result A (List ℕ)
or_other None r = r
or_other (Some key) r = Err key

-- how a state was reached, and the object of its values
pub record LineFields : Type 0 where
  pub mark : Mark
  pub state : Members

-- what the keys of a line are, or the first at which it is not as it should be: of `state`, `step`, `file`, `line`
-- and then of all others
abbrev pub fields_of : Members → Result LineFields (List ℕ)
fields_of ms =
    or_key (codes "state") (state_at ms) (λ state.
    or_key (codes "step") (step_at ms) (λ step.
    or_told (mark_at step ms) (λ m.
    or_other (other_key ms) (Ok (record { mark = m; state = state })))))
