-- Why laid tokens are refused from an index on, by the reader from a start.
use Rattle.std.specs.Prelude.{◌≡◌, ◌⊎◌, ℕ, ◌≤◌, List, [], ◌∷◌, ◌++◌, Option, Some, None, drop}
use Rattle.base_core.specs.declared.place.Place.{Place}
use Rattle.reading_trees.specs.declared.laid.Laid.{Laid}
use Rattle.reading_trees.specs.declared.laid.Laid.TheVariants.{Plain, ListOpen, ListItem, ListClose}
use Rattle.reading_tokens.specs.declared.token.Kind.{Kind}
use Rattle.reading_tokens.specs.declared.token.Kind.TheVariants as kinds
use Rattle.reading_tokens.specs.declared.token.Token.{Token}
use Rattle.reading_trees.specs.Laid.{next_of}
use Rattle.reading_machine.specs.Machine.{Stepped, Reads, Stops, Clashes, Ends, EndsDefinition, StopsAt, ClashesAt, run, step}
use Rattle.reading_open_rows.specs.Unfinished.{unfinished}
use Rattle.reading_expressions.specs.Nesting.{deepest}
use Rattle.reading_token_steps.specs.Kept.{kept_run}
use Rattle.reading_expressions.specs.declared.fault.ParseFault.{ParseFault}
use Rattle.reading_expressions.specs.declared.fault.ParseFault.TheVariants.{Expected, Conflict, TooNested, OutOfProfile, NoMemory}
use Rattle.reading_machine.specs.declared.frame.Frame.{Frame}
use Rattle.reading_machine.specs.declared.frame.Mode.{Mode}

-- the place of a laid token
abbrev pub place_of : Laid → Place
place_of (Plain t) = t.place
place_of (ListOpen b at) = at
place_of (ListItem b at) = at
place_of (ListClose at) = at

-- The refusal at a place where a token of this kind comes next, which has a place of its own. Outside the profile it is refused as such, where it stands.
abbrev pub refusal_of_kind : Kind → (own at : Place) → ParseFault
refusal_of_kind (kinds.Foreign f) own at = OutOfProfile f own
refusal_of_kind _ own at = Expected at

-- the same where this token comes next, or none
abbrev pub refusal_before : Option Token → Place → ParseFault
refusal_before (Some t) at = refusal_of_kind t.kind t.place at
refusal_before None at = Expected at

-- The refusal of a laid token that can not follow, with those behind it. The end of a list is refused as the token before which the list ends.
abbrev pub refusal_of : Laid → List Laid → ParseFault
refusal_of x rest = refusal_before (next_of (x ∷ rest) None) (place_of x)

-- the first of these can not follow, and is refused so
abbrev pub IsRefusedAt : List Laid → ParseFault → Type 0
IsRefusedAt [] fault = ⊥
IsRefusedAt (x ∷ rest) fault = refusal_of x rest ≡ fault

-- what holds of the state behind a token that is read
abbrev pub ShallowBehind : Stepped → (List Frame → Mode → Type 0) → Type 0
ShallowBehind (Reads fs m) next = next fs m
ShallowBehind Stops next = Unit {0}
ShallowBehind (Clashes p q) next = Unit {0}
ShallowBehind (Ends e) next = Unit {0}
ShallowBehind (EndsDefinition n p ns form e) next = Unit {0}

-- the reader, which is in this state before these tokens, comes to each of them in a state with at most 100 unfinished constructs
abbrev pub ShallowIn : List Frame → Mode → List Laid → Type 0
ShallowIn fs m [] = Unit {0}
ShallowIn fs m (x ∷ xs) = (unfinished fs m ≤ deepest) × ShallowBehind (step x fs m) (λ gs n. ShallowIn gs n xs)

-- the tokens from an index on up to these are read by the reader from a start, and each stands inside at most 100 unfinished constructs
pub record ShallowUpTo (laid : List Laid) (from : ℕ) (start : Mode) (behind : List Laid) : Type 0 where
  pub read : List Laid
  pub whole : drop from laid ≡ read ++ behind
  pub shallow : ShallowIn [] start read

-- the reader stops at a token that can not follow, of which this is the refusal
abbrev pub StopsBefore : List Laid → ℕ → Mode → ParseFault → Type 0
StopsBefore laid from start fault = (x : Laid) × (rest : List Laid) × (kept_run laid from [] start ≡ StopsAt (x ∷ rest)) × (refusal_of x rest ≡ fault) × ShallowUpTo laid from start (x ∷ rest)

-- every token from there on is read and nothing has ended, and the last token of the list stands at this place
abbrev pub EndsEarly : List Laid → ℕ → Mode → Place → Type 0
EndsEarly laid from start p = (before : List Laid) × (x : Laid) × (kept_run laid from [] start ≡ StopsAt []) × (laid ≡ before ++ x ∷ []) × (place_of x ≡ p) × ShallowUpTo laid from start []

-- the operators at two places clash
abbrev pub ClashesHere : List Laid → ℕ → Mode → Place → Place → Type 0
ClashesHere laid from start p q = (rest : List Laid) × (kept_run laid from [] start ≡ ClashesAt p q rest) × ShallowUpTo laid from start rest

-- the token at this place is read, and is the first that stands inside too many unfinished constructs
pub record NestsTooDeep (laid : List Laid) (from : ℕ) (start : Mode) (p : Place) : Type 0 where
  pub read : List Laid
  pub rest : List Laid
  pub here : Laid
  pub whole : drop from laid ≡ read ++ here ∷ rest
  pub reads : run (read ++ here ∷ []) [] start ≡ StopsAt []
  pub shallow : ShallowIn [] start read
  pub deep : ¬ (ShallowIn [] start (read ++ here ∷ []))
  pub place : place_of here ≡ p

-- why the reader refuses: it stops at a token; the list ends too early; the operators at two places clash; or a token is too deep
abbrev pub Refuses : List Laid → ℕ → Mode → ParseFault → Type 0
Refuses laid from start (Expected p) = StopsBefore laid from start (Expected p) ⊎ EndsEarly laid from start p
Refuses laid from start (Conflict p q) = ClashesHere laid from start p q
Refuses laid from start (TooNested p) = NestsTooDeep laid from start p
Refuses laid from start (OutOfProfile f p) = StopsBefore laid from start (OutOfProfile f p)
Refuses laid from start NoMemory = Unit {0}
