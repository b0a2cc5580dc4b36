-- Why a list of laid tokens is refused as a text of one kind, and how far a text goes. There are expressions, definitions of units, and
-- modules: of each kind, Begins tells what its texts begin with where ranges play no part, Fitting what those begin with whose operators
-- fit their ranges, and Shallow that no token stands inside more than 100 unfinished constructs.
use Rattle.std.specs.Prelude.{◌≡◌, ◌⊎◌, ℕ, List, [], ◌∷◌, ◌++◌, drop}
use Rattle.base_core.specs.declared.place.Place.{Place}
use Rattle.reading_trees.specs.declared.laid.Laid.{Laid}
use Rattle.reading_machine.specs.Meeting.{Meets}
use Rattle.reading_expressions.specs.Refused.{place_of, refusal_of}
use Rattle.reading_expressions.specs.declared.fault.ParseFault.{ParseFault}
use Rattle.reading_expressions.specs.declared.fault.ParseFault.TheVariants.{Expected, Conflict, TooNested, OutOfProfile, NoMemory}

-- A text with its ranges is begun up to one of the tokens, and none goes on through that one, even where ranges play no part.
pub record UpTo (Begins Fitting Shallow : List Laid → Type 0) (laid rest : List Laid) (x : Laid) : Type 0 where
  pub read : List Laid
  pub whole : laid ≡ read ++ x ∷ rest
  pub begun : Begins read
  pub fits : Fitting read
  pub there : ¬ (Begins (read ++ x ∷ []))
  pub shallow : Shallow read

-- the first token that can not follow those before it is refused so
abbrev pub CanNotFollow : (Begins Fitting Shallow : List Laid → Type 0) → List Laid → ParseFault → Type 0
CanNotFollow Begins Fitting Shallow laid fault = (x : Laid) × (rest : List Laid) × UpTo Begins Fitting Shallow laid rest x × (refusal_of x rest ≡ fault)

-- all the tokens are the beginning of a text with its ranges, and this is the place of the last
pub record EndsTooEarly (Begins Fitting Shallow : List Laid → Type 0) (laid : List Laid) (p : Place) : Type 0 where
  pub before : List Laid
  pub last : Laid
  pub whole : laid ≡ before ++ last ∷ []
  pub begun : Begins laid
  pub fits : Fitting laid
  pub shallow : Shallow laid
  pub place : place_of last ≡ p

-- Up to one of the tokens a text with its ranges is begun; through that one a text goes on where ranges play no part, and none with them.
-- The two places are those of the operators that meet there.
pub record Conflicts (Begins Fitting Shallow : List Laid → Type 0) (laid : List Laid) (p q : Place) : Type 0 where
  pub read : List Laid
  pub rest : List Laid
  pub here : Laid
  pub whole : laid ≡ read ++ here ∷ rest
  pub begun : Begins (read ++ here ∷ [])
  pub fits : Fitting read
  pub none : ¬ (Fitting (read ++ here ∷ []))
  pub shallow : Shallow read
  pub places : Meets Begins read here p q

-- The first token that stands inside too many unfinished constructs. A text with its ranges goes on through it.
pub record IsTooNested (Fitting Shallow : List Laid → Type 0) (laid : List Laid) (p : Place) : Type 0 where
  pub read : List Laid
  pub rest : List Laid
  pub here : Laid
  pub whole : laid ≡ read ++ here ∷ rest
  pub fits : Fitting (read ++ here ∷ [])
  pub shallow : Shallow read
  pub deep : ¬ (Shallow (read ++ here ∷ []))
  pub place : place_of here ≡ p

-- why the tokens are refused as a text of one kind
abbrev pub IsRefused : (Begins Fitting Shallow : List Laid → Type 0) → List Laid → ParseFault → Type 0
IsRefused Begins Fitting Shallow laid (Expected p) = CanNotFollow Begins Fitting Shallow laid (Expected p) ⊎ EndsTooEarly Begins Fitting Shallow laid p
IsRefused Begins Fitting Shallow laid (Conflict p q) = Conflicts Begins Fitting Shallow laid p q
IsRefused Begins Fitting Shallow laid (TooNested p) = IsTooNested Fitting Shallow laid p
IsRefused Begins Fitting Shallow laid (OutOfProfile f p) = CanNotFollow Begins Fitting Shallow laid (OutOfProfile f p)
IsRefused Begins Fitting Shallow laid NoMemory = Unit {0}

-- a text from the one index to the other goes as far as a text goes on
abbrev pub GoesAsFar : (Begins Fitting Shallow : List Laid → Type 0) → List Laid → ℕ → ℕ → Type 0
GoesAsFar Begins Fitting Shallow laid from behind = (x : Laid) × (rest : List Laid) × (drop behind laid ≡ x ∷ rest) × UpTo Begins Fitting Shallow (drop from laid) rest x
