-- What is read of the rest of a module, and why it is refused.
use Rattle.std.specs.Prelude.{◌≡◌, ◌⊎◌, ℕ, Bool, true, false, List, [], ◌∷◌, ◌++◌, Some}
use Rattle.base_core.specs.declared.place.Place.{Place}
use Rattle.reading_trees.specs.declared.laid.Laid.{Laid}
use Rattle.reading_tokens.specs.declared.token.Kind.TheVariants as kinds
use Rattle.reading_tokens.specs.declared.token.Foreign.TheVariants as foreign
use Rattle.reading_trees.specs.Grammar.{Span, ◌⨟◌, either, nothing, some_token}
use Rattle.reading_trees.specs.Modules.{IsNoneOf}
use Rattle.reading_machine.specs.Beginnings.{FittingBegun, FittingBegunDefinition}
use Rattle.reading_machine.specs.Meeting.{Meets}
use Rattle.reading_expressions.specs.Nesting.{Shallow, ShallowDefinition}
use Rattle.reading_expressions.specs.Refusals.{IsTooNested}
use Rattle.reading_expressions.specs.Refused.{IsRefusedAt, refusal_of}
use Rattle.reading_expressions.specs.declared.fault.ParseFault.{ParseFault}
use Rattle.reading_expressions.specs.declared.fault.ParseFault.TheVariants.{Expected, Conflict, TooNested, OutOfProfile, NoMemory}
use Rattle.reading_units.specs.Marks.{first_mark}
use Rattle.reading_units.specs.Refusals.{GivingText, ShallowExpression, ShallowGivens, TooNestedGiven}
use Rattle.reading_units.specs.Rests.{Rest, Title, Tail}
use Rattle.reading_units.specs.declared.marks.Mark.{Mark}
use Rattle.reading_units.specs.declared.marks.Mark.TheVariants as marks

-- ---- what is read

abbrev pub SameHead : List Laid → List Laid → Type 0
SameHead [] ys = ⊥
SameHead (x ∷ xs) [] = ⊥
SameHead (x ∷ xs) (y ∷ ys) = x ≡ y

-- Read is what stands from the one list to the other. Behind it each rest of the second kind makes one of the first, and what makes
-- one of the first, where it begins as the list behind, is of the second.
pub record Leads (T U : Rest) (xs ys : List Laid) : Type 0 where
  pub text : List Laid
  pub whole : xs ≡ text ++ ys
  pub goes : (fit : Bool) (zs : List Laid) → U fit zs → T fit (text ++ zs)
  pub comes : (fit : Bool) (zs : List Laid) → SameHead ys zs → T fit (text ++ zs) → U fit zs

-- the first token has another mark, or none
abbrev pub Lacks : Mark → List Laid → Type 0
Lacks m xs = first_mark xs ≡ Some m → ⊥

-- a token of a mark does not stand there, or memory is out
abbrev pub Misses : Mark → List Laid → ParseFault → Type 0
Misses m xs NoMemory = Unit {0}
Misses m xs fault = Lacks m xs × IsRefusedAt xs fault

abbrev pub second_mark_is : Mark → List Laid → Type 0
second_mark_is m [] = ⊥
second_mark_is m (x ∷ xs) = first_mark xs ≡ Some m

-- a name and `==` are read, or nothing where no such two tokens stand
abbrev pub ReadsTitle : List Laid → List Laid → Type 0
ReadsTitle xs ys = Title xs ys ⊎ ((xs ≡ ys) × (first_mark xs ≡ Some marks.Name → second_mark_is marks.Defined xs → ⊥))

-- it tells whether the name is none of these
abbrev pub TellsNew : Bool → List (List ℕ) → List ℕ → Type 0
TellsNew true names n = IsNoneOf names n
TellsNew false names n = IsNoneOf names n → ⊥

-- ---- why it is refused

-- these begin such a rest
abbrev pub BegunBy : Rest → Bool → List Laid → Type 0
BegunBy T fit read = (more : List Laid) × T fit (read ++ more)

-- A rest with its ranges is begun up to one of the tokens, and none goes on through that one, even where ranges play no part. Held tells how
-- deep the tokens before that one stand.
pub record Stops (T : Rest) (Held : List Laid → Type 0) (xs rest : List Laid) (x : Laid) : Type 0 where
  pub read : List Laid
  pub whole : xs ≡ read ++ x ∷ rest
  pub begun : BegunBy T false read
  pub fits : BegunBy T true read
  pub there : (more : List Laid) → T false (read ++ x ∷ more) → ⊥
  pub held : Held read

abbrev pub IsStopped : Rest → (List Laid → Type 0) → List Laid → ParseFault → Type 0
IsStopped T Held xs fault = (x : Laid) × (rest : List Laid) × Stops T Held xs rest x × (refusal_of x rest ≡ fault)

-- up to one of the tokens a rest with its ranges is begun; through that one a rest goes on where ranges play no part, and none with them
pub record Meeting (T : Rest) (Held : List Laid → Type 0) (xs : List Laid) (p q : Place) : Type 0 where
  pub read : List Laid
  pub rest : List Laid
  pub here : Laid
  pub whole : xs ≡ read ++ here ∷ rest
  pub begun : BegunBy T false (read ++ here ∷ [])
  pub fits : BegunBy T true read
  pub none : (more : List Laid) → T true (read ++ here ∷ more) → ⊥
  pub held : Held read
  pub places : Meets (BegunBy T false) read here p q

-- why it is refused; of a token that stands too deep the second tells
abbrev pub RefusedIn : Rest → (Place → Type 0) → (List Laid → Type 0) → List Laid → ParseFault → Type 0
RefusedIn T Deep Held xs (Expected p) = IsStopped T Held xs (Expected p)
RefusedIn T Deep Held xs (OutOfProfile f p) = IsStopped T Held xs (OutOfProfile f p)
RefusedIn T Deep Held xs (Conflict p q) = Meeting T Held xs p q
RefusedIn T Deep Held xs (TooNested p) = Deep p
RefusedIn T Deep Held xs NoMemory = Unit {0}

abbrev pub NeverDeep : Place → Type 0
NeverDeep p = ⊥

-- ---- tokens that stand too deep, and those that do not

-- an expression begins with these tokens, and the token there is too deep in it
abbrev pub DeepExpression : List Laid → Place → Type 0
DeepExpression xs p = IsTooNested FittingBegun Shallow xs p

-- the same of a unit's definition
abbrev pub DeepDefinition : List Laid → Place → Type 0
DeepDefinition xs p = IsTooNested FittingBegunDefinition ShallowDefinition xs p

-- the same of an expression behind a title or none
pub record DeepTitled (xs : List Laid) (p : Place) : Type 0 where
  pub title : List Laid
  pub body : List Laid
  pub whole : xs ≡ title ++ body
  pub titled : either nothing Title title []
  pub deep : DeepExpression body p

-- each token of an expression behind a title or none stands inside few enough
pub record ShallowTitled (read : List Laid) : Type 0 where
  pub title : List Laid
  pub body : List Laid
  pub whole : read ≡ title ++ body
  pub titled : either nothing Title title []
  pub shallow : Shallow body

-- the token there is too deep in an expression behind ASSUME or THEOREM, and a title or none
pub record DeepStated (xs : List Laid) (p : Place) : Type 0 where
  pub word : Laid
  pub behind : List Laid
  pub whole : xs ≡ word ∷ behind
  pub is_word : (first_mark (word ∷ []) ≡ Some marks.Assume) ⊎ (first_mark (word ∷ []) ≡ Some marks.Theorem)
  pub deep : DeepTitled behind p

abbrev pub DeepUnit : List Laid → Place → Type 0
DeepUnit xs p = DeepDefinition xs p ⊎ (DeepStated xs p ⊎ TooNestedGiven xs p)

-- a name that is none of those before, `<-`, and a whole expression, each of its tokens inside few enough
abbrev pub ShallowGiven : List (List ℕ) → List ℕ → Span
ShallowGiven before n = GivingText before n ⨟ ShallowExpression

-- WITH, and what these names are given so
pub record GivenSoFar (names : List (List ℕ)) (xs ys : List Laid) : Type 0 where
  pub others : List (List ℕ)
  pub last : List ℕ
  pub all : names ≡ others ++ last ∷ []
  pub text : (some_token (kinds.Foreign foreign.With) ⨟ ShallowGivens [] others ⨟ ShallowGiven others last) xs ys

-- the same, or nothing
abbrev pub WholeWiths : Span
WholeWiths xs ys = (xs ≡ ys) ⊎ ((names : List (List ℕ)) × GivenSoFar names xs ys)

-- the same behind units that fit; Held tells that no token of those is too deep
pub record DeepUnits (T : Rest) (Held : List Laid → Type 0) (xs : List Laid) (p : Place) : Type 0 where
  pub before : List Laid
  pub body : List Laid
  pub whole : xs ≡ before ++ body
  pub units : (zs : List Laid) → Tail true zs → T true (before ++ zs)
  pub shallow : Held before
  pub deep : DeepUnit body p
