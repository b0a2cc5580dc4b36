-- Why a list of laid tokens is refused as a module.
use Rattle.std.specs.Prelude.{◌≡◌, ◌⊎◌, ℕ, zero, suc, List, [], ◌∷◌, ◌++◌}
use Rattle.base_core.specs.declared.place.Place.{Place}
use Rattle.reading_trees.specs.declared.laid.Laid.{Laid}
use Rattle.reading_trees.specs.declared.module.Declared.{Declared}
use Rattle.reading_trees.specs.declared.module.DeclaredOperator.{DeclaredOperator}
use Rattle.reading_trees.specs.declared.module.Module.{Module}
use Rattle.reading_trees.specs.declared.module.Unit.{Unit as ModuleUnit}
use Rattle.reading_tokens.specs.declared.token.Kind.TheVariants as kinds
use Rattle.reading_tokens.specs.declared.token.Word.TheVariants as words
use Rattle.reading_tokens.specs.declared.token.Symbol.TheVariants as symbols
use Rattle.reading_tokens.specs.declared.token.Foreign.TheVariants as foreign
use Rattle.reading_trees.specs.Trees.{Tree}
use Rattle.reading_trees.specs.Fits.{Spells}
use Rattle.reading_trees.specs.Begun.{BegunModule, FittingBegunModule}
use Rattle.reading_trees.specs.Grammar.{Span, ◌⨟◌, nothing, either, some_token, word, sign, name}
use Rattle.reading_trees.specs.Modules.{DeclaredNamesText, DeclaredOperatorsText, ExtendsText, IsNoneOf, MaybeTitle, SpellsModule, UnitText, variable_word, constant_word, recursive_word, assume_word, theorem_word}
use Rattle.reading_machine.specs.Beginnings.{FittingBegun, FittingBegunDefinition}
use Rattle.reading_machine.specs.Meeting.{Meets, at_place}
use Rattle.reading_expressions.specs.Nesting.{Shallow, ShallowDefinition}
use Rattle.reading_expressions.specs.Refusals.{IsTooNested}
use Rattle.reading_expressions.specs.Refused.{refusal_of}
use Rattle.reading_expressions.specs.declared.fault.ParseFault.{ParseFault}
use Rattle.reading_expressions.specs.declared.fault.ParseFault.TheVariants.{Expected, Conflict, TooNested, OutOfProfile, NoMemory}

-- ---- where no token stands too deep

-- these tokens are the beginning of such a part, or all of it
abbrev pub Begins : Span → List Laid → Type 0
Begins R read = (more : List Laid) × R (read ++ more) []

-- VARIABLE, CONSTANT or the like, and names with commas between them
abbrev pub DeclarationText : Span
DeclarationText = either variable_word constant_word ⨟ (λ xs ys. (names : List Declared) × DeclaredNamesText names xs ys)

-- RECURSIVE, and declared operators with commas between them
abbrev pub RecursiveText : Span
RecursiveText = recursive_word ⨟ (λ xs ys. (operators : List DeclaredOperator) × DeclaredOperatorsText operators xs ys)

-- a declaration, dashes, or the equals signs behind all units: no expression stands in one, and nothing in it is ever unfinished
abbrev pub BareUnit : Span
BareUnit = either DeclarationText (either RecursiveText (either (some_token kinds.Dashes) (some_token kinds.Equals)))

-- the word of an assumption or of a theorem, and a name and `==` or not
abbrev pub StatedText : List Laid → Type 0
StatedText before = (either assume_word theorem_word ⨟ MaybeTitle) before []

-- behind such a word, and a title or none, each token of an expression stands inside at most 100 unfinished constructs
pub record ShallowStated (read : List Laid) : Type 0 where
  pub before : List Laid
  pub body : List Laid
  pub whole : read ≡ before ++ body
  pub stated : StatedText before
  pub shallow : Shallow body

-- the beginning of such a part, or all of it and then tokens of which that holds
abbrev pub BeginsThen : Span → (List Laid → Type 0) → List Laid → Type 0
BeginsThen R Held read = Begins R read ⊎ ((behind : List Laid) × R read behind × Held behind)

-- a name, whichever it is
abbrev pub SomeName : Span
SomeName xs ys = (n : List ℕ) × name n xs ys

-- `I == INSTANCE`
abbrev pub InstanceStart : Span
InstanceStart = SomeName ⨟ sign symbols.Defined ⨟ some_token (kinds.Foreign foreign.Instance)

-- `I == INSTANCE M WITH`
abbrev pub InstanceHead : Span
InstanceHead = InstanceStart ⨟ SomeName ⨟ some_token (kinds.Foreign foreign.With)

-- a name that is none of those before, and `<-`
abbrev pub GivingText : List (List ℕ) → List ℕ → Span
GivingText before n xs ys = IsNoneOf before n × (name n ⨟ sign symbols.LeftArrow) xs ys

abbrev pub SomeGiving : List (List ℕ) → Span
SomeGiving before xs ys = (n : List ℕ) × GivingText before n xs ys

-- a whole expression, each of its tokens inside at most 100
pub record ShallowExpression (xs ys : List Laid) : Type 0 where
  pub text : List Laid
  pub whole : xs ≡ text ++ ys
  pub tree : Tree
  pub spelled : Spells tree text []
  pub shallow : Shallow text

-- what these names are given, behind what those before are given: `<-`, such an expression and a comma behind each
abbrev pub ShallowGivens : List (List ℕ) → List (List ℕ) → Span
ShallowGivens before [] = nothing
ShallowGivens before (n ∷ ns) = GivingText before n ⨟ ShallowExpression ⨟ sign symbols.Comma ⨟ ShallowGivens (before ++ n ∷ []) ns

-- some names with what they are given, and then one more name and `<-`
abbrev pub SomeGivings : Span
SomeGivings xs ys = (ns : List (List ℕ)) × (ShallowGivens [] ns ⨟ SomeGiving ns) xs ys

-- what some names are given, and the beginning of one more: of a name and `<-`, or of the expression behind them
abbrev pub ShallowWiths : List Laid → Type 0
ShallowWiths read = (ns : List (List ℕ)) × (last : List Laid) × ShallowGivens [] ns read last × BeginsThen (SomeGiving ns) Shallow last

-- `I == INSTANCE M WITH`, or the beginning of it, and then what names are given
abbrev pub ShallowInstance : List Laid → Type 0
ShallowInstance read = BeginsThen InstanceHead ShallowWiths read

-- These tokens are a unit or the beginning of one, perhaps with no token, and each of them stands inside at most 100 unfinished constructs:
-- no expression is there, or it is so of a definition, of what is assumed or stated, or of what an instance is given.
abbrev pub ShallowUnit : List Laid → Type 0
ShallowUnit read = Begins BareUnit read ⊎ (ShallowDefinition read ⊎ (ShallowStated read ⊎ ShallowInstance read))

-- a whole unit, each of its tokens inside at most 100
pub record ShallowWholeUnit (xs ys : List Laid) : Type 0 where
  pub text : List Laid
  pub whole : xs ≡ text ++ ys
  pub unit : ModuleUnit
  pub spelled : UnitText unit text []
  pub shallow : ShallowUnit text

-- so many of them
abbrev pub SoManyUnits : ℕ → Span
SoManyUnits zero = nothing
SoManyUnits (suc n) = ShallowWholeUnit ⨟ SoManyUnits n

abbrev pub ShallowWholeUnits : Span
ShallowWholeUnits xs ys = (n : ℕ) × SoManyUnits n xs ys

-- whole units one behind another, and then the beginning of one more or nothing
abbrev pub ShallowUnits : List Laid → Type 0
ShallowUnits read = (last : List Laid) × ShallowWholeUnits read last × ShallowUnit last

abbrev pub SomeExtends : Span
SomeExtends xs ys = (names : List (List ℕ)) × ExtendsText names xs ys

-- the heading of a module, and what it extends
abbrev pub HeadingText : Span
HeadingText = some_token kinds.Dashes ⨟ word words.Module ⨟ (λ xs ys. (n : List ℕ) × name n xs ys) ⨟ some_token kinds.Dashes ⨟ SomeExtends

-- Each token stands inside at most 100 unfinished constructs of its unit: these are the beginning of a heading with what it extends, where
-- nothing is unfinished, or all of that and then units of which it is so.
abbrev pub ShallowModule : List Laid → Type 0
ShallowModule read = Begins HeadingText read ⊎ ((behind : List Laid) × HeadingText read behind × ShallowUnits behind)

-- These tokens are a whole module, and each of them stands inside at most 100 unfinished constructs of its unit. In the heading, in what it
-- extends, in the equals signs and in the End nothing is unfinished.
pub record ShallowWholeModule (laid : List Laid) : Type 0 where
  pub first : List Laid
  pub last : List Laid
  pub heading : HeadingText laid first
  pub units : ShallowWholeUnits first last
  pub ends : (some_token kinds.Equals ⨟ some_token kinds.End) last []

-- ---- refusals

-- A module with its ranges is begun up to one of the tokens, and none goes on through that one, even where ranges play no part. This is the
-- refusal of that token.
pub record CanNotFollow (laid : List Laid) (fault : ParseFault) : Type 0 where
  pub read : List Laid
  pub here : Laid
  pub rest : List Laid
  pub whole : laid ≡ read ++ here ∷ rest
  pub begun : BegunModule read
  pub fits : FittingBegunModule read
  pub there : ¬ (BegunModule (read ++ here ∷ []))
  pub shallow : ShallowModule read
  pub refusal : refusal_of here rest ≡ fault

-- Up to one of the tokens a module with its ranges is begun; through that one a module goes on where ranges play no part, and none with
-- them. The two places are those of the operators that meet there.
pub record Conflicts (laid : List Laid) (p q : Place) : Type 0 where
  pub read : List Laid
  pub here : Laid
  pub rest : List Laid
  pub whole : laid ≡ read ++ here ∷ rest
  pub begun : BegunModule (read ++ here ∷ [])
  pub fits : FittingBegunModule read
  pub none : ¬ (FittingBegunModule (read ++ here ∷ []))
  pub shallow : ShallowModule read
  pub places : Meets BegunModule read here p q

-- with equals signs and the End behind them these are a module: its heading, what it extends and whole units
pub record WholeUnits (before : List Laid) : Type 0 where
  pub read_as : Module
  pub equals : Place
  pub ends : Place
  pub spelled : SpellsModule read_as (before ++ at_place kinds.Equals equals ∷ at_place kinds.End ends ∷ [])

-- an expression begins behind such a word, and the token here is the first of it that stands inside too many unfinished constructs
pub record TooNestedStated (laid : List Laid) (p : Place) : Type 0 where
  pub before : List Laid
  pub body : List Laid
  pub whole : laid ≡ before ++ body
  pub stated : StatedText before
  pub deep : IsTooNested FittingBegun Shallow body p

-- behind such a part an expression begins, and the token here is the first of it that stands inside too many
pub record TooNestedBehind (R : Span) (laid : List Laid) (p : Place) : Type 0 where
  pub before : List Laid
  pub body : List Laid
  pub whole : laid ≡ before ++ body
  pub part : R before []
  pub deep : IsTooNested FittingBegun Shallow body p

-- the same of an expression that a name of an instance's module is given, where those before it fit and none of their tokens is so
abbrev pub TooNestedGiven : List Laid → Place → Type 0
TooNestedGiven laid p = TooNestedBehind (InstanceHead ⨟ SomeGivings) laid p

-- behind whole units the token here is the first of a definition, of what is assumed or stated, or of what an instance is given, that stands
-- inside too many
pub record TooNestedUnit (laid : List Laid) (p : Place) : Type 0 where
  pub before : List Laid
  pub body : List Laid
  pub whole : laid ≡ before ++ body
  pub units : WholeUnits before
  pub shallow : ShallowModule before
  pub deep : IsTooNested FittingBegunDefinition ShallowDefinition body p ⊎ (TooNestedStated body p ⊎ TooNestedGiven body p)

-- why the laid tokens are refused as a module
abbrev pub IsRefusedModule : List Laid → ParseFault → Type 0
IsRefusedModule laid (Expected p) = CanNotFollow laid (Expected p)
IsRefusedModule laid (Conflict p q) = Conflicts laid p q
IsRefusedModule laid (TooNested p) = TooNestedUnit laid p
IsRefusedModule laid (OutOfProfile f p) = CanNotFollow laid (OutOfProfile f p)
IsRefusedModule laid NoMemory = Unit {0}
