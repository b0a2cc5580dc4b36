-- The grammar of modules as a reader meets it, by the marks of its tokens and with no trees: what stands from one point of a module to
-- another, and the rest of a module from a point on. Where `fit` is true, the operators of the expressions fit their ranges; where it is
-- false, ranges play no part.
use Rattle.std.specs.Prelude.{◌≡◌, ℕ, zero, suc, Bool, true, false, List, [], ◌∷◌, ◌++◌, Option, Some}
use Rattle.base_core.specs.declared.place.Place.{Place}
use Rattle.reading_trees.specs.declared.form.DefinitionForm.{DefinitionForm}
use Rattle.reading_trees.specs.declared.laid.Laid.{Laid}
use Rattle.reading_trees.specs.declared.module.With.{With}
use Rattle.reading_trees.specs.Trees.{Tree}
use Rattle.reading_trees.specs.Fits.{Fits}
use Rattle.reading_tokens.specs.declared.token.Kind.TheVariants as kinds
use Rattle.reading_trees.specs.Grammar.{Span, ◌⨟◌, nothing, never, either, some_token, name, Text}
use Rattle.reading_trees.specs.Modules.{IsNoneOf}
use Rattle.reading_machine.specs.Beginnings.{DefinitionText}
use Rattle.reading_units.specs.Marks.{mark_of}
use Rattle.reading_units.specs.declared.marks.Mark.{Mark}
use Rattle.reading_units.specs.declared.marks.Mark.TheVariants as marks

-- ---- parts

-- a token of this mark
abbrev pub Marked : Mark → Span
Marked m [] ys = ⊥
Marked m (x ∷ xs) ys = (mark_of x ≡ Some m) × (xs ≡ ys)

-- so many parts of one kind, each with a comma before it
abbrev pub OthersOf : Span → ℕ → Span
OthersOf R zero = nothing
OthersOf R (suc n) = Marked marks.Comma ⨟ R ⨟ OthersOf R n

abbrev pub SomeOthersOf : Span → Span
SomeOthersOf R xs ys = (n : ℕ) × OthersOf R n xs ys

-- one or more of them with commas between them
abbrev pub ListOf : Span → Span
ListOf R = R ⨟ SomeOthersOf R

-- names
abbrev pub Others : ℕ → Span
Others n = OthersOf (Marked marks.Name) n

abbrev pub SomeOthers : Span
SomeOthers = SomeOthersOf (Marked marks.Name)

abbrev pub Listed : Span
Listed = ListOf (Marked marks.Name)

-- `_`, one or more
abbrev pub Places : Span
Places = ListOf (Marked marks.Underscore)

-- the same in parentheses, or nothing
abbrev pub Parameters : Span
Parameters = either nothing (Marked marks.OpenParenthesis ⨟ Places ⨟ Marked marks.CloseParenthesis)

-- a declared operator
abbrev pub OneOperator : Span
OneOperator = Marked marks.Name ⨟ Parameters

abbrev pub Operators : Span
Operators = ListOf OneOperator

-- EXTENDS and names, or nothing
abbrev pub Extended : Span
Extended = either nothing (Marked marks.Extends ⨟ Listed)

-- a name and `==`
abbrev pub Title : Span
Title = Marked marks.Name ⨟ Marked marks.Defined

abbrev pub FitsIf : Bool → Tree → Type 0
FitsIf true e = Fits e
FitsIf false e = Unit {0}

abbrev pub Expression : Bool → Span
Expression fit xs ys = (e : Tree) × Text e xs ys × FitsIf fit e

abbrev pub Definition : Bool → Span
Definition fit xs ys = (n : List ℕ) × (at : Place) × (ns : List (List ℕ)) × (form : DefinitionForm) × (e : Tree) × DefinitionText n at ns form e xs ys × FitsIf fit e

-- an expression, and a name and `==` before it or not
abbrev pub Titled : Bool → Span
Titled fit = either nothing Title ⨟ Expression fit

-- ---- instances

-- the names that are given
abbrev pub names_of : List With → List (List ℕ)
names_of [] = []
names_of (w ∷ ws) = w.name ∷ names_of ws

-- a name that is none of those given before, `<-` and an expression
abbrev pub Given : Bool → List (List ℕ) → List ℕ → Span
Given fit before n xs ys = IsNoneOf before n × (name n ⨟ Marked marks.Arrow ⨟ Expression fit) xs ys

-- so many further ones, each with a comma before it
abbrev pub MoreGiven : Bool → List (List ℕ) → ℕ → Span
MoreGiven fit before zero = nothing
MoreGiven fit before (suc k) = Marked marks.Comma ⨟ (λ xs ys. (n : List ℕ) × (Given fit before n ⨟ MoreGiven fit (before ++ n ∷ []) k) xs ys)

abbrev pub SomeMoreGiven : Bool → List (List ℕ) → Span
SomeMoreGiven fit before xs ys = (k : ℕ) × MoreGiven fit before k xs ys

-- one or more, with commas between them
abbrev pub AllGiven : Bool → List (List ℕ) → Span
AllGiven fit before xs ys = (n : List ℕ) × (Given fit before n ⨟ SomeMoreGiven fit (before ++ n ∷ [])) xs ys

-- WITH and what it gives, or nothing
abbrev pub MaybeGiven : Bool → Span
MaybeGiven fit = either nothing (Marked marks.With ⨟ AllGiven fit [])

-- a name, `==` and INSTANCE
abbrev pub InstanceBegins : Span
InstanceBegins = Marked marks.Name ⨟ Marked marks.Defined ⨟ Marked marks.Instance

-- no instance begins there
abbrev pub NoInstance : List Laid → Type 0
NoInstance xs = (ws : List Laid) → InstanceBegins xs ws → ⊥

abbrev pub InstancePart : Bool → Span
InstancePart fit = Marked marks.Name ⨟ Marked marks.Defined ⨟ Marked marks.Instance ⨟ Marked marks.Name ⨟ MaybeGiven fit

-- what begins with a name
abbrev pub NamePart : Bool → Span
NamePart fit = either (Definition fit) (InstancePart fit)

-- what stands behind the first token of a unit, by its mark
abbrev pub Behind : Bool → Option Mark → Laid → Span
Behind fit (Some marks.Variables) x = Listed
Behind fit (Some marks.Constants) x = Listed
Behind fit (Some marks.Recursive) x = Operators
Behind fit (Some marks.Assume) x = Titled fit
Behind fit (Some marks.Theorem) x = Titled fit
Behind fit (Some marks.Dashes) x = nothing
Behind fit (Some marks.Name) x = λ xs ys. NamePart fit (x ∷ xs) ys
Behind fit _ x = never

abbrev pub UnitPart : Bool → Span
UnitPart fit [] ys = ⊥
UnitPart fit (x ∷ xs) ys = Behind fit (mark_of x) x xs ys

-- ---- rests of a module

abbrev pub Rest : Type 1
Rest = Bool → List Laid → Type 0

infixr 55 ◌▹◌
-- a part and then a rest
abbrev pub ◌▹◌ : Span → Rest → Rest
◌▹◌ R T fit xs = (ys : List Laid) × R xs ys × T fit ys

-- the same of a part in which ranges may play a part
abbrev pub Then : (Bool → Span) → Rest → Rest
Then S T fit xs = (ys : List Laid) × S fit xs ys × T fit ys

-- the End alone
abbrev pub AtEnd : Rest
AtEnd fit xs = some_token kinds.End xs []

-- equals signs and the End
abbrev pub Last : Rest
Last = Marked marks.Equals ▹ AtEnd

-- so many units before those
abbrev pub UnitsLeft : ℕ → Rest
UnitsLeft zero = Last
UnitsLeft (suc n) = Then UnitPart (UnitsLeft n)

abbrev pub Tail : Rest
Tail fit xs = (n : ℕ) × UnitsLeft n fit xs

-- behind a declared operator
abbrev pub OperatorsLeft : Rest
OperatorsLeft = SomeOthersOf OneOperator ▹ Tail

-- behind the places of its parameters
abbrev pub Closing : Rest
Closing = Marked marks.CloseParenthesis ▹ OperatorsLeft

-- behind the name of an instance's module, behind WITH or a comma, and behind an expression that was given
abbrev pub NamedLeft : Rest
NamedLeft = Then MaybeGiven Tail

abbrev pub GivenLeft : List (List ℕ) → Rest
GivenLeft before = Then (λ fit. AllGiven fit before) Tail

abbrev pub MoreLeft : List (List ℕ) → Rest
MoreLeft before = Then (λ fit. SomeMoreGiven fit before) Tail

-- behind a name that is given
abbrev pub ArrowLeft : List (List ℕ) → List ℕ → Rest
ArrowLeft before n = Marked marks.Arrow ▹ Then Expression (MoreLeft (before ++ n ∷ []))

-- a whole module
abbrev pub Whole : Rest
Whole = Marked marks.Dashes ▹ Marked marks.Heading ▹ Marked marks.Name ▹ Marked marks.Dashes ▹ Extended ▹ Tail
