-- How modules are spelled: by one clause for each form of a unit, from a module to its laid tokens, in the terms of Grammar.
-- (The forms are this project's profile of the grammar in Lamport's Specifying Systems.)
--
-- 1. A module is dashes, MODULE, its name, dashes, EXTENDS and names where it extends others, units, equals signs and the End.
-- 2. Declared names stand behind VARIABLE, VARIABLES, CONSTANT or CONSTANTS, with commas between them.
-- 3. Declared operators stand behind RECURSIVE, with commas between them. Each is a name, and `_` for each of its parameters.
-- 4. A definition is its name and what stands behind it. An instance is its name, `==`, INSTANCE, the name of a module, and WITH and what
--    it gives or nothing: one name or more with commas between them, `<-` and an expression behind each. No name is given twice.
-- 5. ASSUME, ASSUMPTION or AXIOM has an expression behind it, and a name and `==` before that or not.
-- 6. Passed over are dashes, and THEOREM, LEMMA, PROPOSITION or COROLLARY with what stands behind it, which is as behind ASSUME.
use Rattle.std.specs.Prelude.{◌≡◌, ◌≢◌, ℕ, zero, suc, false, List, [], ◌∷◌, ◌++◌}
use Rattle.reading_trees.specs.declared.laid.Laid.{Laid}
use Rattle.reading_trees.specs.declared.laid.Laid.TheVariants.{Plain, ListOpen, ListItem, ListClose}
use Rattle.reading_tokens.specs.declared.token.Token.{Token}
use Rattle.reading_tokens.specs.declared.token.Kind.TheVariants as kinds
use Rattle.reading_tokens.specs.declared.token.Word.TheVariants as words
use Rattle.reading_tokens.specs.declared.token.Symbol.TheVariants as symbols
use Rattle.reading_tokens.specs.declared.token.Foreign.TheVariants as foreign
use Rattle.reading_trees.specs.declared.module.Declared.{Declared}
use Rattle.reading_trees.specs.declared.module.DeclaredOperator.{DeclaredOperator}
use Rattle.reading_trees.specs.declared.module.Unit.{Unit as ModuleUnit}
use Rattle.reading_trees.specs.declared.module.Unit.TheVariants.{Variables, Constants, Recursive, Define, Instance, Assume, Passed}
use Rattle.reading_trees.specs.declared.module.With.{With}
use Rattle.reading_trees.specs.declared.module.Made.{Made}
use Rattle.reading_trees.specs.declared.module.Module.{Module}
use Rattle.reading_trees.specs.Opens.{is_end}
use Rattle.reading_trees.specs.Trees.{Tree}
use Rattle.reading_trees.specs.Grammar.{Span, ◌⨟◌, nothing, never, either, token, some_token, word, sign, name, NamesText, Text, DefinitionRest}
use Rattle.reading_trees.specs.Fits.{Fits, Spells}

-- ---- units

abbrev pub DeclaredText : Declared → Span
DeclaredText d = token d.at (kinds.Name d.name)

-- one or more, with commas between them
abbrev pub DeclaredNamesText : List Declared → Span
DeclaredNamesText [] = never
DeclaredNamesText (d ∷ []) = DeclaredText d
DeclaredNamesText (d ∷ e ∷ ds) = DeclaredText d ⨟ sign symbols.Comma ⨟ DeclaredNamesText (e ∷ ds)

-- `_`
abbrev pub underscore : Span
underscore = some_token (kinds.Foreign foreign.Underscore)

-- so many `_` with commas between them
abbrev pub PlacesText : ℕ → Span
PlacesText zero = never
PlacesText (suc zero) = underscore
PlacesText (suc (suc n)) = underscore ⨟ sign symbols.Comma ⨟ PlacesText (suc n)

-- the same in parentheses, or nothing where there are none
abbrev pub MaybePlaces : ℕ → Span
MaybePlaces zero = nothing
MaybePlaces (suc n) = sign symbols.OpenParenthesis ⨟ PlacesText (suc n) ⨟ sign symbols.CloseParenthesis

-- `N` or `N(_, _)`
abbrev pub DeclaredOperatorText : DeclaredOperator → Span
DeclaredOperatorText d = token d.at (kinds.Name d.name) ⨟ MaybePlaces d.parameters

-- one or more, with commas between them
abbrev pub DeclaredOperatorsText : List DeclaredOperator → Span
DeclaredOperatorsText [] = never
DeclaredOperatorsText (d ∷ []) = DeclaredOperatorText d
DeclaredOperatorsText (d ∷ e ∷ ds) = DeclaredOperatorText d ⨟ sign symbols.Comma ⨟ DeclaredOperatorsText (e ∷ ds)

-- a name before an assumption or a theorem, if there is one
abbrev pub MaybeTitle : Span
MaybeTitle = either nothing (λ xs ys. (n : List ℕ) × (name n ⨟ sign symbols.Defined) xs ys)

abbrev pub variable_word : Span
variable_word = either (word words.Variable) (word words.Variables)

abbrev pub constant_word : Span
constant_word = either (word words.Constant) (word words.Constants)

abbrev pub recursive_word : Span
recursive_word = some_token (kinds.Foreign foreign.Recursive)

abbrev pub assume_word : Span
assume_word = either (word words.Assume) (either (word words.Assumption) (word words.Axiom))

abbrev pub theorem_word : Span
theorem_word = either (either (word words.Theorem) (word words.Lemma)) (either (word words.Proposition) (word words.Corollary))

-- some expression, whichever it is
abbrev pub SomeExpression : Span
SomeExpression xs ys = (e : Tree) × Spells e xs ys

-- the same where ranges play no part
abbrev pub SomeText : Span
SomeText xs ys = (e : Tree) × Text e xs ys

-- the name is none of these
abbrev pub IsNoneOf : List (List ℕ) → List ℕ → Type 0
IsNoneOf [] n = Unit {0}
IsNoneOf (m ∷ ms) n = (n ≢ m) × IsNoneOf ms n

-- a name that was not given before, `<-`, and what stands for it
abbrev pub WithText : List (List ℕ) → With → Span
WithText before w xs ys = IsNoneOf before w.name × (token w.at (kinds.Name w.name) ⨟ sign symbols.LeftArrow ⨟ Text w.by) xs ys

-- further ones, each with a comma before it
abbrev pub MoreWithsText : List (List ℕ) → List With → Span
MoreWithsText before [] = nothing
MoreWithsText before (w ∷ ws) = sign symbols.Comma ⨟ WithText before w ⨟ MoreWithsText (before ++ w.name ∷ []) ws

-- WITH and what it gives, or nothing
abbrev pub WithsText : List With → Span
WithsText [] = nothing
WithsText (w ∷ ws) = some_token (kinds.Foreign foreign.With) ⨟ WithText [] w ⨟ MoreWithsText (w.name ∷ []) ws

abbrev pub InstanceText : Made → Span
InstanceText m = token m.at (kinds.Name m.name) ⨟ sign symbols.Defined ⨟ some_token (kinds.Foreign foreign.Instance) ⨟ name m.module_name ⨟ WithsText m.withs

-- a unit, with what stands behind the title of a theorem
abbrev pub UnitTextBy : Span → ModuleUnit → Span
UnitTextBy some (Variables ds) = variable_word ⨟ DeclaredNamesText ds
UnitTextBy some (Constants ds) = constant_word ⨟ DeclaredNamesText ds
UnitTextBy some (Recursive ds) = recursive_word ⨟ DeclaredOperatorsText ds
UnitTextBy some (Define d) = token d.at (kinds.Name d.name) ⨟ DefinitionRest d.params d.form d.body
UnitTextBy some (Instance m) = InstanceText m
UnitTextBy some (Assume e) = assume_word ⨟ MaybeTitle ⨟ Text e
UnitTextBy some Passed = either (some_token kinds.Dashes) (theorem_word ⨟ MaybeTitle ⨟ some)

abbrev pub UnitText : ModuleUnit → Span
UnitText u = UnitTextBy SomeExpression u

abbrev pub UnitsTextBy : Span → List ModuleUnit → Span
UnitsTextBy some [] = nothing
UnitsTextBy some (u ∷ us) = UnitTextBy some u ⨟ UnitsTextBy some us

abbrev pub UnitsText : List ModuleUnit → Span
UnitsText us = UnitsTextBy SomeExpression us

abbrev pub WithsFit : List With → Type 0
WithsFit [] = Unit {0}
WithsFit (w ∷ ws) = Fits w.by × WithsFit ws

-- the ranges on the edges of what a unit defines, assumes, or gives an instance
abbrev pub UnitFits : ModuleUnit → Type 0
UnitFits (Define d) = Fits d.body
UnitFits (Instance m) = WithsFit m.withs
UnitFits (Assume e) = Fits e
UnitFits _ = Unit {0}

abbrev pub UnitsFit : List ModuleUnit → Type 0
UnitsFit [] = Unit {0}
UnitsFit (u ∷ us) = UnitFits u × UnitsFit us

-- ---- modules

abbrev pub ExtendsText : List (List ℕ) → Span
ExtendsText [] = nothing
ExtendsText (n ∷ ns) = word words.Extends ⨟ NamesText (n ∷ ns)

abbrev pub ModuleTextBy : Span → Module → Span
ModuleTextBy some m = some_token kinds.Dashes ⨟ word words.Module ⨟ token m.at (kinds.Name m.name) ⨟ some_token kinds.Dashes ⨟ ExtendsText m.extends ⨟ UnitsTextBy some m.units ⨟ some_token kinds.Equals ⨟ some_token kinds.End

abbrev pub ModuleText : Module → Span
ModuleText m = ModuleTextBy SomeExpression m

-- the laid tokens, all of them, spell the module
pub record SpellsModule (m : Module) (laid : List Laid) : Type 0 where
  pub text : ModuleText m laid []
  pub fits : UnitsFit m.units

-- ---- the list that is read

-- no element of the list is the End
abbrev pub NoLaidEnd : List Laid → Type 0
NoLaidEnd [] = Unit {0}
NoLaidEnd (Plain t ∷ xs) = (is_end t.kind ≡ false) × NoLaidEnd xs
NoLaidEnd (ListOpen b at ∷ xs) = NoLaidEnd xs
NoLaidEnd (ListItem b at ∷ xs) = NoLaidEnd xs
NoLaidEnd (ListClose at ∷ xs) = NoLaidEnd xs

-- The last element is the End, and no other is.
pub record LaidEndsOnce (laid : List Laid) : Type 0 where
  pub before : List Laid
  pub last : Token
  pub whole : laid ≡ before ++ Plain last ∷ []
  pub is_last : last.kind ≡ kinds.End
  pub once : NoLaidEnd before
