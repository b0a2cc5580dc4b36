-- A text of laid tokens spells one tree, and the reader reads it.
use Rattle.std.specs.Prelude.{◌≡◌, ℕ, List, [], ◌∷◌}
use Rattle.base_core.specs.declared.place.Place.{Place}
use Rattle.reading_trees.specs.declared.form.DefinitionForm.{DefinitionForm}
use Rattle.reading_trees.specs.declared.laid.Laid.{Laid}
use Rattle.reading_trees.specs.declared.laid.Laid.TheVariants.{Plain}
use Rattle.reading_tokens.specs.declared.token.Kind.{Kind}
use Rattle.reading_tokens.specs.declared.token.Kind.TheVariants as kinds
use Rattle.reading_tokens.specs.declared.token.Symbol.TheVariants as symbols
use Rattle.reading_trees.specs.Trees.{Tree}
use Rattle.reading_trees.specs.Fits.{Fits, Spells}
use Rattle.reading_trees.specs.Grammar.{◌⨟◌, token, DefinitionRest}
use Rattle.reading_machine.specs.declared.frame.Mode.TheVariants as mode
use Rattle.reading_machine.specs.declared.frame.Scope.TheVariants as scopes
use Rattle.reading_machine.specs.Machine.{EndsAt, EndsDefinitionAt, run}

-- a name, a word, a token outside the profile, a comma, dashes, equals signs and the End: where no row is open, none of them goes on with an
-- expression
abbrev pub EndsKind : Kind → Type 0
EndsKind (kinds.Name n) = Unit {0}
EndsKind (kinds.Word w) = Unit {0}
EndsKind (kinds.Foreign f) = Unit {0}
EndsKind (kinds.Symbol symbols.Comma) = Unit {0}
EndsKind kinds.Dashes = Unit {0}
EndsKind kinds.Equals = Unit {0}
EndsKind kinds.End = Unit {0}
EndsKind _ = ⊥

-- a token that stands behind the text of an expression or of a unit's definition, and is no part of it
abbrev pub EndsText : Laid → Type 0
EndsText (Plain t) = EndsKind t.kind
EndsText _ = ⊥

-- what is spelled up to such a token is read up to it
abbrev pub SpelledRead : Type 0
SpelledRead = (xs rest : List Laid) (x : Laid) (e : Tree) → Spells e xs (x ∷ rest) → EndsText x → run xs [] mode.Want ≡ EndsAt e (x ∷ rest)

-- the same of a unit's definition
abbrev pub DefinitionRead : Type 0
DefinitionRead =
    (xs rest : List Laid) (x : Laid) (n : List ℕ) (p : Place) (ns : List (List ℕ)) (form : DefinitionForm) (e : Tree) → (token p (kinds.Name n) ⨟ DefinitionRest ns form e) xs (x ∷ rest) → Fits e → EndsText x → run xs [] (mode.DefinitionName scopes.Unit) ≡ EndsDefinitionAt n p ns form e (x ∷ rest)

-- the laid tokens from one point to another spell one tree
abbrev pub OneTreeBetween : Type 0
OneTreeBetween = (from behind : List Laid) (s t : Tree) → Spells s from behind → Spells t from behind → s ≡ t
