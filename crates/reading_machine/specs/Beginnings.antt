-- What the definition of a unit begins with, and texts with their ranges.
use Rattle.std.specs.Prelude.{ℕ, List, [], ◌++◌}
use Rattle.base_core.specs.declared.place.Place.{Place}
use Rattle.reading_trees.specs.declared.form.DefinitionForm.{DefinitionForm}
use Rattle.reading_trees.specs.declared.laid.Laid.{Laid}
use Rattle.reading_tokens.specs.declared.token.Kind.TheVariants as kinds
use Rattle.reading_trees.specs.Trees.{Tree}
use Rattle.reading_trees.specs.Grammar.{Span, ◌⨟◌, token, DefinitionRest}
use Rattle.reading_trees.specs.Fits.{Fits, Spells}

-- these laid tokens are the beginning of the text of an expression whose operators fit their ranges
pub record FittingBegun (read : List Laid) : Type 0 where
  pub tree : Tree
  pub rest : List Laid
  pub spelled : Spells tree (read ++ rest) []

-- a definition of a unit: its name and what stands behind it
abbrev pub DefinitionText : List ℕ → Place → List (List ℕ) → DefinitionForm → Tree → Span
DefinitionText n at ns form e = token at (kinds.Name n) ⨟ DefinitionRest ns form e

-- these laid tokens are the beginning of the text of a unit's definition; the ranges of operators play no part
pub record BegunDefinition (read : List Laid) : Type 0 where
  pub name : List ℕ
  pub at : Place
  pub parameters : List (List ℕ)
  pub form : DefinitionForm
  pub body : Tree
  pub rest : List Laid
  pub whole : DefinitionText name at parameters form body (read ++ rest) []

-- the same of a definition whose operators fit their ranges
pub record FittingBegunDefinition (read : List Laid) : Type 0 where
  pub name : List ℕ
  pub at : Place
  pub parameters : List (List ℕ)
  pub form : DefinitionForm
  pub body : Tree
  pub rest : List Laid
  pub whole : DefinitionText name at parameters form body (read ++ rest) []
  pub fits : Fits body
