-- What the reader reads is spelled so: where it ends before the tokens `rest` with a tree, the tokens from the beginning up to there
-- spell that tree, and the ranges of its operators fit.
use Rattle.std.specs.Prelude.{◌≡◌, ℕ, List, []}
use Rattle.base_core.specs.declared.place.Place.{Place}
use Rattle.reading_trees.specs.declared.form.DefinitionForm.{DefinitionForm}
use Rattle.reading_trees.specs.declared.laid.Laid.{Laid}
use Rattle.reading_tokens.specs.declared.token.Kind.TheVariants as kinds
use Rattle.reading_trees.specs.Fits.{Fits, Spells}
use Rattle.reading_trees.specs.Grammar.{◌⨟◌, token, DefinitionRest}
use Rattle.reading_trees.specs.Trees.{Tree}
use Rattle.reading_machine.specs.declared.frame.Mode.TheVariants as mode
use Rattle.reading_machine.specs.declared.frame.Scope.TheVariants as scopes
use Rattle.reading_machine.specs.Machine.{EndsAt, EndsDefinitionAt, run}

-- what is read is spelled so
abbrev pub ReadSpells : Type 0
ReadSpells = (xs rest : List Laid) (e : Tree) → run xs [] mode.Want ≡ EndsAt e rest → Spells e xs rest

-- the same of a unit's definition: its name at its place, its parameters, and its body or the function that it defines
abbrev pub DefinitionSpells : Type 0
DefinitionSpells =
    (xs rest : List Laid) (n : List ℕ) (p : Place) (ns : List (List ℕ)) (form : DefinitionForm) (e : Tree) → run xs [] (mode.DefinitionName scopes.Unit) ≡ EndsDefinitionAt n p ns form e rest → (token p (kinds.Name n) ⨟ DefinitionRest ns form e) xs rest × Fits e
