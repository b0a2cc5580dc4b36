-- How a definition of a LET uses itself.
use Rattle.std.specs.Prelude.{ℕ, if◌then◌else◌, List}
use Rattle.reading_trees.specs.declared.form.DefinitionForm.{DefinitionForm}
use Rattle.reading_trees.specs.declared.form.DefinitionForm.TheVariants as forms
use Rattle.reading_trees.specs.Trees.{Tree}
use Rattle.names_terms.specs.declared.operator.Own.{Own}
use Rattle.names_terms.specs.declared.operator.Own.TheVariants as owns
use Rattle.names_scopes.specs.Mentions.{is_one_of, mentions}

-- a function `N[B] == E` may, by its name; a parameter of its name hides it
abbrev pub own_of : DefinitionForm → List ℕ → List (List ℕ) → Tree → Own
own_of forms.Operator n ps e = owns.Apart
own_of forms.Constant n ps e = owns.Apart
own_of forms.Function n ps e = if is_one_of n ps then owns.Apart else (if mentions n e then owns.Function else owns.Apart)
