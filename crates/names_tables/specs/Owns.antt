-- For the prover: how a definition uses itself, by the names of the program.
use Rattle.std.specs.Prelude.{◌==◌, ◌&&◌, not, ℕ, Bool, false, if◌then◌else◌, List, Option, Some, None}
use Rattle.reading_trees.specs.declared.expr.Definition.{Definition}
use Rattle.names_terms.specs.declared.operator.Own.{Own}
use Rattle.names_terms.specs.declared.operator.Own.TheVariants as owns
use Rattle.names_scopes.specs.declared.meant.Entry.{Entry}
use Rattle.names_scopes.specs.Mentions.{is_one_of, mentions}
use Rattle.names_scopes.specs.Scopes.{among}
use Rattle.names_uses.specs.StrictNames.{is_function}
use Rattle.names_uses.specs.UsedNames.{number_in}

abbrev pub is_that : ℕ → Option ℕ → Bool
is_that i None = false
is_that i (Some k) = k == i

-- the definition of that index is a function that its own body mentions; no parameter hides it, and its name means it
abbrev pub is_own_function : List Entry → ℕ → Definition → Bool
is_own_function names i d =
    is_function d.form && (not (is_one_of d.name d.params) && (mentions d.name d.body && is_that i (number_in (among names d.name))))

abbrev pub own_by : List Entry → Bool → ℕ → Definition → Own
own_by names itself i d = if is_own_function names i d then owns.Function else (if itself then owns.Itself else owns.Apart)
