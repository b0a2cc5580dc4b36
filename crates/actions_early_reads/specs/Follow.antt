-- What stands behind a name.
use Rattle.std.specs.Prelude.{◌≡◌, ◌<◌, ◌≤◌, ℕ, Option, Some, None}
use Rattle.names_terms.specs.declared.level.Level.TheVariants as levels
use Rattle.names_terms.specs.Terms as term
use Rattle.names_terms.specs.Terms.{Term, Placed, Meaning}
use Rattle.names_term_parts.specs.Slots.{UsesSmaller}
use Rattle.eval_meanings.specs.Contexts.{Table}
use Rattle.eval_meanings.specs.Unchanged.{behind}
use Rattle.actions_early_reads.specs.Levels.{StaysBelow}

-- the term is a name of level 1 without arguments, of the definition of that number, which is below a bound
abbrev pub IsName : ℕ → Term → ℕ → Type 0
IsName bound (Placed at levels.State (term.Use k term.NoTerms)) n = (k ≡ n) × (n < bound)
IsName bound e n = ⊥

abbrev pub IsBody : ℕ → Term → Option ℕ → Type 0
IsBody bound e (Some n) = IsName bound e n
IsBody bound e None = (n : ℕ) → IsName bound e n → ⊥

-- from a term that uses definitions below a bound or is constant, following names as often as there are definitions or more
abbrev pub IsBehind : Table → ℕ → Term → ℕ → Term → Type 0
IsBehind ops bound e number found =
    UsesSmaller ops → StaysBelow bound e → (often m : ℕ) → bound ≤ often → ((behind ops often m e).1 ≡ found) × (number ≤ bound) × StaysBelow number found
