-- The definition whose body stands behind a name.
use Rattle.std.specs.Prelude.{◌≡◌, ◌<◌, ℕ, Some, None, slice_get}
use Rattle.names_terms.specs.declared.operator.Operator.{Operator}
use Rattle.names_terms.specs.Terms.{Term}
use Rattle.eval_meanings.specs.Contexts.{Table}
use Rattle.actions_early_reads.specs.Follow.{IsBehind}

pub record IsNamed (ops : Table) (bound : ℕ) (e : Term) (n : ℕ) : Type 0 where
  pub within : n < bound
  pub there : slice_get ops n ≡ None → ⊥
  pub body : (o : Operator) → slice_get ops n ≡ Some o → IsBehind ops bound e n o.body
