-- That the values which stand in a specification are values.
use Rattle.std.specs.Prelude.{◌≡◌, ℕ, All, Some, slice_get}
use Rattle.names_terms.specs.declared.operator.Operator.{Operator}
use Rattle.names_terms.specs.declared.spec.Spec.{Spec}
use Rattle.names_terms.specs.Lists.{terms_list}
use Rattle.eval_meanings.specs.Contexts.{Table}
use Rattle.eval_meanings.specs.Laws.{KnowsValues}

-- in the body of each definition
abbrev pub KnowBodies : Table → Type 0
KnowBodies ops = (k : ℕ) (o : Operator) → slice_get ops k ≡ Some o → KnowsValues o.body

pub record KnowsSpecification (s : Spec) : Type 0 where
  pub init : KnowsValues s.init
  pub next : KnowsValues s.next
  pub bodies : KnowBodies s.operators
  pub assumes : All KnowsValues (terms_list s.assumes)
