-- Laws of evaluation, beside those of the definition's own crate.
use Rattle.std.specs.Prelude.{◌≡◌, ℕ, Result}
use Rattle.states_core.specs.declared.fault.Fault.{Fault}
use Rattle.names_terms.specs.Terms.{Term}
use Rattle.values_sets.specs.DescribedSets.{Described}
use Rattle.eval_meanings.specs.Contexts.{Context, Table}
use Rattle.eval_meanings.specs.Evaluates.{Describes}
use Rattle.eval_meanings.specs.Laws.{IsWithin}

-- a term keeps its description where more values are known
abbrev pub KeepsDescription : Type 0
KeepsDescription =
    (ops : Table) (d : ℕ) (c b : Context) (e : Term) → c.slots ≡ b.slots → IsWithin c.now b.now → IsWithin c.next b.next → (r : Result Described Fault) → Describes ops d c e r → Describes ops d b e r
