-- A program with its configuration has one outcome: laws.
use Rattle.std.specs.Prelude.{ℕ, List, Option, Result}
use Rattle.reading_trees.specs.declared.config.Config.{Config}
use Rattle.reading_trees.specs.declared.module.Program.{Program}
use Rattle.names_terms.specs.declared.spec.Spec.{Spec}
use Rattle.names_resolving.specs.declared.fault.ResolveFault.{ResolveFault}
use Rattle.names_resolving.specs.Resolved.{IsOneForm, Resolved}
use Rattle.twice_tables.specs.Outcome.{IsSameOutcome}

-- A program with its configuration comes to one refusal, or to specifications that differ by the numbers of definitions alone.
abbrev pub HasOneOutcome : Type 0
HasOneOutcome =
    (p : Program) (c : Config) (silent : Option (List ℕ)) → IsOneForm c → (r s : Result Spec ResolveFault) → Resolved p c silent r → Resolved p c silent s → IsSameOutcome r s
