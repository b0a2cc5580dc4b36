-- Laws of what actions leave fixed.
use Rattle.std.specs.Prelude.{◌≡◌, length}
use Rattle.names_terms.specs.Terms.{Term}
use Rattle.names_term_parts.specs.Slots.{MentionsBelow, UsesSmaller}
use Rattle.actions_meanings.specs.Forms.{Setting}
use Rattle.actions_meanings.specs.Reads.{VariableSet}
use Rattle.actions_meanings.specs.Outcomes.{FormOutcome, IsOutcome}
use Rattle.actions_early_reads.specs.Orderly.{IsSoundThroughout}

-- at whatever number of levels, a term has one outcome
abbrev pub HasOneFormOutcome : Type 0
HasOneFormOutcome = (g : Setting) (a : Term) (B : VariableSet) (r q : FormOutcome) → IsSoundThroughout g.table g.variables a → IsOutcome g a B r → IsOutcome g a B q → r ≡ q

-- where definitions use those of smaller numbers alone, a term has an outcome
abbrev pub HasFormOutcome : Type 0
HasFormOutcome = (g : Setting) (a : Term) (B : VariableSet) → UsesSmaller g.table → MentionsBelow (length g.table) a → (r : FormOutcome) × IsOutcome g a B r
