-- That an outcome exists: of a term that can be read, of its description, and of the listing of a described set. Want of memory is no outcome.
use Rattle.std.specs.Prelude.{◌≡◌, ℕ, Result, Err}
use Rattle.values_core.specs.Data.{Val}
use Rattle.values_core.specs.declared.fault.OpFault.{OpFault}
use Rattle.values_core.specs.declared.fault.OpFault.TheVariants.{NoMemory}
use Rattle.states_core.specs.declared.fault.Fault.{Fault}
use Rattle.names_terms.specs.Terms.{Term}
use Rattle.values_sets.specs.DescribedSets.{Described}
use Rattle.values_sets.specs.Listings.{Lists}
use Rattle.values_sets.specs.Soundness.{IsSound}
use Rattle.eval_meanings.specs.Contexts.{Context, Table}
use Rattle.eval_meanings.specs.Evaluates.{Evaluates, Describes}
use Rattle.eval_meanings.specs.Reads.{Reads}
use Rattle.eval_some_outcome_laws.specs.MadeOfValues.{IsMadeOfValues}
use Rattle.eval_some_outcome_laws.specs.OfValues.{IsOfValues}

-- a sound set of values is listed, or it is refused for what it is
abbrev pub HasSomeListing : Type 0
HasSomeListing = (d : Described) → IsSound d → IsMadeOfValues d → (r : Result Val OpFault) × Lists d r × ¬ (r ≡ Err NoMemory)

-- a term that can be read has an outcome
abbrev pub HasSomeOutcome : Type 0
HasSomeOutcome = (ops : Table) (d : ℕ) (c : Context) (e : Term) → IsOfValues ops c e → Reads ops d c e → (r : Result Val Fault) × Evaluates ops d c e r

-- and a description
abbrev pub HasSomeDescription : Type 0
HasSomeDescription = (ops : Table) (d : ℕ) (c : Context) (e : Term) → IsOfValues ops c e → Reads ops d c e → (r : Result Described Fault) × Describes ops d c e r
