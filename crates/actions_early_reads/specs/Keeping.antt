-- What is kept of definitions: what their bodies read.
use Rattle.std.specs.Prelude.{◌≡◌, ◌<◌, ◌≤◌, ◌&&◌, ◌==◌, ℕ, Bool, true, false, List, length, Some, slice_get, if◌then◌else◌}
use Rattle.std.specs.List.{AllByRecursion as Each}
use Rattle.names_terms.specs.declared.operator.Operator.{Operator}
use Rattle.names_terms.specs.Terms as term
use Rattle.names_terms.specs.Terms.{Term, Meaning}
use Rattle.names_term_parts.specs.Parts.{Part}
use Rattle.eval_meanings.specs.Contexts.{Table}
use Rattle.actions_meanings.specs.Reads.{VariableSet, Ends, in_none, read_among, reads}
use Rattle.actions_early_reads.specs.declared.reading.Reads.{Reads}
use Rattle.actions_early_reads.specs.Levels.{StaysBelow}
use Rattle.actions_early_reads.specs.Orderly.{IsSoundThroughout}
use Rattle.actions_early_reads.specs.Sets.{shown}

-- these are the variables that the term reads, at whatever number of levels suffices
abbrev pub IsRead : Table → Bool → Term → VariableSet → Type 0
IsRead ops b e R = (k : ℕ) → Ends ops k e → reads ops k b e ≡ R

-- what is kept of the first definitions of the table
pub record AreKept (ops : Table) (variables : ℕ) (kept : List Reads) : Type 0 where
  pub within : length kept ≤ length ops
  pub plain : (k : ℕ) (o : Operator) (r : Reads) → slice_get ops k ≡ Some o → slice_get kept k ≡ Some r → IsSoundThroughout ops variables o.body → IsRead ops false o.body (shown r.plain)
  pub primed : (k : ℕ) (o : Operator) (r : Reads) → slice_get ops k ≡ Some o → slice_get kept k ≡ Some r → IsSoundThroughout ops variables o.body → IsRead ops true o.body (shown r.primed)

-- the term uses definitions below n alone or is constant, is sound throughout, and is at most k levels high
pub record Fits (ops : Table) (variables n k : ℕ) (e : Term) : Type 0 where
  pub below : StaysBelow n e
  pub orderly : IsSoundThroughout ops variables e
  pub ends : Ends ops k e

-- what a part reads
abbrev pub reads_at : Table → ℕ → Part → VariableSet
reads_at ops k p = reads ops k p.primed p.term

-- Where what is kept is that of the definitions that the parts use, these are the variables that they read.
abbrev pub TellsAll : List Reads → List Part → VariableSet → Type 0
TellsAll kept ps R = (ops : Table) (variables : ℕ) → AreKept ops variables kept → variables ≤ 64 → (k : ℕ) → Each (λ p. Fits ops variables (length kept) k p.term) ps → read_among (reads_at ops k) ps ≡ R

abbrev pub TellsReads : List Reads → Bool → Term → VariableSet → Type 0
TellsReads kept b e R = (ops : Table) (variables : ℕ) → AreKept ops variables kept → variables ≤ 64 → (k : ℕ) → Fits ops variables (length kept) k e → reads ops k b e ≡ R

-- what a row reads itself, or by the definition that it uses
abbrev pub TellsOwn : List Reads → Bool → Meaning → VariableSet → Type 0
TellsOwn kept b (term.Variable x) R = x < 64 → R ≡ (λ y. b && (x == y))
TellsOwn kept b (term.Use k ts) R = (r : Reads) → slice_get kept k ≡ Some r → R ≡ shown (if b then r.primed else r.plain)
TellsOwn kept b m R = R ≡ in_none
