-- What is the same outcome: the same refusal, or specifications that differ by the numbers of definitions alone.
use Rattle.std.specs.Prelude.{◌≡◌, ◌≢◌, ℕ, List, [], Option, Some, None, Result, Ok, Err, slice_get}
use Rattle.names_terms.specs.declared.ids.DefId.{DefId}
use Rattle.names_terms.specs.declared.operator.Operator.{Operator}
use Rattle.names_terms.specs.declared.spec.Spec.{Spec}
use Rattle.twice_terms.specs.Alike.{Alike, AlikeRows, AlikeTerms}
use Rattle.twice_terms.specs.Laws.{AreOne}
use Rattle.names_resolving.specs.declared.fault.ResolveFault.{ResolveFault}

-- the operators of the steps without a line are alike, or neither names one
pub data AlikeSilent (ops all : List Operator) : Option DefId → Option DefId → Type 0 where
  none_silent : AlikeSilent ops all None None
  both_silent : (k j : DefId) → AlikeRows AreOne ops all k.0 j.0 → AlikeSilent ops all (Some k) (Some j)

-- Two specifications that differ by the numbers of their definitions alone. Each definition with a name, which stands in a module and in no LET, has one in the
-- other that is alike.
pub record AreAlike (s t : Spec) : Type 0 where
  pub files : s.files ≡ t.files
  pub variables : s.variables ≡ t.variables
  pub here : (k : ℕ) (o : Operator) → slice_get s.operators k ≡ Some o → o.name ≢ [] → (j : ℕ) × AlikeRows AreOne s.operators t.operators k j
  pub other : (j : ℕ) (o : Operator) → slice_get t.operators j ≡ Some o → o.name ≢ [] → (k : ℕ) × AlikeRows AreOne s.operators t.operators k j
  pub init : Alike AreOne s.operators t.operators s.init t.init
  pub next : Alike AreOne s.operators t.operators s.next t.next
  pub silent : AlikeSilent s.operators t.operators s.silent t.silent
  pub assumes : AlikeTerms AreOne s.operators t.operators s.assumes t.assumes
  pub unchecked : s.unchecked ≡ t.unchecked

abbrev pub IsSameOutcome : Result Spec ResolveFault → Result Spec ResolveFault → Type 0
IsSameOutcome (Ok s) (Ok t) = AreAlike s t
IsSameOutcome (Err f) (Err g) = f ≡ g
IsSameOutcome r s = ⊥
