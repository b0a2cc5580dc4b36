-- Stages, of which each stops with a refusal or lets pass.
use Rattle.std.specs.Prelude.{◌≡◌, Result, Err}
use Rattle.names_terms.specs.declared.spec.Spec.{Spec}
use Rattle.names_resolving.specs.declared.fault.ResolveFault.{ResolveFault}
use Rattle.twice_tables.specs.Outcome.{IsSameOutcome}

-- a stage that stops with a fault, or passes to what is next
pub data Chain (Fault : ResolveFault → Type 0) (Passes : Type 0) (Next : Result Spec ResolveFault → Type 0) : Result Spec ResolveFault → Type 0 where
  stops : (f : ResolveFault) → Fault f → Chain Fault Passes Next (Err f)
  passes : (r : Result Spec ResolveFault) → Passes → Next r → Chain Fault Passes Next r

-- two runs of one stage: either stops with the one fault of it, or both pass
pub record Agrees (Fault More : ResolveFault → Type 0) (Passes Goes : Type 0) : Type 0 where
  pub one : (f g : ResolveFault) → Fault f → More g → f ≡ g
  pub left : (f : ResolveFault) → Fault f → Goes → ⊥
  pub right : (g : ResolveFault) → Passes → More g → ⊥

pub chain_same : (Fault More : ResolveFault → Type 0) (Passes Goes : Type 0) (Next Then : Result Spec ResolveFault → Type 0) → Agrees Fault More Passes Goes → (Passes → Goes → (r s : Result Spec ResolveFault) → Next r → Then s → IsSameOutcome r s) → (r s : Result Spec ResolveFault) → Chain Fault Passes Next r → Chain More Goes Then s → IsSameOutcome r s
chain_same Fault More Passes Goes Next Then a h _ _ (stops f x) (stops g y) = a.one f g x y
chain_same Fault More Passes Goes Next Then a h _ s (stops f x) (passes _ y z) = absurd (a.left f x y)
chain_same Fault More Passes Goes Next Then a h r _ (passes _ x w) (stops g y) = absurd (a.right g x y)
chain_same Fault More Passes Goes Next Then a h r s (passes _ x w) (passes _ y z) = h x y r s w z
