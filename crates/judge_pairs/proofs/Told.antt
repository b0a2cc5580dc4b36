-- What is told of Init, of an operator, of Next and of both, by what is decided of each.
use Rattle.std.proofs.Common.{◌≡◌, inl, inr, sym, subst, ◌∙◌, ℕ, List}
use Rattle.std.specs.Prelude.{Option, Some, slice_get}
use Rattle.values_core.specs.Data.{Val}
use Rattle.states_core.specs.States.{Values}
use Rattle.states_core.specs.declared.fault.Fault.{Fault}
use Rattle.names_terms.specs.declared.operator.Operator.{Operator}
use Rattle.names_terms.specs.declared.spec.Spec.{Spec}
use Rattle.names_terms.specs.Terms.{Term}
use Rattle.eval_meanings.specs.Contexts.{Context}
use Rattle.eval_meanings.specs.Evaluates.{max_evaluations}
use Rattle.actions_meanings.specs.declared.which.Which.TheVariants as which
use Rattle.actions_meanings.specs.Forms.{Setting}
use Rattle.actions_meanings.specs.Holds.{Holds}
use Rattle.actions_meanings.specs.Fails.{Fails}
use Rattle.steps_lines_defs.specs.Says.{Act, ActFails, ActHolds, BothHold, NextFails, NextHolds, at_states, setting}
use Rattle.judge_truth.specs.Truths.{IsTold, everything}
use Rattle.judge_truth.specs.declared.told.Told.{Told as Decided}
use Rattle.judge_truth.specs.declared.told.Told.TheVariants as decided
use Rattle.states_verdicts.specs.Tellings.{Tells}
use Rattle.states_verdicts.specs.declared.pairs.Told.{Told}
use Rattle.states_verdicts.specs.declared.pairs.Told.TheVariants as told
use Rattle.judge_pairs.specs.Filling.{BothFailThere}
use Rattle.judge_pairs.specs.Telling.{IsDecided, act_at, told_of}

pub decided_told : (g : Setting) (c : Context) (a : Term) (r : Decided) → IsTold g max_evaluations c a r → IsDecided g c a (told_of r)
decided_told g c a decided.Holds h = h
decided_told g c a decided.HoldsNot h = h
decided_told g c a (decided.Faults f) h = h

-- where it is known that both are of a state
pub with_state : (S P : Type 0) (Bad : Fault → Type 0) (r : Told) → S → Tells P Bad r → Tells (S × P) (λ f. S × Bad f) r
with_state S P Bad told.Holds x h = ((x, h.0), λ f y. h.1 f y.1)
with_state S P Bad told.Fails x h = (λ y. h.0 y.1, λ f y. h.1 f y.1)
with_state S P Bad (told.Faults f) x h = (x, h)

-- the operator of that number is this

same_operator : (o q : Operator) → ◌≡◌ {A = Option Operator} (Some o) (Some q) → o ≡ q
same_operator o q e = cc

module _ (g : Spec) (k : ℕ) (vs : List Val) (o : Operator) (is : slice_get g.operators k ≡ Some o) (s t : Values) where
  own_holds : ActHolds g (act_at k vs) s t → Holds (setting which.Action g) max_evaluations (at_states vs s t) o.body
  own_holds h = subst (λ (q : Operator). Holds (setting which.Action g) max_evaluations (at_states vs s t) q.body) (same_operator h.0 o (sym h.1 ∙ is)) h.2

  own_fails : (f : Fault) → ActFails g (act_at k vs) everything s t f → Fails (setting which.Action g) max_evaluations everything (at_states vs s t) o.body f
  own_fails f h = subst (λ (q : Operator). Fails (setting which.Action g) max_evaluations everything (at_states vs s t) q.body f) (same_operator h.0 o (sym h.1 ∙ is)) h.2

  pub act_told : (r : Told) → IsDecided (setting which.Action g) (at_states vs s t) o.body r → Tells (ActHolds g (act_at k vs) s t) (ActFails g (act_at k vs) everything s t) r
  act_told told.Holds h = ((o, is, h.0), λ f x. h.1 f (own_fails f x))
  act_told told.Fails h = (λ x. h.0 (own_holds x), λ f x. h.1 f (own_fails f x))
  act_told (told.Faults f) h = (o, is, h)

-- an operator and Next

module _ (g : Spec) (a : Act) (s t : Values) where
  pub holds_then : (r : Told) → Tells (ActHolds g a s t) (ActFails g a everything s t) told.Holds → Tells (NextHolds g s t) (NextFails g everything s t) r
      → Tells (BothHold g (Some a) s t) (BothFailThere g (Some a) s t) r
  holds_then told.Holds h n = ((h.0, n.0), quiet)
    where
      quiet : (f : Fault) → BothFailThere g (Some a) s t f → ⊥
      quiet f (inl x) = h.1 f x
      quiet f (inr x) = n.1 f x.1
  holds_then told.Fails h n = (λ x. n.0 x.1, quiet)
    where
      quiet : (f : Fault) → BothFailThere g (Some a) s t f → ⊥
      quiet f (inl x) = h.1 f x
      quiet f (inr x) = n.1 f x.1
  holds_then (told.Faults f) h n = inr (h.0, n)

  pub fails_so : Tells (ActHolds g a s t) (ActFails g a everything s t) told.Fails → Tells (BothHold g (Some a) s t) (BothFailThere g (Some a) s t) told.Fails
  fails_so h = (λ x. h.0 x.0, quiet)
    where
      quiet : (f : Fault) → BothFailThere g (Some a) s t f → ⊥
      quiet f (inl x) = h.1 f x
      quiet f (inr x) = h.0 x.0

  pub faults_so : (f : Fault) → Tells (ActHolds g a s t) (ActFails g a everything s t) (told.Faults f) → Tells (BothHold g (Some a) s t) (BothFailThere g (Some a) s t) (told.Faults f)
  faults_so f h = inl h
