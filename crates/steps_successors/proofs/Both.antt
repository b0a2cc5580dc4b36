-- What an operator, where there is one, and then Next find.
use Rattle.std.proofs.Common.{◌≡◌, ◌⊎◌, inl, inr, refl, sym, ◌∙◌, subst, ℕ, ◌<◌, List, [], length, get_or}
use Rattle.std.specs.Prelude.{Contains, Option, Some, None, Result, Ok, Err, slice_get}
use Rattle.std.proofs.lemmas.Option.{slice_get_read}
use Rattle.values_core.specs.Data.{Val}
use Rattle.states_core.specs.States.{Values}
use Rattle.states_core.specs.declared.fault.Fault.{Fault}
use Rattle.names_terms.specs.declared.operator.Operator.{Operator}
use Rattle.names_terms.specs.declared.spec.Spec.{Spec}
use Rattle.eval_meanings.specs.declared.fault.EvalFault.{EvalFault}
use Rattle.eval_meanings.specs.declared.fault.EvalFault.TheVariants.{Refused, NoMemory}
use Rattle.eval_meanings.specs.Contexts.{Places}
use Rattle.eval_meanings.specs.Evaluates.{max_evaluations}
use Rattle.eval_meanings.specs.Outcomes.{fault}
use Rattle.actions_meanings.specs.declared.which.Which.TheVariants as which
use Rattle.actions_meanings.specs.Reads.{VariableSet}
use Rattle.actions_meanings.specs.Outcomes.{Fixes}
use Rattle.logs_updates.specs.declared.update.See.{See}
use Rattle.steps_lines_defs.specs.Says.{ActFixes, ActHolds, BothFail, BothHold, IsState, NextFails, NextHolds, setting}
use Rattle.actions_form_laws.specs.Growth.{WholeStays}
use Rattle.steps_walk_laws.specs.Grounds.{OrderlyActionsAreGrounded}
use Rattle.steps_found_states.specs.Walks.{FailsOf, HoldsOf}
use Rattle.steps_found_states.specs.Grounds.{Grounds}
use Rattle.steps_found_states.proofs.Finding.{found_then, meets_same}
use Rattle.steps_walk.specs.Walking.{Grounded, IsWalked}
use Rattle.steps_ready_defs.specs.Ready.{IsReadySpec, IsReadyAct, IsReadyCall}
use Rattle.steps_successors.specs.Taken.{AllGrounded, AllWalked, BothFound, CanStart, IsStart, LeavesBoth, act_at, standing}
use Rattle.steps_successors.proofs.Grounding.{body_grounds, next_grounds}

same_operator : (o q : Operator) → ◌≡◌ {A = Option Operator} (Some o) (Some q) → o ≡ q
same_operator o q e = cc

-- what stands at an index
pub defined : (ops : List Operator) (items : List Operator) (k : ℕ) (o : Operator) → items ≡ ops → k < length ops → o ≡ get_or items k o → slice_get ops k ≡ Some o
defined ops items k o e l i = slice_get_read ops (length ops) k o refl l (subst (λ (xs : List Operator). o ≡ get_or xs k o) e i)

module _ (law : OrderlyActionsAreGrounded) (grows : WholeStays) (g : Spec) (ready : IsReadySpec g) (s : Values) (state : IsState (length g.variables) s) (sees : List See) (p : Places) where
  -- Next alone

  pub next_grounded : CanStart g sees None p → Grounded (setting which.Action g) max_evaluations sees p (standing [] s) g.next
  next_grounded h = let b = h.1 in (h.0, next_grounds g ready law grows s state sees h.0 p b.long b.fills b.agrees)

  pub next_found : (r : Result (List Places) EvalFault) → IsWalked (setting which.Action g) max_evaluations sees p (standing [] s) g.next r → BothFound g s sees None p r
  next_found r w B b = w B (next_grounds g ready law grows s state sees B p b.long b.fills b.agrees)

  module _ (k : ℕ) (vs : List Val) (o : Operator) (is : slice_get g.operators k ≡ Some o) where
    the_one : (q : Operator) → slice_get g.operators k ≡ Some q → q ≡ o
    the_one q e = same_operator q o (sym e ∙ is)

    ready_call : (B : VariableSet) → IsReadyAct g B (act_at k vs) → IsReadyCall g B vs o
    ready_call B a = subst (λ (q : Operator). IsReadyCall g B vs q) (the_one a.0 a.1) a.2

    call_of : (B : VariableSet) → IsStart g sees (Some (act_at k vs)) B p → IsReadyCall g B vs o
    call_of B b = ready_call B (b.acts (act_at k vs) refl)

    body_ground : (B : VariableSet) → IsStart g sees (Some (act_at k vs)) B p → Grounds (setting which.Action g) max_evaluations sees B p (standing vs s) o.body
    body_ground B b = body_grounds g ready law grows s state sees B p b.long b.fills b.agrees k o vs is (call_of B b)

    pub body_grounded : CanStart g sees (Some (act_at k vs)) p → Grounded (setting which.Action g) max_evaluations sees p (standing vs s) o.body
    body_grounded h = (h.0, body_ground h.0 h.1)

    -- a fault of the operator
    pub body_refused : (f : EvalFault) → IsWalked (setting which.Action g) max_evaluations sees p (standing vs s) o.body (Err f) → BothFound g s sees (Some (act_at k vs)) p (Err f)
    body_refused (Refused kind at) w B b =
        meets_same sees p (FailsOf (setting which.Action g) max_evaluations B (standing vs s) o.body) (BothFail g (Some (act_at k vs)) B s) (fault kind at) (λ t c h. inl (o, is, h)) (w B (body_ground B b))
    body_refused NoMemory w B b = tt

    module _ (qs : List Places) (w : IsWalked (setting which.Action g) max_evaluations sees p (standing vs s) o.body (Ok qs)) where
      next_ground : (B : VariableSet) → IsStart g sees (Some (act_at k vs)) B p → (D : VariableSet) → Fixes (setting which.Action g) o.body B D → (q : Places) → Contains qs q
          → Grounds (setting which.Action g) max_evaluations sees D q (standing [] s) g.next
      next_ground B b D x q m =
          let f = w B (body_ground B b) in
          next_grounds g ready law grows s state sees D q ((f.further q m).0 ∙ b.long) (f.filled q D m x) (f.agree q m)

      -- from each place that the operator finds Next can be walked
      pub each_grounded : CanStart g sees (Some (act_at k vs)) p → AllGrounded (setting which.Action g) max_evaluations sees qs (standing [] s) g.next
      each_grounded h q m = let c = call_of h.0 h.1 in (c.form.0, next_ground h.0 h.1 c.form.0 c.form.1 q m)

      -- and what is found then is what both find
      pub both_found : (r : Result (List Places) EvalFault) → AllWalked (setting which.Action g) max_evaluations sees qs (standing [] s) g.next r → BothFound g s sees (Some (act_at k vs)) p r
      both_found r each B b =
          let c = call_of B b in
          found_then sees p (Fixes (setting which.Action g) o.body B) (LeavesBoth g (Some (act_at k vs)) B) (λ D. Fixes (setting which.Action g) g.next D)
          (HoldsOf (setting which.Action g) max_evaluations (standing vs s) o.body) (NextHolds g s) (BothHold g (Some (act_at k vs)) s)
          (FailsOf (setting which.Action g) max_evaluations B (standing vs s) o.body) (BothFail g (Some (act_at k vs)) B s) (λ D. NextFails g D s) qs
          (λ C y. (y.0, own_fixes y.0 y.1, y.2)) (λ t h m. ((o, is, h), m)) (λ t h. (own_holds t h.0, h.1)) (λ t f h. own_fails t f h) (λ t f D h x m. inr ((o, is, h), (D, (o, is, x), m)))
          c.form.0 c.form.1 (w B (body_ground B b)) r (λ D x. each D (λ q m. next_ground B b D x q m))
        where
          own_fixes : (D : VariableSet) → ActFixes g (act_at k vs) B D → Fixes (setting which.Action g) o.body B D
          own_fixes D y = subst (λ (q : Operator). Fixes (setting which.Action g) q.body B D) (the_one y.0 y.1) y.2

          own_holds : (t : Values) → ActHolds g (act_at k vs) s t → HoldsOf (setting which.Action g) max_evaluations (standing vs s) o.body t
          own_holds t y = subst (λ (q : Operator). HoldsOf (setting which.Action g) max_evaluations (standing vs s) q.body t) (the_one y.0 y.1) y.2

          own_fails : (t : Values) (f : Fault) → BothFail g (Some (act_at k vs)) B s t f
              → FailsOf (setting which.Action g) max_evaluations B (standing vs s) o.body t f
              ⊎ (HoldsOf (setting which.Action g) max_evaluations (standing vs s) o.body t × ((D : VariableSet) × Fixes (setting which.Action g) o.body B D × NextFails g D s t f))
          own_fails t f (inl y) = inl (subst (λ (q : Operator). FailsOf (setting which.Action g) max_evaluations B (standing vs s) q.body t f) (the_one y.0 y.1) y.2)
          own_fails t f (inr y) = inr (own_holds t y.0, (y.1.0, own_fixes y.1.0 y.1.1, y.1.2))
