-- The walk of Init from nothing.
use Rattle.std.proofs.Common.{◌≡◌, refl, sym, ◌∙◌, subst, List, [], length}
use Rattle.std.specs.Prelude.{None, Result, replicate}
use Rattle.names_terms.specs.declared.spec.Spec.{Spec}
use Rattle.eval_meanings.specs.declared.fault.EvalFault.{EvalFault}
use Rattle.eval_meanings.specs.Contexts.{Context, Places}
use Rattle.eval_meanings.specs.Evaluates.{max_evaluations}
use Rattle.actions_meanings.specs.declared.which.Which.TheVariants as which
use Rattle.actions_meanings.specs.Reads.{in_none}
use Rattle.logs_updates.specs.declared.update.See.{See}
use Rattle.steps_lines_defs.specs.Says.{setting}
use Rattle.actions_rows.specs.Rows.{before, setting as stage_setting}
use Rattle.actions_rows.specs.declared.stage.Stage.{Stage}
use Rattle.steps_walk.specs.Walking.{Grounded, IsWalked}
use Rattle.actions_form_laws.specs.Growth.{WholeStays}
use Rattle.steps_walk_laws.specs.Grounds.{OrderlyActionsAreGrounded}
use Rattle.steps_found_states.specs.Laws.{EmptyPlacesFillNone}
use Rattle.steps_found_states.specs.Grounds.{Grounds}
use Rattle.steps_ready_defs.specs.Ready.{IsReadySpec}
use Rattle.steps_successors.proofs.Completing.{empty_values}
use Rattle.steps_successors.proofs.Giving.{InitFound}
use Rattle.steps_successors.proofs.Grounding.{init_grounds}
use Rattle.steps_successors.proofs.Staging.{of_stage, to_stage}

module _ (law : OrderlyActionsAreGrounded) (grows : WholeStays) (empty : EmptyPlacesFillNone) (g : Spec) (ready : IsReadySpec g) (sees : List See) (t : Stage) (p : Places) (m : p ≡ replicate (length g.variables) None) (us : List See)
    (e : stage_setting t ≡ setting which.Init g) (k : t.state.now ≡ p) (h : t.sees.now ≡ us) (i : us ≡ sees) where
  at_first : Context
  at_first = record { slots = []; now = replicate (length g.variables) None; next = replicate (length g.variables) None }

  state_is : t.state.now ≡ replicate (length g.variables) None
  state_is = k ∙ m

  context_is : before t [] ≡ at_first
  unfolding at_first
  context_is j = record { slots = []; now = state_is j; next = state_is j }

  ground : Grounds (setting which.Init g) max_evaluations sees in_none (replicate (length g.variables) None) at_first g.init
  unfolding at_first
  ground = let f = empty (length g.variables) sees in init_grounds g ready law grows sees at_first refl (empty_values (length g.variables)) f.0 f.1

  pub init_grounded : Grounded (stage_setting t) max_evaluations t.sees.now p (before t []) g.init
  init_grounded = subst (λ (q : Places). Grounded (stage_setting t) max_evaluations t.sees.now q (before t []) g.init) (sym m)
      (to_stage (setting which.Init g) max_evaluations sees at_first (λ G ss c. Grounded G max_evaluations ss (replicate (length g.variables) None) c g.init) (stage_setting t) t.sees.now (before t []) e (h ∙ i) context_is (in_none, ground))

  pub init_found : (r : Result (List Places) EvalFault) → IsWalked (stage_setting t) max_evaluations t.sees.now p (before t []) g.init r → InitFound g sees r
  unfolding at_first
  init_found r w = of_stage (setting which.Init g) max_evaluations sees at_first (λ G ss c. IsWalked G max_evaluations ss (replicate (length g.variables) None) c g.init r) (stage_setting t) t.sees.now (before t []) e (h ∙ i) context_is
      (subst (λ (q : Places). IsWalked (stage_setting t) max_evaluations t.sees.now q (before t []) g.init r) m w) in_none ground
