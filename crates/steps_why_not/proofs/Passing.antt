-- The walk of a line's parts, one after the other.
use Rattle.std.proofs.Common.{◌≡◌, refl, sym, subst, arith, ℕ, ◌≤◌, ◌<◌, List, [], ◌∷◌, length, map, get_or}
use Rattle.std.specs.Prelude.{Option, None, Some, slice_get}
use Rattle.std.proofs.lemmas.Option.{slice_get_read}
use Rattle.values_core.specs.Data.{Val}
use Rattle.states_core.specs.States.{Values}
use Rattle.names_terms.specs.declared.operator.Operator.{Operator}
use Rattle.names_terms.specs.declared.spec.Spec.{Spec}
use Rattle.names_terms.specs.Terms.{Term}
use Rattle.eval_meanings.specs.Contexts.{Context, Places}
use Rattle.eval_meanings.specs.Evaluates.{max_evaluations}
use Rattle.actions_meanings.specs.declared.which.Which.TheVariants as which
use Rattle.actions_meanings.specs.Forms.{Setting}
use Rattle.logs_updates.specs.declared.line.Line.{Line}
use Rattle.steps_lines_defs.specs.Says.{Act, IsState, setting}
use Rattle.steps_lines_defs.specs.Asks.{act_of}
use Rattle.actions_form_laws.specs.Growth.{WholeStays}
use Rattle.steps_walk_laws.specs.Grounds.{OrderlyActionsAreGrounded}
use Rattle.actions_rows.specs.Rows.{before, setting as stage_setting}
use Rattle.actions_rows.specs.declared.stage.Stage.{Stage}
use Rattle.steps_walk.proofs.Loops.{Apart, apart}
use Rattle.steps_found_states.specs.Parts.{Parts}
use Rattle.steps_ready_defs.specs.Ready.{IsReadyLine, IsReadySpec}
use Rattle.steps_why_branches.specs.declared.why.Ended.{Ended}
use Rattle.steps_why_branches.specs.declared.why.Ended.TheVariants.{Passed}
use Rattle.steps_why_branches.specs.declared.sparing.Sparing.{Sparing}
use Rattle.steps_why_walk.specs.Walking.{EndsGrounded, IsOnward}
use Rattle.steps_why_walk.proofs.Loops.{AllSoFar, all_done, all_ground, all_start, all_step}
use Rattle.steps_why_not.specs.Results.{AreUpdated}
use Rattle.steps_why_not.specs.Lines.{AreBoth, standing}
use Rattle.steps_why_not.specs.Taken.{AreEnds}
use Rattle.steps_why_not.proofs.Telling.{line_grounded}

-- what stands at an index
pub defined : (ops items : List Operator) (k : ℕ) (o : Operator) → items ≡ ops → k < length ops → o ≡ get_or items k o → slice_get ops k ≡ Some o
defined ops items k o e l i = slice_get_read ops (length ops) k o refl l (subst (λ (xs : List Operator). o ≡ get_or xs k o) e i)

-- a stage, in the words of the specification
module _ (t : Stage) (g : Spec) (s : Values) (e : stage_setting t ≡ setting which.Action g) (k : t.state.now ≡ map Some s) (us vs : List Val) (m : us ≡ vs) (d : ℕ) (a : Term) where
  same_context : before t us ≡ standing vs s
  same_context i = record { slots = m i; now = k i; next = k i }

  pub stage_ground : (ns : List Ended) → EndsGrounded (setting which.Action g) d (standing vs s, a) ns → EndsGrounded (stage_setting t) d (before t us, a) ns
  stage_ground ns x = subst (λ (G : Setting). EndsGrounded G d (before t us, a) ns) (sym e) (subst (λ (c : Context). EndsGrounded (setting which.Action g) d (c, a) ns) (sym same_context) x)

  pub stage_onward : (sp : Sparing) (n : ℕ) (old new : List Ended) → IsOnward (stage_setting t) sp n d (before t us, a) old new → IsOnward (setting which.Action g) sp n d (standing vs s, a) old new
  stage_onward sp n old new x = subst (λ (c : Context). IsOnward (setting which.Action g) sp n d (c, a) old new) same_context (subst (λ (G : Setting). IsOnward G sp n d (before t us, a) old new) e x)

module _ (law : OrderlyActionsAreGrounded) (grows : WholeStays) (g : Spec) (ready : IsReadySpec g) (line : Line) (fits : IsReadyLine g line) (s : Values) (state : IsState (length g.variables) s)
    (p : Places) (a : AreUpdated line.updates s p) (sp : Sparing) (k : ℕ) (room : 1 ≤ k) (start : List Ended) (z : start ≡ Passed p None ∷ []) where
  abbrev G : Setting
  G = setting which.Action g

  abbrev d : ℕ
  d = max_evaluations

  abbrev then : Context × Term
  then = (standing [] s, g.next)

  -- Next alone

  module _ (i : act_of line.event ≡ None) where
    abbrev alone : Parts
    alone = then ∷ []

    are_alone : AreBoth g (act_of line.event) s alone
    are_alone = subst (λ (o : Option Act). AreBoth g o s alone) (sym i) refl

    next_apart : Apart alone 0 then
    next_apart = apart alone 0 then refl

    next_begins : AllSoFar G sp k d p alone 0 start
    next_begins = all_start G sp k d p alone start room z

    pub next_ground : EndsGrounded G d then start
    next_ground = all_ground G sp k d p alone 0 then start next_apart (line_grounded law grows g ready line fits s state p a alone are_alone) next_begins

    pub next_ends : (ends : List Ended) → IsOnward G sp k d then start ends → AreEnds sp g line s k p ends
    next_ends ends w = (alone, are_alone, all_done G sp k d p alone 1 ends (omega arith) (all_step G sp k d p alone 0 then start ends room next_apart w next_begins))

  -- an operator, and Next behind it

  module _ (j : ℕ) (vs : List Val) (i : act_of line.event ≡ Some (record { operator = j; arguments = vs })) (o : Operator) (is : slice_get g.operators j ≡ Some o) where
    abbrev first : Context × Term
    first = (standing vs s, o.body)

    abbrev both : Parts
    both = first ∷ then ∷ []

    are_both : AreBoth g (act_of line.event) s both
    are_both = subst (λ (q : Option Act). AreBoth g q s both) (sym i) (o, is, refl)

    act_apart : Apart both 0 first
    act_apart = apart both 0 first refl

    then_apart : Apart both 1 then
    then_apart = apart both 1 then refl

    act_begins : AllSoFar G sp k d p both 0 start
    act_begins = all_start G sp k d p both start room z

    pub act_ground : EndsGrounded G d first start
    act_ground = all_ground G sp k d p both 0 first start act_apart (line_grounded law grows g ready line fits s state p a both are_both) act_begins

    module _ (found : List Ended) (w : IsOnward G sp k d first start found) where
      act_goes : AllSoFar G sp k d p both 1 found
      act_goes = all_step G sp k d p both 0 first start found room act_apart w act_begins

      pub then_ground : EndsGrounded G d then found
      then_ground = all_ground G sp k d p both 1 then found then_apart (line_grounded law grows g ready line fits s state p a both are_both) act_goes

      pub both_ends : (ends : List Ended) → IsOnward G sp k d then found ends → AreEnds sp g line s k p ends
      both_ends ends v = (both, are_both, all_done G sp k d p both 2 ends (omega arith) (all_step G sp k d p both 1 then found ends room then_apart v act_goes))
