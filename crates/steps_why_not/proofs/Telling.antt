-- What is told of each branch of a line.
use Rattle.std.proofs.Common.{◌≡◌, sym, ◌∙◌, subst, [], ◌∷◌, length, map}
use Rattle.std.specs.Prelude.{Option, None, Some}
use Rattle.std.specs.List.{AllByRecursion}
use Rattle.states_core.specs.States.{Values}
use Rattle.names_terms.specs.declared.operator.Operator.{Operator}
use Rattle.names_terms.specs.declared.spec.Spec.{Spec}
use Rattle.eval_meanings.specs.Contexts.{Places}
use Rattle.eval_meanings.specs.Evaluates.{max_evaluations}
use Rattle.eval_meanings.specs.Laws.{ReadsValues}
use Rattle.actions_meanings.specs.declared.which.Which.TheVariants as which
use Rattle.actions_meanings.specs.Forms.{Setting}
use Rattle.logs_updates.specs.declared.line.Line.{Line}
use Rattle.steps_lines_defs.specs.Says.{Act, BothHold, IsState, setting}
use Rattle.steps_lines_defs.specs.Asks.{act_of, updated}
use Rattle.actions_meanings.specs.Filled.{Completes, at_next}
use Rattle.actions_form_laws.specs.Growth.{WholeStays}
use Rattle.steps_walk_laws.specs.Grounds.{OrderlyActionsAreGrounded}
use Rattle.steps_found_states.specs.Parts.{Parts}
use Rattle.steps_found_states.specs.Walks.{HoldsOf}
use Rattle.steps_found_states.proofs.Finding.{completes_less}
use Rattle.steps_ready_defs.specs.Ready.{IsReadyLine, IsReadySpec}
use Rattle.steps_why_branches.specs.Traces.{End, ended, passed}
use Rattle.steps_why_branches.specs.Founds.{AllHold}
use Rattle.steps_why_branches.specs.Told.{EndSaysAll, KnowsAll, filled_at}
use Rattle.steps_why_branches.specs.PassedOver.{nothing}
use Rattle.steps_why_branches.proofs.EachSays.{none_spared, parts_say}
use Rattle.steps_why_walk.specs.Walking.{AllGrounded}
use Rattle.steps_why_not.specs.Results.{AreUpdated}
use Rattle.steps_why_not.specs.Lines.{AreBoth, standing}
use Rattle.steps_why_not.specs.Whys.{AreTold, EndTold}
use Rattle.steps_why_not.proofs.Completing.{possible}
use Rattle.steps_why_not.proofs.Grounding.{both_grounds, same_operator}
use Rattle.steps_why_not.proofs.Updated.{updated_fills, updated_moves, updated_values}

-- what both say of two states is what the parts say, and the other way round

pub parts_hold : (g : Spec) (act : Option Act) (s t : Values) (es : Parts) → AreBoth g act s es → BothHold g act s t → AllHold (setting which.Action g) max_evaluations es t
parts_hold g None s t es i h = subst (λ (us : Parts). AllHold (setting which.Action g) max_evaluations us t) (sym i) (h, tt)
parts_hold g (Some a) s t es i h =
    let same : h.0.0 ≡ i.0 = same_operator h.0.0 i.0 (sym h.0.1 ∙ i.1) in
    subst (λ (us : Parts). AllHold (setting which.Action g) max_evaluations us t) (sym i.2)
    (subst (λ (o : Operator). HoldsOf (setting which.Action g) max_evaluations (standing a.arguments s) o.body t) same h.0.2, (h.1, tt))

pub both_hold : (g : Spec) (act : Option Act) (s t : Values) (es : Parts) → AreBoth g act s es → AllHold (setting which.Action g) max_evaluations es t → BothHold g act s t
both_hold g None s t es i h = (subst (λ (us : Parts). AllHold (setting which.Action g) max_evaluations us t) i h).0
both_hold g (Some a) s t es i h =
    let k = subst (λ (us : Parts). AllHold (setting which.Action g) max_evaluations us t) i.2 h in
    ((i.0, i.1, k.0), k.1.0)

-- the same parts
pub same_parts : (g : Spec) (act : Option Act) (s : Values) (es fs : Parts) → AreBoth g act s es → AreBoth g act s fs → fs ≡ es
same_parts g None s es fs i j = j ∙ sym i
same_parts g (Some a) s es fs i j =
    let same : j.0 ≡ i.0 = same_operator j.0 i.0 (sym j.1 ∙ i.1) in
    subst (λ (o : Operator). fs ≡ (standing a.arguments s, o.body) ∷ (standing [] s, g.next) ∷ []) same j.2 ∙ sym i.2

-- what may be read is known for each of them
pub each_knows : (g : Setting) (p : Places) (es : Parts) → ((t : Values) → Completes p t → AllByRecursion (λ e. ReadsValues g.table (at_next g.which e.0 (map Some t)) e.1) es) → AllByRecursion (λ e. KnowsAll g p e.0 e.1) es
each_knows g p [] h = tt
each_knows g p (e ∷ es) h = (λ t k. (h t k).0, each_knows g p es (λ t k. (h t k).1))

module _ (law : OrderlyActionsAreGrounded) (grows : WholeStays) (g : Spec) (ready : IsReadySpec g) (line : Line) (fits : IsReadyLine g line) (s : Values) (state : IsState (length g.variables) s) where
  -- what the walk of both rests on
  pub line_grounded : (p : Places) → AreUpdated line.updates s p → (es : Parts) → AreBoth g (act_of line.event) s es → AllGrounded (setting which.Action g) max_evaluations p es
  line_grounded p a es i =
      let b = both_grounds g ready law grows s state (updated line.updates) p (a.long ∙ state.long) (updated_fills line.updates s p a) (act_of line.event) es i fits.event in
      ((updated line.updates, b.0, b.1), possible p (updated_values line.updates s p a))

  pub each_told : AreTold g line s
  each_told x h =
      let p = h.0 in
      let a = h.1 in
      let es = h.2.0 in
      let i = h.2.1 in
      let gr = line_grounded p a es i in
      let says = parts_say (setting which.Action g) nothing max_evaluations es p x (each_knows (setting which.Action g) p es gr.0.1.reads) h.2.2 in
      record {
        moves = λ t k.
            let m = updated_moves line.updates s p a t (completes_less p (filled_at x.end) t says.long says.more k) in
            (record { long = m.0.long ∙ state.long; values = m.0.values }, m.1);
        before = says.before;
        end = λ t k. by_end es i t x.end k (none_spared (setting which.Action g) max_evaluations es p x (each_knows (setting which.Action g) p es gr.0.1.reads) h.2.2) (says.ends t);
      }
    where
      by_end : (es : Parts) → AreBoth g (act_of line.event) s es → (t : Values) (n : End) → Completes (filled_at n) t → x.spared ≡ [] → EndSaysAll (setting which.Action g) max_evaluations es x.spared n t → EndTold g line s n t
      by_end es i t (passed q) k none f = both_hold g (act_of line.event) s t es i (f none k)
      by_end es i t (ended q part w) k none f = f k
