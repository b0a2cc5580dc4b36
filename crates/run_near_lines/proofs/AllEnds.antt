-- Where the list of the first branches is not full, it is the list of all.
use Rattle.std.proofs.Common.{◌≡◌, ◌↔◌, inl, inr, sym, ◌∙◌, subst, arith, ℕ, ◌<◌, List, length}
use Rattle.std.specs.Prelude.{Contains, Option}
use Rattle.states_core.specs.States.{Values}
use Rattle.names_terms.specs.declared.spec.Spec.{Spec}
use Rattle.eval_meanings.specs.Contexts.{Places}
use Rattle.eval_meanings.specs.Evaluates.{max_evaluations}
use Rattle.actions_meanings.specs.declared.which.Which.TheVariants as which
use Rattle.logs_updates.specs.declared.line.Line.{Line}
use Rattle.steps_lines_defs.specs.Says.{IsState, setting}
use Rattle.steps_lines_defs.specs.Asks.{act_of}
use Rattle.actions_form_laws.specs.Growth.{WholeStays}
use Rattle.steps_walk_laws.specs.Grounds.{OrderlyActionsAreGrounded}
use Rattle.steps_ready_defs.specs.Ready.{IsReadyLine, IsReadySpec}
use Rattle.steps_found_states.specs.Parts.{Parts}
use Rattle.steps_found_states.proofs.Lists.{of_map}
use Rattle.steps_why_branches.specs.Branches.{Onward, Turns}
use Rattle.steps_why_branches.specs.Founds.{TurnsFound}
use Rattle.steps_why_branches.specs.Traces.{Trace, here}
use Rattle.steps_why_branches.specs.declared.sparing.Sparing.{Sparing}
use Rattle.steps_why_branches.specs.declared.why.Ended.{Ended}
use Rattle.steps_why_branches.proofs.Elements.{in_map}
use Rattle.steps_why_walk.specs.Ends.{end_of, kept}
use Rattle.steps_why_walk.proofs.Keeping.{kept_length}
use Rattle.steps_why_not.specs.Lines.{AreBoth, GoesThroughBut}
use Rattle.steps_why_not.specs.Results.{AreUpdated}
use Rattle.steps_why_not.specs.Taken.{AreEnds, LeadsThere}
use Rattle.steps_why_not.proofs.Telling.{line_grounded, same_parts}
use Rattle.steps_why_not.proofs.Updated.{one_updated}
use Rattle.run_near_lines.specs.Adding.{AreAllEnds, EndsReached}

module _ (sp : Sparing) (g : Spec) (line : Line) (s : Values) (p : Places) (a : AreUpdated line.updates s p) (exact : LeadsThere line.updates s p) where
  abbrev Way : Parts → Trace → Type 0
  Way es x = Onward (Turns (setting which.Action g) sp max_evaluations) max_evaluations es (here p) x

  -- there is one way to fill the places, and to part the line
  on_way : (es : Parts) → AreBoth g (act_of line.event) s es → (x : Trace) → GoesThroughBut sp g line s x → Way es x
  on_way es i x h =
      let q : h.0 ≡ p = one_updated line.updates s p a exact h.0 h.1 in
      let f : h.2.0 ≡ es = same_parts g (act_of line.event) s es h.2.0 i h.2.1 in
      subst (λ (z : Places). Onward (Turns (setting which.Action g) sp max_evaluations) max_evaluations es (here z) x) q
      (subst (λ (us : Parts). Onward (Turns (setting which.Action g) sp max_evaluations) max_evaluations us (here h.0) x) f h.2.2)

  pub all_ends_are : (k : ℕ) (ends : List Ended) → AreEnds sp g line s k p ends → length ends < k → AreAllEnds sp g line s ends
  all_ends_are k ends e short n = (
    λ m.
        let r = of_map end_of xs n (subst (λ (us : List Ended). Contains us n) (sym e.2.found.2) m) in
        (r.0, (p, a, (e.0, e.1, found.firsts.are r.0 r.1)), r.2),
    λ h. elim (found.firsts.rest h.0 (on_way e.0 e.1 h.0 h.1)) [
      | inl m ↦ subst (λ (z : Ended). Contains ends z) h.2 (subst (λ (us : List Ended). Contains us (end_of h.0)) e.2.found.2 (in_map end_of xs h.0 m))
      | inr l ↦ (let same : length xs ≡ length ends = kept_length xs ends e.2.found.2 in absurd (omega (arith, l.0, same, short)))
    ],
  )
    where
      xs : List Trace
      xs = e.2.found.0

      found : TurnsFound (setting which.Action g) sp max_evaluations k p e.0 xs
      found = e.2.found.1

-- some state extends what is filled at each of them that was gone through
pub ends_reached : OrderlyActionsAreGrounded → WholeStays → (g : Spec) → IsReadySpec g → (line : Line) → IsReadyLine g line → (s : Values) → IsState (length g.variables) s → (p : Places) → AreUpdated line.updates s p
    → (sp : Sparing) (k : ℕ) (ends : List Ended) → AreEnds sp g line s k p ends → EndsReached ends
ends_reached law grows g ready line fits s state p a sp k ends e q o m =
    let gr = line_grounded law grows g ready line fits s state p a e.0 e.1 in
    let passes = e.2.passes gr.0.0 gr.0.2.0 gr.0.1 gr.0.2.1 in
    (passes.further q o m).2 gr.1.0 gr.1.1
