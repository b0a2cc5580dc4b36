-- If what a near line names held, the line would have a step.
use Rattle.std.proofs.Common.{◌≡◌, inl, refl, sym, ◌∙◌, ap, subst, List, [], ◌∷◌, ◌++◌, length}
use Rattle.std.specs.Prelude.{All, Contains, Option, None, Some, slice_get}
use Rattle.std.specs.List.{AllByRecursion}
use Rattle.std.proofs.lemmas.List.Elements.{All-weaker}
use Rattle.base_core.specs.declared.place.Place.{Place}
use Rattle.values_core.specs.Ascending.{head_in}
use Rattle.states_core.specs.States.{Values}
use Rattle.names_terms.specs.declared.spec.Spec.{Spec}
use Rattle.eval_meanings.specs.Contexts.{Places}
use Rattle.eval_meanings.specs.Evaluates.{max_evaluations}
use Rattle.actions_meanings.specs.declared.which.Which.TheVariants as which
use Rattle.logs_updates.specs.declared.line.Line.{Line}
use Rattle.logs_updates.specs.declared.update.See.{See}
use Rattle.steps_lines_defs.specs.Says.{Act, BothHold, IsState, setting}
use Rattle.steps_lines_defs.specs.Asks.{AreSeen, IsSeen, Moves, act_of}
use Rattle.actions_meanings.specs.Filled.{Completes}
use Rattle.actions_form_laws.specs.Growth.{WholeStays}
use Rattle.steps_walk_laws.specs.Grounds.{OrderlyActionsAreGrounded}
use Rattle.steps_found_states.specs.Parts.{Parts}
use Rattle.steps_found_states.proofs.Filling.{completes_get}
use Rattle.steps_found_states.proofs.Finding.{completes_less}
use Rattle.steps_found_states.proofs.Lists.{all_by_place, place_by_all}
use Rattle.steps_ready_defs.specs.Ready.{IsReadyLine, IsReadySpec}
use Rattle.steps_why_branches.specs.PassedOver.{nothing}
use Rattle.steps_why_branches.specs.Repaired.{HoldsButOf}
use Rattle.steps_why_branches.specs.Told.{EndRepairsAll, EndSaysAll, IsSpared, SaysAll, filled_at}
use Rattle.steps_why_branches.specs.Traces.{End, SparedPart, Trace, passed}
use Rattle.steps_why_branches.specs.declared.sparing.Passing.TheVariants.{At}
use Rattle.steps_why_branches.specs.declared.sparing.Spared.{Spared}
use Rattle.steps_why_branches.specs.declared.sparing.Sparing.{Sparing}
use Rattle.steps_why_branches.proofs.EachSays.{none_spared, parts_say}
use Rattle.steps_why_walk.specs.Ends.{first_spared}
use Rattle.steps_why_not.specs.Lines.{AreBoth, GoesThroughBut, StandsIn}
use Rattle.steps_why_not.proofs.Telling.{both_hold, each_knows, line_grounded}
use Rattle.steps_why_not.proofs.Updated.{updated_moves}
use Rattle.run_near_lines.specs.Near.{sparing_at}
use Rattle.run_near_lines.specs.Repairs.{AreRepairs, BothHoldBut}

-- what both say where the parts at a place are taken to hold is what the parts say
both_but : (g : Spec) (at : Place) (act : Option Act) (s t : Values) (es : Parts) → AreBoth g act s es → AllByRecursion (λ e. HoldsButOf (setting which.Action g) (At at) max_evaluations e.0 e.1 t) es → BothHoldBut g at act s t
both_but g at None s t es i h = (subst (λ (us : Parts). AllByRecursion (λ e. HoldsButOf (setting which.Action g) (At at) max_evaluations e.0 e.1 t) us) i h).0
both_but g at (Some a) s t es i h =
    let k = subst (λ (us : Parts). AllByRecursion (λ e. HoldsButOf (setting which.Action g) (At at) max_evaluations e.0 e.1 t) us) i.2 h in
    ((i.0, i.1, k.0), k.1.0)

seen_there : (sees : List See) (q : Places) (t : Values) → Completes q t → All (StandsIn q) sees → AreSeen sees t
seen_there sees q t k h = All-weaker (StandsIn q) (IsSeen t) (λ see r. (r.0, completes_get q t see.path.variable.0 r.0 k r.1, r.2)) sees h

both_sides : (P : See → Type 0) (before behind : List See) → All P before → All P behind → All P (before ++ behind)
both_sides P before behind a b = all_by_place P (before ++ behind) (joined before (place_by_all P before a))
  where
    joined : (xs : List See) → AllByRecursion P xs → AllByRecursion P (xs ++ behind)
    joined [] h = place_by_all P behind b
    joined (x ∷ xs) h = (h.0, joined xs h.1)

pub first_kept : (ws : List SparedPart) (w : Spared) → first_spared ws ≡ Some w → (part : SparedPart) × Contains ws part × (part.told ≡ w)
first_kept [] w e = absurd (none_is w e)
  where
    none_is : (w : Spared) → ◌≡◌ {A = Option Spared} None (Some w) → ⊥
    none_is w e = cc
first_kept (v ∷ ws) w e = (v, head_in v ws, some_is v.told w e)
  where
    some_is : (u w : Spared) → ◌≡◌ {A = Option Spared} (Some u) (Some w) → u ≡ w
    some_is u w e = cc

module _ (law : OrderlyActionsAreGrounded) (grows : WholeStays) (g : Spec) (ready : IsReadySpec g) (line : Line) (fits : IsReadyLine g line) (s : Values) (state : IsState (length g.variables) s) where
  pub says_all : (sp : Sparing) (x : Trace) (h : GoesThroughBut sp g line s x) → SaysAll (setting which.Action g) sp.at max_evaluations h.2.0 h.0 x
  says_all sp x h =
      let gr = line_grounded law grows g ready line fits s state h.0 h.1 h.2.0 h.2.1 in
      parts_say (setting which.Action g) sp max_evaluations h.2.0 h.0 x (each_knows (setting which.Action g) h.0 h.2.0 gr.0.1.reads) h.2.2

  -- the updates lead to each state that extends what is filled
  leads : (sp : Sparing) (x : Trace) → GoesThroughBut sp g line s x → (q : Places) → x.end ≡ passed q → (t : Values) → Completes q t → IsState (length g.variables) t × Moves line.updates s t
  leads sp x h q e t k =
      let says = says_all sp x h in
      let there : Completes (filled_at x.end) t = subst (λ (n : End). Completes (filled_at n) t) (sym e) k in
      let m = updated_moves line.updates s h.0 h.1 t (completes_less h.0 (filled_at x.end) t says.long says.more there) in
      (record { long = m.0.long ∙ state.long; values = m.0.values }, m.1)

  pub are_repairs : AreRepairs g line s
  are_repairs = record {
    parts = λ at w q f.
        let says = says_all (sparing_at at) f.branch f.goes in
        let first = first_kept f.branch.spared w f.first in (
          (first.0, first.2, subst (λ (n : End). IsSpared (setting which.Action g) (At at) (filled_at n) first.0) f.through (says.spared first.0 first.1)),
          λ t k.
              let m = leads (sparing_at at) f.branch f.goes q f.through t k in
              let holds = subst (λ (n : End). EndRepairsAll (setting which.Action g) (At at) max_evaluations f.goes.2.0 n t) f.through (says.repaired t) k in
              (m.0, inl (m.1, both_but g at (act_of line.event) s t f.goes.2.0 f.goes.2.1 holds, seen_there line.sees q t k f.seen)),
        );
    sees = λ see q r t k.
        let says = says_all nothing r.branch r.goes in
        let m = leads nothing r.branch r.goes q r.through t k in
        let gr = line_grounded law grows g ready line fits s state r.goes.0 r.goes.1 r.goes.2.0 r.goes.2.1 in
        let none = none_spared (setting which.Action g) max_evaluations r.goes.2.0 r.goes.0 r.branch (each_knows (setting which.Action g) r.goes.0 r.goes.2.0 gr.0.1.reads) r.goes.2.2 in
        let holds = subst (λ (n : End). EndSaysAll (setting which.Action g) max_evaluations r.goes.2.0 r.branch.spared n t) r.through (says.ends t) none k in
        (m.0, inl (m.1, both_hold g (act_of line.event) s t r.goes.2.0 r.goes.2.1 holds, seen_there (r.alone.before ++ r.alone.behind) q t k (both_sides (StandsIn q) r.alone.before r.alone.behind r.alone.earlier r.alone.later)));
  }
