-- From the ends of branches to the near lines.
use Rattle.std.proofs.Common.{◌≡◌, ◌⊎◌, ◌↔◌, inl, inr, refl, sym, ◌∙◌, ap, subst, ℕ, List, [], ◌∷◌, length}
use Rattle.std.specs.Prelude.{Contains, Option, None, Some}
use Rattle.base_core.specs.declared.place.Place.{Place}
use Rattle.states_core.specs.States.{Values}
use Rattle.names_terms.specs.Terms.{place_of}
use Rattle.names_terms.specs.declared.spec.Spec.{Spec}
use Rattle.eval_meanings.specs.Contexts.{Places}
use Rattle.eval_meanings.specs.Evaluates.{max_evaluations}
use Rattle.actions_meanings.specs.declared.which.Which.TheVariants as which
use Rattle.logs_updates.specs.declared.line.Line.{Line}
use Rattle.logs_updates.specs.declared.update.See.{See}
use Rattle.steps_lines_defs.specs.Says.{IsState, setting}
use Rattle.steps_lines_defs.specs.Asks.{Moves}
use Rattle.actions_form_laws.specs.Growth.{WholeStays}
use Rattle.steps_walk_laws.specs.Grounds.{OrderlyActionsAreGrounded}
use Rattle.steps_ready_defs.specs.Ready.{IsReadyLine, IsReadySpec}
use Rattle.steps_found_states.proofs.Lists.{any_of, of_any}
use Rattle.run_texts.specs.Answers.{Named}
use Rattle.steps_why_branches.specs.PassedOver.{behind_one, nothing}
use Rattle.steps_why_branches.specs.Told.{Fits, IsNamed, IsPassed, sparing_of}
use Rattle.steps_why_branches.specs.Traces.{End, SparedPart, Trace, ended, passed}
use Rattle.steps_why_branches.specs.declared.sparing.Passing.{Passing}
use Rattle.steps_why_branches.specs.declared.sparing.Passing.TheVariants.{At, Nothing, OnePlace}
use Rattle.steps_why_branches.specs.declared.sparing.Spared.{Spared}
use Rattle.steps_why_branches.specs.declared.why.Ended.{Ended}
use Rattle.steps_why_branches.specs.declared.why.Ended.TheVariants.{Ends, Passed}
use Rattle.steps_why_branches.proofs.OnePlace.{one_place_is_each}
use Rattle.steps_why_walk.specs.Ends.{end_with, first_spared}
use Rattle.steps_why_walk.proofs.Passing.{not_passed, passed_same, spared_same}
use Rattle.steps_why_not.specs.Lines.{GoesThroughBut}
use Rattle.steps_why_not.specs.Results.{AreUpdated}
use Rattle.steps_why_not.proofs.Updated.{updated_moves, updated_values}
use Rattle.steps_why_not.proofs.Completing.{possible}
use Rattle.run_near_lines.specs.Adding.{AreAllEnds, EndsReached, NearSays, OneSays, sparing_one}
use Rattle.run_near_lines.specs.Near.{FailsAt, LacksSee}
use Rattle.run_near_lines.specs.Repairs.{AreReached}
use Rattle.run_near_lines.specs.Tells.{IsNearLine}
use Rattle.run_near_lines.proofs.Repairing.{first_kept, says_all}

-- what is kept of a branch that was gone through

passes_end : (ws : List SparedPart) (n : End) (q : Places) (o : Option Spared) → end_with ws n ≡ Passed q o → (n ≡ passed q) × (first_spared ws ≡ o)
passes_end ws (passed p) q o e = (ap passed (passed_same p q (first_spared ws) o e), spared_same p q (first_spared ws) o e)
passes_end ws (ended p s w) q o e = absurd (not_passed w q o e)

end_passes : (ws : List SparedPart) (n : End) (q : Places) (o : Option Spared) → n ≡ passed q → first_spared ws ≡ o → end_with ws n ≡ Passed q o
end_passes ws n q o e f = ap (λ (m : End). end_with ws m) e ∙ ap (λ (z : Option Spared). Passed q z) f

through_end : (n : End) (q : Places) → n ≡ passed q → IsPassed n
through_end n q e = subst (λ (m : End). IsPassed m) (sym e) tt

-- what was passed over first tells what may be passed over

fits_told : (ws : List SparedPart) (w : Spared) (at : Place) → first_spared ws ≡ Some w → w.why.at ≡ Some at → Fits ws (At at)
fits_told [] w at e f = tt
fits_told (v ∷ ws) w at e f = sym (ap (λ (o : Option Place). behind_one o OnePlace) (ap (λ (u : Spared). u.why.at) (some_is v.told w e) ∙ f))
  where
    some_is : (u w : Spared) → ◌≡◌ {A = Option Spared} (Some u) (Some w) → u ≡ w
    some_is u w e = cc

none_first : (ws : List SparedPart) → first_spared ws ≡ None → Fits ws Nothing
none_first [] e = tt
none_first (v ∷ ws) e = absurd (some_is v.told e)
  where
    some_is : (u : Spared) → ◌≡◌ {A = Option Spared} (Some u) None → ⊥
    some_is u e = cc

fits_none : (ws : List SparedPart) → Fits ws Nothing → first_spared ws ≡ None
fits_none [] h = refl
fits_none (v ∷ ws) h = absurd (never v.told.why.at h)
  where
    never : (o : Option Place) → Nothing ≡ behind_one o OnePlace → ⊥
    never None h = cc
    never (Some at) h = cc

module _ (g : Spec) (line : Line) (l : Named) (s : Values) where
  -- of each place alone, and of none

  module _ (at : Passing) (named : IsNamed at) (x : Trace) (through : IsPassed x.end) where
    to_one : GoesThroughBut (sparing_of at) g line s x → GoesThroughBut sparing_one g line s x × Fits x.spared at
    to_one h = let r = (one_place_is_each (setting which.Action g) at named max_evaluations h.2.0 h.0 x through).0 h.2.2 in ((h.0, h.1, (h.2.0, h.2.1, r.0)), r.1)

    to_each : GoesThroughBut sparing_one g line s x → Fits x.spared at → GoesThroughBut (sparing_of at) g line s x
    to_each h i = (h.0, h.1, (h.2.0, h.2.1, (one_place_is_each (setting which.Action g) at named max_evaluations h.2.0 h.0 x through).1 (h.2.2, i)))

  module _ (law : OrderlyActionsAreGrounded) (grows : WholeStays) (ready : IsReadySpec g) (fits : IsReadyLine g line) (state : IsState (length g.variables) s) (ends : List Ended) (are : AreAllEnds sparing_one g line s ends) where
    -- the part that was passed over first stands at a place
    stands_at : (x : Trace) → GoesThroughBut sparing_one g line s x → (w : Spared) → first_spared x.spared ≡ Some w → (at : Place) × (w.why.at ≡ Some at)
    stands_at x h w e =
        let first = first_kept x.spared w e in
        let is = (says_all law grows g ready line fits s state sparing_one x h).spared first.0 first.1 in
        (place_of first.0.part.term, ap (λ (v : Spared). v.why.at) (sym first.2) ∙ is.stands)

    end_told : (n : Ended) (t : List ℕ) → Contains ends n → NearSays g line l n t → IsNearLine g line l s t
    end_told (Passed q (Some w)) t m h =
        let r = (are (Passed q (Some w))).0 m in
        let k = passes_end r.0.spared r.0.end q (Some w) r.2 in
        let at = stands_at r.0 r.1 w k.1 in
        let goes = to_each (At at.0) tt r.0 (through_end r.0.end q k.0) r.1 (fits_told r.0.spared w at.0 k.1 at.1) in
        inl (at.0, record { part = w; filled = q; fails = record { branch = r.0; goes = goes; through = k.0; first = k.1; seen = h.0 }; is = h.1 })
    end_told (Passed q None) t m h =
        let r = (are (Passed q None)).0 m in
        let k = passes_end r.0.spared r.0.end q None r.2 in
        let goes = to_each Nothing tt r.0 (through_end r.0.end q k.0) r.1 (none_first r.0.spared k.1) in
        inr (record { see = h.see; filled = q; lacks = record { branch = r.0; goes = goes; through = k.0; alone = h.alone }; stands = h.stands; found = h.found; is = h.is })
    end_told (Ends w) t m h = absurd h

    -- where a branch that is near ends

    fails_end : (at : Place) (w : Spared) (q : Places) → FailsAt g line s at w q → Contains ends (Passed q (Some w))
    fails_end at w q f =
        let r = to_one (At at) tt f.branch (through_end f.branch.end q f.through) f.goes in
        (are (Passed q (Some w))).1 (f.branch, r.0, end_passes f.branch.spared f.branch.end q (Some w) f.through f.first)

    lacks_end : (see : See) (q : Places) → LacksSee g line s see q → Contains ends (Passed q None)
    lacks_end see q f =
        let r = to_one Nothing tt f.branch (through_end f.branch.end q f.through) f.goes in
        (are (Passed q None)).1 (f.branch, r.0, end_passes f.branch.spared f.branch.end q None f.through (fits_none f.branch.spared r.1))

    told_end : (t : List ℕ) → IsNearLine g line l s t → OneSays (NearSays g line l) ends t
    told_end t (inl h) = let f = h.1 in any_of (λ n. NearSays g line l n t) ends (Passed f.filled (Some f.part)) (fails_end h.0 f.part f.filled f.fails) (f.fails.seen, f.is)
    told_end t (inr h) = any_of (λ n. NearSays g line l n t) ends (Passed h.filled None) (lacks_end h.see h.filled h.lacks)
        (record { see = h.see; alone = h.lacks.alone; stands = h.stands; found = h.found; is = h.is })

    pub near_are : (t : List ℕ) → OneSays (NearSays g line l) ends t ↔ IsNearLine g line l s t
    near_are t = (λ h. let r = of_any (λ n. NearSays g line l n t) ends h in end_told r.0 t r.1 r.2, told_end t)

    pub near_reached : EndsReached ends → AreReached g line s
    near_reached reached = record {
      parts = λ at w q f. reached q (Some w) (fails_end at w q f);
      sees = λ see q f. reached q None (lacks_end see q f);
    }

  -- where the updates have no result there is no near line

  no_branch : ((t : Values) → IsState (length s) t → Moves line.updates s t → ⊥) → (p : Places) → AreUpdated line.updates s p → ⊥
  no_branch none p a =
      let t = possible p (updated_values line.updates s p a) in
      let m = updated_moves line.updates s p a t.0 t.1 in
      none t.0 m.0 m.1

  pub stuck_lines : ((t : Values) → IsState (length s) t → Moves line.updates s t → ⊥) → (t : List ℕ) → IsNearLine g line l s t → ⊥
  stuck_lines none t (inl f) = no_branch none f.1.fails.goes.0 f.1.fails.goes.1
  stuck_lines none t (inr u) = no_branch none u.lacks.goes.0 u.lacks.goes.1

  pub stuck_reached : ((t : Values) → IsState (length s) t → Moves line.updates s t → ⊥) → AreReached g line s
  stuck_reached none = record { parts = λ at w q f. absurd (no_branch none f.goes.0 f.goes.1); sees = λ see q f. absurd (no_branch none f.goes.0 f.goes.1) }
