-- All of several parts: none behind one that does not hold is asked.
use Rattle.std.proofs.Common.{◌≡◌, inl, inr, refl, sym, subst, ℕ, zero, suc, ◌+◌, ◌≤◌, [], ◌∷◌, length, drop}
use Rattle.std.specs.Prelude.{Bool, true, false, Result, Ok, Err}
use Rattle.states_core.specs.States.{Values}
use Rattle.names_terms.specs.Terms.{Term}
use Rattle.eval_meanings.specs.declared.fault.EvalFault.{EvalFault}
use Rattle.eval_meanings.specs.declared.fault.EvalFault.TheVariants.{Refused, NoMemory}
use Rattle.eval_meanings.specs.Contexts.{Context, Places}
use Rattle.actions_meanings.specs.Forms.{Setting}
use Rattle.actions_meanings.specs.Reads.{VariableSet}
use Rattle.actions_meanings.specs.Outcomes.{Fixes}
use Rattle.eval_parts.proofs.Loops.{Cut, cut_end}
use Rattle.actions_form_laws.specs.Growth.{FormsGrow}
use Rattle.actions_meanings.specs.Filled.{Fills}
use Rattle.actions_meanings.specs.Walkable.{Walkable}
use Rattle.steps_found_states.specs.Walks.{HoldsOf}
use Rattle.steps_found_states.specs.Parts.{FailsAll, FixesAll, GroundsAll, HoldsAll, Parts, PartsWalk}
use Rattle.steps_found_states.proofs.Finding.{within_itself}
use Rattle.judge_truth.specs.Truths.{everything}
use Rattle.judge_truth.specs.Deciding.{AllDecided, Grounded, IsDecided}
use Rattle.judge_truth.proofs.Answering.{answered_so}
use Rattle.judge_truth.proofs.Stays.{all_stay}

-- what holds of an action that can be walked leaves a set of variables fixed
fixes_some : (g : Setting) (d : ℕ) (p : Places) (c : Context) (a : Term) (t : Values) → Walkable g d everything p c a → HoldsOf g d c a t → (C : VariableSet) × Fixes g a everything C
fixes_some g zero p c a t w h = absurd h
fixes_some g (suc d) p c a t w h = w.0

module _ (g : Setting) (d : ℕ) (p : Places) where
  abbrev pub AllGrounded : Parts → Type 0
  AllGrounded es = GroundsAll g d [] everything p es

  pub first_grounds : (e : Context × Term) (es : Parts) → AllGrounded (e ∷ es) → Grounded g d p e.0 e.1
  first_grounds e es h = record {
    long = h.long;
    fills = h.fills;
    agrees = h.agrees;
    reads = λ t k. (h.reads t k).0;
    walks = h.walks.0;
    tuples = h.tuples.0;
  }

  pub all_none : AllDecided g d p [] (Ok true)
  all_none t k gr = (tt, λ f h. h)

  -- one that does not hold, and one with a fault

  pub all_false : (e : Context × Term) (es : Parts) → IsDecided g d p e.0 e.1 (Ok false) → AllDecided g d p (e ∷ es) (Ok false)
  all_false e es w t k gr =
      let h = w t k (first_grounds e es gr) in
      (λ m. h.0 m.0, λ f m. elim m [ inl x ↦ h.1 f x | inr y ↦ h.0 y.0 ])

  pub all_stop : (e : Context × Term) (es : Parts) (x : EvalFault) → IsDecided g d p e.0 e.1 (Err x) → AllDecided g d p (e ∷ es) (Err x)
  all_stop e es (Refused kind at) w t k gr = inl (w t k (first_grounds e es gr))
  all_stop e es NoMemory w t k gr = tt

  -- in a loop over the parts: what the rest comes to, all come to

  pub record AllSoFar (es : Parts) (i : ℕ) : Type 0 where
    pub ahead : (r : Result Bool EvalFault) → AllDecided g d p (drop i es) r → AllDecided g d p es r
    pub grounds : AllGrounded (drop i es)
    pub left : (C : VariableSet) × FixesAll g (drop i es) everything C

  pub all_start : (es : Parts) → AllGrounded es → (C : VariableSet) × FixesAll g es everything C → AllSoFar es 0
  all_start es gr x = record { ahead = λ r h. h; grounds = gr; left = x }

  at_part : (es : Parts) (i : ℕ) (e : Context × Term) → Cut es i e → AllGrounded (drop i es) → AllGrounded (e ∷ drop (i + 1) es)
  at_part es i e c gr = subst (λ (us : Parts). AllGrounded us) c gr

  pub all_ground : (es : Parts) (i : ℕ) (e : Context × Term) → Cut es i e → AllSoFar es i → Grounded g d p e.0 e.1
  all_ground es i e c s = first_grounds e (drop (i + 1) es) (at_part es i e c s.grounds)

  pub all_fails : (es : Parts) (i : ℕ) (e : Context × Term) → Cut es i e → IsDecided g d p e.0 e.1 (Ok false) → AllSoFar es i → AllDecided g d p es (Ok false)
  all_fails es i e c w s = s.ahead (Ok false) (subst (λ (us : Parts). AllDecided g d p us (Ok false)) (sym c) (all_false e (drop (i + 1) es) w))

  pub all_stops : (es : Parts) (i : ℕ) (e : Context × Term) (x : EvalFault) → Cut es i e → IsDecided g d p e.0 e.1 (Err x) → AllSoFar es i → AllDecided g d p es (Err x)
  all_stops es i e x c w s = s.ahead (Err x) (subst (λ (us : Parts). AllDecided g d p us (Err x)) (sym c) (all_stop e (drop (i + 1) es) x w))

  pub all_ends : (es : Parts) (i : ℕ) → length es ≤ i → AllSoFar es i → AllDecided g d p es (Ok true)
  all_ends es i l s = s.ahead (Ok true) (subst (λ (us : Parts). AllDecided g d p us (Ok true)) (sym (cut_end es i l)) all_none)

-- behind one that holds, which leaves all variables fixed
module _ (grow : FormsGrow) (g : Setting) (d : ℕ) (p : Places) where
  pub rest_grounds : (e : Context × Term) (es : Parts) (C : VariableSet) → Fixes g e.1 everything C → AllGrounded g d p (e ∷ es) → AllGrounded g d p es
  rest_grounds e es C x h =
      let same : C ≡ everything = all_stay grow g e.1 C x in
      record {
        long = h.long;
        fills = h.fills;
        agrees = h.agrees;
        reads = λ t k. (h.reads t k).1;
        walks = subst (λ (D : VariableSet). PartsWalk g (Walkable g d) D p es) same (h.walks.1 C p x refl (within_itself p) (subst (λ (D : VariableSet). Fills D p) (sym same) h.fills));
        tuples = h.tuples.1;
      }

  pub all_on : (e : Context × Term) (es : Parts) (r : Result Bool EvalFault) → IsDecided g d p e.0 e.1 (Ok true) → AllDecided g d p es r → AllDecided g d p (e ∷ es) r
  all_on e es r w v t k gr =
      let h = w t k (first_grounds g d p e es gr) in
      let x = fixes_some g d p e.0 e.1 t (first_grounds g d p e es gr).walks h.0 in
      let fixed : Fixes g e.1 everything everything = subst (λ (D : VariableSet). Fixes g e.1 everything D) (all_stay grow g e.1 x.0 x.1) x.1 in
      answered_so (HoldsAll g d es t) (HoldsAll g d (e ∷ es) t) (FailsAll g d everything es t) (FailsAll g d everything (e ∷ es) t)
      (λ m. (h.0, m)) (λ m. m.1) (λ f m. inr (h.0, (everything, fixed, m)))
      (λ f m. elim m [ inl y ↦ absurd (h.1 f y) | inr y ↦ subst (λ (D : VariableSet). FailsAll g d D es t f) (all_stay grow g e.1 y.1.0 y.1.1) y.1.2 ])
      r (v t k (rest_grounds e es x.0 x.1 gr))

  pub all_step : (es : Parts) (i : ℕ) (e : Context × Term) → Cut es i e → IsDecided g d p e.0 e.1 (Ok true) → AllSoFar g d p es i → AllSoFar g d p es (i + 1)
  all_step es i e c w s =
      let x = subst (λ (us : Parts). (C : VariableSet) × FixesAll g us everything C) c s.left in
      let fixed = x.1.1 in
      record {
        ahead = λ r h. s.ahead r (subst (λ (us : Parts). AllDecided g d p us r) (sym c) (all_on e (drop (i + 1) es) r w h));
        grounds = rest_grounds e (drop (i + 1) es) x.1.0 fixed (at_part g d p es i e c s.grounds);
        left = (x.0, subst (λ (D : VariableSet). FixesAll g (drop (i + 1) es) D x.0) (all_stay grow g e.1 x.1.0 fixed) x.1.2);
      }
