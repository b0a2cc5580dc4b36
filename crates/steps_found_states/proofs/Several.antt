-- Actions that must all hold, one after the other.
use Rattle.std.proofs.Common.{◌≡◌, ◌⊎◌, inl, inr, refl, sym, ◌∙◌, subst, ℕ, List, [], ◌∷◌, ◌++◌, length}
use Rattle.std.specs.Prelude.{Contains, Ok, Err}
use Rattle.states_core.specs.States.{Values}
use Rattle.states_core.specs.declared.fault.Fault.{Fault}
use Rattle.names_terms.specs.Terms.{Term}
use Rattle.eval_meanings.specs.declared.fault.EvalFault.{EvalFault}
use Rattle.eval_meanings.specs.declared.fault.EvalFault.TheVariants.{Refused, NoMemory}
use Rattle.eval_meanings.specs.Contexts.{Context, Places}
use Rattle.eval_meanings.specs.Laws.{IsWithin}
use Rattle.eval_meanings.specs.Outcomes.{fault}
use Rattle.actions_meanings.specs.Forms.{Setting}
use Rattle.actions_meanings.specs.Reads.{VariableSet}
use Rattle.actions_meanings.specs.Outcomes.{Fixes}
use Rattle.logs_updates.specs.declared.update.See.{See}
use Rattle.actions_meanings.specs.Filled.{Fills}
use Rattle.steps_found_states.specs.Walks.{FailsOf, HoldsOf}
use Rattle.steps_found_states.specs.Grounds.{Grounds}
use Rattle.steps_found_states.specs.Parts.{Parts, FixesAll, HoldsAll, FailsAll, WalkedAll, WalkedEach, GroundsAll, IsOnTheWay}
use Rattle.steps_found_states.proofs.Lists.{one_in}
use Rattle.steps_found_states.proofs.Finding.{completes_less, finds_here, found_then, possible_trans, within_trans}

module _ (g : Setting) (d : ℕ) where
  fixes_split : (es : Parts) (e : Context × Term) (B C : VariableSet) → FixesAll g (es ++ e ∷ []) B C → (D : VariableSet) × FixesAll g es B D × Fixes g e.1 D C
  fixes_split [] e B C h = (B, refl, subst (λ (X : VariableSet). Fixes g e.1 B X) (sym h.2) h.1)
  fixes_split (x ∷ es) e B C h = let r = fixes_split es e h.0 C h.2 in (r.0, (h.0, h.1, r.1), r.2)

  fixes_more : (es : Parts) (e : Context × Term) (B C D : VariableSet) → FixesAll g es B D → Fixes g e.1 D C → FixesAll g (es ++ e ∷ []) B C
  fixes_more [] e B C D h k = (C, subst (λ (X : VariableSet). Fixes g e.1 X C) h k, refl)
  fixes_more (x ∷ es) e B C D h k = (h.0, h.1, fixes_more es e h.0 C D h.2 k)

  holds_split : (es : Parts) (e : Context × Term) (t : Values) → HoldsAll g d (es ++ e ∷ []) t → HoldsAll g d es t × HoldsOf g d e.0 e.1 t
  holds_split [] e t h = (tt, h.0)
  holds_split (x ∷ es) e t h = let r = holds_split es e t h.1 in ((h.0, r.0), r.1)

  holds_more : (es : Parts) (e : Context × Term) (t : Values) → HoldsAll g d es t → HoldsOf g d e.0 e.1 t → HoldsAll g d (es ++ e ∷ []) t
  holds_more [] e t h k = (k, tt)
  holds_more (x ∷ es) e t h k = (h.0, holds_more es e t h.1 k)

  fails_split : (es : Parts) (e : Context × Term) (B : VariableSet) (t : Values) (f : Fault) → FailsAll g d B (es ++ e ∷ []) t f
      → FailsAll g d B es t f ⊎ (HoldsAll g d es t × ((D : VariableSet) × FixesAll g es B D × FailsOf g d D e.0 e.1 t f))
  fails_split [] e B t f (inl h) = inr (tt, (B, refl, h))
  fails_split [] e B t f (inr h) = absurd h.1.2
  fails_split (x ∷ es) e B t f (inl h) = inl (inl h)
  fails_split (x ∷ es) e B t f (inr h) = elim (fails_split es e h.1.0 t f h.1.2) [
    | inl k ↦ inl (inr (h.0, (h.1.0, h.1.1, k)))
    | inr k ↦ inr ((h.0, k.0), (k.1.0, (h.1.0, h.1.1, k.1.1), k.1.2))
  ]

  fails_before : (es fs : Parts) (B : VariableSet) (t : Values) (f : Fault) → FailsAll g d B es t f → FailsAll g d B (es ++ fs) t f
  fails_before [] fs B t f h = absurd h
  fails_before (x ∷ es) fs B t f (inl h) = inl h
  fails_before (x ∷ es) fs B t f (inr h) = inr (h.0, (h.1.0, h.1.1, fails_before es fs h.1.0 t f h.1.2))

  fails_after : (es : Parts) (e : Context × Term) (fs : Parts) (B D : VariableSet) (t : Values) (f : Fault)
      → HoldsAll g d es t → FixesAll g es B D → FailsOf g d D e.0 e.1 t f → FailsAll g d B (es ++ e ∷ fs) t f
  fails_after [] e fs B D t f h k m = inl (subst (λ (X : VariableSet). FailsOf g d X e.0 e.1 t f) k m)
  fails_after (x ∷ es) e fs B D t f h k m = inr (h.0, (k.0, k.1, fails_after es e fs k.0 D t f h.1 k.2 m))

  -- what walking one of them rests on, and what is left
  pub first_grounds : (sees : List See) (B : VariableSet) (p : Places) (e : Context × Term) (es : Parts) → GroundsAll g d sees B p (e ∷ es) → Grounds g d sees B p e.0 e.1
  first_grounds sees B p e es h = record {
    long = h.long;
    fills = h.fills;
    agrees = h.agrees;
    reads = λ t k. (h.reads t k).0;
    walks = h.walks.0;
    tuples = h.tuples.0;
  }

  rest_grounds : (sees : List See) (B C : VariableSet) (p q : Places) (e : Context × Term) (es : Parts) (qs : List Places) → Contains qs q → Fixes g e.1 B C
      → length q ≡ length p → IsWithin p q → (ps : List Places) → WalkedEach g d sees B ps e.0 e.1 (Ok qs) → GroundsAll g d sees B p (e ∷ es) → GroundsAll g d sees C q es
  rest_grounds sees B C p q e es qs m x l w ps a h = record {
    long = l ∙ h.long;
    fills = a.filled q C m x;
    agrees = a.agree q m;
    reads = λ t k. (h.reads t (completes_less p q t l w k)).1;
    walks = h.walks.1 C q x l w (a.filled q C m x);
    tuples = h.tuples.1;
  }

  -- at first the places themselves are found
  pub way_begins : (sees : List See) (B : VariableSet) (p : Places) (es : Parts) → GroundsAll g d sees B p es → (C : VariableSet) → FixesAll g es B C
      → IsOnTheWay g d sees B p [] es (p ∷ [])
  way_begins sees B p es h C x = record {
    found = finds_here sees p (FixesAll g [] B) (HoldsAll g d []) (FailsAll g d B []) h.agrees (λ D e. subst (λ (X : VariableSet). Fills X p) (sym e) h.fills) (λ t k. tt) (λ t f k s n. n);
    left = (B, refl, (C, x));
    grounds = λ D q e m. at_first D q e m;
  }
    where
      same_set : (D : VariableSet) → D ≡ B → GroundsAll g d sees D p es
      same_set D e = subst (λ (X : VariableSet). GroundsAll g d sees X p es) (sym e) h

      at_first : (D : VariableSet) (q : Places) → D ≡ B → Contains (p ∷ []) q → GroundsAll g d sees D q es
      at_first D q e m = subst (λ (x : Places). GroundsAll g d sees D x es) (one_in p q m) (same_set D e)

  -- the next of them, walked from all that is found
  pub way_goes_on : (sees : List See) (B : VariableSet) (p : Places) (done : Parts) (e : Context × Term) (rest : Parts) (qs rs : List Places)
      → IsOnTheWay g d sees B p done (e ∷ rest) qs → ((D : VariableSet) → FixesAll g done B D → WalkedEach g d sees D qs e.0 e.1 (Ok rs))
      → IsOnTheWay g d sees B p (done ++ e ∷ []) rest rs
  way_goes_on sees B p done e rest qs rs h b = record {
    found = found_then sees p (FixesAll g done B) (FixesAll g (done ++ e ∷ []) B) (λ D. Fixes g e.1 D) (HoldsAll g d done) (HoldsOf g d e.0 e.1) (HoldsAll g d (done ++ e ∷ []))
        (FailsAll g d B done) (FailsAll g d B (done ++ e ∷ [])) (λ D. FailsOf g d D e.0 e.1) qs (λ C x. fixes_split done e B C x) (holds_more done e) (holds_split done e)
        (λ t f m. fails_split done e B t f m) (λ t f D k x m. fails_after done e [] B D t f k x m) h.left.0 h.left.1 h.found (Ok rs) b;
    left = (h.left.2.1.0, fixes_more done e B h.left.2.1.0 h.left.0 h.left.1 h.left.2.1.1, (h.left.2.0, h.left.2.1.2));
    grounds = λ C q x m.
        let s = fixes_split done e B C x in
        let r = (b s.0 s.1).further q m in
        rest_grounds sees s.0 C r.0 q e rest rs m s.2 r.2 r.3 qs (b s.0 s.1) (h.grounds s.0 r.0 s.1 r.1);
  }

  -- or refused from one of the places that are found
  pub way_refused : (sees : List See) (B : VariableSet) (p : Places) (done : Parts) (e : Context × Term) (rest : Parts) (qs : List Places) (f : EvalFault)
      → IsOnTheWay g d sees B p done (e ∷ rest) qs → ((D : VariableSet) → FixesAll g done B D → WalkedEach g d sees D qs e.0 e.1 (Err f))
      → WalkedAll g d sees B p (done ++ e ∷ rest) (Err f)
  way_refused sees B p done e rest qs (Refused kind at) h b =
      let c = b h.left.0 h.left.1 in
      let s = h.found.further c.0 c.1 in
      let q = c.2.0 in (
        q,
        c.2.1 ∙ s.0,
        within_trans p c.0 q s.1 c.2.2,
        c.2.3,
        λ t k. fails_after done e rest B h.left.0 t (fault kind at) (h.found.sound c.0 t c.1 (completes_less c.0 q t c.2.1 c.2.2 k)) h.left.1 (c.2.4 t k),
        possible_trans p c.0 q s.2 c.2.5,
      )
  way_refused sees B p done e rest qs NoMemory h b = tt
