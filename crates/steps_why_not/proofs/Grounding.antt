-- What the walks of an operator and of Next rest on.
use Rattle.std.proofs.Common.{◌≡◌, ◌≢◌, refl, sym, ◌∙◌, subst, arith, ℕ, zero, suc, ◌<◌, ◌+◌, true, false, List, [], ◌∷◌, length, map}
use Rattle.std.specs.Prelude.{All, Option, Some, None, Result, Ok, Err, slice_get}
use Rattle.values_core.specs.Data.{Val}
use Rattle.values_core.specs.IsValue.{IsValue}
use Rattle.values_core.specs.Ascending.{none_in}
use Rattle.states_core.specs.States.{Values}
use Rattle.names_terms.specs.declared.operator.Operator.{Operator}
use Rattle.names_terms.specs.declared.level.Level.{Level}
use Rattle.names_terms.specs.declared.level.Level.TheVariants.{Action}
use Rattle.names_terms.specs.declared.spec.Spec.{Spec}
use Rattle.names_terms.specs.Terms.{Term}
use Rattle.names_term_parts.specs.Limits.{is_above}
use Rattle.eval_meanings.specs.Contexts.{Places}
use Rattle.eval_meanings.specs.Evaluates.{max_evaluations}
use Rattle.eval_meanings.specs.Laws.{AreValues, HoldValues}
use Rattle.eval_meanings.specs.Reads.{Knows}
use Rattle.actions_meanings.specs.declared.which.Which.TheVariants as which
use Rattle.actions_meanings.specs.declared.fault.FormFault.{FormFault}
use Rattle.actions_meanings.specs.Forms.{Setting}
use Rattle.actions_meanings.specs.Reads.{VariableSet, in_none}
use Rattle.actions_meanings.specs.Outcomes.{Fixes, FormOutcome, IsOutcome, IsWholeOutcome, unless, wholly}
use Rattle.steps_lines_defs.specs.Says.{Act, IsState, setting}
use Rattle.actions_meanings.specs.Filled.{Fills}
use Rattle.steps_walk_laws.specs.Stable.{IsOrderly, Reaches, in_term, in_reached}
use Rattle.names_specification_laws.specs.IsSpec.{IsReached, IsTerm, IsAtMost, needed, in_body, has_name, in_next}
use Rattle.actions_form_laws.specs.Growth.{WholeStays}
use Rattle.steps_walk_laws.specs.Grounds.{OrderlyActionsAreGrounded}
use Rattle.steps_found_states.specs.Grounds.{Grounds}
use Rattle.steps_found_states.specs.Parts.{FixesAll, GroundsAll, Parts}
use Rattle.steps_found_states.proofs.Lists.{all_in, of_map, place_by_all}
use Rattle.steps_ready_defs.specs.Ready.{IsReadyAct, IsReadySpec, IsReadyCall}
use Rattle.steps_why_walk.proofs.Passing.{none_seen}
use Rattle.steps_why_not.specs.Lines.{AreBoth, standing}

-- what leaves every variable fixed leaves them fixed

ok_same : {A : Type 0} (x y : A) → ◌≡◌ {A = Result A FormFault} (Ok x) (Ok y) → x ≡ y
ok_same x y e = cc

not_ok : {A : Type 0} (f : FormFault) (y : A) → ◌≡◌ {A = Result A FormFault} (Err f) (Ok y) → ⊥
not_ok f y e = cc

unless_same : {A : Type 0} (o : Option FormFault) (C E : A) → unless o (Ok C) ≡ Ok E → C ≡ E
unless_same None C E e = ok_same C E e
unless_same (Some f) C E e = absurd (not_ok f E e)

outcome_fixes : (g : Setting) (a : Term) (B E : VariableSet) (o : FormOutcome) → IsOutcome g a B o → wholly g.variables a o ≡ Ok E → Fixes g a B E
outcome_fixes g a B E (Ok C) i e = subst (λ (X : VariableSet). Fixes g a B X) (unless_same _ C E e) i
outcome_fixes g a B E (Err f) i e = absurd (not_ok f E e)

whole_fixes : (g : Setting) (a : Term) (B E : VariableSet) → IsWholeOutcome g a B (Ok E) → Fixes g a B E
whole_fixes g a B E h = outcome_fixes g a B E h.0 h.1 h.2

-- the state before has a value of each variable

some_same : (v w : Val) → ◌≡◌ {A = Option Val} (Some v) (Some w) → v ≡ w
some_same v w e = cc

holds_state : (s : Values) → All IsValue s → HoldValues (map Some s)
holds_state s a v m =
    let r = of_map Some s (Some v) m in
    subst IsValue (some_same r.0 v r.2) (all_in IsValue s (place_by_all IsValue s a) r.0 r.1)

known_at : (s : Values) (x : ℕ) → x < length s → Knows (map Some s) x
known_at [] x l = absurd (omega (arith, l))
known_at (v ∷ s) zero l = (v, refl)
known_at (v ∷ s) (suc x) l = known_at s x (omega (arith, l))

known_below : (n : ℕ) (s : Values) → length s ≡ n → (x : ℕ) → x < n → Knows (map Some s) x
known_below n s e x l = known_at s x (omega (arith, l, e))

no_slots : AreValues []
no_slots v m = absurd (none_in v m)

pub same_operator : (o q : Operator) → ◌≡◌ {A = Option Operator} (Some o) (Some q) → o ≡ q
same_operator o q e = cc

module _ (g : Spec) (ready : IsReadySpec g) where
  -- what Next and a definition with a name reach is reached

  next_reached : (k : ℕ) → Reaches g.operators g.next k → IsReached g k
  next_reached k (in_term _ m) = needed k (in_next k m)
  next_reached k (in_reached j o _ r e m) = in_body j o k (next_reached j r) e m

  body_reached : (i : ℕ) (o : Operator) → slice_get g.operators i ≡ Some o → o.name ≢ [] → (k : ℕ) → Reaches g.operators o.body k → IsReached g k
  body_reached i o e named k (in_term _ m) = in_body i o k (needed i (has_name i o e named)) e m
  body_reached i o e named k (in_reached j q _ r f m) = in_body j q k (body_reached i o e named j r) f m

  next_orderly : IsOrderly (length g.variables) g.operators 0 g.next
  next_orderly = record {
    term = ready.ordered.next.0;
    level = ready.ordered.next.1;
    bodies = λ k o r e. ready.ordered.bodies k o (next_reached k r) e;
  }

  body_orderly : (i : ℕ) (o : Operator) → slice_get g.operators i ≡ Some o → o.name ≢ [] → is_above o.level Action ≡ false → IsOrderly (length g.variables) g.operators o.params o.body × IsAtMost Action o.body
  body_orderly i o e named low =
      let b = ready.ordered.bodies i o (needed i (has_name i o e named)) e in
      let level : IsAtMost Action o.body = subst (λ (l : Level). is_above l Action ≡ false) b.1 low in
      let none : o.outer ≡ 0 = ready.ordered.outermost i o e named in
      let slots : o.outer + o.params ≡ o.params = omega (arith, none) in (
        record {
          term = subst (λ (n : ℕ). IsTerm (length g.variables) g.operators n o.body) slots b.0;
          level = level;
          bodies = λ k q r f. ready.ordered.bodies k q (body_reached i o e named k r) f;
        },
        level,
      )

  module _ (law : OrderlyActionsAreGrounded) (grows : WholeStays) where
    -- from any set Next leaves every variable fixed
    next_leaves : (B : VariableSet) → (E : VariableSet) × Fixes (setting which.Action g) g.next B E
    next_leaves B =
        let r = grows (setting which.Action g) g.next in_none ready.next.0 B ready.next.1 (λ x e. absurd (none x e)) in
        (r.0, whole_fixes (setting which.Action g) g.next B r.0 r.1)
      where
        none : (x : ℕ) → in_none x ≡ true → ⊥
        none x e = cc

    module _ (s : Values) (state : IsState (length g.variables) s) where
      next_grounds : (B : VariableSet) (p : Places) → length p ≡ length g.variables → Fills B p → Grounds (setting which.Action g) max_evaluations [] B p (standing [] s) g.next
      next_grounds B p long fills =
          let e = next_leaves B in
          law (setting which.Action g) max_evaluations 0 [] B e.0 p (standing [] s) g.next next_orderly ready.ordered.next.1 refl (known_below (length g.variables) s state.long)
          long fills (none_seen p) no_slots (holds_state s state.values) ready.known.next ready.known.bodies e.1

      body_grounds : (B : VariableSet) (p : Places) → length p ≡ length g.variables → Fills B p → (i : ℕ) (o : Operator) (vs : List Val) → slice_get g.operators i ≡ Some o → IsReadyCall g B vs o
          → Grounds (setting which.Action g) max_evaluations [] B p (standing vs s) o.body
      body_grounds B p long fills i o vs e c =
          let b = body_orderly i o e c.named c.level in
          law (setting which.Action g) max_evaluations o.params [] B c.form.0 p (standing vs s) o.body b.0 b.1 c.arguments (known_below (length g.variables) s state.long)
          long fills (none_seen p) c.values (holds_state s state.values) (ready.known.bodies i o e) ready.known.bodies c.form.1

      -- of both, one after the other

      abbrev pub BothGrounds : VariableSet → Places → Parts → Type 0
      BothGrounds B p es = GroundsAll (setting which.Action g) max_evaluations [] B p es × ((C : VariableSet) × FixesAll (setting which.Action g) es B C)

      module _ (B : VariableSet) (p : Places) (long : length p ≡ length g.variables) (fills : Fills B p) where
        next_alone : BothGrounds B p ((standing [] s, g.next) ∷ [])
        next_alone =
            let n = next_grounds B p long fills in
            let e = next_leaves B in (
              record {
                long = long;
                fills = fills;
                agrees = none_seen p;
                reads = λ t k. (n.reads t k, tt);
                walks = (n.walks, λ C q x l w f. tt);
                tuples = (n.tuples, tt);
              },
              (e.0, (e.0, e.1, refl)),
            )

        act_and_next : (i : ℕ) (o : Operator) (vs : List Val) → slice_get g.operators i ≡ Some o → IsReadyCall g B vs o → BothGrounds B p ((standing vs s, o.body) ∷ (standing [] s, g.next) ∷ [])
        act_and_next i o vs is c =
            let b = body_grounds B p long fills i o vs is c in
            let n = next_grounds B p long fills in
            let e = next_leaves c.form.0 in (
              record {
                long = long;
                fills = fills;
                agrees = none_seen p;
                reads = λ t k. (b.reads t k, (n.reads t k, tt));
                walks = (b.walks, λ C q x l w f. ((next_grounds C q (l ∙ long) f).walks, λ D r y m v h. tt));
                tuples = (b.tuples, (n.tuples, tt));
              },
              (e.0, (c.form.0, c.form.1, (e.0, e.1, refl))),
            )

        pub both_grounds : (act : Option Act) (es : Parts) → AreBoth g act s es → ((a : Act) → act ≡ Some a → IsReadyAct g B a) → BothGrounds B p es
        both_grounds None es i acts = subst (BothGrounds B p) (sym i) next_alone
        both_grounds (Some a) es i acts =
            let r = acts a refl in
            let c : IsReadyCall g B a.arguments i.0 = subst (λ (q : Operator). IsReadyCall g B a.arguments q) (same_operator r.0 i.0 (sym r.1 ∙ i.1)) r.2 in
            subst (BothGrounds B p) (sym i.2) (act_and_next a.operator i.0 a.arguments i.1 c)
