-- What deciding Init, Next and an operator rests on, at states of the specification.
use Rattle.std.proofs.Common.{◌≡◌, refl, sym, ap, subst, ◌∙◌, arith, ℕ, zero, suc, ◌<◌, List, [], ◌∷◌, length, map, get_or}
use Rattle.std.specs.Prelude.{All, Option, Some, slice_get}
use Rattle.values_core.specs.Data.{Val}
use Rattle.values_core.specs.IsValue.{IsValue}
use Rattle.states_core.specs.States.{Values}
use Rattle.names_terms.specs.declared.operator.Operator.{Operator}
use Rattle.names_terms.specs.declared.level.Level.TheVariants.{Action}
use Rattle.names_terms.specs.declared.spec.Spec.{Spec}
use Rattle.names_terms.specs.Terms.{Term}
use Rattle.eval_meanings.specs.Contexts.{Context, Places}
use Rattle.eval_meanings.specs.Evaluates.{max_evaluations}
use Rattle.eval_meanings.specs.Laws.{AreValues, HoldValues}
use Rattle.eval_meanings.specs.Reads.{Knows}
use Rattle.actions_meanings.specs.declared.which.Which.TheVariants as which
use Rattle.actions_meanings.specs.Forms.{Setting}
use Rattle.actions_meanings.specs.Reads.{VariableSet, in_none}
use Rattle.actions_meanings.specs.Filled.{Fills}
use Rattle.steps_lines_defs.specs.Says.{IsState, at_states, setting}
use Rattle.steps_found_states.specs.Walks.{Agrees}
use Rattle.judge_truth.specs.Truths.{IsWhole, everything}
use Rattle.actions_form_laws.specs.Growth.{FormsStay}
use Rattle.steps_walk_laws.specs.Grounds.{OrderlyActionsAreGrounded}
use Rattle.steps_ready_defs.specs.Ready.{IsReadyCall, IsReadySpec}
use Rattle.judge_pairs.specs.Telling.{CanDecide, IsDecided}
use Rattle.states_verdicts.specs.declared.pairs.Told.{Told}
use Rattle.judge_pairs.proofs.Fixed.{form_there, init_form, next_form}
use Rattle.judge_pairs.proofs.Orders.{body_orderly, init_orderly, next_orderly}

-- the places of a state

long_places : (t : Values) → length (map Some t) ≡ length t
long_places [] = refl
long_places (v ∷ t) = ap suc (long_places t)

known_in : (t : Values) (x : ℕ) → x < length t → Knows (map Some t) x
known_in [] x l = absurd (omega (arith, l))
known_in (v ∷ t) zero l = (v, refl)
known_in (v ∷ t) (suc x) l = known_in t x (omega (arith, l))

all_filled : (t : Values) → Fills everything (map Some t)
all_filled t x l = (λ e. known_in t x (subst (λ n. x < n) (long_places t) l), λ k. refl)

some_same : (v w : Val) → ◌≡◌ {A = Option Val} (Some v) (Some w) → v ≡ w
some_same v w e = cc

holds_at : (t : Values) → All IsValue t → (k : ℕ) (v : Val) → k < length (map Some t) → get_or (map Some t) k (Some v) ≡ Some v → IsValue v
holds_at [] a k v l e = absurd (omega (arith, l))
holds_at (u ∷ t) a zero v l e = subst IsValue (some_same u v e) (a zero u (omega arith))
holds_at (u ∷ t) a (suc k) v l e = holds_at t (λ j d m. a (suc j) d (omega (arith, m))) k v (omega (arith, l)) e

values_hold : (t : Values) → All IsValue t → HoldValues (map Some t)
values_hold t a v m = holds_at t a m.0 v m.1 m.2

is_whole : (t : Values) → All IsValue t → IsWhole (map Some t)
is_whole t a = (t, refl, λ v m. subst IsValue m.2 (a m.0 v m.1))

no_slots : AreValues []
no_slots v m = absurd (omega (arith, m.1))

none_seen : (p : Places) → Agrees [] p
none_seen p k d l = absurd (omega (arith, l))

module _ (law : OrderlyActionsAreGrounded) (stay : FormsStay) (g : Spec) (ready : IsReadySpec g) (t : Values) (to : IsState (length g.variables) t) where
  long : length (map Some t) ≡ length g.variables
  long = long_places t ∙ to.long

  pub can_init : CanDecide (setting which.Init g) (at_states [] t t) g.init
  can_init =
      let form = form_there stay (setting which.Init g) g.init in_none (init_form g ready) in
      record {
        states = refl;
        whole = is_whole t to.values;
        grounds = law (setting which.Init g) max_evaluations 0 [] everything form.0 (map Some t) (at_states [] t t) g.init (init_orderly g ready.ordered) ready.ordered.init.1 refl tt long (all_filled t)
            (none_seen (map Some t)) no_slots (values_hold t to.values) ready.known.init ready.known.bodies form.1;
      }

  module _ (s : Values) (from : IsState (length g.variables) s) where
    known : (x : ℕ) → x < length g.variables → Knows (map Some s) x
    known x l = known_in s x (subst (λ n. x < n) (sym from.long) l)

    pub can_next : CanDecide (setting which.Action g) (at_states [] s t) g.next
    can_next =
        let form = form_there stay (setting which.Action g) g.next in_none (next_form g ready) in
        record {
          states = tt;
          whole = is_whole t to.values;
          grounds = law (setting which.Action g) max_evaluations 0 [] everything form.0 (map Some t) (at_states [] s t) g.next (next_orderly g ready.ordered) ready.ordered.next.1 refl known long
              (all_filled t) (none_seen (map Some t)) no_slots (values_hold s from.values) ready.known.next ready.known.bodies form.1;
        }

    pub can_act : (i : ℕ) (o : Operator) (vs : List Val) (B : VariableSet) → slice_get g.operators i ≡ Some o → IsReadyCall g B vs o → CanDecide (setting which.Action g) (at_states vs s t) o.body
    can_act i o vs B e call =
        let form = form_there stay (setting which.Action g) o.body B call.form in
        let b = body_orderly g ready.ordered i o e call.named call.level in
        record {
          states = tt;
          whole = is_whole t to.values;
          grounds = law (setting which.Action g) max_evaluations o.params [] everything form.0 (map Some t) (at_states vs s t) o.body b.0 b.1 call.arguments known long (all_filled t)
              (none_seen (map Some t)) call.values (values_hold s from.values) (ready.known.bodies i o e) ready.known.bodies form.1;
        }

-- the same of what Rust holds

module _ (F G : Setting) (c d : Context) (h : F ≡ G) (e : c ≡ d) (a : Term) where
  pub can_here : CanDecide G d a → CanDecide F c a
  can_here x = subst (λ (X : Setting). CanDecide X c a) (sym h) (subst (λ (y : Context). CanDecide G y a) (sym e) x)

  pub decided_there : (r : Told) → IsDecided F c a r → IsDecided G d a r
  decided_there r x = subst (λ (X : Setting). IsDecided X d a r) h (subst (λ (y : Context). IsDecided F y a r) e x)

pub same_context : (us vs : List Val) (p q : Places) (s t : Values) → us ≡ vs → p ≡ map Some s → q ≡ map Some t → ◌≡◌ {A = Context} (record { slots = us; now = p; next = q }) (at_states vs s t)
same_context us vs p q s t e h k = λ i. record { slots = e i; now = h i; next = k i }
