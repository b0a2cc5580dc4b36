-- What the functions that tell rest on and answer, by what is decided of a term at the places of states.
use Rattle.std.proofs.Common.{◌≡◌, refl, sym, subst, ◌∙◌, ℕ, List, []}
use Rattle.std.proofs.lemmas.Result.{IfOk-weaker}
use Rattle.std.specs.Prelude.{IfOk, Option, Some, Result, length, map, slice_get}
use Rattle.values_core.specs.Data.{Val}
use Rattle.states_core.specs.States.{Values}
use Rattle.names_terms.specs.declared.operator.Operator.{Operator}
use Rattle.names_terms.specs.declared.spec.Spec.{Spec}
use Rattle.eval_meanings.specs.Contexts.{Context, Places}
use Rattle.actions_meanings.specs.declared.which.Which.TheVariants as which
use Rattle.actions_meanings.specs.Forms.{Setting}
use Rattle.actions_meanings.specs.Reads.{VariableSet}
use Rattle.steps_lines_defs.specs.Says.{ActFails, ActHolds, InitFails, InitHolds, IsState, NextFails, NextHolds, at_states, setting}
use Rattle.steps_lines_defs.specs.Steps.{FaultFirst, IsInitial}
use Rattle.judge_truth.specs.Truths.{everything}
use Rattle.actions_form_laws.specs.Growth.{FormsStay}
use Rattle.steps_walk_laws.specs.Grounds.{OrderlyActionsAreGrounded}
use Rattle.states_verdicts.specs.Tellings.{Tells}
use Rattle.states_verdicts.specs.declared.pairs.Told.{Told}
use Rattle.steps_ready_defs.specs.Ready.{IsReadyCall, IsReadySpec}
use Rattle.judge_pairs.specs.Telling.{AreBetween, CanAct, CanDecide, IsDecided, act_at}
use Rattle.judge_pairs.proofs.Asking.{can_act, can_here, can_init, can_next, decided_there, same_context}
use Rattle.judge_pairs.proofs.Told.{act_told, with_state}

same_operator : (o q : Operator) → ◌≡◌ {A = Option Operator} (Some o) (Some q) → o ≡ q
same_operator o q e = cc

-- Init

module _ (g : Spec) (ready : IsReadySpec g) (t : Values) (state : IsState (length g.variables) t) (p : Places) (at : p ≡ map Some t) (F : Setting) (c : Context) (h : F ≡ setting which.Init g)
    (e : c ≡ record { slots = []; now = p; next = p }) where
  at_first : c ≡ at_states [] t t
  at_first = e ∙ same_context [] [] p p t t refl at at

  pub init_can : OrderlyActionsAreGrounded → FormsStay → CanDecide F c g.init
  init_can law stay = can_here F (setting which.Init g) c (at_states [] t t) h at_first g.init (can_init law stay g ready t state)

  pub init_tells : {E : Type 0} (r : Result Told E) → IfOk r (λ told. IsDecided F c g.init told) → IfOk r (λ told. Tells (IsInitial g t) (FaultFirst g everything t) told)
  init_tells r x =
      IfOk-weaker r (λ told. IsDecided F c g.init told) (λ told. Tells (IsInitial g t) (FaultFirst g everything t) told)
      (λ told y. with_state (IsState (length g.variables) t) (InitHolds g t) (InitFails g everything t) told state (decided_there F (setting which.Init g) c (at_states [] t t) h at_first g.init told y)) x

-- Next, or an operator

module _ (g : Spec) (s t : Values) (p q : Places) (b : AreBetween g s t p q) (F : Setting) (c : Context) (us vs : List Val) (h : F ≡ setting which.Action g) (e : c ≡ record { slots = us; now = p; next = q })
    (k : us ≡ vs) where
  at_both : c ≡ at_states vs s t
  at_both = e ∙ same_context us vs p q s t k b.before b.after

  module _ (n : ℕ) (o : Operator) (is : slice_get g.operators n ≡ Some o) where
    own_call : (B : VariableSet) (x : Operator) → slice_get g.operators n ≡ Some x → IsReadyCall g B vs x → IsReadyCall g B vs o
    own_call B x i r = subst (λ (y : Operator). IsReadyCall g B vs y) (same_operator x o (sym i ∙ is)) r

    pub act_can : OrderlyActionsAreGrounded → FormsStay → CanAct g (act_at n vs) → CanDecide F c o.body
    act_can law stay r =
        can_here F (setting which.Action g) c (at_states vs s t) h at_both o.body (can_act law stay g b.spec t b.to s b.from n o vs r.0 is (own_call r.0 r.1.0 r.1.1 r.1.2))

    pub act_tells : {E : Type 0} (r : Result Told E) → IfOk r (λ told. IsDecided F c o.body told) → IfOk r (λ told. Tells (ActHolds g (act_at n vs) s t) (ActFails g (act_at n vs) everything s t) told)
    act_tells r x =
        IfOk-weaker r (λ told. IsDecided F c o.body told) (λ told. Tells (ActHolds g (act_at n vs) s t) (ActFails g (act_at n vs) everything s t) told)
        (λ told y. act_told g n vs o is s t told (decided_there F (setting which.Action g) c (at_states vs s t) h at_both o.body told y)) x

module _ (g : Spec) (s t : Values) (p q : Places) (b : AreBetween g s t p q) (F : Setting) (c : Context) (h : F ≡ setting which.Action g) (e : c ≡ record { slots = []; now = p; next = q }) where
  at_next : c ≡ at_states [] s t
  at_next = e ∙ same_context [] [] p q s t refl b.before b.after

  pub next_can : OrderlyActionsAreGrounded → FormsStay → CanDecide F c g.next
  next_can law stay = can_here F (setting which.Action g) c (at_states [] s t) h at_next g.next (can_next law stay g b.spec t b.to s b.from)

  pub next_tells : {E : Type 0} (r : Result Told E) → IfOk r (λ told. IsDecided F c g.next told) → IfOk r (λ told. Tells (NextHolds g s t) (NextFails g everything s t) told)
  next_tells r x =
      IfOk-weaker r (λ told. IsDecided F c g.next told) (λ told. Tells (NextHolds g s t) (NextFails g everything s t) told)
      (λ told y. decided_there F (setting which.Action g) c (at_states [] s t) h at_next g.next told y) x
