-- An action that is taken apart: what walking its parts finds is what walking it finds.
use Rattle.std.proofs.Common.{◌≡◌, ◌⊎◌, inl, inr, refl, sym, subst, ℕ, zero, suc, List, [], ◌∷◌, length, map}
use Rattle.std.specs.Prelude.{Any, Some, Result, Ok, Err, Contains}
use Rattle.std.specs.List.{AllByRecursion}
use Rattle.values_core.specs.Data.{Val}
use Rattle.values_core.specs.Ascending.{cons_cases, head_in, tail_in, none_in}
use Rattle.values_core.specs.declared.fault.EvalKind.TheVariants.{Nested}
use Rattle.states_core.specs.States.{Values}
use Rattle.states_core.specs.declared.fault.Fault.{Fault}
use Rattle.names_terms.specs.Terms.{Term, place_of}
use Rattle.eval_meanings.specs.declared.fault.EvalFault.{EvalFault}
use Rattle.eval_meanings.specs.declared.fault.EvalFault.TheVariants.{Refused}
use Rattle.eval_meanings.specs.Contexts.{Context, Places}
use Rattle.eval_meanings.specs.Outcomes.{fault}
use Rattle.actions_meanings.specs.Forms.{Setting, Form, form, test, assign, choose, both, either, narrowed, some, branch, arms, inside, call, changing}
use Rattle.actions_meanings.specs.Reads.{VariableSet}
use Rattle.actions_meanings.specs.Outcomes.{Fixes}
use Rattle.actions_meanings.specs.Holds.{Opened, OpenedHolds, Opens, FormHolds, Holds, Relation, all_of, one_of}
use Rattle.actions_meanings.specs.Fails.{Failing, Fails, FormFails, OpenedFails, SomeFails}
use Rattle.logs_updates.specs.declared.update.See.{See}
use Rattle.actions_meanings.specs.Filled.{Completes, at_next}
use Rattle.steps_found_states.specs.Walks.{FailsOf, HoldsOf, Walked}
use Rattle.steps_found_states.specs.Grounds.{Grounds, OpensFrom}
use Rattle.steps_found_states.specs.Parts.{Parts, FailsAll, FailsAny, FixesAll, HoldsAll, HoldsAny, WalkedAll, WalkedAny}
use Rattle.steps_found_states.proofs.Lists.{all_by_place, place_by_all, any_of, of_any, of_map}
use Rattle.steps_found_states.proofs.Finding.{fixed_itself, found_same, meets_here}
use Rattle.steps_found_states.proofs.Placed.{at_slots, holds_values}
use Rattle.steps_found_states.proofs.Openings.{all_placed, one_opens, opened_at, opens_at, placed}
use Rattle.steps_found_states.proofs.FormParts.{form_knows}

-- what holds of a form that opens, and what its faults are, in the words of what it opens to

module _ (g : Setting) (d : ℕ) (part : Relation) (c : Context) (p : Places) (b : Context) (a : Term) where
  pub held_opened : (f : Form) (r : Result Opened Fault) → OpensFrom g d c p (place_of a) f r → FormHolds g d part b a f → (o : Opened) × Opens g.table d b (place_of a) f (Ok o) × OpenedHolds part o
  held_opened (both es) r h k = k
  held_opened (narrowed n es) r h k = k
  held_opened (either es) r h k = k
  held_opened (some bs e) r h k = k
  held_opened (branch q e f) r h k = k
  held_opened (arms cs other) r h k = k
  held_opened (inside e) r h k = k
  held_opened (call j es) r h k = k
  held_opened (changing e v) r h k = absurd h
  held_opened test r h k = absurd h
  held_opened (assign x e) r h k = absurd h
  held_opened (choose x e) r h k = absurd h

  pub opened_held : (f : Form) (r : Result Opened Fault) → OpensFrom g d c p (place_of a) f r → (o : Opened) → Opens g.table d b (place_of a) f (Ok o) → OpenedHolds part o → FormHolds g d part b a f
  opened_held (both es) r h o k m = (o, k, m)
  opened_held (narrowed n es) r h o k m = (o, k, m)
  opened_held (either es) r h o k m = (o, k, m)
  opened_held (some bs e) r h o k m = (o, k, m)
  opened_held (branch q e f) r h o k m = (o, k, m)
  opened_held (arms cs other) r h o k m = (o, k, m)
  opened_held (inside e) r h o k m = (o, k, m)
  opened_held (call j es) r h o k m = (o, k, m)
  opened_held (changing e v) r h o k m = absurd h
  opened_held test r h o k m = absurd h
  opened_held (assign x e) r h o k m = absurd h
  opened_held (choose x e) r h o k m = absurd h

  abbrev pub OpeningFails : Failing → VariableSet → Form → Fault → Type 0
  OpeningFails fails B f e = Opens g.table d b (place_of a) f (Err e) ⊎ ((o : Opened) × Opens g.table d b (place_of a) f (Ok o) × OpenedFails g part fails B o e)

  pub failed_opened : (fails : Failing) (B : VariableSet) (f : Form) (r : Result Opened Fault) → OpensFrom g d c p (place_of a) f r → (e : Fault) → FormFails g d part fails B b a f e → OpeningFails fails B f e
  failed_opened fails B (both es) r h x k = k
  failed_opened fails B (narrowed n es) r h x k = k
  failed_opened fails B (either es) r h x k = k
  failed_opened fails B (some bs e) r h x k = k
  failed_opened fails B (branch q e f) r h x k = k
  failed_opened fails B (arms cs other) r h x k = k
  failed_opened fails B (inside e) r h x k = k
  failed_opened fails B (call j es) r h x k = k
  failed_opened fails B (changing e v) r h x k = absurd h
  failed_opened fails B test r h x k = absurd h
  failed_opened fails B (assign y e) r h x k = absurd h
  failed_opened fails B (choose y e) r h x k = absurd h

  pub opened_failed : (fails : Failing) (B : VariableSet) (f : Form) (r : Result Opened Fault) → OpensFrom g d c p (place_of a) f r → (e : Fault) → OpeningFails fails B f e → FormFails g d part fails B b a f e
  opened_failed fails B (both es) r h x k = k
  opened_failed fails B (narrowed n es) r h x k = k
  opened_failed fails B (either es) r h x k = k
  opened_failed fails B (some bs e) r h x k = k
  opened_failed fails B (branch q e f) r h x k = k
  opened_failed fails B (arms cs other) r h x k = k
  opened_failed fails B (inside e) r h x k = k
  opened_failed fails B (call j es) r h x k = k
  opened_failed fails B (changing e v) r h x k = absurd h
  opened_failed fails B test r h x k = absurd h
  opened_failed fails B (assign y e) r h x k = absurd h
  opened_failed fails B (choose y e) r h x k = absurd h

-- the form is that of the bare context

pub held_form : (g : Setting) (d : ℕ) (c : Context) (q : Places) (a : Term) → Holds g (suc d) (at_next g.which c q) a → FormHolds g d (Holds g d) (at_next g.which c q) a (form g (length c.slots) a)
held_form g d c q a h = subst (λ (ss : List Val). FormHolds g d (Holds g d) (at_next g.which c q) a (form g (length ss) a)) (at_slots g.which c q) h

pub form_held : (g : Setting) (d : ℕ) (c : Context) (q : Places) (a : Term) → FormHolds g d (Holds g d) (at_next g.which c q) a (form g (length c.slots) a) → Holds g (suc d) (at_next g.which c q) a
form_held g d c q a h = subst (λ (ss : List Val). FormHolds g d (Holds g d) (at_next g.which c q) a (form g (length ss) a)) (sym (at_slots g.which c q)) h

pub failed_form : (g : Setting) (d : ℕ) (B : VariableSet) (c : Context) (q : Places) (a : Term) (f : Fault) → Fails g (suc d) B (at_next g.which c q) a f
    → FormFails g d (Holds g d) (Fails g d) B (at_next g.which c q) a (form g (length c.slots) a) f
failed_form g d B c q a f h = subst (λ (ss : List Val). FormFails g d (Holds g d) (Fails g d) B (at_next g.which c q) a (form g (length ss) a) f) (at_slots g.which c q) h

pub form_failed : (g : Setting) (d : ℕ) (B : VariableSet) (c : Context) (q : Places) (a : Term) (f : Fault) → FormFails g d (Holds g d) (Fails g d) B (at_next g.which c q) a (form g (length c.slots) a) f
    → Fails g (suc d) B (at_next g.which c q) a f
form_failed g d B c q a f h = subst (λ (ss : List Val). FormFails g d (Holds g d) (Fails g d) B (at_next g.which c q) a (form g (length ss) a) f) (sym (at_slots g.which c q)) h

-- parts at a state

module _ (g : Setting) (d : ℕ) (t : Values) where
  abbrev At : Context × Term → Context × Term
  At = placed g.which (map Some t)

  all_there : (es : Parts) → HoldsAll g d es t → AllByRecursion (λ e. Holds g d e.0 e.1) (map At es)
  all_there [] h = tt
  all_there (e ∷ es) h = (h.0, all_there es h.1)

  all_back : (es : Parts) → AllByRecursion (λ e. Holds g d e.0 e.1) (map At es) → HoldsAll g d es t
  all_back [] h = tt
  all_back (e ∷ es) h = (h.0, all_back es h.1)

  some_there : (es : Parts) (B : VariableSet) (f : Fault) → FailsAll g d B es t f → SomeFails g (Holds g d) (Fails g d) B (map At es) f
  some_there [] B f h = absurd h
  some_there (e ∷ es) B f (inl h) = inl h
  some_there (e ∷ es) B f (inr h) = inr (h.0, (h.1.0, h.1.1, some_there es h.1.0 f h.1.2))

  some_back : (es : Parts) (B : VariableSet) (f : Fault) → SomeFails g (Holds g d) (Fails g d) B (map At es) f → FailsAll g d B es t f
  some_back [] B f h = absurd h
  some_back (e ∷ es) B f (inl h) = inl h
  some_back (e ∷ es) B f (inr h) = inr (h.0, (h.1.0, h.1.1, some_back es h.1.0 f h.1.2))

  any_there : (P : Context × Term → Type 0) (es : Parts) → Any (λ e. P (At e)) es → Any P (map At es)
  any_there P es h = let r = of_any (λ e. P (At e)) es h in any_of P (map At es) (At r.0) (in_map es r.0 r.1) r.2
    where
      in_map : (es : Parts) (e : Context × Term) → Contains es e → Contains (map At es) (At e)
      in_map [] e m = absurd (none_in e m)
      in_map (x ∷ es) e m = elim (cons_cases x es e m) [
        | inl i ↦ subst (λ (z : Context × Term). Contains (At x ∷ map At es) (At z)) i (head_in (At x) (map At es))
        | inr n ↦ tail_in (At x) (map At es) (At e) (in_map es e n)
      ]

  any_back : (P : Context × Term → Type 0) (es : Parts) → Any P (map At es) → Any (λ e. P (At e)) es
  any_back P es h =
      let r = of_any P (map At es) h in
      let m = of_map At es r.0 r.1 in
      any_of (λ e. P (At e)) es m.0 m.1 (subst P (sym m.2) r.2)

  pub holds_there : (o : Opened) → OpenedHolds (λ c e. HoldsOf g d c e t) o → OpenedHolds (Holds g d) (all_placed g.which (map Some t) o)
  holds_there (all_of es) h = all_by_place (λ e. Holds g d e.0 e.1) (map At es) (all_there es (place_by_all (λ e. HoldsOf g d e.0 e.1 t) es h))
  holds_there (one_of es) h = any_there (λ e. Holds g d e.0 e.1) es h

  pub holds_back : (o : Opened) → OpenedHolds (Holds g d) (all_placed g.which (map Some t) o) → OpenedHolds (λ c e. HoldsOf g d c e t) o
  holds_back (all_of es) h = all_by_place (λ e. HoldsOf g d e.0 e.1 t) es (all_back es (place_by_all (λ e. Holds g d e.0 e.1) (map At es) h))
  holds_back (one_of es) h = any_back (λ e. Holds g d e.0 e.1) es h

  -- the faults of what is opened
  abbrev pub FailsIn : VariableSet → Opened → Fault → Type 0
  FailsIn B (all_of es) f = FailsAll g d B es t f
  FailsIn B (one_of es) f = FailsAny g d B es t f

  pub fails_there : (B : VariableSet) (o : Opened) (f : Fault) → FailsIn B o f → OpenedFails g (Holds g d) (Fails g d) B (all_placed g.which (map Some t) o) f
  fails_there B (all_of es) f h = some_there es B f h
  fails_there B (one_of es) f h = any_there (λ e. Fails g d B e.0 e.1 f) es h

  pub fails_back : (B : VariableSet) (o : Opened) (f : Fault) → OpenedFails g (Holds g d) (Fails g d) B (all_placed g.which (map Some t) o) f → FailsIn B o f
  fails_back B (all_of es) f h = some_back es B f h
  fails_back B (one_of es) f h = any_back (λ e. Fails g d B e.0 e.1 f) es h

-- what the action says of a state is what the parts say to which it opens

module _ (g : Setting) (d : ℕ) (sees : List See) (B : VariableSet) (p : Places) (c : Context) (a : Term) (gr : Grounds g (suc d) sees B p c a) where
  -- in one way at each state that completes the places
  one_way : (t : Values) → Completes p t → (r q : Result Opened Fault) → OpensFrom g d c p (place_of a) (form g (length c.slots) a) r
      → Opens g.table d (at_next g.which c (map Some t)) (place_of a) (form g (length c.slots) a) q → opened_at g.which (map Some t) r ≡ q
  one_way t k r q h i =
      let w = gr.reads t k in
      one_opens g.table d (at_next g.which c (map Some t)) w.definitions (holds_values g.table (at_next g.which c (map Some t)) a w) (place_of a) (form g (length c.slots) a)
      (form_knows g w.definitions (length c.slots) a w.known) (opened_at g.which (map Some t) r) q (opens_at g d c p (map Some t) (place_of a) (form g (length c.slots) a) k.has r h) i

  ok_opened : (o o' : Opened) → ◌≡◌ {A = Result Opened Fault} (Ok o) (Ok o') → o ≡ o'
  ok_opened o o' e = cc

  ok_err : (o : Opened) (f : Fault) → ◌≡◌ {A = Result Opened Fault} (Ok o) (Err f) → ⊥
  ok_err o f e = cc

  pub says_so : (o : Opened) → OpensFrom g d c p (place_of a) (form g (length c.slots) a) (Ok o) → (t : Values) → Completes p t → OpenedHolds (λ c e. HoldsOf g d c e t) o → HoldsOf g (suc d) c a t
  says_so o h t k m = form_held g d c (map Some t) a
      (opened_held g d (Holds g d) c p (at_next g.which c (map Some t)) a (form g (length c.slots) a) (Ok o) h (all_placed g.which (map Some t) o)
      (opens_at g d c p (map Some t) (place_of a) (form g (length c.slots) a) k.has (Ok o) h) (holds_there g d t o m))

  pub so_says : (o : Opened) → OpensFrom g d c p (place_of a) (form g (length c.slots) a) (Ok o) → (t : Values) → Completes p t → HoldsOf g (suc d) c a t → OpenedHolds (λ c e. HoldsOf g d c e t) o
  so_says o h t k m =
      let r = held_opened g d (Holds g d) c p (at_next g.which c (map Some t)) a (form g (length c.slots) a) (Ok o) h (held_form g d c (map Some t) a m) in
      let e = ok_opened (all_placed g.which (map Some t) o) r.0 (one_way t k (Ok o) (Ok r.0) h r.1) in
      holds_back g d t o (subst (λ (x : Opened). OpenedHolds (Holds g d) x) (sym e) r.2)

  pub faults_so : (o : Opened) → OpensFrom g d c p (place_of a) (form g (length c.slots) a) (Ok o) → (t : Values) (f : Fault) → Completes p t → FailsIn g d t B o f → FailsOf g (suc d) B c a t f
  faults_so o h t f k m = form_failed g d B c (map Some t) a f
      (opened_failed g d (Holds g d) c p (at_next g.which c (map Some t)) a (Fails g d) B (form g (length c.slots) a) (Ok o) h f
      (inr (all_placed g.which (map Some t) o, opens_at g d c p (map Some t) (place_of a) (form g (length c.slots) a) k.has (Ok o) h, fails_there g d t B o f m)))

  pub so_faults : (o : Opened) → OpensFrom g d c p (place_of a) (form g (length c.slots) a) (Ok o) → (t : Values) (f : Fault) → Completes p t → FailsOf g (suc d) B c a t f → FailsIn g d t B o f
  so_faults o h t f k m =
      by_way (failed_opened g d (Holds g d) c p (at_next g.which c (map Some t)) a (Fails g d) B (form g (length c.slots) a) (Ok o) h f (failed_form g d B c (map Some t) a f m))
    where
      by_way : OpeningFails g d (Holds g d) c p (at_next g.which c (map Some t)) a (Fails g d) B (form g (length c.slots) a) f → FailsIn g d t B o f
      by_way (inl n) = absurd (ok_err (all_placed g.which (map Some t) o) f (one_way t k (Ok o) (Err f) h n))
      by_way (inr r) =
          let e = ok_opened (all_placed g.which (map Some t) o) r.0 (one_way t k (Ok o) (Ok r.0) h r.1) in
          fails_back g d t B o f (subst (λ (x : Opened). OpenedFails g (Holds g d) (Fails g d) B x f) (sym e) r.2)

  -- a fault of what is evaluated for the form
  pub walked_refused : (f : Fault) → OpensFrom g d c p (place_of a) (form g (length c.slots) a) (Err f) → Walked g (suc d) sees B p c a (Err (Refused f.kind f.at))
  walked_refused f h = meets_here sees p (FailsOf g (suc d) B c a) (fault f.kind f.at) gr.agrees (λ t k. form_failed g d B c (map Some t) a f
      (opened_failed g d (Holds g d) c p (at_next g.which c (map Some t)) a (Fails g d) B (form g (length c.slots) a) (Err f) h f
      (inl (opens_at g d c p (map Some t) (place_of a) (form g (length c.slots) a) k.has (Err f) h))))

  -- what one of its parts finds
  pub walked_one_of : (es : Parts) → OpensFrom g d c p (place_of a) (form g (length c.slots) a) (Ok (one_of es)) → (r : Result (List Places) EvalFault) → WalkedAny g d sees B p a es r → Walked g (suc d) sees B p c a r
  walked_one_of es h r w = found_same sees p (Fixes g a B) (Fixes g a B) (HoldsAny g d es) (HoldsOf g (suc d) c a) (FailsAny g d B es) (FailsOf g (suc d) B c a) (fixed_itself p (Fixes g a B))
      (says_so (one_of es) h) (so_says (one_of es) h) (faults_so (one_of es) h) (so_faults (one_of es) h) r w

  -- what all of its parts find
  pub walked_all_so : (es : Parts) → OpensFrom g d c p (place_of a) (form g (length c.slots) a) (Ok (all_of es)) → ((C : VariableSet) → Fixes g a B C → FixesAll g es B C)
      → (r : Result (List Places) EvalFault) → WalkedAll g d sees B p es r → Walked g (suc d) sees B p c a r
  walked_all_so es h x r w = found_same sees p (FixesAll g es B) (Fixes g a B) (HoldsAll g d es) (HoldsOf g (suc d) c a) (FailsAll g d B es) (FailsOf g (suc d) B c a) (λ C i. (C, x C i, λ q e f. f))
      (λ t k m. says_so (all_of es) h t k (all_by_place (λ e. HoldsOf g d e.0 e.1 t) es m)) (λ t k m. place_by_all (λ e. HoldsOf g d e.0 e.1 t) es (so_says (all_of es) h t k m))
      (faults_so (all_of es) h) (so_faults (all_of es) h) r w

-- with no evaluation left
pub walked_nested : (g : Setting) (sees : List See) (B : VariableSet) (p : Places) (c : Context) (a : Term) → Grounds g zero sees B p c a → Walked g zero sees B p c a (Err (Refused Nested (place_of a)))
walked_nested g sees B p c a gr = meets_here sees p (FailsOf g zero B c a) (fault Nested (place_of a)) gr.agrees (λ t k. refl)
