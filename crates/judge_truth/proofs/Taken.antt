-- The rows of Rust: what their parts rest on, and that what is decided of the parts is decided of the row.
use Rattle.std.proofs.Common.{◌≡◌, ◌≢◌, ◌↔◌, inl, inr, refl, sym, ap, ◌∙◌, subst, ℕ, suc, ◌≤◌, List, [], ◌∷◌, length, map}
use Rattle.std.specs.Prelude.{Bool, true, false, IsTrue, Option, Some, Result, Ok, Err, slice_get, if◌then◌else◌}
use Rattle.base_core.specs.declared.place.Place.{Place}
use Rattle.values_core.specs.Data.{Val}
use Rattle.values_core.specs.declared.fault.EvalKind.TheVariants.{Nested}
use Rattle.names_terms.specs.declared.level.Level.TheVariants as levels
use Rattle.names_terms.specs.declared.operator.Operator.{Operator}
use Rattle.names_terms.specs.Terms.{Term, Bounds, place_of}
use Rattle.values_sets.specs.DescribedSets.{Described}
use Rattle.values_sets.specs.Membership.{Belongs}
use Rattle.eval_meanings.specs.declared.fault.EvalFault.{EvalFault}
use Rattle.eval_meanings.specs.declared.fault.EvalFault.TheVariants.{Refused, NoMemory}
use Rattle.eval_meanings.specs.Answers.{Tells}
use Rattle.eval_meanings.specs.Binders.{BoundValues}
use Rattle.eval_meanings.specs.Contexts.{Context, Places, enter, within}
use Rattle.eval_meanings.specs.Evaluates.{Describes, Evaluates}
use Rattle.eval_meanings.specs.Outcomes.{Each, Outcome, fault}
use Rattle.eval_meanings.specs.Sets.{MeansSet}
use Rattle.eval_meanings.specs.Unchanged.{TruthOf, behind, changed_of}
use Rattle.actions_meanings.specs.declared.which.Which.{Which}
use Rattle.actions_meanings.specs.declared.which.Which.TheVariants as which
use Rattle.actions_meanings.specs.Forms.{Form, Setting, is_taken, unchanged_form, arms, assign, both, branch, call, changing, choose, either, inside, narrowed, some, test}
use Rattle.actions_meanings.specs.Holds.{Chosen}
use Rattle.eval_meanings.specs.Reads.{BoundsRead, Reads, ReadsEach}
use Rattle.eval_parts.specs.Following.{variable_at}
use Rattle.eval_parts.specs.Scenes.{Stops}
use Rattle.actions_form_laws.specs.Growth.{FormsGrow}
use Rattle.actions_meanings.specs.Filled.{at_next}
use Rattle.actions_meanings.specs.Walkable.{ArmsWalk, Walkable}
use Rattle.steps_found_states.specs.Parts.{Parts}
use Rattle.actions_rows.specs.Rows.{part_term}
use Rattle.actions_rows.specs.declared.part.Part.{Part}
use Rattle.actions_rows.specs.declared.part.Part.TheVariants as part
use Rattle.actions_rows.specs.Tested.{IsTested}
use Rattle.judge_truth.specs.Pairs.{at, setting}
use Rattle.judge_truth.specs.Truths.{AreStates, everything}
use Rattle.judge_truth.specs.Deciding.{AllDecided, AllReady, AnyDecided, AnyReady, BodyDecided, BodyReady, IsDecided, IsForm, PartDecided, PartReady, Ready, parts_at, under}
use Rattle.judge_truth.specs.declared.pair.Pair.{Pair}
use Rattle.judge_truth.proofs.Changing.{angled_fails, angled_grounds, angled_reads, angled_row, angled_stops}
use Rattle.judge_truth.proofs.Opening.{all_of_decided, all_of_grounds, form_walks, one_of_decided, one_of_grounds, only_decided, only_grounds, row_stops}
use Rattle.judge_truth.proofs.Simple.{assigned_row, chosen_row, kept_row, tested_row, unassigned_row, unchosen_row, unkept_row}

-- the context of two states is the one before with the state that is made
pub settled : (w : Which) (c : Context) → AreStates w c.now c.next → at_next w c c.next ≡ c
settled which.Init c e =
    let made : Places → Context = λ q. record { slots = c.slots; now = q; next = c.next } in
    ap made (sym e)
settled which.Action c e = refl

pub parts_are : (c : Context) (qs : List Part) (es : List Term) → map part_term qs ≡ es → parts_at c qs ≡ map (λ e. (c, e)) es
parts_are c qs es e = each qs ∙ ap (λ (us : List Term). map (λ e. (c, e)) us) e
  where
    each : (qs : List Part) → parts_at c qs ≡ map (λ e. (c, e)) (map part_term qs)
    each [] = refl
    each (q ∷ qs) = ap (λ (us : Parts). (c, part_term q) ∷ us) (each qs)

-- from one pair to another with this setting and this context, and back

pub to_pair : (s r : Pair) (P : Setting → Context → Type 0) (c : Context) → setting r ≡ setting s → at r ≡ c → P (setting s) c → P (setting r) (at r)
to_pair s r P c e i h = subst (λ (g : Setting). P g (at r)) (sym e) (subst (λ (x : Context). P (setting s) x) (sym i) h)

pub of_pair : (s r : Pair) (P : Setting → Context → Type 0) (c : Context) → setting r ≡ setting s → at r ≡ c → P (setting r) (at r) → P (setting s) c
of_pair s r P c e i h = subst (λ (x : Context). P (setting s) x) i (subst (λ (g : Setting). P g (at r)) e h)

tells_stops : {A : Type 0} (P : Outcome A) (x : EvalFault) → Tells {A = A} (Err x) P → Stops P x
tells_stops P (Refused kind at) h = h
tells_stops P NoMemory h = tt

arm_tests : (reads : Context → Term → Type 0) (walks : Term → Type 0) (c : Context) (cs : List (Term × Term)) (other : Option Term) → ArmsWalk reads walks c cs other → ReadsEach reads c (map (λ q. q.0) cs)
arm_tests reads walks c [] other w = tt
arm_tests reads walks c (q ∷ cs) other w = (w.0, arm_tests reads walks c cs other w.2)

module _ (s : Pair) (d : ℕ) (q : Part) where
  abbrev g : Setting
  g = setting s

  abbrev ctx : Context
  ctx = at s

  abbrev a : Term
  a = part_term q

  abbrev p : Places
  p = ctx.next

  abbrev ev : Context → Term → Outcome Val
  ev = Evaluates g.table d

  here : PartReady s (suc d) q → (P : Context → Type 0) → P ctx → P (at_next g.which ctx p)
  here h P x = subst P (sym (settled g.which ctx h.0)) x

  there : PartReady s (suc d) q → (P : Context → Type 0) → P (at_next g.which ctx p) → P ctx
  there h P x = subst P (settled g.which ctx h.0) x

  -- all of the terms

  pub both_ready : (ts : List Term) (qs : List Part) → map part_term qs ≡ ts → IsForm s q (both ts) → PartReady s (suc d) q → AllReady g d ctx (parts_at ctx qs)
  both_ready ts qs e i h = subst (λ (es : Parts). AllReady g d ctx es) (sym (parts_are ctx qs ts e)) (h.0, all_of_grounds g d p ctx a (both ts) i (map (λ e. (ctx, e)) ts) refl h.1)

  pub both_decided : (ts : List Term) (qs : List Part) (r : Result Bool EvalFault) → map part_term qs ≡ ts → IsForm s q (both ts) → AllDecided g d p (parts_at ctx qs) r → PartDecided s (suc d) q r
  both_decided ts qs r e i w = all_of_decided g d p ctx a (both ts) i (map (λ e. (ctx, e)) ts) r refl (subst (λ (es : Parts). AllDecided g d p es r) (parts_are ctx qs ts e) w)

  -- with fewer slots

  pub narrowed_ready : (n : ℕ) (ts : List Term) (qs : List Part) → map part_term qs ≡ ts → IsForm s q (narrowed n ts) → PartReady s (suc d) q → AllReady g d (within n ctx) (parts_at (within n ctx) qs)
  narrowed_ready n ts qs e i h =
      subst (λ (es : Parts). AllReady g d (within n ctx) es) (sym (parts_are (within n ctx) qs ts e)) (h.0, all_of_grounds g d p ctx a (narrowed n ts) i (map (λ e. (within n ctx, e)) ts) refl h.1)

  pub narrowed_decided : (n : ℕ) (ts : List Term) (qs : List Part) (r : Result Bool EvalFault) → map part_term qs ≡ ts → IsForm s q (narrowed n ts) → AllDecided g d (within n ctx).next (parts_at (within n ctx) qs) r → PartDecided s (suc d) q r
  narrowed_decided n ts qs r e i w =
      all_of_decided g d p ctx a (narrowed n ts) i (map (λ e. (within n ctx, e)) ts) r refl (subst (λ (es : Parts). AllDecided g d p es r) (parts_are (within n ctx) qs ts e) w)

  -- one of the terms

  pub either_ready : (ts : List Term) (qs : List Part) → map part_term qs ≡ ts → IsForm s q (either ts) → PartReady s (suc d) q → AnyReady g d ctx (parts_at ctx qs)
  either_ready ts qs e i h = subst (λ (es : Parts). AnyReady g d ctx es) (sym (parts_are ctx qs ts e)) (h.0, one_of_grounds g d p ctx a (either ts) i (map (λ e. (ctx, e)) ts) refl h.1)

  pub either_decided : (ts : List Term) (qs : List Part) (r : Result Bool EvalFault) → map part_term qs ≡ ts → IsForm s q (either ts) → AnyDecided g d p (parts_at ctx qs) r → PartDecided s (suc d) q r
  either_decided ts qs r e i w = one_of_decided g d p ctx a (either ts) i (map (λ e. (ctx, e)) ts) r refl (subst (λ (es : Parts). AnyDecided g d p es r) (parts_are ctx qs ts e) w)

  -- IF

  pub branch_reads : (t e f : Term) → IsForm s q (branch t e f) → PartReady s (suc d) q → Reads g.table d ctx t
  branch_reads t e f i h = there h (λ x. Reads g.table d x t) (form_walks g d p ctx a (branch t e f) i h.1).0

  pub branch_ready : (t e f : Term) (b : Bool) → IsForm s q (branch t e f) → TruthOf ev ctx t (Ok b) → PartReady s (suc d) q → Ready g d ctx (if b then e else f)
  branch_ready t e f b i k h = (h.0, only_grounds g d p ctx a (branch t e f) i ctx (if b then e else f) (inl (b, here h (λ x. TruthOf ev x t (Ok b)) k, refl)) h.1)

  pub branch_decided : (t e f : Term) (b : Bool) (r : Result Bool EvalFault) → IsForm s q (branch t e f) → TruthOf ev ctx t (Ok b) → PartReady s (suc d) q → IsDecided g d p ctx (if b then e else f) r → PartDecided s (suc d) q r
  branch_decided t e f b r i k h w = only_decided g d p ctx a (branch t e f) i ctx (if b then e else f) r (inl (b, here h (λ x. TruthOf ev x t (Ok b)) k, refl)) w

  pub branch_stops : (t e f : Term) (x : EvalFault) → IsForm s q (branch t e f) → PartReady s (suc d) q → Tells {A = Bool} (Err x) (TruthOf ev ctx t) → PartDecided s (suc d) q (Err x)
  branch_stops t e f (Refused kind at) i h k = row_stops g d p ctx a (branch t e f) i (Refused kind at) (inr (fault kind at, here h (λ x. TruthOf ev x t (Err (fault kind at))) k, refl))
  branch_stops t e f NoMemory i h k = row_stops g d p ctx a (branch t e f) i NoMemory tt

  -- CASE

  pub arms_read : (cs : List (Term × Term)) (other : Option Term) → IsForm s q (arms cs other) → PartReady s (suc d) q → ReadsEach (Reads g.table d) ctx (map (λ x. x.0) cs)
  arms_read cs other i h =
      let w = form_walks g d p ctx a (arms cs other) i h.1 in
      let tests = arm_tests (λ x e. Reads g.table d (at_next g.which x p) e) (Walkable g d everything p ctx) ctx cs other w in
      each_read (map (λ x. x.0) cs) tests
    where
      each_read : (es : List Term) → ReadsEach (λ x e. Reads g.table d (at_next g.which x p) e) ctx es → ReadsEach (Reads g.table d) ctx es
      each_read [] r = tt
      each_read (e ∷ es) r = (there h (λ x. Reads g.table d x e) r.0, each_read es r.1)

  pub arms_ready : (cs : List (Term × Term)) (other : Option Term) (e : Term) → IsForm s q (arms cs other) → Chosen (TruthOf ev ctx) (place_of a) cs other (Ok e) → PartReady s (suc d) q → Ready g d ctx e
  arms_ready cs other e i k h = (h.0, only_grounds g d p ctx a (arms cs other) i ctx e (inl (e, here h (λ x. Chosen (TruthOf ev x) (place_of a) cs other (Ok e)) k, refl)) h.1)

  pub arms_decided : (cs : List (Term × Term)) (other : Option Term) (e : Term) (r : Result Bool EvalFault) → IsForm s q (arms cs other) → Chosen (TruthOf ev ctx) (place_of a) cs other (Ok e) → PartReady s (suc d) q
      → IsDecided g d p ctx e r → PartDecided s (suc d) q r
  arms_decided cs other e r i k h w = only_decided g d p ctx a (arms cs other) i ctx e r (inl (e, here h (λ x. Chosen (TruthOf ev x) (place_of a) cs other (Ok e)) k, refl)) w

  pub arms_stop : (cs : List (Term × Term)) (other : Option Term) (x : EvalFault) → IsForm s q (arms cs other) → PartReady s (suc d) q → Stops (Chosen (TruthOf ev ctx) (place_of a) cs other) x → PartDecided s (suc d) q (Err x)
  arms_stop cs other (Refused kind at) i h k =
      row_stops g d p ctx a (arms cs other) i (Refused kind at) (inr (fault kind at, here h (λ x. Chosen (TruthOf ev x) (place_of a) cs other (Err (fault kind at))) k, refl))
  arms_stop cs other NoMemory i h k = row_stops g d p ctx a (arms cs other) i NoMemory tt

  -- inside

  pub inside_ready : (e : Term) → IsForm s q (inside e) → PartReady s (suc d) q → Ready g d ctx e
  inside_ready e i h = (h.0, only_grounds g d p ctx a (inside e) i ctx e refl h.1)

  pub inside_decided : (e : Term) (r : Result Bool EvalFault) → IsForm s q (inside e) → IsDecided g d p ctx e r → PartDecided s (suc d) q r
  inside_decided e r i w = only_decided g d p ctx a (inside e) i ctx e r refl w

  -- a definition

  pub call_reads : (k : ℕ) (ts : List Term) → IsForm s q (call k ts) → PartReady s (suc d) q → ReadsEach (Reads g.table d) ctx ts
  call_reads k ts i h = there h (λ x. ReadsEach (Reads g.table d) x ts) (form_walks g d p ctx a (call k ts) i h.1).3

  pub call_ready : (k : ℕ) (ts : List Term) (us : List Val) → IsForm s q (call k ts) → Each (ev ctx) ts (Ok us) → PartReady s (suc d) q → BodyReady g d ctx k us
  call_ready k ts us i e h =
      let w = form_walks g d p ctx a (call k ts) i h.1 in
      let now = here h (λ x. Each (ev x) ts (Ok us)) e in
      (h.0, (w.0, w.1, w.2, only_grounds g d p ctx a (call k ts) i (enter w.0 us ctx) w.0.body (inl (us, now, (w.0, w.1, refl))) h.1))

  pub call_decided : (k : ℕ) (ts : List Term) (us : List Val) (r : Result Bool EvalFault) → IsForm s q (call k ts) → Each (ev ctx) ts (Ok us) → PartReady s (suc d) q → BodyDecided g d ctx k us r → PartDecided s (suc d) q r
  call_decided k ts us r i e h b =
      let w = form_walks g d p ctx a (call k ts) i h.1 in
      let now = here h (λ x. Each (ev x) ts (Ok us)) e in
      only_decided g d p ctx a (call k ts) i (enter w.0 us ctx) w.0.body r (inl (us, now, (w.0, w.1, refl))) (b w.0 w.1)

  pub call_stops : (k : ℕ) (ts : List Term) (x : EvalFault) → IsForm s q (call k ts) → PartReady s (suc d) q → Stops (Each (ev ctx) ts) x → PartDecided s (suc d) q (Err x)
  call_stops k ts (Refused kind at) i h e = row_stops g d p ctx a (call k ts) i (Refused kind at) (inr (fault kind at, here h (λ x. Each (ev x) ts (Err (fault kind at))) e, refl))
  call_stops k ts NoMemory i h e = row_stops g d p ctx a (call k ts) i NoMemory tt

  -- \E

  pub some_read : (bs : Bounds) (e : Term) → IsForm s q (some bs e) → PartReady s (suc d) q → BoundsRead (Reads g.table d) ctx bs
  some_read bs e i h = there h (λ x. BoundsRead (Reads g.table d) x bs) (form_walks g d p ctx a (some bs e) i h.1).0

  pub some_ready : (bs : Bounds) (e : Term) (all : List (List Val)) → IsForm s q (some bs e) → BoundValues ev ctx bs (Ok all) → PartReady s (suc d) q → AnyReady g d ctx (under ctx e all)
  some_ready bs e all i k h = (h.0, one_of_grounds g d p ctx a (some bs e) i (under ctx e all) (inl (all, here h (λ x. BoundValues ev x bs (Ok all)) k, refl)) h.1)

  pub some_decided : (bs : Bounds) (e : Term) (all : List (List Val)) (r : Result Bool EvalFault) → IsForm s q (some bs e) → BoundValues ev ctx bs (Ok all) → PartReady s (suc d) q → AnyDecided g d p (under ctx e all) r → PartDecided s (suc d) q r
  some_decided bs e all r i k h w = one_of_decided g d p ctx a (some bs e) i (under ctx e all) r (inl (all, here h (λ x. BoundValues ev x bs (Ok all)) k, refl)) w

  pub some_stops : (bs : Bounds) (e : Term) (x : EvalFault) → IsForm s q (some bs e) → PartReady s (suc d) q → Stops (BoundValues ev ctx bs) x → PartDecided s (suc d) q (Err x)
  some_stops bs e (Refused kind at) i h k = row_stops g d p ctx a (some bs e) i (Refused kind at) (inr (fault kind at, here h (λ x. BoundValues ev x bs (Err (fault kind at))) k, refl))
  some_stops bs e NoMemory i h k = row_stops g d p ctx a (some bs e) i NoMemory tt

  -- <<A>>_v

  pub angled_ready : FormsGrow → (e v : Term) → IsForm s q (changing e v) → PartReady s (suc d) q → Ready g d ctx e
  angled_ready grow e v i h = (h.0, angled_grounds grow g d p ctx a e v i h.1)

  pub angled_read : FormsGrow → (e v : Term) → IsForm s q (changing e v) → PartReady s (suc d) q → Reads g.table d ctx (changed_of (place_of a) v)
  angled_read grow e v i h = there h (λ x. Reads g.table d x (changed_of (place_of a) v)) (angled_reads grow g d p ctx a e v i h.1)

  pub angled_decided : FormsGrow → (e v : Term) (r : Result Bool EvalFault) → IsForm s q (changing e v) → PartReady s (suc d) q → IsDecided g d p ctx e (Ok true) → Tells r (TruthOf ev ctx (changed_of (place_of a) v)) → PartDecided s (suc d) q r
  angled_decided grow e v r i h w k = angled_row grow g d p ctx a e v i r w (here h (λ x. Tells r (TruthOf ev x (changed_of (place_of a) v))) k)

  pub angled_not : FormsGrow → (e v : Term) → IsForm s q (changing e v) → IsDecided g d p ctx e (Ok false) → PartDecided s (suc d) q (Ok false)
  angled_not grow e v i w = angled_fails grow g d p ctx a e v i w

  pub angled_stop : FormsGrow → (e v : Term) (x : EvalFault) → IsForm s q (changing e v) → IsDecided g d p ctx e (Err x) → PartDecided s (suc d) q (Err x)
  angled_stop grow e v x i w = angled_stops grow g d p ctx a e v i x w

  -- a test, and the value of a variable

  pub test_read : IsForm s q test → PartReady s (suc d) q → Reads g.table (suc d) ctx a
  test_read i h = there h (λ x. Reads g.table (suc d) x a) (form_walks g d p ctx a test i h.1)

  pub test_decided : (r : Result Bool EvalFault) → IsForm s q test → PartReady s (suc d) q → Tells r (TruthOf (Evaluates g.table (suc d)) ctx a) → PartDecided s (suc d) q r
  test_decided r i h k = tested_row g d p ctx a r i (here h (λ x. Tells r (TruthOf (Evaluates g.table (suc d)) x a)) k)

  pub assign_reads : (x : ℕ) (e : Term) → IsForm s q (assign x e) → PartReady s (suc d) q → Reads g.table d ctx e
  assign_reads x e i h = there h (λ y. Reads g.table d y e) (form_walks g d p ctx a (assign x e) i h.1).1

  pub assign_decided : (x : ℕ) (e : Term) (v : Val) (b : Bool) → IsForm s q (assign x e) → PartReady s (suc d) q → ev ctx e (Ok v) → IsTrue b ↔ (slice_get p x ≡ Some (Some v)) → PartDecided s (suc d) q (Ok b)
  assign_decided x e v b i h k n = assigned_row g d p ctx a x e i v b (here h (λ y. ev y e (Ok v)) k) n

  pub assign_stops : (x : ℕ) (e : Term) (y : EvalFault) → IsForm s q (assign x e) → PartReady s (suc d) q → Tells {A = Val} (Err y) (ev ctx e) → PartDecided s (suc d) q (Err y)
  assign_stops x e y i h k = unassigned_row g d p ctx a x e i y (here h (λ z. Tells {A = Val} (Err y) (ev z e)) k)

  pub keep_decided : (x : ℕ) (b : Bool) → IsForm s q (assign x (variable_at (place_of a) x)) → d ≢ 0 → PartReady s (suc d) q
      → IsTrue b ↔ ((v : Val) × (slice_get ctx.now x ≡ Some (Some v)) × (slice_get p x ≡ Some (Some v))) → PartDecided s (suc d) q (Ok b)
  keep_decided x b i z h n = kept_row g d p ctx a x b i z (here h (λ y. IsTrue b ↔ ((v : Val) × (slice_get y.now x ≡ Some (Some v)) × (slice_get p x ≡ Some (Some v)))) n)

  pub keep_nested : (x : ℕ) (at : Place) → IsForm s q (assign x (variable_at (place_of a) x)) → d ≡ 0 → at ≡ place_of a → PartDecided s (suc d) q (Err (Refused Nested at))
  keep_nested x at i z e = unkept_row g d p ctx a x at i z e

  pub choose_reads : (x : ℕ) (e : Term) → IsForm s q (choose x e) → PartReady s (suc d) q → Reads g.table d ctx e
  choose_reads x e i h = there h (λ y. Reads g.table d y e) (form_walks g d p ctx a (choose x e) i h.1).1

  pub choose_decided : (x : ℕ) (e : Term) (S : Described) (b : Bool) → IsForm s q (choose x e) → PartReady s (suc d) q → MeansSet (Describes g.table d) ctx e (Ok S)
      → IsTrue b ↔ ((v : Val) × (slice_get p x ≡ Some (Some v)) × Belongs S v) → PartDecided s (suc d) q (Ok b)
  choose_decided x e S b i h k n = chosen_row g d p ctx a x e i S b (here h (λ y. MeansSet (Describes g.table d) y e (Ok S)) k) n

  pub choose_stops : (x : ℕ) (e : Term) (y : EvalFault) → IsForm s q (choose x e) → PartReady s (suc d) q → Tells {A = Described} (Err y) (MeansSet (Describes g.table d) ctx e) → PartDecided s (suc d) q (Err y)
  choose_stops x e y i h k = unchosen_row g d p ctx a x e i y (here h (λ z. Tells {A = Described} (Err y) (MeansSet (Describes g.table d) z e)) k)

-- the body of a definition

same_operator : (x y : Operator) → ◌≡◌ {A = Option Operator} (Some x) (Some y) → x ≡ y
same_operator x y e = cc

pub body_here : (g : Setting) (d : ℕ) (c : Context) (k : ℕ) (us : List Val) (o : Operator) → slice_get g.table k ≡ Some o → BodyReady g d c k us → (o.outer ≤ length c.slots) × Ready g d (enter o us c) o.body
body_here g d c k us o e h =
    let same : h.1.0 ≡ o = same_operator h.1.0 o (sym h.1.1 ∙ e) in
    subst (λ (x : Operator). (x.outer ≤ length c.slots) × Ready g d (enter x us c) x.body) same (h.1.2, (h.0, h.1.3))

pub body_decided : (g : Setting) (d : ℕ) (c : Context) (k : ℕ) (us : List Val) (o : Operator) (r : Result Bool EvalFault) → slice_get g.table k ≡ Some o → IsDecided g d c.next (enter o us c) o.body r → BodyDecided g d c k us r
body_decided g d c k us o r e h x z =
    let same : o ≡ x = same_operator o x (sym e ∙ z) in
    subst (λ (y : Operator). IsDecided g d c.next (enter y us c) y.body r) same h

-- tests

taken_so : (w : Which) → is_taken w levels.Action ≡ true
taken_so which.Init = refl
taken_so which.Action = refl

pub tested_part : (s : Pair) (q : Part) → IsForm s q test → IsTested (setting s).table (length (at s).slots) q
tested_part s (part.Plain e) i = tt
tested_part s (part.Unchanged place e) i =
    let f : Form = unchanged_form place (behind (setting s).table (length (setting s).table) (length (at s).slots) e.now) in
    sym (i ∙ ap (λ (b : Bool). if b then f else test) (taken_so s.which))
