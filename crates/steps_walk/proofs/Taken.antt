-- The rows of Rust: what their parts rest on, and that what the parts find is what the row finds.
use Rattle.std.proofs.Common.{◌≡◌, inl, inr, refl, sym, ap, ◌∙◌, subst, ℕ, suc, ◌≤◌, List, [], ◌∷◌, ◌++◌, length, map, take}
use Rattle.std.specs.Prelude.{◌⊎◌, Bool, true, Option, Some, Result, Ok, Err, slice_get, if◌then◌else◌}
use Rattle.base_core.specs.declared.place.Place.{Place}
use Rattle.values_core.specs.Ascending.{head_in}
use Rattle.values_core.specs.Data.{Val}
use Rattle.states_core.specs.declared.fault.Fault.{Fault}
use Rattle.names_terms.specs.declared.operator.Operator.{Operator}
use Rattle.names_terms.specs.Terms.{Term, Bounds, place_of}
use Rattle.eval_meanings.specs.declared.fault.EvalFault.{EvalFault}
use Rattle.eval_meanings.specs.declared.fault.EvalFault.TheVariants.{Refused, NoMemory}
use Rattle.eval_meanings.specs.Answers.{Tells}
use Rattle.eval_meanings.specs.Binders.{BoundValues}
use Rattle.eval_meanings.specs.Contexts.{Context, Places, Table, enter, within}
use Rattle.eval_meanings.specs.Evaluates.{Evaluates}
use Rattle.eval_meanings.specs.Outcomes.{Each, fault}
use Rattle.eval_meanings.specs.Unchanged.{TruthOf, behind, changed_of, unchanged_of}
use Rattle.names_terms.specs.declared.level.Level.TheVariants as levels
use Rattle.actions_meanings.specs.declared.which.Which.{Which}
use Rattle.actions_meanings.specs.declared.which.Which.TheVariants as which
use Rattle.actions_meanings.specs.Forms.{Form, Setting, is_taken, unchanged_form, test, both, either, narrowed, some, branch, arms, inside, call, changing}
use Rattle.actions_meanings.specs.Holds.{Chosen}
use Rattle.logs_updates.specs.declared.update.See.{See}
use Rattle.eval_meanings.specs.Reads.{BoundsRead, Reads, ReadsEach}
use Rattle.eval_parts.specs.Scenes.{Stops, context, table}
use Rattle.eval_parts.specs.declared.scene.Scene.{Scene}
use Rattle.actions_meanings.specs.Filled.{at_next}
use Rattle.actions_meanings.specs.Walkable.{ArmsWalk, Walkable}
use Rattle.steps_found_states.specs.Parts.{Parts}
use Rattle.steps_found_states.proofs.Lists.{in_right}
use Rattle.steps_found_states.proofs.Changes.{changing_grounds, changing_left, changing_ready, walked_changing, walked_changing_refused}
use Rattle.actions_rows.specs.Rows.{before, part_term, setting}
use Rattle.actions_rows.specs.declared.part.Part.{Part}
use Rattle.actions_rows.specs.declared.part.Part.TheVariants as part
use Rattle.actions_rows.specs.Tested.{IsTested}
use Rattle.steps_found_states.proofs.Placed.{at_slots}
use Rattle.actions_rows.specs.declared.stage.Stage.{Stage}
use Rattle.steps_walk.specs.Walking.{AllGrounded, AllWalked, AnyGrounded, AnyWalked, BodyGrounded, BodyWalked, EachReads, EachTested, Grounded, IsForm, IsWalked, PartGrounded, PartWalked, parts_of, under}
use Rattle.steps_walk.specs.declared.sense.Sense.TheVariants.{Itself, Unchanged}
use Rattle.steps_walk.proofs.Loops.{any_stop, any_two}
use Rattle.steps_walk.proofs.Parts.{parts_are}
use Rattle.steps_walk.proofs.Rows.{all_of_grounds, all_of_walked, form_walks, one_of_grounds, one_of_walked, only_grounds, only_walked, row_refused}

-- from the scene to the stage, and back
pub on_stage : (s : Stage) (vs : List Val) (p : Places) (sc : Scene) (P : Table → Context → Type 0) → table sc ≡ s.operators.now → context sc ≡ at_next s.which (before s vs) p → P (table sc) (context sc) → P s.operators.now (at_next s.which (before s vs) p)
on_stage s vs p sc P t x h = subst (λ (ops : Table). P ops (at_next s.which (before s vs) p)) t (subst (λ (c : Context). P (table sc) c) x h)

pub in_scene : (s : Stage) (vs : List Val) (p : Places) (sc : Scene) (P : Table → Context → Type 0) → table sc ≡ s.operators.now → context sc ≡ at_next s.which (before s vs) p → P s.operators.now (at_next s.which (before s vs) p) → P (table sc) (context sc)
in_scene s vs p sc P t x h = subst (λ (ops : Table). P ops (context sc)) (sym t) (subst (λ (c : Context). P s.operators.now c) (sym x) h)

module _ (s : Stage) (vs : List Val) (d : ℕ) (p : Places) (q : Part) where
  abbrev ctx : Context
  ctx = before s vs

  abbrev a : Term
  a = part_term q

  abbrev ev : Context → Term → Result Val Fault → Type 0
  ev = Evaluates s.operators.now d

  abbrev here : Context
  here = at_next s.which (before s vs) p

  -- all of the terms

  pub both_grounds : (ts es : List Term) → es ≡ ts → IsForm s vs q (both ts) → PartGrounded s vs (suc d) p q → AllGrounded (setting s) d s.sees.now p (parts_of ctx Itself es)
  both_grounds ts es e i h = subst (λ (us : List Term). AllGrounded (setting s) d s.sees.now p (parts_of ctx Itself us)) (sym e)
      (all_of_grounds (setting s) d s.sees.now p ctx a (both ts) i (map (λ e. (ctx, e)) ts) refl h)

  pub both_walked : (ts es : List Term) (r : Result (List Places) EvalFault) → es ≡ ts → IsForm s vs q (both ts) → AllWalked (setting s) d s.sees.now p (parts_of ctx Itself es) r → PartWalked s vs (suc d) p q r
  both_walked ts es r e i h = all_of_walked (setting s) d s.sees.now p ctx a (both ts) i (map (λ e. (ctx, e)) ts) r refl
      (subst (λ (us : List Term). AllWalked (setting s) d s.sees.now p (parts_of ctx Itself us) r) e h)

  -- with fewer slots

  pub narrowed_grounds : (n : ℕ) (us : List Val) (at : Place) (ts es : List Term) → us ≡ take n vs → at ≡ place_of a → es ≡ ts → IsForm s vs q (narrowed n (map (unchanged_of (place_of a)) ts))
      → PartGrounded s vs (suc d) p q → AllGrounded (setting s) d s.sees.now p (parts_of (before s us) (Unchanged at) es)
  narrowed_grounds n us at ts es z w e i h =
      let xs = map (unchanged_of (place_of a)) ts in
      let all = all_of_grounds (setting s) d s.sees.now p ctx a (narrowed n xs) i (map (λ e. (within n ctx, e)) xs) refl h in
      let here = subst (λ (ps : Parts). AllGrounded (setting s) d s.sees.now p ps) (sym (parts_are (within n ctx) (Unchanged (place_of a)) ts)) all in
      let given = subst (λ (ys : List Term). AllGrounded (setting s) d s.sees.now p (parts_of (within n ctx) (Unchanged (place_of a)) ys)) (sym e) here in
      let placed = subst (λ (x : Place). AllGrounded (setting s) d s.sees.now p (parts_of (within n ctx) (Unchanged x) es)) (sym w) given in
      subst (λ (ws : List Val). AllGrounded (setting s) d s.sees.now p (parts_of (before s ws) (Unchanged at) es)) (sym z) placed

  pub narrowed_walked : (n : ℕ) (us : List Val) (at : Place) (ts es : List Term) (r : Result (List Places) EvalFault) → us ≡ take n vs → at ≡ place_of a → es ≡ ts
      → IsForm s vs q (narrowed n (map (unchanged_of (place_of a)) ts)) → AllWalked (setting s) d s.sees.now p (parts_of (before s us) (Unchanged at) es) r → PartWalked s vs (suc d) p q r
  narrowed_walked n us at ts es r z w e i h =
      let xs = map (unchanged_of (place_of a)) ts in
      let given = subst (λ (ws : List Val). AllWalked (setting s) d s.sees.now p (parts_of (before s ws) (Unchanged at) es) r) z h in
      let placed = subst (λ (x : Place). AllWalked (setting s) d s.sees.now p (parts_of (within n ctx) (Unchanged x) es) r) w given in
      let here = subst (λ (ys : List Term). AllWalked (setting s) d s.sees.now p (parts_of (within n ctx) (Unchanged (place_of a)) ys) r) e placed in
      let all = subst (λ (ps : Parts). AllWalked (setting s) d s.sees.now p ps r) (parts_are (within n ctx) (Unchanged (place_of a)) ts) here in
      all_of_walked (setting s) d s.sees.now p ctx a (narrowed n xs) i (map (λ e. (within n ctx, e)) xs) r refl all

  -- one of the terms

  pub either_grounds : (ts es : List Term) → es ≡ ts → IsForm s vs q (either ts) → PartGrounded s vs (suc d) p q → AnyGrounded (setting s) d s.sees.now p (parts_of ctx Itself es)
  either_grounds ts es e i h = subst (λ (us : List Term). AnyGrounded (setting s) d s.sees.now p (parts_of ctx Itself us)) (sym e)
      (one_of_grounds (setting s) d s.sees.now p ctx a (either ts) i (map (λ e. (ctx, e)) ts) refl h)

  pub either_walked : (ts es : List Term) (r : Result (List Places) EvalFault) → es ≡ ts → IsForm s vs q (either ts) → AnyWalked (setting s) d s.sees.now p (parts_of ctx Itself es) r → PartWalked s vs (suc d) p q r
  either_walked ts es r e i h = one_of_walked (setting s) d s.sees.now p ctx a (either ts) i (map (λ e. (ctx, e)) ts) r refl
      (subst (λ (us : List Term). AnyWalked (setting s) d s.sees.now p (parts_of ctx Itself us) r) e h)

  -- [A]_v

  abbrev stays : Term → Term
  stays v = unchanged_of (place_of a) v

  abbrev one_or : Term → Term → Parts
  one_or e f = (ctx, e) ∷ (ctx, f) ∷ []

  pub boxed_grounds : (e v : Term) → IsForm s vs q (either (e ∷ unchanged_of (place_of a) v ∷ [])) → PartGrounded s vs (suc d) p q
      → Grounded (setting s) d s.sees.now p ctx e × Grounded (setting s) d s.sees.now p ctx (unchanged_of (place_of a) v)
  boxed_grounds e v i h =
      let all = one_of_grounds (setting s) d s.sees.now p ctx a (either (e ∷ stays v ∷ [])) i (one_or e (stays v)) refl h in
      (all (ctx, e) (head_in (ctx, e) ((ctx, stays v) ∷ [])), all (ctx, stays v) (in_right ((ctx, e) ∷ []) ((ctx, stays v) ∷ []) (ctx, stays v) (head_in (ctx, stays v) [])))

  pub boxed_walked : (e v : Term) (at : Place) (qs new : List Places) → at ≡ place_of a → IsForm s vs q (either (e ∷ unchanged_of (place_of a) v ∷ [])) → IsWalked (setting s) d s.sees.now p ctx e (Ok qs)
      → (rs : List Places) × IsWalked (setting s) d s.sees.now p ctx (unchanged_of at v) (Ok rs) × (new ≡ qs ++ rs) → PartWalked s vs (suc d) p q (Ok new)
  boxed_walked e v at qs new z i w h =
      let second = subst (λ (x : Place). IsWalked (setting s) d s.sees.now p ctx (unchanged_of x v) (Ok h.0)) z h.1 in
      one_of_walked (setting s) d s.sees.now p ctx a (either (e ∷ stays v ∷ [])) i (one_or e (stays v)) (Ok new) refl (any_two (setting s) d s.sees.now p (ctx, e) (ctx, stays v) qs h.0 new w second h.2)

  pub boxed_refused : (e v : Term) (f : EvalFault) → IsForm s vs q (either (e ∷ unchanged_of (place_of a) v ∷ []))
      → IsWalked (setting s) d s.sees.now p ctx e (Err f) ⊎ IsWalked (setting s) d s.sees.now p ctx (unchanged_of (place_of a) v) (Err f) → PartWalked s vs (suc d) p q (Err f)
  boxed_refused e v f i (inl w) = one_of_walked (setting s) d s.sees.now p ctx a (either (e ∷ stays v ∷ [])) i (one_or e (stays v)) (Err f) refl
      (any_stop (setting s) d s.sees.now p (one_or e (stays v)) 0 (ctx, e) f (record { rest = refl; more = refl; whole = refl }) w)
  boxed_refused e v f i (inr w) = one_of_walked (setting s) d s.sees.now p ctx a (either (e ∷ stays v ∷ [])) i (one_or e (stays v)) (Err f) refl
      (any_stop (setting s) d s.sees.now p (one_or e (stays v)) 1 (ctx, stays v) f (record { rest = refl; more = refl; whole = refl }) w)

  -- IF

  pub branch_reads : (t e f : Term) → IsForm s vs q (branch t e f) → PartGrounded s vs (suc d) p q → Reads s.operators.now d here t
  branch_reads t e f i h = (form_walks (setting s) d s.sees.now p ctx a (branch t e f) i h.0 h.1).0

  pub branch_grounds : (t e f : Term) (b : Bool) → IsForm s vs q (branch t e f) → TruthOf ev here t (Ok b) → PartGrounded s vs (suc d) p q → Grounded (setting s) d s.sees.now p ctx (if b then e else f)
  branch_grounds t e f b i k h = only_grounds (setting s) d s.sees.now p ctx a (branch t e f) i ctx (if b then e else f) (inl (b, k, refl)) h

  pub branch_walked : (t e f : Term) (b : Bool) (r : Result (List Places) EvalFault) → IsForm s vs q (branch t e f) → TruthOf ev here t (Ok b) → IsWalked (setting s) d s.sees.now p ctx (if b then e else f) r → PartWalked s vs (suc d) p q r
  branch_walked t e f b r i k h = only_walked (setting s) d s.sees.now p ctx a (branch t e f) i ctx (if b then e else f) r (inl (b, k, refl)) h

  pub branch_refused : (t e f : Term) (x : EvalFault) → IsForm s vs q (branch t e f) → Tells {A = Bool} (Err x) (TruthOf ev here t) → PartWalked s vs (suc d) p q (Err x)
  branch_refused t e f (Refused kind at) i k = row_refused (setting s) d s.sees.now p ctx a (branch t e f) i (Refused kind at) (inr (fault kind at, k, refl))
  branch_refused t e f NoMemory i k = row_refused (setting s) d s.sees.now p ctx a (branch t e f) i NoMemory tt

  -- CASE

  pub arms_reads : (cs : List (Term × Term)) (other : Option Term) → IsForm s vs q (arms cs other) → PartGrounded s vs (suc d) p q → ReadsEach (Reads s.operators.now d) here (map (λ x. x.0) cs)
  arms_reads cs other i h = tests cs (form_walks (setting s) d s.sees.now p ctx a (arms cs other) i h.0 h.1)
    where
      tests : (cs : List (Term × Term)) → ArmsWalk (λ at e. Reads s.operators.now d (at_next s.which at p) e) (Walkable (setting s) d h.0 p ctx) ctx cs other → ReadsEach (Reads s.operators.now d) here (map (λ (x : Term × Term). x.0) cs)
      tests [] w = tt
      tests (x ∷ cs) w = (w.0, tests cs w.2)

  pub arms_grounds : (cs : List (Term × Term)) (other : Option Term) (e : Term) → IsForm s vs q (arms cs other) → Chosen (TruthOf ev here) (place_of a) cs other (Ok e) → PartGrounded s vs (suc d) p q → Grounded (setting s) d s.sees.now p ctx e
  arms_grounds cs other e i k h = only_grounds (setting s) d s.sees.now p ctx a (arms cs other) i ctx e (inl (e, k, refl)) h

  pub arms_walked : (cs : List (Term × Term)) (other : Option Term) (e : Term) (r : Result (List Places) EvalFault) → IsForm s vs q (arms cs other) → Chosen (TruthOf ev here) (place_of a) cs other (Ok e) → IsWalked (setting s) d s.sees.now p ctx e r
      → PartWalked s vs (suc d) p q r
  arms_walked cs other e r i k h = only_walked (setting s) d s.sees.now p ctx a (arms cs other) i ctx e r (inl (e, k, refl)) h

  pub arms_refused : (cs : List (Term × Term)) (other : Option Term) (x : EvalFault) → IsForm s vs q (arms cs other) → Stops (Chosen (TruthOf ev here) (place_of a) cs other) x → PartWalked s vs (suc d) p q (Err x)
  arms_refused cs other (Refused kind at) i k = row_refused (setting s) d s.sees.now p ctx a (arms cs other) i (Refused kind at) (inr (fault kind at, k, refl))
  arms_refused cs other NoMemory i k = row_refused (setting s) d s.sees.now p ctx a (arms cs other) i NoMemory tt

  -- a term inside

  pub inside_grounds : (e : Term) → IsForm s vs q (inside e) → PartGrounded s vs (suc d) p q → Grounded (setting s) d s.sees.now p ctx e
  inside_grounds e i h = only_grounds (setting s) d s.sees.now p ctx a (inside e) i ctx e refl h

  pub inside_walked : (e : Term) (r : Result (List Places) EvalFault) → IsForm s vs q (inside e) → IsWalked (setting s) d s.sees.now p ctx e r → PartWalked s vs (suc d) p q r
  inside_walked e r i h = only_walked (setting s) d s.sees.now p ctx a (inside e) i ctx e r refl h

  -- a definition on arguments

  pub call_reads : (k : ℕ) (ts : List Term) → IsForm s vs q (call k ts) → PartGrounded s vs (suc d) p q → ReadsEach (Reads s.operators.now d) here ts
  call_reads k ts i h = (form_walks (setting s) d s.sees.now p ctx a (call k ts) i h.0 h.1).3

  pub call_grounds : (k : ℕ) (ts : List Term) (us : List Val) → IsForm s vs q (call k ts) → Each (ev here) ts (Ok us) → PartGrounded s vs (suc d) p q → BodyGrounded (setting s) d s.sees.now p ctx k us
  call_grounds k ts us i e h =
      let w = form_walks (setting s) d s.sees.now p ctx a (call k ts) i h.0 h.1 in
      (w.0, w.1, w.2, only_grounds (setting s) d s.sees.now p ctx a (call k ts) i (enter w.0 us ctx) w.0.body (inl (us, e, (w.0, w.1, refl))) h)

  pub call_walked : (k : ℕ) (ts : List Term) (us : List Val) (r : Result (List Places) EvalFault) → IsForm s vs q (call k ts) → Each (ev here) ts (Ok us) → PartGrounded s vs (suc d) p q → BodyWalked (setting s) d s.sees.now p ctx k us r
      → PartWalked s vs (suc d) p q r
  call_walked k ts us r i e h b =
      let w = form_walks (setting s) d s.sees.now p ctx a (call k ts) i h.0 h.1 in
      only_walked (setting s) d s.sees.now p ctx a (call k ts) i (enter w.0 us ctx) w.0.body r (inl (us, e, (w.0, w.1, refl))) (b w.0 w.1)

  pub call_refused : (k : ℕ) (ts : List Term) (x : EvalFault) → IsForm s vs q (call k ts) → Stops (Each (ev here) ts) x → PartWalked s vs (suc d) p q (Err x)
  call_refused k ts (Refused kind at) i e = row_refused (setting s) d s.sees.now p ctx a (call k ts) i (Refused kind at) (inr (fault kind at, e, refl))
  call_refused k ts NoMemory i e = row_refused (setting s) d s.sees.now p ctx a (call k ts) i NoMemory tt

  -- \E

  pub some_reads : (bs : Bounds) (e : Term) → IsForm s vs q (some bs e) → PartGrounded s vs (suc d) p q → BoundsRead (Reads s.operators.now d) here bs
  some_reads bs e i h = (form_walks (setting s) d s.sees.now p ctx a (some bs e) i h.0 h.1).0

  pub some_grounds : (bs : Bounds) (e : Term) (all : List (List Val)) → IsForm s vs q (some bs e) → BoundValues ev here bs (Ok all) → PartGrounded s vs (suc d) p q → AnyGrounded (setting s) d s.sees.now p (under ctx e all)
  some_grounds bs e all i k h = one_of_grounds (setting s) d s.sees.now p ctx a (some bs e) i (under ctx e all) (inl (all, k, refl)) h

  pub some_walked : (bs : Bounds) (e : Term) (all : List (List Val)) (r : Result (List Places) EvalFault) → IsForm s vs q (some bs e) → BoundValues ev here bs (Ok all) → AnyWalked (setting s) d s.sees.now p (under ctx e all) r → PartWalked s vs (suc d) p q r
  some_walked bs e all r i k h = one_of_walked (setting s) d s.sees.now p ctx a (some bs e) i (under ctx e all) r (inl (all, k, refl)) h

  pub some_refused : (bs : Bounds) (e : Term) (x : EvalFault) → IsForm s vs q (some bs e) → Stops (BoundValues ev here bs) x → PartWalked s vs (suc d) p q (Err x)
  some_refused bs e (Refused kind at) i k = row_refused (setting s) d s.sees.now p ctx a (some bs e) i (Refused kind at) (inr (fault kind at, k, refl))
  some_refused bs e NoMemory i k = row_refused (setting s) d s.sees.now p ctx a (some bs e) i NoMemory tt

  -- <<A>>_v

  pub angled_grounds : (e v : Term) → IsForm s vs q (changing e v) → PartGrounded s vs (suc d) p q → Grounded (setting s) d s.sees.now p ctx e
  angled_grounds e v i h = (h.0, changing_grounds (setting s) d s.sees.now h.0 p ctx a h.1 e v (sym i))

  pub angled_reads : (e v : Term) (qs : List Places) → IsForm s vs q (changing e v) → PartGrounded s vs (suc d) p q → IsWalked (setting s) d s.sees.now p ctx e (Ok qs) → EachReads (setting s) d qs ctx (changed_of (place_of a) v)
  angled_reads e v qs i h w x m =
      let l = changing_left (setting s) d s.sees.now h.0 p ctx a h.1 e v (sym i) in
      (changing_ready (setting s) d s.sees.now h.0 p ctx a h.1 e v (sym i) qs (w h.0 (changing_grounds (setting s) d s.sees.now h.0 p ctx a h.1 e v (sym i))) l.0 l.1 x m).reads

  pub angled_walked : (e v : Term) (qs : List Places) (r : Result (List Places) EvalFault) → IsForm s vs q (changing e v) → IsWalked (setting s) d s.sees.now p ctx e (Ok qs) → EachTested (setting s) d s.sees.now qs ctx (changed_of (place_of a) v) r
      → PartWalked s vs (suc d) p q r
  angled_walked e v qs r i w t B gr =
      let found = w B (changing_grounds (setting s) d s.sees.now B p ctx a gr e v (sym i)) in
      walked_changing (setting s) d s.sees.now B p ctx a gr e v (sym i) qs found r (λ D x. t D (λ y m.
      let ready = changing_ready (setting s) d s.sees.now B p ctx a gr e v (sym i) qs found D x y m in
      record { fills = ready.fills; agrees = ready.agrees; values = ready.values }))

  pub angled_refused : (e v : Term) (x : EvalFault) → IsForm s vs q (changing e v) → IsWalked (setting s) d s.sees.now p ctx e (Err x) → PartWalked s vs (suc d) p q (Err x)
  angled_refused e v x i w B gr = walked_changing_refused (setting s) d s.sees.now B p ctx a gr e v (sym i) x (w B (changing_grounds (setting s) d s.sees.now B p ctx a gr e v (sym i)))

-- the body of a definition

same_operator : (x y : Operator) → ◌≡◌ {A = Option Operator} (Some x) (Some y) → x ≡ y
same_operator x y e = cc

pub body_here : (g : Setting) (d : ℕ) (sees : List See) (p : Places) (c : Context) (k : ℕ) (us : List Val) (o : Operator) → slice_get g.table k ≡ Some o → BodyGrounded g d sees p c k us
    → (o.outer ≤ length c.slots) × Grounded g d sees p (enter o us c) o.body
body_here g d sees p c k us o e h =
    let same : h.0 ≡ o = same_operator h.0 o (sym h.1 ∙ e) in
    subst (λ (x : Operator). (x.outer ≤ length c.slots) × Grounded g d sees p (enter x us c) x.body) same (h.2, h.3)

pub body_walked : (g : Setting) (d : ℕ) (sees : List See) (p : Places) (c : Context) (k : ℕ) (us : List Val) (o : Operator) (r : Result (List Places) EvalFault) → slice_get g.table k ≡ Some o → IsWalked g d sees p (enter o us c) o.body r
    → BodyWalked g d sees p c k us r
body_walked g d sees p c k us o r e h x z =
    let same : o ≡ x = same_operator o x (sym e ∙ z) in
    subst (λ (y : Operator). IsWalked g d sees p (enter y us c) y.body r) same h

-- tests

taken_so : (w : Which) → is_taken w levels.Action ≡ true
taken_so which.Init = refl
taken_so which.Action = refl

tested_part : (s : Stage) (vs : List Val) (q : Part) → IsForm s vs q test → IsTested s.operators.now (length vs) q
tested_part s vs (part.Plain e) i = tt
tested_part s vs (part.Unchanged at e) i =
    let f : Form = unchanged_form at (behind s.operators.now (length s.operators.now) (length vs) e.now) in
    sym (i ∙ ap (λ (b : Bool). if b then f else test) (taken_so s.which))

pub tested_there : (s : Stage) (vs : List Val) (p : Places) (sc : Scene) (q : Part) → table sc ≡ s.operators.now → context sc ≡ at_next s.which (before s vs) p → IsForm s vs q test → IsTested (table sc) (length (context sc).slots) q
tested_there s vs p sc q t x i =
    in_scene s vs p sc (λ ops c. IsTested ops (length c.slots) q) t x (subst (λ (us : List Val). IsTested s.operators.now (length us) q) (sym (at_slots s.which (before s vs) p)) (tested_part s vs q i))
