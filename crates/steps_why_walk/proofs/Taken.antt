-- The rows of Rust that are taken apart: what their parts rest on, and that what the parts list is what the row lists.
use Rattle.std.proofs.Common.{◌≡◌, inl, inr, refl, sym, ap, ◌∙◌, subst, ℕ, suc, ◌≤◌, List, [], ◌∷◌, length, map, take, arith}
use Rattle.std.specs.Prelude.{Bool, Option, Some, Result, Ok, Err, slice_get, if◌then◌else◌}
use Rattle.values_core.specs.Data.{Val}
use Rattle.states_core.specs.declared.fault.Fault.{Fault}
use Rattle.names_terms.specs.declared.operator.Operator.{Operator}
use Rattle.names_terms.specs.Terms.{Term, Bounds, place_of}
use Rattle.eval_meanings.specs.declared.fault.EvalFault.{EvalFault}
use Rattle.eval_meanings.specs.declared.fault.EvalFault.TheVariants.{Refused, NoMemory}
use Rattle.eval_meanings.specs.Answers.{Tells}
use Rattle.eval_meanings.specs.Binders.{BoundValues}
use Rattle.eval_meanings.specs.Contexts.{Context, Places, enter, within}
use Rattle.eval_meanings.specs.Evaluates.{Evaluates}
use Rattle.eval_meanings.specs.Outcomes.{Each, fault}
use Rattle.eval_meanings.specs.Unchanged.{TruthOf}
use Rattle.actions_meanings.specs.Forms.{Setting, both, either, narrowed, some, branch, arms, inside, call}
use Rattle.actions_meanings.specs.Holds.{Chosen}
use Rattle.eval_meanings.specs.Reads.{BoundsRead, Reads, ReadsEach}
use Rattle.eval_parts.specs.Scenes.{Stops}
use Rattle.actions_meanings.specs.Filled.{at_next}
use Rattle.actions_meanings.specs.Walkable.{ArmsWalk, Walkable}
use Rattle.steps_found_states.specs.Parts.{Parts}
use Rattle.actions_rows.specs.Rows.{before, part_term, setting}
use Rattle.actions_rows.specs.declared.part.Part.{Part}
use Rattle.actions_rows.specs.declared.stage.Stage.{Stage}
use Rattle.steps_walk.proofs.Rows.{all_of_grounds, form_walks, one_of_grounds, only_grounds}
use Rattle.steps_why_branches.specs.PassedOver.{called}
use Rattle.steps_why_branches.specs.declared.sparing.Sparing.{Sparing}
use Rattle.steps_why_branches.specs.declared.why.Ended.{Ended}
use Rattle.steps_why_walk.specs.Ends.{IsFaultEnd, OrNoMember}
use Rattle.steps_why_walk.specs.Walking.{AllGrounded, AllListed, AnyGrounded, AnyListed, BodyGrounded, BodyListed, IsForm, IsListed, PartGrounded, PartListed, WhyGrounded, parts_of, under}
use Rattle.steps_why_walk.proofs.Rows.{all_row, choice_row, only_row, refused_row, some_row}

pub parts_are : (c : Context) (qs : List Part) → parts_of c qs ≡ map (λ e. (c, e)) (map part_term qs)
parts_are c [] = refl
parts_are c (q ∷ qs) = ap (λ (us : Parts). (c, part_term q) ∷ us) (parts_are c qs)

pub parts_as : (c : Context) (qs : List Part) (ts : List Term) → map part_term qs ≡ ts → parts_of c qs ≡ map (λ e. (c, e)) ts
parts_as c qs ts e = parts_are c qs ∙ ap (λ (us : List Term). map (λ (x : Term). (c, x)) us) e

module _ (s : Stage) (sp : Sparing) (vs : List Val) (k : ℕ) (room : 1 ≤ k) (d : ℕ) (p : Places) (q : Part) (gr : PartGrounded s vs (suc d) p q) where
  abbrev ctx : Context
  ctx = before s vs

  abbrev a : Term
  a = part_term q

  abbrev ev : Context → Term → Result Val Fault → Type 0
  ev = Evaluates s.operators.now d

  abbrev here : Context
  here = at_next s.which (before s vs) p

  -- all of the parts

  pub both_grounds : (qs : List Part) (ts : List Term) → map part_term qs ≡ ts → IsForm s vs q (both ts) → AllGrounded (setting s) d p (parts_of ctx qs)
  both_grounds qs ts e i = subst (λ (es : Parts). AllGrounded (setting s) d p es) (sym (parts_as ctx qs ts e))
      (all_of_grounds (setting s) d [] p ctx a (both ts) i (map (λ e. (ctx, e)) ts) refl gr.0, gr.1)

  pub both_listed : (qs : List Part) (ts : List Term) → map part_term qs ≡ ts → IsForm s vs q (both ts) → (ends : List Ended) → AllListed (setting s) sp k d p (parts_of ctx qs) ends → PartListed s sp vs k (suc d) p q ends
  both_listed qs ts e i ends h = all_row (setting s) sp k room d ctx a p gr (both ts) i (map (λ e. (ctx, e)) ts) refl ends
      (subst (λ (es : Parts). AllListed (setting s) sp k d p es ends) (parts_as ctx qs ts e) h)

  -- with fewer slots

  pub narrowed_grounds : (n : ℕ) (us : List Val) (qs : List Part) (ts : List Term) → us ≡ take n vs → map part_term qs ≡ ts → IsForm s vs q (narrowed n ts) → AllGrounded (setting s) d p (parts_of (before s us) qs)
  narrowed_grounds n us qs ts z e i =
      let there : AllGrounded (setting s) d p (parts_of (within n ctx) qs) = subst (λ (es : Parts). AllGrounded (setting s) d p es) (sym (parts_as (within n ctx) qs ts e))
      (all_of_grounds (setting s) d [] p ctx a (narrowed n ts) i (map (λ e. (within n ctx, e)) ts) refl gr.0, gr.1) in
      subst (λ (ws : List Val). AllGrounded (setting s) d p (parts_of (before s ws) qs)) (sym z) there

  pub narrowed_listed : (n : ℕ) (us : List Val) (qs : List Part) (ts : List Term) → us ≡ take n vs → map part_term qs ≡ ts → IsForm s vs q (narrowed n ts) → (ends : List Ended) → AllListed (setting s) sp k d p (parts_of (before s us) qs) ends
      → PartListed s sp vs k (suc d) p q ends
  narrowed_listed n us qs ts z e i ends h =
      let there : AllListed (setting s) sp k d p (parts_of (within n ctx) qs) ends = subst (λ (ws : List Val). AllListed (setting s) sp k d p (parts_of (before s ws) qs) ends) z h in
      all_row (setting s) sp k room d ctx a p gr (narrowed n ts) i (map (λ e. (within n ctx, e)) ts) refl ends
      (subst (λ (es : Parts). AllListed (setting s) sp k d p es ends) (parts_as (within n ctx) qs ts e) there)

  -- one of the parts

  pub either_grounds : (qs : List Part) (ts : List Term) → map part_term qs ≡ ts → IsForm s vs q (either ts) → AnyGrounded (setting s) d p (parts_of ctx qs)
  either_grounds qs ts e i = subst (λ (es : Parts). AnyGrounded (setting s) d p es) (sym (parts_as ctx qs ts e))
      (λ x m. (one_of_grounds (setting s) d [] p ctx a (either ts) i (map (λ e. (ctx, e)) ts) refl gr.0 x m, gr.1))

  pub either_listed : (qs : List Part) (ts : List Term) → map part_term qs ≡ ts → IsForm s vs q (either ts) → (ns ends : List Ended) → AnyListed (setting s) sp k d p (parts_of ctx qs) ns → OrNoMember (place_of a) ns ends → PartListed s sp vs k (suc d) p q ends
  either_listed qs ts e i ns ends h o = choice_row (setting s) sp k room d ctx a p gr (either ts) i refl (map (λ e. (ctx, e)) ts) refl ns ends
      (subst (λ (es : Parts). AnyListed (setting s) sp k d p es ns) (parts_as ctx qs ts e) h) o

  pub boxed_listed : (qs : List Part) (e f : Term) → map part_term qs ≡ e ∷ f ∷ [] → IsForm s vs q (either (e ∷ f ∷ [])) → (ends : List Ended) → AnyListed (setting s) sp k d p (parts_of ctx qs) ends → PartListed s sp vs k (suc d) p q ends
  boxed_listed qs e f z i ends h = some_row (setting s) sp k room d ctx a p gr (either (e ∷ f ∷ [])) i refl ((ctx, e) ∷ (ctx, f) ∷ []) (omega arith) refl ends
      (subst (λ (es : Parts). AnyListed (setting s) sp k d p es ends) (parts_as ctx qs (e ∷ f ∷ []) z) h)

  -- IF

  pub branch_reads : (t e f : Term) → IsForm s vs q (branch t e f) → Reads s.operators.now d here t
  branch_reads t e f i = (form_walks (setting s) d [] p ctx a (branch t e f) i gr.0.0 gr.0.1).0

  pub branch_grounds : (t e f : Term) (b : Bool) → IsForm s vs q (branch t e f) → TruthOf ev here t (Ok b) → WhyGrounded (setting s) d ctx (if b then e else f) p
  branch_grounds t e f b i h = (only_grounds (setting s) d [] p ctx a (branch t e f) i ctx (if b then e else f) (inl (b, h, refl)) gr.0, gr.1)

  pub branch_listed : (t e f : Term) (b : Bool) → IsForm s vs q (branch t e f) → TruthOf ev here t (Ok b) → (ends : List Ended) → IsListed (setting s) sp k d ctx (if b then e else f) p ends → PartListed s sp vs k (suc d) p q ends
  branch_listed t e f b i h ends w = only_row (setting s) sp k room d ctx a p gr (branch t e f) i refl ctx (if b then e else f) (inl (b, h, refl)) ends w

  pub branch_refused : (t e f : Term) (x : EvalFault) (n : Ended) (ends : List Ended) → IsForm s vs q (branch t e f) → Tells {A = Bool} (Err x) (TruthOf ev here t) → IsFaultEnd x n → ends ≡ n ∷ [] → PartListed s sp vs k (suc d) p q ends
  branch_refused t e f (Refused kind at) n ends i h z w = refused_row (setting s) sp k room d ctx a p gr (branch t e f) i (fault kind at) (inr (fault kind at, h, refl)) ends (w ∙ ap (λ (m : Ended). m ∷ []) z)
  branch_refused t e f NoMemory n ends i h z w = absurd z

  -- CASE

  pub arms_reads : (cs : List (Term × Term)) (other : Option Term) → IsForm s vs q (arms cs other) → ReadsEach (Reads s.operators.now d) here (map (λ x. x.0) cs)
  arms_reads cs other i = tests cs (form_walks (setting s) d [] p ctx a (arms cs other) i gr.0.0 gr.0.1)
    where
      tests : (cs : List (Term × Term)) → ArmsWalk (λ at e. Reads s.operators.now d (at_next s.which at p) e) (Walkable (setting s) d gr.0.0 p ctx) ctx cs other → ReadsEach (Reads s.operators.now d) here (map (λ (x : Term × Term). x.0) cs)
      tests [] w = tt
      tests (x ∷ cs) w = (w.0, tests cs w.2)

  pub arms_grounds : (cs : List (Term × Term)) (other : Option Term) (e : Term) → IsForm s vs q (arms cs other) → Chosen (TruthOf ev here) (place_of a) cs other (Ok e) → WhyGrounded (setting s) d ctx e p
  arms_grounds cs other e i h = (only_grounds (setting s) d [] p ctx a (arms cs other) i ctx e (inl (e, h, refl)) gr.0, gr.1)

  pub arms_listed : (cs : List (Term × Term)) (other : Option Term) (e : Term) → IsForm s vs q (arms cs other) → Chosen (TruthOf ev here) (place_of a) cs other (Ok e) → (ends : List Ended) → IsListed (setting s) sp k d ctx e p ends → PartListed s sp vs k (suc d) p q ends
  arms_listed cs other e i h ends w = only_row (setting s) sp k room d ctx a p gr (arms cs other) i refl ctx e (inl (e, h, refl)) ends w

  pub arms_refused : (cs : List (Term × Term)) (other : Option Term) (x : EvalFault) (n : Ended) (ends : List Ended) → IsForm s vs q (arms cs other) → Stops (Chosen (TruthOf ev here) (place_of a) cs other) x → IsFaultEnd x n → ends ≡ n ∷ []
      → PartListed s sp vs k (suc d) p q ends
  arms_refused cs other (Refused kind at) n ends i h z w = refused_row (setting s) sp k room d ctx a p gr (arms cs other) i (fault kind at) (inr (fault kind at, h, refl)) ends (w ∙ ap (λ (m : Ended). m ∷ []) z)
  arms_refused cs other NoMemory n ends i h z w = absurd z

  -- a term inside

  pub inside_grounds : (e : Term) → IsForm s vs q (inside e) → WhyGrounded (setting s) d ctx e p
  inside_grounds e i = (only_grounds (setting s) d [] p ctx a (inside e) i ctx e refl gr.0, gr.1)

  pub inside_listed : (e : Term) → IsForm s vs q (inside e) → (ends : List Ended) → IsListed (setting s) sp k d ctx e p ends → PartListed s sp vs k (suc d) p q ends
  inside_listed e i ends w = only_row (setting s) sp k room d ctx a p gr (inside e) i refl ctx e refl ends w

  -- a definition on arguments

  pub call_reads : (j : ℕ) (ts : List Term) → IsForm s vs q (call j ts) → ReadsEach (Reads s.operators.now d) here ts
  call_reads j ts i = (form_walks (setting s) d [] p ctx a (call j ts) i gr.0.0 gr.0.1).3

  pub call_grounds : (j : ℕ) (ts : List Term) (us : List Val) → IsForm s vs q (call j ts) → Each (ev here) ts (Ok us) → BodyGrounded (setting s) d ctx j us p
  call_grounds j ts us i h =
      let w = form_walks (setting s) d [] p ctx a (call j ts) i gr.0.0 gr.0.1 in
      (w.0, w.1, w.2, (only_grounds (setting s) d [] p ctx a (call j ts) i (enter w.0 us ctx) w.0.body (inl (us, h, (w.0, w.1, refl))) gr.0, gr.1))

  pub call_listed : (j : ℕ) (ts : List Term) (us : List Val) → IsForm s vs q (call j ts) → Each (ev here) ts (Ok us) → (ends : List Ended) → BodyListed (setting s) (called (call j ts) sp) k d ctx j us p ends → PartListed s sp vs k (suc d) p q ends
  call_listed j ts us i h ends b =
      let w = form_walks (setting s) d [] p ctx a (call j ts) i gr.0.0 gr.0.1 in
      only_row (setting s) sp k room d ctx a p gr (call j ts) i refl (enter w.0 us ctx) w.0.body (inl (us, h, (w.0, w.1, refl))) ends (b w.0 w.1)

  pub call_refused : (j : ℕ) (ts : List Term) (x : EvalFault) (n : Ended) (ends : List Ended) → IsForm s vs q (call j ts) → Stops (Each (ev here) ts) x → IsFaultEnd x n → ends ≡ n ∷ [] → PartListed s sp vs k (suc d) p q ends
  call_refused j ts (Refused kind at) n ends i h z w = refused_row (setting s) sp k room d ctx a p gr (call j ts) i (fault kind at) (inr (fault kind at, h, refl)) ends (w ∙ ap (λ (m : Ended). m ∷ []) z)
  call_refused j ts NoMemory n ends i h z w = absurd z

  -- \E

  pub some_reads : (bs : Bounds) (e : Term) → IsForm s vs q (some bs e) → BoundsRead (Reads s.operators.now d) here bs
  some_reads bs e i = (form_walks (setting s) d [] p ctx a (some bs e) i gr.0.0 gr.0.1).0

  pub some_grounds : (bs : Bounds) (e : Term) (all : List (List Val)) → IsForm s vs q (some bs e) → BoundValues ev here bs (Ok all) → AnyGrounded (setting s) d p (under ctx e all)
  some_grounds bs e all i h x m = (one_of_grounds (setting s) d [] p ctx a (some bs e) i (under ctx e all) (inl (all, h, refl)) gr.0 x m, gr.1)

  pub some_listed : (bs : Bounds) (e : Term) (all : List (List Val)) → IsForm s vs q (some bs e) → BoundValues ev here bs (Ok all) → (ns ends : List Ended) → AnyListed (setting s) sp k d p (under ctx e all) ns → OrNoMember (place_of a) ns ends
      → PartListed s sp vs k (suc d) p q ends
  some_listed bs e all i h ns ends w o = choice_row (setting s) sp k room d ctx a p gr (some bs e) i refl (under ctx e all) (inl (all, h, refl)) ns ends w o

  pub some_refused : (bs : Bounds) (e : Term) (x : EvalFault) (n : Ended) (ends : List Ended) → IsForm s vs q (some bs e) → Stops (BoundValues ev here bs) x → IsFaultEnd x n → ends ≡ n ∷ [] → PartListed s sp vs k (suc d) p q ends
  some_refused bs e (Refused kind at) n ends i h z w = refused_row (setting s) sp k room d ctx a p gr (some bs e) i (fault kind at) (inr (fault kind at, h, refl)) ends (w ∙ ap (λ (m : Ended). m ∷ []) z)
  some_refused bs e NoMemory n ends i h z w = absurd z

-- the body of a definition

same_operator : (x y : Operator) → ◌≡◌ {A = Option Operator} (Some x) (Some y) → x ≡ y
same_operator x y e = cc

pub body_here : (g : Setting) (d : ℕ) (p : Places) (c : Context) (j : ℕ) (us : List Val) (o : Operator) → slice_get g.table j ≡ Some o → BodyGrounded g d c j us p → (o.outer ≤ length c.slots) × WhyGrounded g d (enter o us c) o.body p
body_here g d p c j us o e h =
    let same : h.0 ≡ o = same_operator h.0 o (sym h.1 ∙ e) in
    subst (λ (x : Operator). (x.outer ≤ length c.slots) × WhyGrounded g d (enter x us c) x.body p) same (h.2, h.3)

pub body_listed : (g : Setting) (sp : Sparing) (k d : ℕ) (p : Places) (c : Context) (j : ℕ) (us : List Val) (o : Operator) (ends : List Ended) → slice_get g.table j ≡ Some o → IsListed g sp k d (enter o us c) o.body p ends → BodyListed g sp k d c j us p ends
body_listed g sp k d p c j us o ends e h x z =
    let same : o ≡ x = same_operator o x (sym e ∙ z) in
    subst (λ (y : Operator). IsListed g sp k d (enter y us c) y.body p ends) same h
