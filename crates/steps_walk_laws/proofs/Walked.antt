-- An action in order that has a form can be walked: row by row, from left to right.
use Rattle.std.proofs.Common.{◌≡◌, ◌∙◌, sym, refl, subst, ap, ap₂, inl, inr, arith, List, [], ◌∷◌, ◌++◌}
use Rattle.std.specs.Prelude.{◌⊎◌, ◌<◌, ◌≤◌, ◌+◌, ℕ, zero, suc, Bool, true, false, All, Option, Some, None, Result, Ok, Err, map, take, if◌then◌else◌, length, slice_get}
use Rattle.std.specs.List.{AllByRecursion}
use Rattle.std.proofs.lemmas.List.{length-append, length-take-le}
use Rattle.std.proofs.lemmas.List.Elements.{All-cons, All-nil}
use Rattle.base_core.specs.declared.place.Place.{Place}
use Rattle.values_core.specs.Data.{Val}
use Rattle.names_terms.specs.declared.level.Level.{Level}
use Rattle.names_terms.specs.declared.level.Level.TheVariants as levels
use Rattle.names_terms.specs.declared.operator.Operator.{Operator}
use Rattle.names_terms.specs.Lists.{bounds_list}
use Rattle.names_terms.specs.Terms as term
use Rattle.names_terms.specs.Terms.{Term, Placed, Bounds, level_of, place_of, width}
use Rattle.names_term_parts.specs.Limits.{is_above}
use Rattle.names_term_parts.specs.Parts.{set_list}
use Rattle.eval_meanings.specs.Contexts.{Context, Places, bind, enter, within}
use Rattle.eval_meanings.specs.Unchanged.{changed_of, prime_of, unchanged_of}
use Rattle.eval_meanings.specs.Reads.{Knows, Reads, ReadsEach, Reading}
use Rattle.actions_meanings.specs.declared.fault.FormFault.{FormFault}
use Rattle.actions_meanings.specs.declared.which.Which.{Which}
use Rattle.actions_meanings.specs.declared.which.Which.TheVariants as which
use Rattle.actions_meanings.specs.Forms.{Setting, Form, form, is_taken, test, assign, choose, both, either, narrowed, some, branch, arms, inside, call, changing}
use Rattle.actions_meanings.specs.Outcomes.{Arm, FormOutcome, Fixes, arm, arms_of, case_arms, early, first_early, form_outcome, least, next, or_else, outcome_within, outside, through, together, too_early, unless}
use Rattle.actions_meanings.specs.Reads.{Ends, VariableSet, body_of, reads, reads_primed, with_variable}
use Rattle.actions_meanings.specs.Filled.{Fills, at_next}
use Rattle.actions_meanings.specs.Walkable.{AllWalk, ArmsWalk, FormWalks, Walkable}
use Rattle.steps_walk_laws.specs.Stable.{ActionsCanBeWalked, KnowsBefore, Reaches, highest, is_init}
use Rattle.steps_walk_laws.proofs.Early.{Only, each_none, nothing_early, nothing_early_only}
use Rattle.steps_walk_laws.proofs.Ending.{ends_more, in_range}
use Rattle.steps_walk_laws.proofs.Evaluated.{term_reads}
use Rattle.steps_walk_laws.proofs.FormTerms.{Fact, FormTerms, IsMadeStill, OtherIs, form_terms}
use Rattle.steps_walk_laws.proofs.Made.{changed_rows, state_action, unchanged_rows}
use Rattle.steps_walk_laws.proofs.Rows.{Rows, Bodies, orderly_rows, orderly_bodies}
use Rattle.steps_walk_laws.proofs.Stable.{IsStill}
use Rattle.steps_walk_laws.proofs.StableOutcomes.{form_slots, one_set, still_outcome}
use Rattle.steps_walk_laws.proofs.TermsOfParts.{Each}

-- outcomes that are no fault

unless_none : {A : Type 0} (o : Option FormFault) (r : Result A FormFault) (x : A) → unless o r ≡ Ok x → (o ≡ None) × (r ≡ Ok x)
unless_none None r x h = (refl, h)
unless_none (Some f) r x h = absurd (cc)

next_ok : {A B : Type 0} (r : Result A FormFault) (f : A → Result B FormFault) (y : B) → next r f ≡ Ok y → (x : A) × (r ≡ Ok x) × (f x ≡ Ok y)
next_ok (Ok x) f y h = (x, refl, h)
next_ok (Err e) f y h = absurd (cc)

same_set : (C D : VariableSet) → ◌≡◌ {A = FormOutcome} (Ok C) (Ok D) → C ≡ D
same_set C D e = cc

if_test : (t : Bool) → (if t then test else test) ≡ test
if_test true = refl
if_test false = refl

if_nothing : (t : Bool) (x : Option FormFault) → x ≡ None → (if t then x else None) ≡ None
if_nothing true x h = h
if_nothing false x h = refl

if_untaken : (t : Bool) (x : Option FormFault) → t ≡ false → (if t then x else None) ≡ None
if_untaken true x h = absurd (cc)
if_untaken false x h = refl

-- levels

highest_action : (w : Which) (l : Level) → is_above l (highest w) ≡ false → is_above l levels.Action ≡ false
highest_action which.Init l h = state_action l h
highest_action which.Action l h = h

state_untaken : (w : Which) (l : Level) → is_above levels.Action (highest w) ≡ false → is_above l levels.State ≡ false → is_taken w l ≡ false
state_untaken which.Init l a s = absurd (cc)
state_untaken which.Action levels.Constant a s = refl
state_untaken which.Action levels.State a s = refl
state_untaken which.Action levels.Action a s = absurd (cc)
state_untaken which.Action levels.Temporal a s = absurd (cc)

-- lists

set_list_is : (bs : Bounds) → set_list bs ≡ map (λ b. b.1) (bounds_list bs)
set_list_is term.NoBounds = refl
set_list_is (term.MoreBounds bs n e) = ap (λ (es : List Term). es ++ e ∷ []) (set_list_is bs) ∙ pushed_map (bounds_list bs) n e
  where
    pushed_map : (xs : List (ℕ × Term)) (n : ℕ) (e : Term) → map (λ b. b.1) xs ++ e ∷ [] ≡ map (λ b. b.1) (xs ++ (n, e) ∷ [])
    pushed_map [] n e = refl
    pushed_map (x ∷ xs) n e = ap (λ (es : List Term). x.1 ∷ es) (pushed_map xs n e)

reads_each : (reading : Reading) (c : Context) (es : List Term) → Each (λ e. reading c e) es → ReadsEach reading c es
reads_each reading c [] h = tt
reads_each reading c (e ∷ es) h = (h.0, reads_each reading c es h.1)

all_each : (T : Term → Type 0) (es : List Term) → Each T es → All T es
all_each T [] h = All-nil T
all_each T (e ∷ es) h = All-cons T e es h.0 (all_each T es h.1)

module _ (g : Setting) (Q : ℕ → Type 0) (bodies : Bodies g.variables g.table Q) where
  abbrev L : Level
  L = highest g.which

  abbrev Here : ℕ → Term → Type 0
  Here n e = Rows g.variables g.table Q n e

  abbrev Is : ℕ → ℕ → Term → Type 0
  Is k n e = Fact g Q bodies L k n e

  -- contexts

  abbrev InContext : ℕ → Context → Type 0
  InContext n c = (length c.slots ≡ n) × KnowsBefore g.which g.variables c

  before_same : (w : Which) (c b : Context) → c.now ≡ b.now → KnowsBefore w g.variables c → KnowsBefore w g.variables b
  before_same which.Init c b e h = tt
  before_same which.Action c b e h = λ x l. subst (λ (p : Places). Knows p x) e (h x l)

  bind_in : (n k : ℕ) (c : Context) (vs : List Val) → InContext n c → length vs ≡ k → InContext (n + k) (bind c vs)
  bind_in n k c vs h q =
      let p : length (c.slots ++ vs) ≡ length c.slots + length vs = length-append c.slots vs in
      let s : length c.slots ≡ n = h.0 in
      ((omega arith), before_same g.which c (bind c vs) refl h.1)

  within_in : (n m : ℕ) (c : Context) → InContext n c → m ≤ n → InContext m (within m c)
  within_in n m c h q =
      let s : length c.slots ≡ n = h.0 in
      (length-take-le m c.slots (omega arith), before_same g.which c (within m c) refl h.1)

  enter_in : (n : ℕ) (c : Context) (o : Operator) (vs : List Val) → InContext n c → o.outer ≤ n → length vs ≡ o.params → InContext (o.outer + o.params) (enter o vs c)
  enter_in n c o vs h q w =
      let s : length c.slots ≡ n = h.0 in
      let t : length (take o.outer c.slots) ≡ o.outer = length-take-le o.outer c.slots (omega arith) in
      let p : length (take o.outer c.slots ++ vs) ≡ length (take o.outer c.slots) + length vs = length-append (take o.outer c.slots) vs in
      ((omega arith), before_same g.which c (enter o vs c) refl h.1)

  abbrev Filled : VariableSet → Places → Type 0
  Filled B p = (length p ≡ g.variables) × Fills B p

  -- what is evaluated on the way

  reads_with : (w : Which) (d n : ℕ) (p : Places) (c : Context) (e : Term) → length c.slots ≡ n → KnowsBefore w g.variables c → Here n e → is_above (level_of e) levels.Action ≡ false
      → ((k x : ℕ) → reads g.table k (is_init w) e x ≡ true → Knows p x) → Reads g.table d (at_next w c p) e
  reads_with which.Init d n p c e s b here low known = term_reads g.variables g.table Q bodies p d true n (at_next which.Init c p) e (s, refl, refl) here (low, known)
  reads_with which.Action d n p c e s b here low known = term_reads g.variables g.table Q bodies p d false n (at_next which.Action c p) e (s, refl, b) here (low, known)

  reads_here : (d k n : ℕ) (B : VariableSet) (p : Places) (c : Context) (e : Term) → InContext n c → Filled B p → Is k n e → early g B k e ≡ None → Reads g.table d (at_next g.which c p) e
  reads_here d k n B p c e h f t q =
      let low : is_above (level_of e) levels.Action ≡ false = highest_action g.which (level_of e) t.1 in
      let only : Only g Q bodies B (is_init g.which) e = nothing_early_only g Q bodies B k e ((n, t.0), low, t.2) q in
      let known : (j x : ℕ) → reads g.table j (is_init g.which) e x ≡ true → Knows p x =
      λ j x r. (f.1 x (subst (λ (i : ℕ). x < i) (sym f.0) (in_range g.variables g.table Q bodies x j (is_init g.which) n e t.0 r))).0 (only j x r) in
      reads_with g.which d n p c e h.0 h.1 t.0 low known

  each_reads : (d k n : ℕ) (B : VariableSet) (p : Places) (c : Context) → InContext n c → Filled B p → (es : List Term) → Each (Is k n) es → Each (λ e. early g B k e ≡ None) es → Each (λ e. Reads g.table d (at_next g.which c p) e) es
  each_reads d k n B p c h f [] t q = tt
  each_reads d k n B p c h f (e ∷ es) t q = (reads_here d k n B p c e h f t.0 q.0, each_reads d k n B p c h f es t.1 q.1)

  -- terms one after another

  abbrev Walk : ℕ → Type 0
  Walk d = (n : ℕ) (B C : VariableSet) (p : Places) (c : Context) (a : Term) → InContext n c → Filled B p → Here n a → is_above (level_of a) L ≡ false → Fixes g a B C → Walkable g d B p c a

  abbrev Ready : ℕ → VariableSet → VariableSet → Term → Type 0
  Ready n B C e = Here n e × (is_above (level_of e) L ≡ false) × Fixes g e B C

  -- a part that a form has, with what it leaves fixed
  some_ready : (k n : ℕ) (B C : VariableSet) (e : Term) → Is k n e ⊎ IsMadeStill g Q bodies L n e → outcome_within g k e B ≡ Ok C → Ready n B C e
  some_ready k n B C e (inl t) q = (t.0, t.1, (k, t.2, q))
  some_ready k n B C e (inr s) q =
      let still : IsStill g Q bodies s.1 = ((n, s.3), s.4) in
      let one : outcome_within g k e B ≡ Ok B = subst (λ (x : Term). outcome_within g k x B ≡ Ok B) (sym s.2) (still_outcome g Q bodies k s.0 s.1 B still) in
      let same : B ≡ C = same_set B C (sym one ∙ q) in
      let fixes : Fixes g (unchanged_of s.0 s.1) B B = (2, All-cons (Ends g.table 1) s.1 [] (constant_ends s.1 s.4) (All-nil (Ends g.table 1)), still_outcome g Q bodies 2 s.0 s.1 B still) in
      subst (λ (x : Term). Ready n B C x) (sym s.2) (
        unchanged_rows g.variables g.table Q n s.0 s.1 s.3 (constant_state (level_of s.1) s.4),
        s.5,
        subst (λ (D : VariableSet). Fixes g (unchanged_of s.0 s.1) B D) same fixes,
      )
    where
      constant_state : (l : Level) → is_above l levels.Constant ≡ false → is_above l levels.State ≡ false
      constant_state levels.Constant h = refl
      constant_state levels.State h = refl
      constant_state levels.Action h = h
      constant_state levels.Temporal h = h

      constant_ends : (e : Term) → is_above (level_of e) levels.Constant ≡ false → Ends g.table 1 e
      constant_ends (Placed at levels.Constant m) h = tt
      constant_ends (Placed at levels.State m) h = absurd (cc)
      constant_ends (Placed at levels.Action m) h = absurd (cc)
      constant_ends (Placed at levels.Temporal m) h = absurd (cc)

  all_walk : (d : ℕ) → Walk d → (k n : ℕ) (B C : VariableSet) (p : Places) (c : Context) → InContext n c → Filled B p → (es : List Term) → Each (λ e. Is k n e ⊎ IsMadeStill g Q bodies L n e) es → through (outcome_within g k) es B ≡ Ok C
      → AllWalk g (Walkable g d) B p c es
  all_walk d ih k n B C p c h f [] t q = tt
  all_walk d ih k n B C p c h f (e ∷ es) t q =
      let s : (D : VariableSet) × (outcome_within g k e B ≡ Ok D) × (through (outcome_within g k) es D ≡ Ok C) = next_ok (outcome_within g k e B) (through (outcome_within g k) es) C q in
      let r : Ready n B s.0 e = some_ready k n B s.0 e t.0 s.1 in (
        ih n B s.0 p c e h f r.0 r.1 r.2,
        λ D x fixes long kept fills. all_walk d ih k n D C x c h (long ∙ f.0, fills) es t.1
            (subst (λ (E : VariableSet). through (outcome_within g k) es E ≡ Ok C) (one_set g Q bodies L n e B s.0 D r.0 r.1 r.2 fixes) s.2),
      )

  each_fact : (k n : ℕ) (es : List Term) → Each (Is k n) es → Each (λ e. Is k n e ⊎ IsMadeStill g Q bodies L n e) es
  each_fact k n [] h = tt
  each_fact k n (e ∷ es) h = (inl h.0, each_fact k n es h.1)

  each_arm : (d : ℕ) → Walk d → (k n : ℕ) (B : VariableSet) (p : Places) (c : Context) → InContext n c → Filled B p → (es : List Term) (cs : List Arm) → Each (Is k n) es → arms_of (outcome_within g k) B es ≡ Ok cs
      → Each (Walkable g d B p c) es
  each_arm d ih k n B p c h f [] cs t q = tt
  each_arm d ih k n B p c h f (e ∷ es) cs t q =
      let s : (D : VariableSet) × (outcome_within g k e B ≡ Ok D) × (next (arms_of (outcome_within g k) B es) (λ rest. Ok (arm e D ∷ rest)) ≡ Ok cs) =
      next_ok (outcome_within g k e B) (λ D. next (arms_of (outcome_within g k) B es) (λ rest. Ok (arm e D ∷ rest))) cs q in
      let w : (rest : List Arm) × (arms_of (outcome_within g k) B es ≡ Ok rest) × (◌≡◌ {A = Result (List Arm) FormFault} (Ok (arm e s.0 ∷ rest)) (Ok cs)) =
      next_ok (arms_of (outcome_within g k) B es) (λ rest. Ok (arm e s.0 ∷ rest)) cs s.2 in
      (ih n B s.0 p c e h f t.0.0 t.0.1 (k, t.0.2, s.1), each_arm d ih k n B p c h f es w.0 t.1 w.1)

  cases_walk : (d : ℕ) → Walk d → (k n : ℕ) (B : VariableSet) (p : Places) (c : Context) → InContext n c → Filled B p → (cs : List (Term × Term)) (other : Option Term) (all : List Arm)
      → AllByRecursion (λ x. Is k n x.0 × Is k n x.1) cs → OtherIs g Q bodies L k n other → case_arms (early g B k) (outcome_within g k) B cs other ≡ Ok all
      → ArmsWalk (λ at e. Reads g.table d (at_next g.which at p) e) (Walkable g d B p c) c cs other
  cases_walk d ih k n B p c h f [] None all t o q = tt
  cases_walk d ih k n B p c h f [] (Some e) all t o q = let r : Each (Walkable g d B p c) (e ∷ []) = each_arm d ih k n B p c h f (e ∷ []) all (o, tt) q in r.0
  cases_walk d ih k n B p c h f (x ∷ cs) other all t o q =
      let u = unless_none (early g B k x.0) (next (outcome_within g k x.1 B) (λ D. next (case_arms (early g B k) (outcome_within g k) B cs other) (λ rest. Ok (arm x.1 D ∷ rest)))) all q in
      let s = next_ok (outcome_within g k x.1 B) (λ D. next (case_arms (early g B k) (outcome_within g k) B cs other) (λ rest. Ok (arm x.1 D ∷ rest))) all u.1 in
      let w = next_ok (case_arms (early g B k) (outcome_within g k) B cs other) (λ rest. Ok (arm x.1 s.0 ∷ rest)) all s.2 in
      (reads_here d k n B p c x.0 h f t.0.0 u.0, ih n B s.0 p c x.1 h f t.0.1.0 t.0.1.1 (k, t.0.1.2, s.1), cases_walk d ih k n B p c h f cs other w.0 t.1 o w.1)

  -- <<A>>_v: that v changes is a test

  changed_fixes : (k n : ℕ) (C : VariableSet) (at : Place) (v : Term) → is_above (level_of v) levels.State ≡ false → Ends g.table k v → is_above levels.Action L ≡ false
      → least g.variables (outside C (reads_primed g.table k v term.NoSteps)) ≡ None → Fixes g (changed_of at v) C C
  changed_fixes k n C at v low ends a none = (suc (suc k), ends_changed_of, outcome)
    where
      ends_changed_of : Ends g.table (suc (suc k)) (changed_of at v)
      ends_changed_of =
          All-cons (Ends g.table (suc k)) (prime_of at v) (v ∷ []) (All-cons (Ends g.table k) v [] ends (All-nil (Ends g.table k)))
          (All-cons (Ends g.table (suc k)) v [] (ends_more g.table k v ends) (All-nil (Ends g.table (suc k))))

      prime_early : early g C (suc k) (prime_of at v) ≡ None
      prime_early = if_nothing (is_taken g.which levels.Action) _ (ap (too_early (place_of v)) none)

      itself_early : (v : Term) → is_above (level_of v) levels.State ≡ false → early g C (suc k) v ≡ None
      itself_early (Placed p l m) s = if_untaken (is_taken g.which l) _ (state_untaken g.which l a s)

      whole_early : early g C (suc (suc k)) (changed_of at v) ≡ None
      whole_early = if_nothing (is_taken g.which levels.Action) _ (ap₂ or_else prime_early (ap₂ or_else (itself_early v low) refl))

      outcome : outcome_within g (suc (suc k)) (changed_of at v) C ≡ Ok C
      outcome =
          ap (λ (f : Form). form_outcome g (suc k) (outcome_within g (suc k)) (changed_of at v) C f) (if_test (is_taken g.which levels.Action))
          ∙ ap (λ (o : Option FormFault). unless {A = VariableSet} o (Ok C)) whole_early

  -- forms

  form_walks : (d : ℕ) → Walk d → (k n : ℕ) (B C : VariableSet) (p : Places) (c : Context) (a : Term) → InContext n c → Filled B p → Is (suc k) n a → (f : Form) → FormTerms g Q bodies L k n f
      → form_outcome g k (outcome_within g k) a B f ≡ Ok C → FormWalks g d (Walkable g d) B p c a f
  form_walks d ih k n B C p c a h w t test f q = reads_here (suc d) (suc k) n B p c a h w t (unless_none (early g B (suc k) a) (Ok B) C q).0
  form_walks d ih k n B C p c a h w t (assign x e) f q =
      (subst (λ (i : ℕ). x < i) (sym w.0) f.0, reads_here d k n B p c e h w f.1 (unless_none (early g B k e) (Ok (with_variable B x)) C q).0)
  form_walks d ih k n B C p c a h w t (choose x e) f q =
      (subst (λ (i : ℕ). x < i) (sym w.0) f.0, reads_here d k n B p c e h w f.1 (unless_none (early g B k e) (Ok (with_variable B x)) C q).0)
  form_walks d ih k n B C p c a h w t (both es) f q = all_walk d ih k n B C p c h w es (each_fact k n es f) q
  form_walks d ih k n B C p c a h w t (narrowed m es) f q = all_walk d ih k m B C p (within m c) (within_in n m c h f.0) w es f.1 q
  form_walks d ih k n B C p c a h w t (either es) f q =
      let s = next_ok (arms_of (outcome_within g k) B es) (together g.variables B) C q in
      all_each (Walkable g d B p c) es (each_arm d ih k n B p c h w es s.0 f s.1)
  form_walks d ih k n B C p c a h w t (some bs e) f q =
      let u = unless_none (first_early (early g B k) (set_list bs)) (outcome_within g k e B) C q in (
        subst (ReadsEach (Reads g.table d) (at_next g.which c p)) (set_list_is bs)
            (reads_each (Reads g.table d) (at_next g.which c p) (set_list bs) (each_reads d k n B p c h w (set_list bs) f.1 (each_none (early g B k) (set_list bs) u.0))),
        λ vs l. ih (n + width bs) B C p (bind c vs) e (bind_in n (width bs) c vs h l) w f.2.0 f.2.1 (k, f.2.2, u.1),
      )
  form_walks d ih k n B C p c a h w t (branch r e x) f q =
      let u = unless_none (early g B k r) (next (arms_of (outcome_within g k) B (e ∷ x ∷ [])) (together g.variables B)) C q in
      let s = next_ok (arms_of (outcome_within g k) B (e ∷ x ∷ [])) (together g.variables B) C u.1 in
      let y : Each (Walkable g d B p c) (e ∷ x ∷ []) = each_arm d ih k n B p c h w (e ∷ x ∷ []) s.0 (f.1, (f.2, tt)) s.1 in
      (reads_here d k n B p c r h w f.0 u.0, y.0, y.1.0)
  form_walks d ih k n B C p c a h w t (arms cs other) f q =
      let s = next_ok (case_arms (early g B k) (outcome_within g k) B cs other) (together g.variables B) C q in
      cases_walk d ih k n B p c h w cs other s.0 f.0 f.1 s.1
  form_walks d ih k n B C p c a h w t (inside e) f q = ih n B C p c e h w f.0 f.1 (k, f.2, q)
  form_walks d ih k n B C p c a h w t (call j es) f q =
      let u = unless_none (first_early (early g B k) es) (through (outcome_within g k) (body_of (slice_get g.table j)) B) C q in
      let one : through (outcome_within g k) (f.0.body ∷ []) B ≡ Ok C = subst (λ (r : Option Operator). through (outcome_within g k) (body_of r) B ≡ Ok C) f.1 u.1 in
      let s = next_ok (outcome_within g k f.0.body B) (through (outcome_within g k) []) C one in
      let size : length c.slots ≡ n = h.0 in
      let around : f.0.outer ≤ n = f.2 in (
        f.0,
        f.1,
        (omega arith),
        reads_each (Reads g.table d) (at_next g.which c p) es (each_reads d k n B p c h w es f.4 (each_none (early g B k) es u.0)),
        λ vs l. ih (f.0.outer + f.0.params) B s.0 p (enter f.0 vs c) f.0.body (enter_in n c f.0 vs h f.2 (l ∙ f.3)) w f.5.0 f.5.1 (k, f.5.2, s.1),
      )
  form_walks d ih k n B C p c a h w t (changing e v) f q =
      let s = next_ok (outcome_within g k e B) (λ D. unless (too_early (place_of a) (least g.variables (outside D (reads_primed g.table k v term.NoSteps)))) (Ok D)) C q in
      let u = unless_none (too_early (place_of a) (least g.variables (outside s.0 (reads_primed g.table k v term.NoSteps)))) (Ok s.0) C s.2 in
      let fixes : Fixes g (changed_of (place_of a) v) s.0 s.0 =
      changed_fixes k n s.0 (place_of a) v f.2 f.3 f.4 (nothing_early (place_of a) (least g.variables (outside s.0 (reads_primed g.table k v term.NoSteps))) u.0) in (
        ih n B s.0 p c e h w f.0.0 f.0.1 (k, f.0.2, s.1),
        λ D x other long kept fills.
            let same : s.0 ≡ D = one_set g Q bodies L n e B s.0 D f.0.0 f.0.1 (k, f.0.2, s.1) other in (
              ih n D D x c (changed_of (place_of a) v) h (long ∙ w.0, fills) (changed_rows g.variables g.table Q n (place_of a) v f.1 f.2) f.4 (subst (λ (E : VariableSet). Fixes g (changed_of (place_of a) v) E E) same fixes),
              λ E y r l i z. tt,
            ),
      )

  walk : (d : ℕ) → Walk d
  walk zero n B C p c a h w here low fixes = tt
  walk (suc d) n B C p c a h w here low (zero, e, q) = absurd (e)
  walk (suc d) n B C p c a h w here low (suc k, e, q) = (
    (C, (suc k, e, q)),
    subst (λ (i : ℕ). FormWalks g d (Walkable g d) B p c a (form g i a)) (sym h.0)
        (form_walks d (walk d) k n B C p c a h w (here, low, e) (form g n a) (form_terms g Q bodies L k n a (here, low, e)) (sym (form_slots g k n a a B) ∙ q)),
  )

pub actions_can_be_walked : ActionsCanBeWalked
actions_can_be_walked g d n B C p c a o low s before long fills fixes =
    walk g (Reaches g.table a) (orderly_bodies g.variables g.table n a o) d n B C p c a (s, before) (long, fills) (orderly_rows g.variables g.table n a o) low fixes
