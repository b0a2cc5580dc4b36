-- What comes too early in a term is the same for each number of levels that it is high at most.
use Rattle.std.proofs.Common.{◌≡◌, ◌∙◌, sym, refl, subst, ap, ap₂, List, [], ◌∷◌, ◌++◌}
use Rattle.std.specs.Prelude.{◌||◌, ◌&&◌, ℕ, zero, suc, not, Bool, true, false, map, Option, Some, None, if◌then◌else◌, length}
use Rattle.base_core.specs.declared.place.Place.{Place}
use Rattle.reading_trees.specs.declared.operators.PrefixOperator.TheVariants as prefix
use Rattle.names_terms.specs.declared.level.Level.{Level}
use Rattle.names_terms.specs.declared.level.Level.TheVariants as levels
use Rattle.names_terms.specs.Lists.{terms_list, steps_list}
use Rattle.names_terms.specs.Terms as term
use Rattle.names_terms.specs.Terms.{Term, Placed, Meaning, Terms, Step, Steps, level_of, place_of}
use Rattle.names_term_parts.specs.Limits.{is_above}
use Rattle.names_term_parts.specs.Parts.{part, parts_of, listed}
use Rattle.eval_meanings.specs.Functions.{steps_place}
use Rattle.eval_meanings.specs.Unchanged.{behind, unchanged_of}
use Rattle.actions_meanings.specs.declared.fault.FormFault.{FormFault}
use Rattle.actions_meanings.specs.declared.which.Which.{Which}
use Rattle.actions_meanings.specs.declared.which.Which.TheVariants as which
use Rattle.actions_meanings.specs.Forms.{Setting, is_taken}
use Rattle.actions_meanings.specs.Outcomes.{early, early_meaning, early_steps, early_unchanged, first_early, least, or_else, outside, too_early}
use Rattle.actions_meanings.specs.Reads.{Ends, VariableSet, in_none, path_terms, read_among, reads, reads_primed, step_terms, terms_in}
use Rattle.names_specification_laws.specs.Everywhere.{InTerms}
use Rattle.steps_walk_laws.proofs.Early.{Calm, behind_late, items_end}
use Rattle.steps_walk_laws.proofs.Ending.{ends_changed, ends_terms, reads_within}
use Rattle.steps_walk_laws.proofs.LevelsOfParts.{Low, row_low}
use Rattle.steps_walk_laws.proofs.Made.{unchanged_rows}
use Rattle.steps_walk_laws.proofs.PartLists.{PartsAre, before, last}
use Rattle.steps_walk_laws.proofs.ReadOfParts.{constant_reads}
use Rattle.steps_walk_laws.proofs.Rows.{Row, Rows, Bodies}
use Rattle.steps_walk_laws.proofs.TermsHold.{terms_hold}
use Rattle.steps_walk_laws.proofs.TermsOfParts.{Each, each_both, each_gathered, each_gathered_on, each_left, each_right}

both_ways : (a c : Bool) → (a ≡ true → c ≡ true) → (c ≡ true → a ≡ true) → a ≡ c
both_ways true c f h = sym (f refl)
both_ways false true f h = h refl
both_ways false false f h = refl

pub first_same : (f h : Term → Option FormFault) (es : List Term) → Each (λ e. f e ≡ h e) es → first_early f es ≡ first_early h es
first_same f h [] s = refl
first_same f h (e ∷ es) s = ap₂ or_else s.0 (first_same f h es s.1)

first_nothing : (f : Term → Option FormFault) (es : List Term) → Each (λ e. f e ≡ None) es → first_early f es ≡ None
first_nothing f [] s = refl
first_nothing f (e ∷ es) s = ap₂ or_else s.0 (first_nothing f es s.1)

if_same : (t : Bool) (x y : Option FormFault) → x ≡ y → (if t then x else None) ≡ (if t then y else None)
if_same t x y h = ap (λ (z : Option FormFault). if t then z else None) h

if_nothing : (t : Bool) (x : Option FormFault) → x ≡ None → (if t then x else None) ≡ None
if_nothing true x h = h
if_nothing false x h = refl

if_untaken : (t : Bool) (x y : Option FormFault) → t ≡ false → (if t then x else None) ≡ (if t then y else None)
if_untaken true x y h = absurd (cc)
if_untaken false x y h = refl

pub constant_untaken : (w : Which) → is_taken w levels.Constant ≡ false
constant_untaken which.Init = refl
constant_untaken which.Action = refl

least_nothing : (v : ℕ) (P : VariableSet) → ((x : ℕ) → P x ≡ false) → least v P ≡ None
least_nothing zero P h = refl
least_nothing (suc v) P h = by_rest (least v P) (P v) (least_nothing v P h) (h v)
  where
    by_rest : (r : Option ℕ) (t : Bool) → r ≡ None → t ≡ false → elim r as (λ y. Option ℕ) [ Some x ↦ Some x | None ↦ if t then Some v else None ] ≡ None
    by_rest (Some x) t q s = q
    by_rest None true q s = absurd (cc)
    by_rest None false q s = refl

none_outside : (p q : Bool) → p ≡ false → ((p || false) && not q) ≡ false
none_outside true q h = absurd (cc)
none_outside false q h = refl

false_of : (p : Bool) → (p ≡ true → ⊥) → p ≡ false
false_of true h = absurd (h refl)
false_of false h = refl

module _ (g : Setting) (Q : ℕ → Type 0) (bodies : Bodies g.variables g.table Q) where
  abbrev Here : ℕ → Term → Type 0
  Here n e = Rows g.variables g.table Q n e

  abbrev Held : Term → Type 0
  Held e = (n : ℕ) × Here n e

  abbrev unfixed : VariableSet → ℕ → Term → Steps → Option ℕ
  unfixed B k e ss = least g.variables (outside B (reads_primed g.table k e ss))

  reads_same : (k j : ℕ) (b : Bool) (e : Term) → Ends g.table k e → Ends g.table j e → (x : ℕ) → reads g.table k b e x ≡ reads g.table j b e x
  reads_same k j b e h w x = both_ways (reads g.table k b e x) (reads g.table j b e x) (reads_within g.table x j k b e w) (reads_within g.table x k j b e h)

  among_same : (k j : ℕ) (es : List Term) → Each (Ends g.table k) es → Each (Ends g.table j) es → (x : ℕ)
      → read_among (λ e. reads g.table k true e.term) (map (part true) es) x ≡ read_among (λ e. reads g.table j true e.term) (map (part true) es) x
  among_same k j [] h w x = refl
  among_same k j (e ∷ es) h w x = ap₂ (λ (a : Bool) (c : Bool). a || c) (reads_same k j true e h.0 w.0 x) (among_same k j es h.1 w.1 x)

  pub unfixed_same : (B : VariableSet) (k j : ℕ) (e : Term) (ss : Steps) → Ends g.table k e → Ends g.table j e → Each (Ends g.table k) (path_terms ss) → Each (Ends g.table j) (path_terms ss)
      → least g.variables (outside B (reads_primed g.table k e ss)) ≡ least g.variables (outside B (reads_primed g.table j e ss))
  unfixed_same B k j e ss h w u v =
      let one : (x : ℕ) → reads_primed g.table k e ss x ≡ reads_primed g.table j e ss x = λ x. ap₂ (λ (a : Bool) (c : Bool). a || c) (reads_same k j true e h w x) (among_same k j (path_terms ss) u v x) in
      let all : ◌≡◌ {A = VariableSet} (reads_primed g.table k e ss) (reads_primed g.table j e ss) = λ i x. one x i in
      ap (λ (P : VariableSet). least g.variables (outside B P)) all

  -- UNCHANGED of a constant

  pub behind_constant : (i m : ℕ) (e : Term) → is_above (level_of e) levels.Constant ≡ false → (behind g.table i m e).1 ≡ e
  behind_constant zero m e h = refl
  behind_constant (suc i) m (Placed at levels.Constant n) h = refl
  behind_constant (suc i) m (Placed at levels.State n) h = absurd (cc)
  behind_constant (suc i) m (Placed at levels.Action n) h = absurd (cc)
  behind_constant (suc i) m (Placed at levels.Temporal n) h = absurd (cc)

  -- terms of a list that are constant
  abbrev pub IsStill : Term → Type 0
  IsStill e = Held e × (is_above (level_of e) levels.Constant ≡ false)

  still_terms : (n : ℕ) (ts : Terms) → InTerms (Row g.variables g.table Q) n ts → PartsAre (Low levels.Constant false) (parts_of false (listed ts)) → Each IsStill (terms_list ts)
  still_terms n term.NoTerms h f = tt
  still_terms n (term.MoreTerms ts e) h f =
      each_both IsStill (terms_list ts) (e ∷ []) (still_terms n ts h.0 (before (Low levels.Constant false) false (listed ts) e f))
      (((n, h.1), (last (Low levels.Constant false) false (listed ts) e f).0), tt)

  pub still_items : (n : ℕ) (at : Place) (l : Level) (ts : Terms) → Here n (Placed at l (term.Tuple ts)) → is_above l levels.Constant ≡ false → Each IsStill (terms_list ts)
  still_items n at l ts h s = still_terms n ts h.1 (row_low levels.Constant false g.table at (term.Tuple ts) tt h.0.1.0 (subst (λ (x : Level). is_above x levels.Constant ≡ false) h.0.0.2 s))

  pub no_variable : (l : Level) → l ≡ levels.State → is_above l levels.Constant ≡ false → ⊥
  no_variable levels.Constant q h = cc
  no_variable levels.State q h = cc
  no_variable levels.Action q h = cc
  no_variable levels.Temporal q h = cc

  constant_unfixed : (B : VariableSet) (j : ℕ) (e : Term) → IsStill e → unfixed B j e term.NoSteps ≡ None
  constant_unfixed B j e h =
      least_nothing g.variables (outside B (reads_primed g.table j e term.NoSteps))
      (λ x. none_outside (reads g.table j true e x) (B x) (false_of (reads g.table j true e x) (constant_reads g.variables g.table Q bodies (λ y. ⊥) true e h.1 j x)))

  constant_found : (B : VariableSet) (j : ℕ) (at : Place) (e f : Term) → IsStill e → IsStill f → ((es : List Term) → Each IsStill es → first_early (early g B j) (map (unchanged_of at) es) ≡ None) → (m : ℕ)
      → early_unchanged (early g B j) (unfixed B j) B at e (m, f) ≡ None
  constant_found B j at e (Placed p l (term.Variable x)) h w rest m = absurd (no_variable l w.0.1.0.0.2 w.1)
  constant_found B j at e (Placed p l (term.Tuple ts)) h w rest m = rest (terms_list ts) (still_items w.0.0 p l ts w.0.1 w.1)
  constant_found B j at e f h w rest m = ap (too_early at) (constant_unfixed B j e h)

  each_still : (B : VariableSet) (j : ℕ) (at : Place) → ((e : Term) → IsStill e → early g B j (unchanged_of at e) ≡ None) → (es : List Term) → Each IsStill es → first_early (early g B j) (map (unchanged_of at) es) ≡ None
  each_still B j at ih [] h = refl
  each_still B j at ih (e ∷ es) h = ap₂ or_else (ih e h.0) (each_still B j at ih es h.1)

  pub constant_early : (B : VariableSet) (j : ℕ) (at : Place) (e : Term) → IsStill e → early g B j (unchanged_of at e) ≡ None
  constant_early B zero at e h = refl
  constant_early B (suc j) at e h =
      if_nothing (is_taken g.which levels.Action) (early_unchanged (early g B j) (unfixed B j) B at e (behind g.table (length g.table) zero e))
      (subst (λ (f : Term). early_unchanged (early g B j) (unfixed B j) B at e ((behind g.table (length g.table) zero e).0, f) ≡ None) (sym (behind_constant (length g.table) zero e h.1))
      (constant_found B j at e e h h (each_still B j at (λ x t. constant_early B j at x t)) (behind g.table (length g.table) zero e).0))

  -- terms, row by row

  abbrev Same : VariableSet → ℕ → Type 0
  Same B k = (j : ℕ) (e : Term) → Held e → Ends g.table k e → Ends g.table j e → early g B k e ≡ early g B j e

  each_same : (B : VariableSet) (k : ℕ) → Same B k → (j : ℕ) (es : List Term) → Each Held es → Each (Ends g.table k) es → Each (Ends g.table j) es → Each (λ e. early g B k e ≡ early g B j e) es
  each_same B k ih j [] h u w = tt
  each_same B k ih j (e ∷ es) h u w = (ih j e h.0 u.0 w.0, each_same B k ih j es h.1 u.1 w.1)

  steps_same : (B : VariableSet) (k : ℕ) → Same B k → (j : ℕ) (e : Term) → Held e → Ends g.table k e → Ends g.table j e → (ss : Steps) → Each Held (path_terms ss) → Each (Ends g.table k) (path_terms ss)
      → Each (Ends g.table j) (path_terms ss) → early_steps (early g B k) (unfixed B k) e ss ≡ early_steps (early g B j) (unfixed B j) e ss
  steps_same B k ih j e a b c term.NoSteps h u w = ih j e a b c
  steps_same B k ih j e a b c (term.MoreSteps ss at s) h u w =
      let hh = each_gathered Held (λ s. step_terms s.1) (steps_list ss) (at, s) h in
      let uu = each_gathered (Ends g.table k) (λ s. step_terms s.1) (steps_list ss) (at, s) u in
      let ww = each_gathered (Ends g.table j) (λ s. step_terms s.1) (steps_list ss) (at, s) w in
      step_same B k ih j e ss at s (unfixed_same B k j e ss b c uu.0 ww.0) (steps_same B k ih j e a b c ss hh.0 uu.0 ww.0) hh.1 uu.1 ww.1
    where
      step_same : (B : VariableSet) (k : ℕ) → Same B k → (j : ℕ) (e : Term) (ss : Steps) (at : Place) (s : Step) → unfixed B k e ss ≡ unfixed B j e ss → early_steps (early g B k) (unfixed B k) e ss ≡ early_steps (early g B j) (unfixed B j) e ss
          → Each Held (step_terms s) → Each (Ends g.table k) (step_terms s) → Each (Ends g.table j) (step_terms s)
          → early_steps (early g B k) (unfixed B k) e (term.MoreSteps ss at s) ≡ early_steps (early g B j) (unfixed B j) e (term.MoreSteps ss at s)
      step_same B k ih j e ss at term.Prime q r h u w = ap (too_early (steps_place (place_of e) ss)) q
      step_same B k ih j e ss at (term.Index ts) q r h u w = ap₂ or_else r (first_same (early g B k) (early g B j) (terms_list ts) (each_same B k ih j (terms_list ts) h u w))
      step_same B k ih j e ss at (term.Field f) q r h u w = r

  -- UNCHANGED of a tuple of a state
  made_same : (B : VariableSet) (k : ℕ) → Same B k → (j : ℕ) (at : Place) (es : List Term) → Each (λ e. Held (unchanged_of at e)) es → Each (λ e. Ends g.table k (unchanged_of at e)) es
      → Each (λ e. Ends g.table j (unchanged_of at e)) es → first_early (early g B k) (map (unchanged_of at) es) ≡ first_early (early g B j) (map (unchanged_of at) es)
  made_same B k ih j at [] h u w = refl
  made_same B k ih j at (e ∷ es) h u w = ap₂ or_else (ih j (unchanged_of at e) h.0 u.0 w.0) (made_same B k ih j at es h.1 u.1 w.1)

  held_items : (n : ℕ) (at : Place) (ts : Terms) → InTerms (Row g.variables g.table Q) n ts → PartsAre (Low levels.State false) (parts_of false (listed ts)) → Each (λ e. Held (unchanged_of at e)) (terms_list ts)
  held_items n at term.NoTerms h f = tt
  held_items n at (term.MoreTerms ts e) h f =
      each_both (λ e. Held (unchanged_of at e)) (terms_list ts) (e ∷ []) (held_items n at ts h.0 (before (Low levels.State false) false (listed ts) e f))
      ((n, unchanged_rows g.variables g.table Q n at e h.1 (last (Low levels.State false) false (listed ts) e f).0), tt)

  abbrev CalmAt : ℕ → Term → Type 0
  CalmAt k e = Calm g Q bodies in_none k e

  tuple_same : (B : VariableSet) (k : ℕ) → Same B k → (j : ℕ) (at p : Place) (l : Level) (ts : Terms) → CalmAt k (Placed p l (term.Tuple ts)) → CalmAt j (Placed p l (term.Tuple ts))
      → first_early (early g B k) (map (unchanged_of at) (terms_list ts)) ≡ first_early (early g B j) (map (unchanged_of at) (terms_list ts))
  tuple_same B zero ih j at p l ts c d = absurd (c.2)
  tuple_same B (suc k) ih zero at p l ts c d = absurd (d.2)
  tuple_same B (suc k) ih (suc j) at p levels.Constant ts c d =
      let still : Each IsStill (terms_list ts) = still_items c.0.0 p levels.Constant ts c.0.1 refl in
      each_still B (suc k) at (λ x t. constant_early B (suc k) at x t) (terms_list ts) still ∙ sym (each_still B (suc j) at (λ x t. constant_early B (suc j) at x t) (terms_list ts) still)
  tuple_same B (suc k) ih (suc j) at p levels.State ts c d =
      made_same B (suc k) ih (suc j) at (terms_list ts)
      (held_items c.0.0 at ts c.0.1.1 (row_low levels.State false g.table p (term.Tuple ts) tt c.0.1.0.1.0 (subst (λ (x : Level). is_above x levels.State ≡ false) c.0.1.0.0.2 refl)))
      (items_end g Q bodies in_none k at (terms_list ts) (ends_terms g.table k p levels.State (term.Tuple ts) refl c.2))
      (items_end g Q bodies in_none j at (terms_list ts) (ends_terms g.table j p levels.State (term.Tuple ts) refl d.2))
  tuple_same B (suc k) ih (suc j) at p levels.Action ts c d = let w : true ≡ false = c.1 in absurd (cc)
  tuple_same B (suc k) ih (suc j) at p levels.Temporal ts c d = let w : true ≡ false = c.1 in absurd (cc)

  found_same : (B : VariableSet) (k : ℕ) → Same B k → (j : ℕ) (at : Place) (e : Term) → CalmAt k e → CalmAt j e → (m : ℕ) (f : Term) → CalmAt k f → CalmAt j f
      → early_unchanged (early g B k) (unfixed B k) B at e (m, f) ≡ early_unchanged (early g B j) (unfixed B j) B at e (m, f)
  found_same B k ih j at e a b m (Placed p l (term.Variable x)) c d = refl
  found_same B k ih j at e a b m (Placed p l (term.Tuple ts)) c d = tuple_same B k ih j at p l ts c d
  found_same B k ih j at e a b m f c d = ap (too_early at) (unfixed_same B k j e term.NoSteps a.2 b.2 tt tt)

  to_path : (T : Term → Type 0) (ss : Steps) (at : Place) (s : Step) → Each T (path_terms ss ++ step_terms s) → Each T (path_terms (term.MoreSteps ss at s))
  to_path T ss at s h = each_gathered_on T (λ s. step_terms s.1) (steps_list ss) (at, s) (each_left T (path_terms ss) (step_terms s) h) (each_right T (path_terms ss) (step_terms s) h)

  early_rows : (B : VariableSet) (k : ℕ) → Same B k → (j n : ℕ) (at : Place) (l : Level) (m : Meaning) → Here n (Placed at l m) → Each Held (terms_in g.table at m) → Each (Ends g.table k) (terms_in g.table at m)
      → Each (Ends g.table j) (terms_in g.table at m) → early_meaning g (early g B k) (unfixed B k) B at m ≡ early_meaning g (early g B j) (unfixed B j) B at m
  early_rows B k ih j n at l (term.Variable x) h t u w = refl
  early_rows B k ih j n at l (term.Postfix e ss s) h t u w =
      steps_same B k ih j e t.0 u.0 w.0 (term.MoreSteps ss at s) (to_path Held ss at s t.1) (to_path (Ends g.table k) ss at s u.1) (to_path (Ends g.table j) ss at s w.1)
  early_rows B k ih j n at l (term.Prefix prefix.Unchanged e) h t u w =
      let a : CalmAt k e = ((n, h.1), h.0.1.0.0, u.0) in
      let b : CalmAt j e = ((n, h.1), h.0.1.0.0, w.0) in
      found_same B k ih j at e a b (behind g.table (length g.table) zero e).0 (behind g.table (length g.table) zero e).1
      (behind_late g Q bodies in_none k (length g.table) zero e a).1 (behind_late g Q bodies in_none j (length g.table) zero e b).1
  early_rows B k ih j n at l (term.AngleAction e v) h t u w =
      ap₂ or_else (ih j e t.0 u.0 w.0) (ap (too_early at) (unfixed_same B k j v term.NoSteps (ends_changed g.table k at v u.1.0) (ends_changed g.table j at v w.1.0) tt tt))
  early_rows B k ih j n at l m h t u w = first_same (early g B k) (early g B j) (terms_in g.table at m) (each_same B k ih j (terms_in g.table at m) t u w)

  pub early_same : (B : VariableSet) (k : ℕ) → Same B k
  early_same B zero j e h u w = absurd (u)
  early_same B (suc k) zero e h u w = absurd (w)
  early_same B (suc k) (suc j) (Placed at levels.Constant m) h u w = if_untaken (is_taken g.which levels.Constant) _ _ (constant_untaken g.which)
  early_same B (suc k) (suc j) (Placed at levels.State m) h u w =
      if_same (is_taken g.which levels.State) _ _
      (early_rows B k (early_same B k) j h.0 at levels.State m h.1 (terms_hold g.variables g.table Q bodies h.0 at levels.State m h.1) (ends_terms g.table k at levels.State m refl u) (ends_terms g.table j at levels.State m refl w))
  early_same B (suc k) (suc j) (Placed at levels.Action m) h u w =
      if_same (is_taken g.which levels.Action) _ _
      (early_rows B k (early_same B k) j h.0 at levels.Action m h.1 (terms_hold g.variables g.table Q bodies h.0 at levels.Action m h.1) (ends_terms g.table k at levels.Action m refl u) (ends_terms g.table j at levels.Action m refl w))
  early_same B (suc k) (suc j) (Placed at levels.Temporal m) h u w =
      if_same (is_taken g.which levels.Temporal) _ _
      (early_rows B k (early_same B k) j h.0 at levels.Temporal m h.1 (terms_hold g.variables g.table Q bodies h.0 at levels.Temporal m h.1) (ends_terms g.table k at levels.Temporal m refl u) (ends_terms g.table j at levels.Temporal m refl w))
