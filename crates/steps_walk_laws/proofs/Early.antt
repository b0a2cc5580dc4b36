-- Where nothing comes too early in a term, each variable that it reads of the state that is made is fixed.
use Rattle.std.proofs.Common.{◌≡◌, ◌∙◌, sym, refl, subst, ap, inl, inr, arith, List, [], ◌∷◌}
use Rattle.std.specs.Prelude.{◌||◌, ◌&&◌, ◌<◌, ◌⊎◌, ℕ, zero, suc, min, not, Bool, true, false, map, Option, Some, None, if◌then◌else◌, length, slice_get}
use Rattle.std.proofs.lemmas.List.Elements.{All-cons, All-nil}
use Rattle.base_core.specs.declared.place.Place.{Place}
use Rattle.reading_trees.specs.declared.operators.PrefixOperator.TheVariants as prefix
use Rattle.names_terms.specs.declared.level.Level.{Level}
use Rattle.names_terms.specs.declared.level.Level.TheVariants as levels
use Rattle.names_terms.specs.declared.operator.Operator.{Operator}
use Rattle.names_terms.specs.Lists.{terms_list}
use Rattle.names_terms.specs.Terms as term
use Rattle.names_terms.specs.Terms.{Term, Placed, Meaning, Terms, Step, Steps, level_of, place_of}
use Rattle.names_term_parts.specs.Limits.{is_above}
use Rattle.names_term_parts.specs.Parts.{part, parts_of, listed, is_prime, has_prime, steps_parts}
use Rattle.eval_meanings.specs.Functions.{steps_place}
use Rattle.eval_meanings.specs.Unchanged.{behind, unchanged_of}
use Rattle.actions_meanings.specs.declared.fault.FormFault.{FormFault}
use Rattle.actions_meanings.specs.declared.which.Which.{Which}
use Rattle.actions_meanings.specs.declared.which.Which.TheVariants as which
use Rattle.actions_meanings.specs.Forms.{Setting, is_taken}
use Rattle.actions_meanings.specs.Outcomes.{early, early_meaning, early_steps, early_unchanged, early_variable, first_early, least, or_else, outside, too_early}
use Rattle.actions_meanings.specs.Reads.{Ends, VariableSet, body_of, parts_in, path_terms, read_among, reads, reads_primed, terms_in}
use Rattle.names_specification_laws.specs.IsSpec.{HasParts}
use Rattle.steps_walk_laws.specs.Stable.{NothingEarlyIsKnown, Reaches, is_init}
use Rattle.steps_walk_laws.proofs.Ending.{ends_changed, ends_more, ends_parts, ends_unchanged, ends_terms, in_range, reads_within, whole_only}
use Rattle.steps_walk_laws.proofs.LevelsOfParts.{Low, low_parts}
use Rattle.steps_walk_laws.proofs.Made.{only_unchanged, unchanged_rows}
use Rattle.steps_walk_laws.proofs.PartLists.{OfPart, PartsAre, both, left, right, parts_both, parts_weaker, or_left, or_right, or_none}
use Rattle.steps_walk_laws.proofs.PartsHold.{Holds, parts_hold}
use Rattle.steps_walk_laws.proofs.ReadOfParts.{calm_reads, constant_reads}
use Rattle.steps_walk_laws.proofs.Rows.{Row, Rows, Bodies, orderly_rows, orderly_bodies}
use Rattle.steps_walk_laws.proofs.TermsOfParts.{Each, Grow, Kept, is_plain, listed_is, path_parts, row_parts}

or_true : (b : Bool) → (b || true) ≡ true
or_true true = refl
or_true false = refl

swapped : (b h p : Bool) → (b || (h || p)) ≡ ((b || p) || h)
swapped true h p = refl
swapped false true true = refl
swapped false true false = refl
swapped false false true = refl
swapped false false false = refl

true_flag : (p h : Bool) → (p || (h || true)) ≡ true
true_flag true h = refl
true_flag false true = refl
true_flag false false = refl

stays_true : (p c : Bool) → p ≡ true → (p || c) ≡ true
stays_true true c h = refl
stays_true false c h = absurd (cc)

-- that nothing is wrong

pub nothing_early : (at : Place) (o : Option ℕ) → too_early at o ≡ None → o ≡ None
nothing_early at None h = refl
nothing_early at (Some x) h = absurd (cc)

first_none : (a b : Option FormFault) → or_else a b ≡ None → a ≡ None
first_none None b h = refl
first_none (Some f) b h = absurd (cc)

second_none : (a b : Option FormFault) → or_else a b ≡ None → b ≡ None
second_none None b h = h
second_none (Some f) b h = absurd (cc)

pub each_none : (early : Term → Option FormFault) (es : List Term) → first_early early es ≡ None → Each (λ e. early e ≡ None) es
each_none early [] h = tt
each_none early (e ∷ es) h = (first_none (early e) (first_early early es) h, each_none early es (second_none (early e) (first_early early es) h))

fixed_one : (at : Place) (x : ℕ) (t : Bool) → too_early at (if t then None else Some x) ≡ None → t ≡ true
fixed_one at x true h = refl
fixed_one at x false h = absurd (cc)

fixed_variable : (w : Which) (B : VariableSet) (at : Place) (x : ℕ) → early_variable w B at x ≡ None → is_init w ≡ true → B x ≡ true
fixed_variable which.Init B at x h q = fixed_one at x (B x) h
fixed_variable which.Action B at x h q = absurd (cc)

least_split : (v : ℕ) (r : Option ℕ) (t : Bool) → elim r as (λ y. Option ℕ) [ Some x ↦ Some x | None ↦ if t then Some v else None ] ≡ None → (r ≡ None) × (t ≡ false)
least_split v (Some x) t h = absurd (cc)
least_split v None true h = absurd (cc)
least_split v None false h = (refl, refl)

pub least_none : (v : ℕ) (P : VariableSet) → least v P ≡ None → (x : ℕ) → x < v → P x ≡ false
least_none zero P h x l = absurd (omega arith)
least_none (suc v) P h x l =
    let s : (least v P ≡ None) × (P v ≡ false) = least_split v (least v P) (P v) h in
    by_cases s (same_or_below x v l) (λ q r. least_none v P q x r)
  where
    same_or_below : (x v : ℕ) → x < suc v → (x ≡ v) ⊎ (x < v)
    same_or_below zero zero l = inl refl
    same_or_below zero (suc v) l = inr (omega arith)
    same_or_below (suc x) zero l = absurd (omega arith)
    same_or_below (suc x) (suc v) l = elim (same_or_below x v (omega arith)) [ inl e ↦ inl (ap (λ (y : ℕ). suc y) e) | inr q ↦ inr (omega arith) ]

    by_cases : (least v P ≡ None) × (P v ≡ false) → (x ≡ v) ⊎ (x < v) → (least v P ≡ None → x < v → P x ≡ false) → P x ≡ false
    by_cases s (inl e) f = subst (λ (y : ℕ). P y ≡ false) (sym e) s.1
    by_cases s (inr q) f = f s.0 q

inside_then : (p q : Bool) → (p && not q) ≡ false → p ≡ true → q ≡ true
inside_then true true h k = refl
inside_then true false h k = absurd (cc)
inside_then false q h k = absurd (cc)

pub all_fixed : (v : ℕ) (B P : VariableSet) → least v (outside B P) ≡ None → (x : ℕ) → x < v → P x ≡ true → B x ≡ true
all_fixed v B P h x l r = inside_then (P x) (B x) (least_none v (outside B P) h x l) r

module _ (g : Setting) (Q : ℕ → Type 0) (bodies : Bodies g.variables g.table Q) (B : VariableSet) where
  abbrev Here : ℕ → Term → Type 0
  Here n e = Rows g.variables g.table Q n e

  abbrev Good : ℕ → Place → Level → Meaning → Type 0
  Good = Row g.variables g.table Q

  abbrev Fixed : ℕ → Type 0
  Fixed x = B x ≡ true

  -- all that it reads is fixed
  abbrev pub Only : OfPart
  Only p e = (k x : ℕ) → reads g.table k p e x ≡ true → B x ≡ true

  -- a part in order, at most k levels high
  abbrev Fact : ℕ → OfPart
  Fact k p e = Holds Good p e × (is_above (level_of e) levels.Action ≡ false) × Ends g.table k e

  abbrev Late : ℕ → Type 0
  Late k = (e : Term) → Fact k true e → early g B k e ≡ None → Only (is_init g.which) e

  abbrev unfixed : ℕ → Term → Steps → Option ℕ
  unfixed k e ss = least g.variables (outside B (reads_primed g.table k e ss))

  -- what stands under a prime

  abbrev Primed : ℕ → Term → Type 0
  Primed k e = (x : ℕ) → x < g.variables → reads g.table k true e x ≡ true → B x ≡ true

  primed_each : (k : ℕ) (es : List Term) → ((x : ℕ) → x < g.variables → read_among (λ e. reads g.table k true e.term) (map (part true) es) x ≡ true → B x ≡ true) → Each (Primed k) es
  primed_each k [] h = tt
  primed_each k (e ∷ es) h = (
    λ x l r. h x l (or_left (reads g.table k true e x) (read_among (λ e. reads g.table k true e.term) (map (part true) es) x) r),
    primed_each k es (λ x l r. h x l (or_right (reads g.table k true e x) (read_among (λ e. reads g.table k true e.term) (map (part true) es) x) r)),
  )

  unfixed_none : (k : ℕ) (e : Term) (ss : Steps) → unfixed k e ss ≡ None → Primed k e × Each (Primed k) (path_terms ss)
  unfixed_none k e ss h =
      let all : (x : ℕ) → x < g.variables → reads_primed g.table k e ss x ≡ true → B x ≡ true = all_fixed g.variables B (reads_primed g.table k e ss) h in (
        λ x l r. all x l (or_left (reads g.table k true e x) (read_among (λ e. reads g.table k true e.term) (map (part true) (path_terms ss)) x) r),
        primed_each k (path_terms ss) (λ x l r. all x l (or_right (reads g.table k true e x) (read_among (λ e. reads g.table k true e.term) (map (part true) (path_terms ss)) x) r)),
      )

  pub primed_only : (k n : ℕ) (e : Term) → Here n e → Ends g.table k e → ((x : ℕ) → x < g.variables → reads g.table k true e x ≡ true → B x ≡ true) → Only true e
  primed_only k n e here ends h j x r =
      let w : reads g.table k true e x ≡ true = reads_within g.table x k j true e ends r in
      h x (in_range g.variables g.table Q bodies x k true n e here w) w

  grow_true : (k : ℕ) (ss : Steps) → Grow true true (Primed k) ss
  grow_true k term.NoSteps = tt
  grow_true k (term.MoreSteps ss at s) = (grow_true k ss, λ p h q. stays_true p (is_prime s) (h q))

  steps_true : (k : ℕ) (p : Bool) → p ≡ true → (ss : Steps) → PartsAre (Fact k) (steps_parts p ss) → Each (Primed k) (path_terms ss) → PartsAre Only (steps_parts p ss)
  steps_true k p t ss f h =
      parts_weaker (λ p e. Fact k p e × Kept true true (Primed k) p e) Only
      (λ p e w. subst (λ (q : Bool). Only q e) (sym (w.1.1 refl)) (primed_only k w.0.0.0 e w.0.0.1 w.0.2 w.1.0)) (steps_parts p ss)
      (parts_both (Fact k) (Kept true true (Primed k)) (steps_parts p ss) f (path_parts true true (Primed k) p (λ q. t) ss (grow_true k ss) h))

  -- terms that stand where the whole does

  terms_late : (k : ℕ) → Late k → (p : Bool) → p ≡ is_init g.which → (es : List Term) → PartsAre (Fact k) (parts_of p es) → Each (λ e. early g B k e ≡ None) es → PartsAre Only (parts_of p es)
  terms_late k ih p s [] f h = tt
  terms_late k ih p s (e ∷ es) f h = (subst (λ (q : Bool). Only q e) (sym s) (ih e f.0 h.0), terms_late k ih p s es f.1 h.1)

  steps_late : (k : ℕ) → Late k → (p : Bool) → p ≡ is_init g.which → (e : Term) → Fact k true e → (ss : Steps) → PartsAre (Fact k) (steps_parts p ss)
      → early_steps (early g B k) (unfixed k) e ss ≡ None → Only (p || has_prime ss) e × PartsAre Only (steps_parts p ss)
  steps_late k ih p s e t term.NoSteps f h = (subst (λ (q : Bool). Only q e) (sym s ∙ or_none p) (ih e t h), tt)
  steps_late k ih p s e t (term.MoreSteps ss at term.Prime) f h =
      let n : Primed k e × Each (Primed k) (path_terms ss) = unfixed_none k e ss (nothing_early (steps_place (place_of e) ss) (unfixed k e ss) h) in
      (subst (λ (q : Bool). Only q e) (sym (true_flag p (has_prime ss))) (primed_only k t.0.0 e t.0.1 t.2 n.0), steps_true k (p || true) (or_true p) ss f n.1)
  steps_late k ih p s e t (term.MoreSteps ss at (term.Index ts)) f h =
      let a : early_steps (early g B k) (unfixed k) e ss ≡ None = first_none (early_steps (early g B k) (unfixed k) e ss) (first_early (early g B k) (terms_list ts)) h in
      let b : first_early (early g B k) (terms_list ts) ≡ None = second_none (early_steps (early g B k) (unfixed k) e ss) (first_early (early g B k) (terms_list ts)) h in
      let r : Only ((p || false) || has_prime ss) e × PartsAre Only (steps_parts (p || false) ss) =
      steps_late k ih (p || false) (sym (or_none p) ∙ s) e t ss (right (Fact k) (parts_of p (listed ts)) (steps_parts (p || false) ss) f) a in (
        subst (λ (q : Bool). Only q e) (sym (swapped p (has_prime ss) false)) r.0,
        both Only (parts_of p (listed ts)) (steps_parts (p || false) ss)
            (terms_late k ih p s (listed ts) (left (Fact k) (parts_of p (listed ts)) (steps_parts (p || false) ss) f)
            (subst (Each (λ e. early g B k e ≡ None)) (listed_is ts) (each_none (early g B k) (terms_list ts) b))) r.1,
      )
  steps_late k ih p s e t (term.MoreSteps ss at (term.Field x)) f h =
      let r : Only ((p || false) || has_prime ss) e × PartsAre Only (steps_parts (p || false) ss) = steps_late k ih (p || false) (sym (or_none p) ∙ s) e t ss f h in
      (subst (λ (q : Bool). Only q e) (sym (swapped p (has_prime ss) false)) r.0, r.1)

  plain_late : (k : ℕ) → Late k → (at : Place) (m : Meaning) → is_plain m ≡ true → HasParts m → PartsAre (Fact k) (parts_in g.table (is_init g.which) m)
      → first_early (early g B k) (terms_in g.table at m) ≡ None → PartsAre Only (parts_in g.table (is_init g.which) m)
  plain_late k ih at m p hp f h =
      parts_weaker (λ p e. Fact k p e × Kept (is_init g.which) true (λ e. early g B k e ≡ None) p e) Only
      (λ p e w. subst (λ (q : Bool). Only q e) (sym (w.1.1 refl)) (ih e w.0 w.1.0)) (parts_in g.table (is_init g.which) m)
      (parts_both (Fact k) (Kept (is_init g.which) true (λ e. early g B k e ≡ None)) (parts_in g.table (is_init g.which) m) f
      (row_parts (is_init g.which) true (λ e. early g B k e ≡ None) g.table (λ q. absurd (cc)) at m (λ q. p) (λ q. hp) (each_none (early g B k) (terms_in g.table at m) h)))

  -- UNCHANGED

  abbrev pub Calm : ℕ → Term → Type 0
  Calm k e = Holds Good true e × (is_above (level_of e) levels.State ≡ false) × Ends g.table k e

  unchanged_late : (k : ℕ) → Late k → (at : Place) (e : Term) → Calm k e → early g B k (unchanged_of at e) ≡ None → Ends g.table k (unchanged_of at e) → Only true e
  unchanged_late k ih at e c h w =
      only_unchanged g.table Fixed (is_init g.which) at e (ih (unchanged_of at e) ((c.0.0, unchanged_rows g.variables g.table Q c.0.0 at e c.0.1 c.1), refl, w) h)

  -- parts of a term of a state, under a prime
  pub calm_parts : (k n : ℕ) (at : Place) (l : Level) (m : Meaning) → Here n (Placed at l m) → is_above l levels.State ≡ false → Each (Ends g.table k) (terms_in g.table at m) → PartsAre (λ p e. Calm k e) (parts_in g.table true m)
  calm_parts k n at l m h s w =
      parts_weaker (λ p e. (Holds Good p e × Low levels.State true p e) × Ends g.table k e) (λ p e. Calm k e) (λ p e w. (w.0.0, w.0.1.0, w.1)) (parts_in g.table true m)
      (parts_both (λ p e. Holds Good p e × Low levels.State true p e) (λ p e. Ends g.table k e) (parts_in g.table true m)
      (parts_both (Holds Good) (Low levels.State true) (parts_in g.table true m) (parts_hold g.variables g.table Q bodies true n at l m h) (low_parts levels.State true g.variables g.table Q bodies n at l m h.0 s))
      (ends_parts g.table k true at m w))

  -- what stands behind a name reads what the name does
  abbrev pub Behind : ℕ → Term → Term → Type 0
  Behind k e f = (Only true f → Only true e) × Calm k f

  pub behind_late : (k i m : ℕ) (e : Term) → Calm k e → Behind k e (behind g.table i m e).1
  behind_late k zero m e c = (λ h. h, c)
  behind_late zero (suc i) m e c = absurd (c.2)
  behind_late (suc k) (suc i) m (Placed at levels.State (term.Use j term.NoTerms)) c =
      by_use (slice_get g.table j) (λ o q. through o q (behind_late (suc k) i (min o.outer m) o.body))
    where
      through : (o : Operator) → slice_get g.table j ≡ Some o → (Calm (suc k) o.body → Behind (suc k) o.body (behind g.table i (min o.outer m) o.body).1) → Behind (suc k) (Placed at levels.State (term.Use j term.NoTerms)) (behind g.table i (min o.outer m) o.body).1
      through o q rest =
          let p : PartsAre (λ p e. Calm k e) (part true o.body ∷ []) =
          subst (λ (r : Option Operator). PartsAre (λ p e. Calm k e) (map (part true) (body_of r))) q (calm_parts k c.0.0 at levels.State (term.Use j term.NoTerms) c.0.1 refl (ends_terms g.table k at levels.State (term.Use j term.NoTerms) refl c.2)) in
          let r : Behind (suc k) o.body (behind g.table i (min o.outer m) o.body).1 = rest (p.0.0, p.0.1, ends_more g.table k o.body p.0.2) in
          (λ h. whole_only g.table Fixed true at levels.State (term.Use j term.NoTerms) tt (subst (λ (r : Option Operator). PartsAre Only (map (part true) (body_of r))) (sym q) (r.0 h, tt)), r.1)

      by_use : (found : Option Operator) → ((o : Operator) → found ≡ Some o → Behind (suc k) (Placed at levels.State (term.Use j term.NoTerms)) (behind g.table i (min o.outer m) o.body).1)
          → Behind (suc k) (Placed at levels.State (term.Use j term.NoTerms)) (elim found as (λ x. ℕ × Term) [ None ↦ (m, Placed at levels.State (term.Use j term.NoTerms)) | Some o ↦ behind g.table i (min o.outer m) o.body ]).1
      by_use None f = (λ h. h, c)
      by_use (Some o) f = f o refl
  behind_late (suc k) (suc i) m e c = (λ h. h, c)

  items_late : (k : ℕ) → Late k → (at : Place) (es : List Term) → PartsAre (λ p e. Calm k e) (parts_of true es) → Each (λ e. Ends g.table k (unchanged_of at e)) es → first_early (early g B k) (map (unchanged_of at) es) ≡ None → PartsAre Only (parts_of true es)
  items_late k ih at [] c w h = tt
  items_late k ih at (e ∷ es) c w h = (
    unchanged_late k ih at e c.0 (first_none (early g B k (unchanged_of at e)) (first_early (early g B k) (map (unchanged_of at) es)) h) w.0,
    items_late k ih at es c.1 w.1 (second_none (early g B k (unchanged_of at e)) (first_early (early g B k) (map (unchanged_of at) es)) h),
  )

  pub items_end : (k : ℕ) (at : Place) (es : List Term) → Each (Ends g.table k) es → Each (λ e. Ends g.table (suc k) (unchanged_of at e)) es
  items_end k at [] h = tt
  items_end k at (e ∷ es) h = (All-cons (Ends g.table k) e [] h.0 (All-nil (Ends g.table k)), items_end k at es h.1)

  tuple_late : (k : ℕ) → Late k → (at p : Place) (l : Level) (ts : Terms) → Calm k (Placed p l (term.Tuple ts)) → first_early (early g B k) (map (unchanged_of at) (terms_list ts)) ≡ None → Only true (Placed p l (term.Tuple ts))
  tuple_late zero ih at p l ts c h = absurd (c.2)
  tuple_late (suc k) ih at p levels.Constant ts c h = constant_reads g.variables g.table Q bodies Fixed true (Placed p levels.Constant (term.Tuple ts)) refl
  tuple_late (suc k) ih at p levels.State ts c h =
      let ends : Each (Ends g.table k) (terms_list ts) = ends_terms g.table k p levels.State (term.Tuple ts) refl c.2 in
      whole_only g.table Fixed true p levels.State (term.Tuple ts) tt
      (items_late (suc k) ih at (listed ts)
      (parts_weaker (λ p e. Calm k e) (λ p e. Calm (suc k) e) (λ p e w. (w.0, w.1, ends_more g.table k e w.2)) (parts_of true (listed ts)) (calm_parts k c.0.0 p levels.State (term.Tuple ts) c.0.1 refl ends))
      (items_end k at (listed ts) (subst (Each (Ends g.table k)) (listed_is ts) ends)) (subst (λ (es : List Term). first_early (early g B (suc k)) (map (unchanged_of at) es) ≡ None) (listed_is ts) h))
  tuple_late (suc k) ih at p levels.Action ts c h = let w : true ≡ false = c.1 in absurd (cc)
  tuple_late (suc k) ih at p levels.Temporal ts c h = let w : true ≡ false = c.1 in absurd (cc)

  found_late : (k : ℕ) → Late k → (at : Place) (e : Term) → Calm k e → (m : ℕ) (f : Term) → Behind k e f → early_unchanged (early g B k) (unfixed k) B at e (m, f) ≡ None → Only true e
  found_late k ih at e c m (Placed p l (term.Variable x)) b h = b.0 (whole_only g.table Fixed true p l (term.Variable x) (λ q. fixed_one at x (B x) h) tt)
  found_late k ih at e c m (Placed p l (term.Tuple ts)) b h = b.0 (tuple_late k ih at p l ts b.1 h)
  found_late k ih at e c m f b h = primed_only k c.0.0 e c.0.1 c.2 (unfixed_none k e term.NoSteps (nothing_early at (unfixed k e term.NoSteps) h)).0

  -- rows

  fixed_whole : (k n : ℕ) → Late k → (at : Place) (l : Level) (m : Meaning) → Here n (Placed at l m) → PartsAre (Fact k) (parts_in g.table (is_init g.which) m) → Each (Ends g.table k) (terms_in g.table at m)
      → early_meaning g (early g B k) (unfixed k) B at m ≡ None → Only (is_init g.which) (Placed at l m)
  fixed_whole k n ih at l (term.Variable x) here f w h = whole_only g.table Fixed (is_init g.which) at l (term.Variable x) (fixed_variable g.which B at x h) tt
  fixed_whole k n ih at l (term.Postfix e ss s) here f w h =
      let r : Only (is_init g.which || has_prime (term.MoreSteps ss at s)) e × PartsAre Only (steps_parts (is_init g.which) (term.MoreSteps ss at s)) =
      steps_late k ih (is_init g.which) refl e f.0 (term.MoreSteps ss at s) f.1 h in
      whole_only g.table Fixed (is_init g.which) at l (term.Postfix e ss s) tt (subst (λ (q : Bool). Only q e) (swapped (is_init g.which) (has_prime ss) (is_prime s)) r.0, r.1)
  fixed_whole k n ih at l (term.Prefix prefix.Unchanged e) here f w h =
      let c : Calm k e = ((n, here.1), here.0.1.0.0, w.0) in
      let b : Behind k e (behind g.table (length g.table) zero e).1 = behind_late k (length g.table) zero e c in
      let r : Only true e = found_late k ih at e c (behind g.table (length g.table) zero e).0 (behind g.table (length g.table) zero e).1 b h in
      whole_only g.table Fixed (is_init g.which) at l (term.Prefix prefix.Unchanged e) tt (subst (λ (q : Bool). Only q e) (sym (or_true (is_init g.which))) r, tt)
  fixed_whole k n ih at l (term.BoxAction e v) here f w h =
      let rest : first_early (early g B k) (unchanged_of at v ∷ []) ≡ None = second_none (early g B k e) (first_early (early g B k) (unchanged_of at v ∷ [])) h in
      whole_only g.table Fixed (is_init g.which) at l (term.BoxAction e v) tt (
        ih e f.0 (first_none (early g B k e) (first_early (early g B k) (unchanged_of at v ∷ [])) h),
        (unchanged_late k ih at v ((n, here.1.1), here.0.1.0.1.0, ends_unchanged g.table k at v w.1.0) (first_none (early g B k (unchanged_of at v)) (first_early (early g B k) []) rest) w.1.0, tt),
      )
  fixed_whole k n ih at l (term.AngleAction e v) here f w h =
      let q : unfixed k v term.NoSteps ≡ None = nothing_early at (unfixed k v term.NoSteps) (second_none (early g B k e) (too_early at (unfixed k v term.NoSteps)) h) in
      whole_only g.table Fixed (is_init g.which) at l (term.AngleAction e v) tt (
        ih e f.0 (first_none (early g B k e) (too_early at (unfixed k v term.NoSteps)) h),
        (primed_only k n v here.1.1 (ends_changed g.table k at v w.1.0) (unfixed_none k v term.NoSteps q).0, tt),
      )
  fixed_whole k n ih at l m here f w h = whole_only g.table Fixed (is_init g.which) at l m tt (plain_late k ih at m refl here.0.0.1 f h)

  facts : (k n : ℕ) (at : Place) (l : Level) (m : Meaning) → Here n (Placed at l m) → is_above l levels.Action ≡ false → Each (Ends g.table k) (terms_in g.table at m) → PartsAre (Fact k) (parts_in g.table (is_init g.which) m)
  facts k n at l m h s w =
      let b : Bool = is_init g.which in
      parts_weaker (λ p e. (Holds Good p e × Low levels.Action b p e) × Ends g.table k e) (Fact k) (λ p e w. (w.0.0, w.0.1.0, w.1)) (parts_in g.table b m)
      (parts_both (λ p e. Holds Good p e × Low levels.Action b p e) (λ p e. Ends g.table k e) (parts_in g.table b m)
      (parts_both (Holds Good) (Low levels.Action b) (parts_in g.table b m) (parts_hold g.variables g.table Q bodies b n at l m h) (low_parts levels.Action b g.variables g.table Q bodies n at l m h.0 s))
      (ends_parts g.table k b at m w))

  -- a term that is not taken apart reads nothing of the state that is made
  by_taken : (w : Which) (l : Level) (n : ℕ) (at : Place) (m : Meaning) (found : Option FormFault) → Here n (Placed at l m) → is_above l levels.Action ≡ false → (if is_taken w l then found else None) ≡ None
      → (found ≡ None → is_above l levels.Constant ≡ true → Only (is_init w) (Placed at l m)) → Only (is_init w) (Placed at l m)
  by_taken w levels.Constant n at m found here s h go = constant_reads g.variables g.table Q bodies Fixed (is_init w) (Placed at levels.Constant m) refl
  by_taken which.Init levels.State n at m found here s h go = go h refl
  by_taken which.Action levels.State n at m found here s h go = λ k x r. absurd (calm_reads g.variables g.table Q bodies k n (Placed at levels.State m) here refl x r)
  by_taken which.Init levels.Action n at m found here s h go = go h refl
  by_taken which.Action levels.Action n at m found here s h go = go h refl
  by_taken w levels.Temporal n at m found here s h go = absurd (cc)

  pub nothing_early_only : (k : ℕ) → Late k
  nothing_early_only zero e f h = absurd (f.2)
  nothing_early_only (suc k) (Placed at l m) f h =
      by_taken g.which l f.0.0 at m (early_meaning g (early g B k) (unfixed k) B at m) f.0.1 f.1 h
      (λ q c. let w : Each (Ends g.table k) (terms_in g.table at m) = ends_terms g.table k at l m c f.2 in
      fixed_whole k f.0.0 (nothing_early_only k) at l m f.0.1 (facts k f.0.0 at l m f.0.1 f.1 w) w q)

pub nothing_early_is_known : NothingEarlyIsKnown
nothing_early_is_known g B n k e o ends h =
    nothing_early_only g (Reaches g.table e) (orderly_bodies g.variables g.table n e o) B k e ((n, orderly_rows g.variables g.table n e o), o.level, ends) h
