-- What is read too early does not depend on how many levels are allowed.
use Rattle.std.proofs.Common.{◌≡◌, ◌∙◌, inl, inr, ap, sym, refl, subst, List, [], ◌∷◌, ◌++◌, map, length}
use Rattle.std.specs.Prelude.{ℕ, zero, suc, Bool, true, false, Option, None, if◌then◌else◌}
use Rattle.std.specs.List.{AllByRecursion as Each}
use Rattle.std.proofs.lemmas.List.Elements.{recursion_from_All}
use Rattle.base_core.specs.declared.place.Place.{Place}
use Rattle.reading_trees.specs.declared.operators.PrefixOperator.TheVariants as prefix
use Rattle.names_terms.specs.declared.level.Level.{Level}
use Rattle.names_terms.specs.declared.level.Level.TheVariants as levels
use Rattle.names_terms.specs.Lists.{terms_list}
use Rattle.names_terms.specs.Terms as term
use Rattle.names_terms.specs.Terms.{Term, Placed, Meaning, Terms, Steps, Step, place_of, level_of}
use Rattle.eval_meanings.specs.Functions.{steps_place}
use Rattle.eval_meanings.specs.Unchanged.{behind, unchanged_of}
use Rattle.actions_meanings.specs.declared.which.Which.{Which}
use Rattle.actions_meanings.specs.declared.which.Which.TheVariants as which
use Rattle.actions_meanings.specs.declared.fault.FormFault.{FormFault}
use Rattle.actions_meanings.specs.Forms.{Setting, is_taken}
use Rattle.actions_meanings.specs.Reads.{VariableSet, Ends, in_none, united, step_terms, path_terms, terms_in, reads, reads_primed}
use Rattle.actions_meanings.specs.Outcomes.{or_else, least, outside, too_early, first_early, early_steps, early_unchanged, early_meaning, early}
use Rattle.actions_early_reads.specs.Orderly.{IsSoundThroughout, itself}
use Rattle.actions_early_reads.proofs.Each.{each-left, each-right, each-both, each-weaker}
use Rattle.actions_early_reads.proofs.Rows.{paths_more}
use Rattle.actions_early_reads.proofs.Ends.{ends-in, ends-behind, ends-items, unchange, behind-constant, orderly-terms, orderly-stays, orderly-behind}
use Rattle.actions_early_reads.proofs.Heights.{primed-same}

pub not_constant : (w : Which) (l : Level) → is_taken w l ≡ true → l ≡ levels.Constant → ⊥
not_constant which.Init levels.Constant t q = absurd (cc)
not_constant which.Action levels.Constant t q = absurd (cc)
not_constant w levels.State t q = absurd (cc)
not_constant w levels.Action t q = absurd (cc)
not_constant w levels.Temporal t q = absurd (cc)

pub action-taken : (w : Which) → is_taken w levels.Action ≡ true
action-taken which.Init = refl
action-taken which.Action = refl

pub if-same : {A : Type 0} (b : Bool) (x y z : A) → (b ≡ true → x ≡ y) → (if b then x else z) ≡ (if b then y else z)
if-same true x y z h = h refl
if-same false x y z h = refl

pub if-taken : {A : Type 0} (b : Bool) (x y : A) → b ≡ true → (if b then x else y) ≡ x
if-taken true x y h = refl
if-taken false x y h = absurd (cc)

pub firsts-same : (f g : Term → Option FormFault) (es : List Term) → Each (λ e. f e ≡ g e) es → first_early f es ≡ first_early g es
firsts-same f g [] h = refl
firsts-same f g (e ∷ es) h = ap (λ (z : Option FormFault). or_else z (first_early f es)) h.0 ∙ ap (or_else (g e)) (firsts-same f g es h.1)

pub least-none : (v : ℕ) (P : VariableSet) → ((x : ℕ) → P x ≡ false) → least v P ≡ None
least-none zero P h = refl
least-none (suc v) P h = rw (least-none v P h, h v) refl

-- CONSTANT TERMS

reads-constant : (g : Setting) (k : ℕ) (b : Bool) (at : Place) (m : Meaning) → reads g.table k b (Placed at levels.Constant m) ≡ in_none
reads-constant g zero b at m = refl
reads-constant g (suc k) b at m = refl

unread-constant : (g : Setting) (B : VariableSet) (k : ℕ) (at p : Place) (m : Meaning) → too_early at (least g.variables (outside B (reads_primed g.table k (Placed p levels.Constant m) term.NoSteps))) ≡ None
unread-constant g B k at p m =
    let none : least g.variables (outside B (united in_none in_none)) ≡ None = least-none g.variables (outside B (united in_none in_none)) (λ x. refl) in
    ap (λ (R : VariableSet). too_early at (least g.variables (outside B (united R in_none)))) (reads-constant g k true p m) ∙ ap (too_early at) none

abbrev pub IsStill : Setting → Term → Type 0
IsStill g e = (level_of e ≡ levels.Constant) × IsSoundThroughout g.table g.variables e

-- the parts of a constant tuple are constant
pub still-items : (g : Setting) (p : Place) (ts : Terms) → IsSoundThroughout g.table g.variables (Placed p levels.Constant (term.Tuple ts)) → Each (IsStill g) (terms_list ts)
still-items g p ts o =
    each-both (λ e. level_of e ≡ levels.Constant) (IsSoundThroughout g.table g.variables) (IsStill g) (λ e x y. (x, y)) (terms_list ts)
    (recursion_from_All (λ e. level_of e ≡ levels.Constant) (terms_list ts) (o (Placed p levels.Constant (term.Tuple ts)) (itself (Placed p levels.Constant (term.Tuple ts)))).0)
    (orderly-terms g.table g.variables p levels.Constant (term.Tuple ts) o)

pub none-early : (f : Term → Option FormFault) (at : Place) (es : List Term) → Each (λ e. f (unchanged_of at e) ≡ None) es → first_early f (map (unchanged_of at) es) ≡ None
none-early f at [] h = refl
none-early f at (e ∷ es) h = rw h.0 (none-early f at es h.1)

still-row : (g : Setting) (B : VariableSet) (k : ℕ) (at p : Place) (m : Meaning) → ((e : Term) → IsStill g e → early g B k (unchanged_of at e) ≡ None) → IsSoundThroughout g.table g.variables (Placed p levels.Constant m) → early_unchanged (early g B k) (λ e ss. least g.variables (outside B (reads_primed g.table k e ss))) B at (Placed p levels.Constant m) (zero, Placed p levels.Constant m) ≡ None
still-row g B k at p (term.Variable x) ih o = absurd (o (Placed p levels.Constant (term.Variable x)) (itself (Placed p levels.Constant (term.Variable x)))).0
still-row g B k at p (term.Tuple ts) ih o = none-early (early g B k) at (terms_list ts) (each-weaker (IsStill g) (λ e. early g B k (unchanged_of at e) ≡ None) ih (terms_list ts) (still-items g p ts o))
still-row g B k at p m ih o = unread-constant g B k at p m

pub early-still : (g : Setting) (B : VariableSet) (k : ℕ) (at : Place) (e : Term) → IsStill g e → early g B k (unchanged_of at e) ≡ None
early-still g B zero at e h = refl
early-still g B (suc k) at (Placed p l m) h =
    let q : l ≡ levels.Constant = h.0 in
    let o : IsSoundThroughout g.table g.variables (Placed p levels.Constant m) = subst (λ (z : Level). IsSoundThroughout g.table g.variables (Placed p z m)) q h.1 in
    let found : behind g.table (length g.table) zero (Placed p levels.Constant m) ≡ (zero, Placed p levels.Constant m) = behind-constant g.table (length g.table) zero p m in
    let here : early g B (suc k) (unchanged_of at (Placed p levels.Constant m)) ≡ None =
    if-taken (is_taken g.which levels.Action) (early_unchanged (early g B k) (λ e ss. least g.variables (outside B (reads_primed g.table k e ss))) B at (Placed p levels.Constant m) (behind g.table (length g.table) zero (Placed p levels.Constant m))) None (action-taken g.which)
    ∙ ap (early_unchanged (early g B k) (λ e ss. least g.variables (outside B (reads_primed g.table k e ss))) B at (Placed p levels.Constant m)) found
    ∙ still-row g B k at p m (early-still g B k at) o in
    subst (λ (z : Level). early g B (suc k) (unchanged_of at (Placed p z m)) ≡ None) (sym q) here

-- THE SAME AT ALL NUMBERS THAT SUFFICE

abbrev pub EarlySame : Setting → VariableSet → ℕ → ℕ → Type 0
EarlySame g B k j = (e : Term) → IsSoundThroughout g.table g.variables e → Ends g.table k e → Ends g.table j e → early g B k e ≡ early g B j e

abbrev pub unread : Setting → VariableSet → ℕ → Term → Steps → Option ℕ
unread g B k e ss = least g.variables (outside B (reads_primed g.table k e ss))

pub unread-same : (g : Setting) (B : VariableSet) (k j : ℕ) (e : Term) (ss : Steps) → Ends g.table k e → Ends g.table j e → Each (Ends g.table k) (path_terms ss) → Each (Ends g.table j) (path_terms ss) → unread g B k e ss ≡ unread g B j e ss
unread-same g B k j e ss h t hs ts = ap (λ (R : VariableSet). least g.variables (outside B R)) (primed-same g.table k j e ss h t hs ts)

module _ (g : Setting) (B : VariableSet) (k j : ℕ) (ih : EarlySame g B k j) where
  -- what is the same
  abbrev Same : Term → Type 0
  Same e = early g B k e ≡ early g B j e

  pub terms-same : (es : List Term) → Each (IsSoundThroughout g.table g.variables) es → Each (Ends g.table k) es → Each (Ends g.table j) es → Each Same es
  terms-same es o h t =
      each-both (λ e. IsSoundThroughout g.table g.variables e × Ends g.table k e) (Ends g.table j) Same (λ e x y. ih e x.0 x.1 y) es
      (each-both (IsSoundThroughout g.table g.variables) (Ends g.table k) (λ e. IsSoundThroughout g.table g.variables e × Ends g.table k e) (λ e x y. (x, y)) es o h) t

  -- UNCHANGED of the parts of a tuple
  pub items-same : (at p : Place) (l : Level) (ts : Terms) → IsSoundThroughout g.table g.variables (Placed p l (term.Tuple ts)) → Ends g.table k (Placed p l (term.Tuple ts)) → Ends g.table j (Placed p l (term.Tuple ts)) → first_early (early g B k) (map (unchanged_of at) (terms_list ts)) ≡ first_early (early g B j) (map (unchanged_of at) (terms_list ts))
  items-same at p l ts o h t = elim (ends-items g.table k at p l ts h) [
    | inl q ↦ constant q
    | inr hs ↦ elim (ends-items g.table j at p l ts t) [
      | inl q ↦ constant q
      | inr ts_end ↦ open_items (terms_list ts) (orderly-terms g.table g.variables p l (term.Tuple ts) o) hs ts_end
    ]
  ]
    where
      constant : l ≡ levels.Constant → first_early (early g B k) (map (unchanged_of at) (terms_list ts)) ≡ first_early (early g B j) (map (unchanged_of at) (terms_list ts))
      constant q =
          let items : Each (IsStill g) (terms_list ts) = still-items g p ts (subst (λ (z : Level). IsSoundThroughout g.table g.variables (Placed p z (term.Tuple ts))) q o) in
          none-early (early g B k) at (terms_list ts) (each-weaker (IsStill g) (λ e. early g B k (unchanged_of at e) ≡ None) (early-still g B k at) (terms_list ts) items)
          ∙ sym (none-early (early g B j) at (terms_list ts) (each-weaker (IsStill g) (λ e. early g B j (unchanged_of at e) ≡ None) (early-still g B j at) (terms_list ts) items))

      open_items : (es : List Term) → Each (IsSoundThroughout g.table g.variables) es → Each (λ e. Ends g.table k (unchanged_of at e)) es → Each (λ e. Ends g.table j (unchanged_of at e)) es → first_early (early g B k) (map (unchanged_of at) es) ≡ first_early (early g B j) (map (unchanged_of at) es)
      open_items [] x y z = refl
      open_items (e ∷ es) x y z =
          let own : early g B k (unchanged_of at e) ≡ early g B j (unchanged_of at e) = ih (unchanged_of at e) (orderly-stays g.table g.variables at e x.0) y.0 z.0 in
          ap (λ (r : Option FormFault). or_else r (first_early (early g B k) (map (unchanged_of at) es))) own ∙ ap (or_else (early g B j (unchanged_of at e))) (open_items es x.1 y.1 z.1)

  found-same : (at : Place) (e : Term) (found : ℕ × Term) → IsSoundThroughout g.table g.variables found.1 → Ends g.table k found.1 → Ends g.table j found.1 → unread g B k e term.NoSteps ≡ unread g B j e term.NoSteps → early_unchanged (early g B k) (unread g B k) B at e found ≡ early_unchanged (early g B j) (unread g B j) B at e found
  found-same at e (m, Placed p l (term.Variable x)) o h t r = refl
  found-same at e (m, Placed p l (term.Tuple ts)) o h t r = items-same at p l ts o h t
  found-same at e (m, f) o h t r = ap (too_early at) r

  steps-same : (e : Term) (ss : Steps) → IsSoundThroughout g.table g.variables e → Ends g.table k e → Ends g.table j e → Each Same (path_terms ss) → Each (Ends g.table k) (path_terms ss) → Each (Ends g.table j) (path_terms ss) → early_steps (early g B k) (unread g B k) e ss ≡ early_steps (early g B j) (unread g B j) e ss
  steps-same e term.NoSteps o h t s hs ts = ih e o h t
  steps-same e (term.MoreSteps ss at s) o h t q hs ts =
      let cut : path_terms (term.MoreSteps ss at s) ≡ path_terms ss ++ step_terms s = paths_more ss at s in
      let qs : Each Same (path_terms ss ++ step_terms s) = subst (λ (es : List Term). Each Same es) cut q in
      let ks : Each (Ends g.table k) (path_terms ss ++ step_terms s) = subst (λ (es : List Term). Each (Ends g.table k) es) cut hs in
      let js : Each (Ends g.table j) (path_terms ss ++ step_terms s) = subst (λ (es : List Term). Each (Ends g.table j) es) cut ts in
      last s at (each-right Same (path_terms ss) (step_terms s) qs) (unread-same g B k j e ss h t (each-left (Ends g.table k) (path_terms ss) (step_terms s) ks) (each-left (Ends g.table j) (path_terms ss) (step_terms s) js))
      (steps-same e ss o h t (each-left Same (path_terms ss) (step_terms s) qs) (each-left (Ends g.table k) (path_terms ss) (step_terms s) ks) (each-left (Ends g.table j) (path_terms ss) (step_terms s) js))
    where
      last : (s : Step) (at : Place) → Each Same (step_terms s) → unread g B k e ss ≡ unread g B j e ss → early_steps (early g B k) (unread g B k) e ss ≡ early_steps (early g B j) (unread g B j) e ss → early_steps (early g B k) (unread g B k) e (term.MoreSteps ss at s) ≡ early_steps (early g B j) (unread g B j) e (term.MoreSteps ss at s)
      last term.Prime at own r before = ap (too_early (steps_place (place_of e) ss)) r
      last (term.Index es) at own r before = ap (λ (z : Option FormFault). or_else z (first_early (early g B k) (terms_list es))) before ∙ ap (or_else (early_steps (early g B j) (unread g B j) e ss)) (firsts-same (early g B k) (early g B j) (terms_list es) own)
      last (term.Field n) at own r before = before

  meaning-same : (at : Place) (m : Meaning) → Each (IsSoundThroughout g.table g.variables) (terms_in g.table at m) → Each (Ends g.table k) (terms_in g.table at m) → Each (Ends g.table j) (terms_in g.table at m) → early_meaning g (early g B k) (unread g B k) B at m ≡ early_meaning g (early g B j) (unread g B j) B at m
  meaning-same at (term.Variable x) o h t = refl
  meaning-same at (term.Postfix e ss s) o h t =
      let cut : path_terms (term.MoreSteps ss at s) ≡ path_terms ss ++ step_terms s = paths_more ss at s in
      steps-same e (term.MoreSteps ss at s) o.0 h.0 t.0
      (subst (λ (es : List Term). Each Same es) (sym cut) (terms-same (path_terms ss ++ step_terms s) o.1 h.1 t.1))
      (subst (λ (es : List Term). Each (Ends g.table k) es) (sym cut) h.1)
      (subst (λ (es : List Term). Each (Ends g.table j) es) (sym cut) t.1)
  meaning-same at (term.Prefix prefix.Unchanged e) o h t =
      found-same at e (behind g.table (length g.table) zero e) (orderly-behind g.table g.variables (length g.table) zero e o.0) (ends-behind g.table k (length g.table) zero e h.0) (ends-behind g.table j (length g.table) zero e t.0) (unread-same g B k j e term.NoSteps h.0 t.0 tt tt)
  meaning-same at (term.AngleAction e v) o h t =
      let own : early g B k e ≡ early g B j e = ih e o.0 h.0 t.0 in
      let r : unread g B k v term.NoSteps ≡ unread g B j v term.NoSteps = unread-same g B k j v term.NoSteps (unchange g.table k at v h.1.0) (unchange g.table j at v t.1.0) tt tt in
      ap (λ (z : Option FormFault). or_else z (too_early at (unread g B k v term.NoSteps))) own ∙ ap (λ (z : Option ℕ). or_else (early g B j e) (too_early at z)) r
  meaning-same at m o h t = firsts-same (early g B k) (early g B j) (terms_in g.table at m) (terms-same (terms_in g.table at m) o h t)

  pub whole-same : (at : Place) (l : Level) (m : Meaning) → IsSoundThroughout g.table g.variables (Placed at l m) → Ends g.table (suc k) (Placed at l m) → Ends g.table (suc j) (Placed at l m) → early g B (suc k) (Placed at l m) ≡ early g B (suc j) (Placed at l m)
  whole-same at l m o h t =
      if-same (is_taken g.which l) (early_meaning g (early g B k) (unread g B k) B at m) (early_meaning g (early g B j) (unread g B j) B at m) None (λ taken. elim (ends-in g.table k at l m h) [
        | inl q ↦ absurd (not_constant g.which l taken q)
        | inr hs ↦ elim (ends-in g.table j at l m t) [
          | inl q ↦ absurd (not_constant g.which l taken q)
          | inr ts ↦ meaning-same at m (orderly-terms g.table g.variables at l m o) hs ts
        ]
      ])

pub early-same : (g : Setting) (B : VariableSet) (k j : ℕ) → EarlySame g B k j
early-same g B zero j e o h t = absurd h
early-same g B (suc k) zero e o h t = absurd t
early-same g B (suc k) (suc j) (Placed at l m) o h t = whole-same g B k j (early-same g B k j) at l m o h t
