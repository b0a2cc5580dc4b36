-- Where more is fixed, no read comes too early that did not before.
use Rattle.std.proofs.Common.{◌≡◌, ◌⊎◌, inl, inr, ap, refl, List, [], ◌∷◌, map, length}
use Rattle.std.specs.Prelude.{ℕ, zero, suc, Bool, true, false, ◌&&◌, not, Option, Some, None, if◌then◌else◌}
use Rattle.base_core.specs.declared.place.Place.{Place}
use Rattle.reading_trees.specs.declared.operators.PrefixOperator.TheVariants as prefix
use Rattle.names_terms.specs.Lists.{terms_list}
use Rattle.names_terms.specs.Terms as term
use Rattle.names_terms.specs.Terms.{Term, Placed, Meaning, Step, Steps, place_of}
use Rattle.eval_meanings.specs.Functions.{steps_place}
use Rattle.eval_meanings.specs.Unchanged.{behind, unchanged_of}
use Rattle.actions_meanings.specs.declared.which.Which.{Which}
use Rattle.actions_meanings.specs.declared.which.Which.TheVariants as which
use Rattle.actions_meanings.specs.declared.fault.FormFault.{FormFault}
use Rattle.actions_meanings.specs.Forms.{Setting, is_taken}
use Rattle.actions_meanings.specs.Reads.{VariableSet, terms_in, reads_primed}
use Rattle.actions_meanings.specs.Outcomes.{least, outside, too_early, not_fixed, first_early, early_variable, early_steps, early_unchanged, early_meaning, early}
use Rattle.actions_form_laws.specs.Growth.{Within}
use Rattle.actions_form_laws.proofs.Steps.{else-first, else-second, else-both, is-false}

-- THE LEAST OF A SET

option-cases : (o : Option ℕ) → (o ≡ None) ⊎ ((x : ℕ) × (o ≡ Some x))
option-cases None = inl refl
option-cases (Some x) = inr (x, refl)

pub bool-cases : (b : Bool) → (b ≡ true) ⊎ (b ≡ false)
bool-cases true = inl refl
bool-cases false = inr refl

some-no : (o : Option ℕ) (x : ℕ) → o ≡ Some x → o ≡ None → ⊥
some-no o x h q = cc

least-before : (v : ℕ) (P : VariableSet) (x : ℕ) → least v P ≡ Some x → least (suc v) P ≡ Some x
least-before v P x h = rw h refl

least-here : (v : ℕ) (P : VariableSet) → least v P ≡ None → P v ≡ true → least (suc v) P ≡ Some v
least-here v P h q = rw (h, q) refl

least-nowhere : (v : ℕ) (P : VariableSet) → least v P ≡ None → P v ≡ false → least (suc v) P ≡ None
least-nowhere v P h q = rw (h, q) refl

pub least-step : (v : ℕ) (P : VariableSet) → least (suc v) P ≡ None → (least v P ≡ None) × (P v ≡ false)
least-step v P h = elim (option-cases (least v P)) [
  | inr s ↦ absurd (some-no (least (suc v) P) s.0 (least-before v P s.0 s.1) h)
  | inl q ↦ elim (bool-cases (P v)) [
    | inl t ↦ absurd (some-no (least (suc v) P) v (least-here v P q t) h)
    | inr t ↦ (q, t)
  ]
]

pub least-stays : (v : ℕ) (P Q : VariableSet) → Within Q P → least v P ≡ None → least v Q ≡ None
least-stays zero P Q s h = refl
least-stays (suc v) P Q s h =
    let p : (least v P ≡ None) × (P v ≡ false) = least-step v P h in
    least-nowhere v Q (least-stays v P Q s p.0) (is-false (P v) (Q v) (s v) p.1)

outside-one : (b d r : Bool) → (b ≡ true → d ≡ true) → (r && not d) ≡ true → (r && not b) ≡ true
outside-one b d false s h = h
outside-one false d true s h = refl
outside-one true true true s h = h
outside-one true false true s h = absurd (let q : false ≡ true = s refl in cc)

pub outside-within : (B D R : VariableSet) → Within B D → Within (outside D R) (outside B R)
outside-within B D R s x h = outside-one (B x) (D x) (R x) (s x) h

pub none-outside : (v : ℕ) (B D R : VariableSet) → Within B D → least v (outside B R) ≡ None → least v (outside D R) ≡ None
none-outside v B D R s h = least-stays v (outside B R) (outside D R) (outside-within B D R s) h

pub not-early : (at : Place) (o p : Option ℕ) → (o ≡ None → p ≡ None) → too_early at o ≡ None → too_early at p ≡ None
not-early at None p s h = ap (too_early at) (s refl)
not-early at (Some x) p s h = absurd (cc)

pub not-lacking : (at to : Place) (o p : Option ℕ) → (o ≡ None → p ≡ None) → not_fixed at o ≡ None → not_fixed to p ≡ None
not-lacking at to None p s h = ap (not_fixed to) (s refl)
not-lacking at to (Some x) p s h = absurd (cc)

-- READS

pub firsts-stay : (f t : Term → Option FormFault) → ((e : Term) → f e ≡ None → t e ≡ None) → (es : List Term) → first_early f es ≡ None → first_early t es ≡ None
firsts-stay f t s [] h = refl
firsts-stay f t s (e ∷ es) h = else-both (t e) (first_early t es) (s e (else-first (f e) (first_early f es) h)) (firsts-stay f t s es (else-second (f e) (first_early f es) h))

timely-one : (at : Place) (b d : Bool) (x : ℕ) → (b ≡ true → d ≡ true) → too_early at (if b then None else Some x) ≡ None → too_early at (if d then None else Some x) ≡ None
timely-one at b true x s h = refl
timely-one at false false x s h = h
timely-one at true false x s h = absurd (let q : false ≡ true = s refl in cc)

if-stays : (b : Bool) (x y : Option FormFault) → (x ≡ None → y ≡ None) → (if b then x else None) ≡ None → (if b then y else None) ≡ None
if-stays true x y s h = s h
if-stays false x y s h = refl

abbrev unread : Setting → VariableSet → ℕ → Term → Steps → Option ℕ
unread g B k e ss = least g.variables (outside B (reads_primed g.table k e ss))

-- what is timely in a term stays so
abbrev pub EarlyStays : Setting → VariableSet → VariableSet → ℕ → Type 0
EarlyStays g B D k = (e : Term) → early g B k e ≡ None → early g D k e ≡ None

module _ (g : Setting) (B D : VariableSet) (within : Within B D) (k : ℕ) (ih : EarlyStays g B D k) where
  unread-stays : (e : Term) (ss : Steps) → unread g B k e ss ≡ None → unread g D k e ss ≡ None
  unread-stays e ss h = none-outside g.variables B D (reads_primed g.table k e ss) within h

  variable-stays : (w : Which) (at : Place) (x : ℕ) → early_variable w B at x ≡ None → early_variable w D at x ≡ None
  variable-stays which.Init at x h = timely-one at (B x) (D x) x (within x) h
  variable-stays which.Action at x h = refl

  steps-stay : (e : Term) (ss : Steps) → early_steps (early g B k) (unread g B k) e ss ≡ None → early_steps (early g D k) (unread g D k) e ss ≡ None
  steps-stay e term.NoSteps h = ih e h
  steps-stay e (term.MoreSteps ss at term.Prime) h = not-early (steps_place (place_of e) ss) (unread g B k e ss) (unread g D k e ss) (unread-stays e ss) h
  steps-stay e (term.MoreSteps ss at (term.Index ts)) h =
      else-both (early_steps (early g D k) (unread g D k) e ss) (first_early (early g D k) (terms_list ts))
      (steps-stay e ss (else-first (early_steps (early g B k) (unread g B k) e ss) (first_early (early g B k) (terms_list ts)) h))
      (firsts-stay (early g B k) (early g D k) ih (terms_list ts) (else-second (early_steps (early g B k) (unread g B k) e ss) (first_early (early g B k) (terms_list ts)) h))
  steps-stay e (term.MoreSteps ss at (term.Field n)) h = steps-stay e ss h

  found-stays : (at : Place) (e : Term) (found : ℕ × Term) → early_unchanged (early g B k) (unread g B k) B at e found ≡ None → early_unchanged (early g D k) (unread g D k) D at e found ≡ None
  found-stays at e (m, Placed p l (term.Variable x)) h = timely-one at (B x) (D x) x (within x) h
  found-stays at e (m, Placed p l (term.Tuple ts)) h = firsts-stay (early g B k) (early g D k) ih (map (unchanged_of at) (terms_list ts)) h
  found-stays at e (m, f) h = not-early at (unread g B k e term.NoSteps) (unread g D k e term.NoSteps) (unread-stays e term.NoSteps) h

  meaning-stays : (at : Place) (m : Meaning) → early_meaning g (early g B k) (unread g B k) B at m ≡ None → early_meaning g (early g D k) (unread g D k) D at m ≡ None
  meaning-stays at (term.Variable x) h = variable-stays g.which at x h
  meaning-stays at (term.Postfix e ss s) h = steps-stay e (term.MoreSteps ss at s) h
  meaning-stays at (term.Prefix prefix.Unchanged e) h = found-stays at e (behind g.table (length g.table) zero e) h
  meaning-stays at (term.AngleAction e v) h =
      else-both (early g D k e) (too_early at (unread g D k v term.NoSteps))
      (ih e (else-first (early g B k e) (too_early at (unread g B k v term.NoSteps)) h))
      (not-early at (unread g B k v term.NoSteps) (unread g D k v term.NoSteps) (unread-stays v term.NoSteps) (else-second (early g B k e) (too_early at (unread g B k v term.NoSteps)) h))
  meaning-stays at m h = firsts-stay (early g B k) (early g D k) ih (terms_in g.table at m) h

  pub whole-timely : EarlyStays g B D (suc k)
  whole-timely (Placed at l m) h =
      if-stays (is_taken g.which l) (early_meaning g (early g B k) (unread g B k) B at m) (early_meaning g (early g D k) (unread g D k) D at m) (meaning-stays at m) h

pub early-stays : (g : Setting) (B D : VariableSet) → Within B D → (k : ℕ) → EarlyStays g B D k
early-stays g B D within zero e h = refl
early-stays g B D within (suc k) e h = whole-timely g B D within k (early-stays g B D within k) e h
