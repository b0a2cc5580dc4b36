-- The terms that a meaning is made of, beside its parts.
use Rattle.std.proofs.Common.{◌≡◌, ◌∙◌, ap, sym, refl, subst, List, [], ◌∷◌, ◌++◌, map}
use Rattle.std.specs.Prelude.{◌||◌, ℕ, Bool, Option, Some, None, slice_get}
use Rattle.std.specs.List.{AllByRecursion as Each}
use Rattle.std.proofs.lemmas.List.{append-nil}
use Rattle.std.proofs.lemmas.List.Concat.{flat_map-append}
use Rattle.base_core.specs.declared.place.Place.{Place}
use Rattle.names_terms.specs.declared.operator.Operator.{Operator}
use Rattle.names_terms.specs.Lists.{terms_list, steps_list, changes_list, arms_list}
use Rattle.names_terms.specs.Terms as term
use Rattle.names_terms.specs.Terms.{Term, Meaning, Terms, Step, Steps, Changes, Arms}
use Rattle.names_term_parts.specs.Parts.{Part, part, parts, parts_of, listed, operand_list, set_list, value_list, arm_list, is_prime, step_parts, steps_parts, change_parts}
use Rattle.eval_meanings.specs.Contexts.{Table}
use Rattle.eval_meanings.specs.Unchanged.{unchanged_of, changed_of}
use Rattle.actions_meanings.specs.Reads.{body_of, step_terms, path_terms, terms_in, parts_in}
use Rattle.actions_early_reads.specs.Paths.{change_terms}
use Rattle.actions_early_reads.proofs.Each.{each-append, each-left, each-right, each-map, each-unmap, each-weaker}

pub listed_is : (ts : Terms) → listed ts ≡ terms_list ts
listed_is term.NoTerms = refl
listed_is (term.MoreTerms ts e) = ap (λ es. es ++ e ∷ []) (listed_is ts)

pub paths_more : (ss : Steps) (at : Place) (s : Step) → path_terms (term.MoreSteps ss at s) ≡ path_terms ss ++ step_terms s
paths_more ss at s = flat_map-append (λ (x : Place × Step). step_terms x.1) (steps_list ss) ((at, s) ∷ []) ∙ ap (λ ys. path_terms ss ++ ys) (append-nil (step_terms s))

pub changes_more : (cs : Changes) (path : Steps) (e : Term) → change_terms (term.MoreChanges cs path e) ≡ change_terms cs ++ (path_terms path ++ e ∷ [])
changes_more cs path e =
    flat_map-append (λ (change : Steps × Term). path_terms change.0 ++ change.1 ∷ []) (changes_list cs) ((path, e) ∷ []) ∙ ap (λ ys. change_terms cs ++ ys) (append-nil (path_terms path ++ e ∷ []))

pub body-holds : (P : Term → Type 0) (r : Option Operator) → ((o : Operator) → r ≡ Some o → P o.body) → Each P (body_of r)
body-holds P None h = tt
body-holds P (Some o) h = (h o refl, tt)

module _ (P Q : Term → Type 0) (plain : (e : Term) → Q e → P e) where
  abbrev pub Held : List Part → Type 0
  Held ps = Each (λ (p : Part). Q p.term) ps

  up : (b : Bool) (es : List Term) → Held (parts_of b es) → Each P es
  up b es h = each-weaker Q P plain es (each-unmap (λ (p : Part). Q p.term) (part b) es h)

  up_terms : (b : Bool) (ts : Terms) → Held (parts_of b (listed ts)) → Each P (terms_list ts)
  up_terms b ts h = subst (λ (es : List Term). Each P es) (listed_is ts) (up b (listed ts) h)

  up_step : (b : Bool) (s : Step) → Held (step_parts b s) → Each P (step_terms s)
  up_step b term.Prime h = tt
  up_step b (term.Index ts) h = up_terms b ts h
  up_step b (term.Field n) h = tt

  up_steps : (b : Bool) (ss : Steps) → Held (steps_parts b ss) → Each P (path_terms ss)
  up_steps b term.NoSteps h = tt
  up_steps b (term.MoreSteps ss at s) h =
      let own : Held (step_parts b s) = each-left (λ (p : Part). Q p.term) (step_parts b s) (steps_parts (b || is_prime s) ss) h in
      let before : Held (steps_parts (b || is_prime s) ss) = each-right (λ (p : Part). Q p.term) (step_parts b s) (steps_parts (b || is_prime s) ss) h in
      subst (λ (es : List Term). Each P es) (sym (paths_more ss at s)) (each-append P (path_terms ss) (step_terms s) (up_steps (b || is_prime s) ss before) (up_step b s own))

  up_changes : (b : Bool) (cs : Changes) → Held (change_parts b cs) → Each P (change_terms cs)
  up_changes b term.NoChanges h = tt
  up_changes b (term.MoreChanges cs path e) h =
      let R : Part → Type 0 = λ p. Q p.term in
      let left : Held (change_parts b cs ++ steps_parts b path) = each-left R (change_parts b cs ++ steps_parts b path) (part b e ∷ []) h in
      let last : Held (part b e ∷ []) = each-right R (change_parts b cs ++ steps_parts b path) (part b e ∷ []) h in
      let before : Held (change_parts b cs) = each-left R (change_parts b cs) (steps_parts b path) left in
      let steps : Held (steps_parts b path) = each-right R (change_parts b cs) (steps_parts b path) left in
      subst (λ (es : List Term). Each P es) (sym (changes_more cs path e)) (each-append P (change_terms cs) (path_terms path ++ e ∷ []) (up_changes b cs before) (each-append P (path_terms path) (e ∷ []) (up_steps b path steps) (plain e last.0, tt)))

  up_last : (b : Bool) (es : List Term) (e : Term) → Held (parts_of b es ++ part b e ∷ []) → Each P (es ++ e ∷ [])
  up_last b es e h =
      let R : Part → Type 0 = λ p. Q p.term in
      let left : Held (parts_of b es) = each-left R (parts_of b es) (part b e ∷ []) h in
      let last : Held (part b e ∷ []) = each-right R (parts_of b es) (part b e ∷ []) h in
      each-append P es (e ∷ []) (up b es left) (plain e last.0, tt)

  -- what holds of the parts holds of the terms
  pub terms-hold : (stay : (at : Place) (e : Term) → Q e → P (unchanged_of at e)) (change : (at : Place) (e : Term) → Q e → P (changed_of at e)) (ops : Table) (b : Bool) (at : Place) (m : Meaning) → ((k : ℕ) (ts : Terms) (o : Operator) → m ≡ term.Use k ts → slice_get ops k ≡ Some o → P o.body) → Held (parts b m) → Each P (terms_in ops at m)
  terms-hold stay change ops b at (term.Known v) body h = tt
  terms-hold stay change ops b at (term.Named s) body h = tt
  terms-hold stay change ops b at (term.Variable x) body h = tt
  terms-hold stay change ops b at (term.Slot i) body h = tt
  terms-hold stay change ops b at (term.Use k ts) body h = each-append P (terms_list ts) (body_of (slice_get ops k)) (up_terms b ts h) (body-holds P (slice_get ops k) (λ o q. body k ts o refl q))
  terms-hold stay change ops b at (term.Standard o ts) body h = up_terms b ts h
  terms-hold stay change ops b at (term.Parenthesized e) body h = (plain e h.0, tt)
  terms-hold stay change ops b at (term.Scoped ks e) body h = (plain e h.0, tt)
  terms-hold stay change ops b at (term.All ts) body h = up_terms b ts h
  terms-hold stay change ops b at (term.Any ts) body h = up_terms b ts h
  terms-hold stay change ops b at (term.Prefix o e) body h = (plain e h.0, tt)
  terms-hold stay change ops b at (term.Infix o os e) body h = up_last b (operand_list os) e h
  terms-hold stay change ops b at (term.Postfix e ss s) body h =
      let R : Part → Type 0 = λ p. Q p.term in
      let c : Bool = b || is_prime s in
      let own : Held (step_parts b s) = each-left R (step_parts b s) (steps_parts c ss) h.1 in
      let before : Held (steps_parts c ss) = each-right R (step_parts b s) (steps_parts c ss) h.1 in
      (plain e h.0, each-append P (path_terms ss) (step_terms s) (up_steps c ss before) (up_step b s own))
  terms-hold stay change ops b at (term.SetOf ts) body h = up_terms b ts h
  terms-hold stay change ops b at (term.Filter s e) body h = (plain s h.0, (plain e h.1.0, tt))
  terms-hold stay change ops b at (term.Map e bs) body h = (plain e h.0, up b (set_list bs) h.1)
  terms-hold stay change ops b at (term.Tuple ts) body h = up_terms b ts h
  terms-hold stay change ops b at (term.Function bs e) body h = up_last b (set_list bs) e h
  terms-hold stay change ops b at (term.FunctionSet s e) body h = (plain s h.0, (plain e h.1.0, tt))
  terms-hold stay change ops b at (term.Record fs) body h = up b (value_list fs) h
  terms-hold stay change ops b at (term.RecordSet fs) body h = up b (value_list fs) h
  terms-hold stay change ops b at (term.Except e cs) body h = (plain e h.0, up_changes b cs h.1)
  terms-hold stay change ops b at (term.Quantified q bs e) body h = up_last b (set_list bs) e h
  terms-hold stay change ops b at (term.Choose s e) body h = (plain s h.0, (plain e h.1.0, tt))
  terms-hold stay change ops b at (term.If p e f) body h = (plain p h.0, (plain e h.1.0, (plain f h.1.1.0, tt)))
  terms-hold stay change ops b at (term.Case arms) body h = up b (arm_list arms) h
  terms-hold stay change ops b at (term.CaseOther arms e) body h = up_last b (arm_list arms) e h
  terms-hold stay change ops b at (term.BoxAction e v) body h = (plain e h.0, (stay at v h.1.0, tt))
  terms-hold stay change ops b at (term.AngleAction e v) body h = (plain e h.0, (change at v h.1.0, tt))
  terms-hold stay change ops b at (term.Fairness v e) body h = (plain v h.0, (plain e h.1.0, tt))

module _ (P : Term → Type 0) where
  abbrev pub Holding : List Part → Type 0
  Holding ps = Each (λ (p : Part). P p.term) ps

  down : (b : Bool) (es : List Term) → Each P es → Holding (parts_of b es)
  down b es h = each-map (λ (p : Part). P p.term) (part b) es h

  down_terms : (b : Bool) (ts : Terms) → Each P (terms_list ts) → Holding (parts_of b (listed ts))
  down_terms b ts h = down b (listed ts) (subst (λ (es : List Term). Each P es) (sym (listed_is ts)) h)

  down_step : (b : Bool) (s : Step) → Each P (step_terms s) → Holding (step_parts b s)
  down_step b term.Prime h = tt
  down_step b (term.Index ts) h = down_terms b ts h
  down_step b (term.Field n) h = tt

  down_steps : (b : Bool) (ss : Steps) → Each P (path_terms ss) → Holding (steps_parts b ss)
  down_steps b term.NoSteps h = tt
  down_steps b (term.MoreSteps ss at s) h =
      let all : Each P (path_terms ss ++ step_terms s) = subst (λ (es : List Term). Each P es) (paths_more ss at s) h in
      each-append (λ (p : Part). P p.term) (step_parts b s) (steps_parts (b || is_prime s) ss) (down_step b s (each-right P (path_terms ss) (step_terms s) all)) (down_steps (b || is_prime s) ss (each-left P (path_terms ss) (step_terms s) all))

  down_changes : (b : Bool) (cs : Changes) → Each P (change_terms cs) → Holding (change_parts b cs)
  down_changes b term.NoChanges h = tt
  down_changes b (term.MoreChanges cs path e) h =
      let R : Part → Type 0 = λ p. P p.term in
      let all : Each P (change_terms cs ++ (path_terms path ++ e ∷ [])) = subst (λ (es : List Term). Each P es) (changes_more cs path e) h in
      let before : Each P (change_terms cs) = each-left P (change_terms cs) (path_terms path ++ e ∷ []) all in
      let own : Each P (path_terms path ++ e ∷ []) = each-right P (change_terms cs) (path_terms path ++ e ∷ []) all in
      let last : Each P (e ∷ []) = each-right P (path_terms path) (e ∷ []) own in
      each-append R (change_parts b cs ++ steps_parts b path) (part b e ∷ []) (each-append R (change_parts b cs) (steps_parts b path) (down_changes b cs before) (down_steps b path (each-left P (path_terms path) (e ∷ []) own))) (last.0, tt)

  down_last : (b : Bool) (es : List Term) (e : Term) → Each P (es ++ e ∷ []) → Holding (parts_of b es ++ part b e ∷ [])
  down_last b es e h =
      let last : Each P (e ∷ []) = each-right P es (e ∷ []) h in
      each-append (λ (p : Part). P p.term) (parts_of b es) (part b e ∷ []) (down b es (each-left P es (e ∷ []) h)) (last.0, tt)

  -- what holds of the terms holds of the parts
  pub parts-hold : (unstay : (at : Place) (e : Term) → P (unchanged_of at e) → P e) (unchange : (at : Place) (e : Term) → P (changed_of at e) → P e) (ops : Table) (b : Bool) (at : Place) (m : Meaning) → Each P (terms_in ops at m) → Holding (parts_in ops b m)
  parts-hold unstay unchange ops b at (term.Known v) h = tt
  parts-hold unstay unchange ops b at (term.Named s) h = tt
  parts-hold unstay unchange ops b at (term.Variable x) h = tt
  parts-hold unstay unchange ops b at (term.Slot i) h = tt
  parts-hold unstay unchange ops b at (term.Use k ts) h =
      each-append (λ (p : Part). P p.term) (parts_of b (listed ts)) (map (part b) (body_of (slice_get ops k))) (down_terms b ts (each-left P (terms_list ts) (body_of (slice_get ops k)) h)) (down b (body_of (slice_get ops k)) (each-right P (terms_list ts) (body_of (slice_get ops k)) h))
  parts-hold unstay unchange ops b at (term.Standard o ts) h = down_terms b ts h
  parts-hold unstay unchange ops b at (term.Parenthesized e) h = (h.0, tt)
  parts-hold unstay unchange ops b at (term.Scoped ks e) h = (h.0, tt)
  parts-hold unstay unchange ops b at (term.All ts) h = down_terms b ts h
  parts-hold unstay unchange ops b at (term.Any ts) h = down_terms b ts h
  parts-hold unstay unchange ops b at (term.Prefix o e) h = (h.0, tt)
  parts-hold unstay unchange ops b at (term.Infix o os e) h = down_last b (operand_list os) e h
  parts-hold unstay unchange ops b at (term.Postfix e ss s) h =
      let c : Bool = b || is_prime s in
      (h.0, each-append (λ (p : Part). P p.term) (step_parts b s) (steps_parts c ss) (down_step b s (each-right P (path_terms ss) (step_terms s) h.1)) (down_steps c ss (each-left P (path_terms ss) (step_terms s) h.1)))
  parts-hold unstay unchange ops b at (term.SetOf ts) h = down_terms b ts h
  parts-hold unstay unchange ops b at (term.Filter s e) h = h
  parts-hold unstay unchange ops b at (term.Map e bs) h = (h.0, down b (set_list bs) h.1)
  parts-hold unstay unchange ops b at (term.Tuple ts) h = down_terms b ts h
  parts-hold unstay unchange ops b at (term.Function bs e) h = down_last b (set_list bs) e h
  parts-hold unstay unchange ops b at (term.FunctionSet s e) h = h
  parts-hold unstay unchange ops b at (term.Record fs) h = down b (value_list fs) h
  parts-hold unstay unchange ops b at (term.RecordSet fs) h = down b (value_list fs) h
  parts-hold unstay unchange ops b at (term.Except e cs) h = (h.0, down_changes b cs h.1)
  parts-hold unstay unchange ops b at (term.Quantified q bs e) h = down_last b (set_list bs) e h
  parts-hold unstay unchange ops b at (term.Choose s e) h = h
  parts-hold unstay unchange ops b at (term.If p e f) h = h
  parts-hold unstay unchange ops b at (term.Case arms) h = down b (arm_list arms) h
  parts-hold unstay unchange ops b at (term.CaseOther arms e) h = down_last b (arm_list arms) e h
  parts-hold unstay unchange ops b at (term.BoxAction e v) h = (h.0, (unstay at v h.1.0, tt))
  parts-hold unstay unchange ops b at (term.AngleAction e v) h = (h.0, (unchange at v h.1.0, tt))
  parts-hold unstay unchange ops b at (term.Fairness v e) h = h

-- the arms of a CASE, pair by pair
pub arms-hold : (P : Term → Type 0) (arms : Arms) → Each P (arm_list arms) → Each (λ (c : Term × Term). P c.0 × P c.1) (arms_list arms)
arms-hold P term.NoArms h = tt
arms-hold P (term.MoreArms arms p e) h =
    let last : Each P (p ∷ e ∷ []) = each-right P (arm_list arms) (p ∷ e ∷ []) h in
    each-append (λ (c : Term × Term). P c.0 × P c.1) (arms_list arms) ((p, e) ∷ []) (arms-hold P arms (each-left P (arm_list arms) (p ∷ e ∷ []) h)) ((last.0, last.1.0), tt)
