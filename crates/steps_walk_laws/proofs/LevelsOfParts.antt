-- The levels of the parts of a term in order are at most that of the term, and where that is below an action, nothing in it stands under a prime.
use Rattle.std.proofs.Common.{◌≡◌, ◌∙◌, sym, refl, subst, ap, List, [], ◌∷◌, ◌++◌}
use Rattle.std.specs.Prelude.{◌||◌, ℕ, Bool, true, false, map, Option, Some, None, slice_get}
use Rattle.base_core.specs.declared.place.Place.{Place}
use Rattle.reading_trees.specs.declared.operators.PrefixOperator.{PrefixOperator}
use Rattle.reading_trees.specs.declared.operators.PrefixOperator.TheVariants as prefix
use Rattle.reading_trees.specs.declared.operators.InfixOperator.{InfixOperator}
use Rattle.reading_trees.specs.declared.operators.InfixOperator.TheVariants as infix_operator
use Rattle.names_terms.specs.declared.level.Level.{Level}
use Rattle.names_terms.specs.declared.level.Level.TheVariants as levels
use Rattle.names_terms.specs.declared.operator.Operator.{Operator}
use Rattle.names_terms.specs.Levels.{joined, level_for, of_terms, of_operands, of_step, of_steps, of_bounds, of_fields, of_path, of_changes, of_arms, of_operator, of_prefix, of_infix}
use Rattle.names_terms.specs.Terms as term
use Rattle.names_terms.specs.Terms.{Term, Placed, Meaning, Terms, Operands, Step, Steps, Bounds, Fields, Changes, Arms, level_of}
use Rattle.names_term_parts.specs.Limits.{Limit, limit, limits, is_above, prefix_allows, step_limits, steps_limits}
use Rattle.names_term_parts.specs.Parts.{part, parts, parts_of, listed, operand_list, set_list, value_list, arm_list, is_prime, has_prime, step_parts, steps_parts, change_parts, primes}
use Rattle.eval_meanings.specs.Contexts.{Table}
use Rattle.actions_meanings.specs.Reads.{parts_in, body_of}
use Rattle.names_specification_laws.specs.IsSpec.{HasParts, AreKeys, ArePaths}
use Rattle.steps_walk_laws.proofs.PartLists.{OfPart, PartsAre, both, pushed, or_none}
use Rattle.steps_walk_laws.proofs.Rows.{AreKept, Row, Bodies}

-- levels

state_below : (l : Level) → is_above levels.Action l ≡ false → is_above levels.State l ≡ false
state_below levels.Constant h = h
state_below levels.State h = refl
state_below levels.Action h = refl
state_below levels.Temporal h = refl

below_temporal : (a l : Level) → is_above levels.Temporal l ≡ false → is_above a l ≡ false
below_temporal a levels.Constant h = absurd (cc)
below_temporal a levels.State h = absurd (cc)
below_temporal a levels.Action h = absurd (cc)
below_temporal levels.Constant levels.Temporal h = refl
below_temporal levels.State levels.Temporal h = refl
below_temporal levels.Action levels.Temporal h = refl
below_temporal levels.Temporal levels.Temporal h = refl

pub below_action : (a l : Level) → is_above a levels.State ≡ false → is_above levels.Action l ≡ false → is_above a l ≡ false
below_action levels.Constant l h k = refl
below_action levels.State l h k = state_below l k
below_action levels.Action l h k = absurd (cc)
below_action levels.Temporal l h k = absurd (cc)

at_most_action : (a l : Level) → is_above a levels.Action ≡ false → is_above levels.Action l ≡ false → is_above a l ≡ false
at_most_action levels.Constant l h k = refl
at_most_action levels.State l h k = state_below l k
at_most_action levels.Action l h k = k
at_most_action levels.Temporal l h k = absurd (cc)

pub joined_left : (a c l : Level) → is_above (joined a c) l ≡ false → is_above a l ≡ false
joined_left levels.Constant c l h = refl
joined_left levels.State levels.Constant l h = h
joined_left levels.State levels.State l h = h
joined_left levels.State levels.Action l h = state_below l h
joined_left levels.State levels.Temporal l h = below_temporal levels.State l h
joined_left levels.Action levels.Constant l h = h
joined_left levels.Action levels.State l h = h
joined_left levels.Action levels.Action l h = h
joined_left levels.Action levels.Temporal l h = below_temporal levels.Action l h
joined_left levels.Temporal c l h = h

pub joined_right : (a c l : Level) → is_above (joined a c) l ≡ false → is_above c l ≡ false
joined_right levels.Constant c l h = h
joined_right levels.State levels.Constant l h = refl
joined_right levels.State levels.State l h = h
joined_right levels.State levels.Action l h = h
joined_right levels.State levels.Temporal l h = h
joined_right levels.Action levels.Constant l h = refl
joined_right levels.Action levels.State l h = state_below l h
joined_right levels.Action levels.Action l h = h
joined_right levels.Action levels.Temporal l h = h
joined_right levels.Temporal c l h = below_temporal c l h

kept_left : (xs ys : List Limit) → AreKept (xs ++ ys) → AreKept xs
kept_left [] ys h = tt
kept_left (x ∷ xs) ys h = (h.0, kept_left xs ys h.1)

kept_right : (xs ys : List Limit) → AreKept (xs ++ ys) → AreKept ys
kept_right [] ys h = h
kept_right (x ∷ xs) ys h = kept_right xs ys h.1

or_false : (a c : Bool) → a ≡ false → c ≡ false → (a || c) ≡ false
or_false true c h k = absurd (cc)
or_false false c h k = k

or_same : (p c b : Bool) → p ≡ b → c ≡ false → (p || c) ≡ b
or_same p c b h k = ap (λ (x : Bool). p || x) k ∙ sym (or_none p) ∙ h

module _ (L : Level) (b : Bool) where
  -- where an action is above the level, the part stands under a prime only if all does
  abbrev Same : Bool → Type 0
  Same p = is_above levels.Action L ≡ true → p ≡ b

  abbrev pub Low : OfPart
  Low p e = (is_above (level_of e) L ≡ false) × Same p

  same : Same b
  same q = refl

  terms_low : (p : Bool) → Same p → (ts : Terms) → is_above (of_terms ts) L ≡ false → PartsAre Low (parts_of p (listed ts))
  terms_low p s term.NoTerms h = tt
  terms_low p s (term.MoreTerms ts e) h =
      pushed Low p (listed ts) e (terms_low p s ts (joined_left (of_terms ts) (level_of e) L h)) (joined_right (of_terms ts) (level_of e) L h, s)

  operands_low : (os : Operands) → is_above (of_operands os) L ≡ false → PartsAre Low (parts_of b (operand_list os))
  operands_low (term.First e) h = ((h, same), tt)
  operands_low (term.Next os at e) h =
      pushed Low b (operand_list os) e (operands_low os (joined_left (of_operands os) (level_of e) L h)) (joined_right (of_operands os) (level_of e) L h, same)

  sets_low : (bs : Bounds) → is_above (of_bounds bs) L ≡ false → PartsAre Low (parts_of b (set_list bs))
  sets_low term.NoBounds h = tt
  sets_low (term.MoreBounds bs n e) h = pushed Low b (set_list bs) e (sets_low bs (joined_left (of_bounds bs) (level_of e) L h)) (joined_right (of_bounds bs) (level_of e) L h, same)

  values_low : (fs : Fields) → is_above (of_fields fs) L ≡ false → PartsAre Low (parts_of b (value_list fs))
  values_low term.NoFields h = tt
  values_low (term.MoreFields fs n e) h = pushed Low b (value_list fs) e (values_low fs (joined_left (of_fields fs) (level_of e) L h)) (joined_right (of_fields fs) (level_of e) L h, same)

  two_pushed : (es : List Term) (x y : Term) → PartsAre Low (parts_of b es) → Low b x → Low b y → PartsAre Low (parts_of b (es ++ x ∷ y ∷ []))
  two_pushed [] x y h k w = (k, (w, tt))
  two_pushed (e ∷ es) x y h k w = (h.0, two_pushed es x y h.1 k w)

  arms_low : (arms : Arms) → is_above (of_arms arms) L ≡ false → PartsAre Low (parts_of b (arm_list arms))
  arms_low term.NoArms h = tt
  arms_low (term.MoreArms arms p e) h =
      let own : is_above (joined (level_of p) (level_of e)) L ≡ false = joined_right (of_arms arms) (joined (level_of p) (level_of e)) L h in
      two_pushed (arm_list arms) p e (arms_low arms (joined_left (of_arms arms) (joined (level_of p) (level_of e)) L h))
      (joined_left (level_of p) (level_of e) L own, same) (joined_right (level_of p) (level_of e) L own, same)

  -- steps

  same_behind : (p : Bool) → Same p → (l : Level) (s : Step) → is_above (of_step l s) L ≡ false → Same (p || is_prime s)
  same_behind p s l term.Prime h = λ q. absurd (cc)
  same_behind p s l (term.Index ts) h = λ q. or_same p false b (s q) refl
  same_behind p s l (term.Field f) h = λ q. or_same p false b (s q) refl

  no_prime : (l : Level) (s : Step) → is_above (of_step l s) L ≡ false → is_above levels.Action L ≡ true → is_prime s ≡ false
  no_prime l term.Prime h q = absurd (cc)
  no_prime l (term.Index ts) h q = refl
  no_prime l (term.Field f) h q = refl

  step_low : (p : Bool) → Same p → (at : Place) (l : Level) (s : Step) → AreKept (step_limits at l s) → is_above (of_step l s) L ≡ false → (is_above l L ≡ false) × PartsAre Low (step_parts p s)
  step_low p s at l term.Prime k h = (below_action l L k.0 h, tt)
  step_low p s at l (term.Index ts) k h = (joined_left l (of_terms ts) L h, terms_low p s ts (joined_right l (of_terms ts) L h))
  step_low p s at l (term.Field f) k h = (h, tt)

  steps_low : (p : Bool) → Same p → (l : Level) (ss : Steps) → AreKept (steps_limits l ss) → is_above (of_steps l ss) L ≡ false
      → (is_above l L ≡ false) × PartsAre Low (steps_parts p ss) × (is_above levels.Action L ≡ true → has_prime ss ≡ false)
  steps_low p s l term.NoSteps k h = (h, tt, λ q. refl)
  steps_low p s l (term.MoreSteps ss at step) k h =
      let one : (is_above (of_steps l ss) L ≡ false) × PartsAre Low (step_parts p step) =
      step_low p s at (of_steps l ss) step (kept_right (steps_limits l ss) (step_limits at (of_steps l ss) step) k) h in
      let rest : (is_above l L ≡ false) × PartsAre Low (steps_parts (p || is_prime step) ss) × (is_above levels.Action L ≡ true → has_prime ss ≡ false) =
      steps_low (p || is_prime step) (same_behind p s (of_steps l ss) step h) l ss (kept_left (steps_limits l ss) (step_limits at (of_steps l ss) step) k) one.0 in
      (rest.0, both Low (step_parts p step) (steps_parts (p || is_prime step) ss) one.1 rest.1, λ q. or_false (has_prime ss) (is_prime step) (rest.2 q) (no_prime (of_steps l ss) step h q))

  path_low : (p : Bool) → Same p → (l : Level) (ss : Steps) → AreKeys ss → is_above (of_steps l ss) L ≡ false → PartsAre Low (steps_parts p ss)
  path_low p s l term.NoSteps k h = tt
  path_low p s l (term.MoreSteps ss at term.Prime) k h = absurd (k.1)
  path_low p s l (term.MoreSteps ss at (term.Index ts)) k h =
      both Low (parts_of p (listed ts)) (steps_parts (p || false) ss) (terms_low p s ts (joined_right (of_steps l ss) (of_terms ts) L h))
      (path_low (p || false) (λ q. or_same p false b (s q) refl) l ss k.0 (joined_left (of_steps l ss) (of_terms ts) L h))
  path_low p s l (term.MoreSteps ss at (term.Field f)) k h = path_low (p || false) (λ q. or_same p false b (s q) refl) l ss k.0 h

  changes_low : (cs : Changes) → ArePaths cs → is_above (of_changes cs) L ≡ false → PartsAre Low (change_parts b cs)
  changes_low term.NoChanges a h = tt
  changes_low (term.MoreChanges cs path e) a h =
      let own : is_above (joined (of_path path) (level_of e)) L ≡ false = joined_right (of_changes cs) (joined (of_path path) (level_of e)) L h in
      both Low (change_parts b cs ++ steps_parts b path) (part b e ∷ [])
      (both Low (change_parts b cs) (steps_parts b path) (changes_low cs a.0 (joined_left (of_changes cs) (joined (of_path path) (level_of e)) L h))
      (path_low b same levels.Constant path a.3 (joined_left (of_path path) (level_of e) L own)))
      ((joined_right (of_path path) (level_of e) L own, same), tt)

  -- rows

  prefix_low : (at : Place) (o : PrefixOperator) (e : Term) → AreKept (limit at (prefix_allows o) (level_of e) ∷ []) → is_above (of_prefix o (level_of e)) L ≡ false → Low (b || primes o) e
  prefix_low at prefix.Unchanged e k h = (below_action (level_of e) L k.0 h, λ q. absurd (cc))
  prefix_low at prefix.Enabled e k h = (below_temporal (level_of e) L h, λ q. sym (or_none b))
  prefix_low at prefix.Always e k h = (below_temporal (level_of e) L h, λ q. sym (or_none b))
  prefix_low at prefix.Eventually e k h = (below_temporal (level_of e) L h, λ q. sym (or_none b))
  prefix_low at o e k h = (h, λ q. sym (or_none b))

  pub infix_low : (o : InfixOperator) (l : Level) → is_above (of_infix o l) L ≡ false → is_above l L ≡ false
  infix_low infix_operator.LeadsTo l h = below_temporal l L h
  infix_low o l h = h

  two_low : (c d : Term) → is_above (joined (level_of c) (level_of d)) L ≡ false → PartsAre Low (part b c ∷ part b d ∷ [])
  two_low c d h = ((joined_left (level_of c) (level_of d) L h, same), ((joined_right (level_of c) (level_of d) L h, same), tt))

  sets_and : (bs : Bounds) (e : Term) → is_above (joined (of_bounds bs) (level_of e)) L ≡ false → PartsAre Low (parts_of b (set_list bs) ++ part b e ∷ [])
  sets_and bs e h =
      both Low (parts_of b (set_list bs)) (part b e ∷ []) (sets_low bs (joined_left (of_bounds bs) (level_of e) L h)) ((joined_right (of_bounds bs) (level_of e) L h, same), tt)

  subscripted_low : (at : Place) (e v : Term) → AreKept (limit at levels.Action (level_of e) ∷ limit at levels.State (level_of v) ∷ []) → is_above levels.Action L ≡ false → PartsAre Low (part b e ∷ part true v ∷ [])
  subscripted_low at e v k h = ((at_most_action (level_of e) L k.0 h, same), ((below_action (level_of v) L k.1.0 h, λ q. absurd (cc)), tt))

  pub row_low : (ops : Table) (at : Place) (m : Meaning) → HasParts m → AreKept (limits at m) → is_above (level_for ops m) L ≡ false → PartsAre Low (parts b m)
  row_low ops at (term.Known v) p k h = tt
  row_low ops at (term.Named s) p k h = tt
  row_low ops at (term.Variable x) p k h = tt
  row_low ops at (term.Slot i) p k h = tt
  row_low ops at (term.Use j ts) p k h = terms_low b same ts (joined_right (of_operator (slice_get ops j)) (of_terms ts) L h)
  row_low ops at (term.Standard o ts) p k h = terms_low b same ts h
  row_low ops at (term.Parenthesized e) p k h = ((h, same), tt)
  row_low ops at (term.Scoped ks e) p k h = ((h, same), tt)
  row_low ops at (term.All ts) p k h = terms_low b same ts h
  row_low ops at (term.Any ts) p k h = terms_low b same ts h
  row_low ops at (term.Prefix o e) p k h = (prefix_low at o e k h, tt)
  row_low ops at (term.Infix o os e) p k h =
      let j : is_above (joined (of_operands os) (level_of e)) L ≡ false = infix_low o (joined (of_operands os) (level_of e)) h in
      both Low (parts_of b (operand_list os)) (part b e ∷ []) (operands_low os (joined_left (of_operands os) (level_of e) L j)) ((joined_right (of_operands os) (level_of e) L j, same), tt)
  row_low ops at (term.Postfix e ss s) p k h =
      let whole : (is_above (level_of e) L ≡ false) × PartsAre Low (steps_parts b (term.MoreSteps ss at s)) × (is_above levels.Action L ≡ true → has_prime (term.MoreSteps ss at s) ≡ false) =
      steps_low b same (level_of e) (term.MoreSteps ss at s) k h in
      let flag : Same ((b || is_prime s) || has_prime ss) = λ q. or_same (b || is_prime s) (has_prime ss) b (or_same b (is_prime s) b refl (no_prime (of_steps (level_of e) ss) s h q)) (none_before ss s (whole.2 q)) in
      ((whole.0, flag), whole.1)
    where
      none_before : (ss : Steps) (s : Step) → (has_prime ss || is_prime s) ≡ false → has_prime ss ≡ false
      none_before ss s q = first_false (has_prime ss) (is_prime s) q
        where
          first_false : (x y : Bool) → (x || y) ≡ false → x ≡ false
          first_false true y r = r
          first_false false y r = refl
  row_low ops at (term.SetOf ts) p k h = terms_low b same ts h
  row_low ops at (term.Filter s e) p k h = two_low s e h
  row_low ops at (term.Map e bs) p k h =
      ((joined_left (level_of e) (of_bounds bs) L h, same), sets_low bs (joined_right (level_of e) (of_bounds bs) L h))
  row_low ops at (term.Tuple ts) p k h = terms_low b same ts h
  row_low ops at (term.Function bs e) p k h = sets_and bs e h
  row_low ops at (term.FunctionSet s e) p k h = two_low s e h
  row_low ops at (term.Record fs) p k h = values_low fs h
  row_low ops at (term.RecordSet fs) p k h = values_low fs h
  row_low ops at (term.Except e cs) p k h =
      ((joined_left (level_of e) (of_changes cs) L h, same), changes_low cs p.1 (joined_right (level_of e) (of_changes cs) L h))
  row_low ops at (term.Quantified q bs e) p k h = sets_and bs e h
  row_low ops at (term.Choose s e) p k h = two_low s e h
  row_low ops at (term.If q e f) p k h =
      ((joined_left (level_of q) (joined (level_of e) (level_of f)) L h, same), two_low e f (joined_right (level_of q) (joined (level_of e) (level_of f)) L h))
  row_low ops at (term.Case arms) p k h = arms_low arms h
  row_low ops at (term.CaseOther arms e) p k h =
      both Low (parts_of b (arm_list arms)) (part b e ∷ []) (arms_low arms (joined_left (of_arms arms) (level_of e) L h)) ((joined_right (of_arms arms) (level_of e) L h, same), tt)
  row_low ops at (term.BoxAction e v) p k h = subscripted_low at e v k h
  row_low ops at (term.AngleAction e v) p k h = subscripted_low at e v k h
  row_low ops at (term.Fairness v e) p k h = ((below_temporal (level_of v) L h, same), ((below_temporal (level_of e) L h, same), tt))

  -- with the body of a definition that is used

  body_low : (r : Option Operator) → ((o : Operator) → r ≡ Some o → o.level ≡ level_of o.body) → is_above (of_operator r) L ≡ false → PartsAre Low (map (part b) (body_of r))
  body_low None f h = tt
  body_low (Some o) f h = ((subst (λ (l : Level). is_above l L ≡ false) (f o refl) h, same), tt)

  pub low_parts : (variables : ℕ) (ops : Table) (Q : ℕ → Type 0) → Bodies variables ops Q → (n : ℕ) (at : Place) (l : Level) (m : Meaning) → Row variables ops Q n at l m → is_above l L ≡ false → PartsAre Low (parts_in ops b m)
  low_parts variables ops Q bodies n at l (term.Use j ts) row h =
      let k : is_above (joined (of_operator (slice_get ops j)) (of_terms ts)) L ≡ false = subst (λ (x : Level). is_above x L ≡ false) (row.0.2) h in
      both Low (parts_of b (listed ts)) (map (part b) (body_of (slice_get ops j))) (terms_low b same ts (joined_right (of_operator (slice_get ops j)) (of_terms ts) L k))
      (body_low (slice_get ops j) (λ o e. (bodies j o row.1.1 e).1) (joined_left (of_operator (slice_get ops j)) (of_terms ts) L k))
  low_parts variables ops Q bodies n at l m row h = row_low ops at m row.0.1 row.1.0 (subst (λ (x : Level). is_above x L ≡ false) (row.0.2) h)
