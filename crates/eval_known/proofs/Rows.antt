-- What holds of the meaning of a term, and of all of each part, holds everywhere in it.
use Rattle.std.proofs.Common.{List, [], ◌∷◌, ◌++◌}
use Rattle.std.specs.Prelude.{◌||◌, Bool}
use Rattle.std.specs.List.{AllByRecursion as Each}
use Rattle.names_terms.specs.Terms as term
use Rattle.names_terms.specs.Terms.{Term, Terms, Operands, Step, Steps, Bounds, Fields, Changes, Arms, Meaning}
use Rattle.names_term_parts.specs.Parts.{Part, part, parts_of, listed, operand_list, set_list, value_list, arm_list, is_prime, has_prime, step_parts, steps_parts, change_parts, parts}
use Rattle.eval_meanings.specs.Everywhere.{Everywhere, InParts, InTerms, InOperands, InStep, InSteps, InBounds, InFields, InChanges, InArms}

pub left : {A : Type 0} (P : A → Type 0) (xs ys : List A) → Each P (xs ++ ys) → Each P xs
left P [] ys h = tt
left P (x ∷ xs) ys h = (h.0, left P xs ys h.1)

pub right : {A : Type 0} (P : A → Type 0) (xs ys : List A) → Each P (xs ++ ys) → Each P ys
right P [] ys h = h
right P (x ∷ xs) ys h = right P xs ys h.1

pub both : {A : Type 0} (P : A → Type 0) (xs ys : List A) → Each P xs → Each P ys → Each P (xs ++ ys)
both P [] ys h k = k
both P (x ∷ xs) ys h k = (h.0, both P xs ys h.1 k)

module _ (P : Meaning → Type 0) where
  abbrev pub InPart : Part → Type 0
  InPart p = Everywhere P p.term

  split : (b : Bool) (xs ys : List Term) → Each InPart (parts_of b (xs ++ ys)) → Each InPart (parts_of b xs) × Each InPart (parts_of b ys)
  split b [] ys h = (tt, h)
  split b (x ∷ xs) ys h = let k : Each InPart (parts_of b xs) × Each InPart (parts_of b ys) = split b xs ys h.1 in ((h.0, k.0), k.1)

  in_terms : (b : Bool) (ts : Terms) → Each InPart (parts_of b (listed ts)) → InTerms P ts
  in_terms b term.NoTerms h = tt
  in_terms b (term.MoreTerms ts e) h = let k : Each InPart (parts_of b (listed ts)) × Each InPart (parts_of b (e ∷ [])) = split b (listed ts) (e ∷ []) h in (in_terms b ts k.0, k.1.0)

  in_operands : (b : Bool) (os : Operands) → Each InPart (parts_of b (operand_list os)) → InOperands P os
  in_operands b (term.First e) h = h.0
  in_operands b (term.Next os at e) h =
      let k : Each InPart (parts_of b (operand_list os)) × Each InPart (parts_of b (e ∷ [])) = split b (operand_list os) (e ∷ []) h in (in_operands b os k.0, k.1.0)

  in_step : (b : Bool) (s : Step) → Each InPart (step_parts b s) → InStep P s
  in_step b term.Prime h = tt
  in_step b (term.Index ts) h = in_terms b ts h
  in_step b (term.Field n) h = tt

  in_steps : (b : Bool) (ss : Steps) → Each InPart (steps_parts b ss) → InSteps P ss
  in_steps b term.NoSteps h = tt
  in_steps b (term.MoreSteps ss at s) h =
      (in_steps (b || is_prime s) ss (right InPart (step_parts b s) (steps_parts (b || is_prime s) ss) h), in_step b s (left InPart (step_parts b s) (steps_parts (b || is_prime s) ss) h))

  in_bounds : (b : Bool) (bs : Bounds) → Each InPart (parts_of b (set_list bs)) → InBounds P bs
  in_bounds b term.NoBounds h = tt
  in_bounds b (term.MoreBounds bs n e) h = let k : Each InPart (parts_of b (set_list bs)) × Each InPart (parts_of b (e ∷ [])) = split b (set_list bs) (e ∷ []) h in (in_bounds b bs k.0, k.1.0)

  in_fields : (b : Bool) (fs : Fields) → Each InPart (parts_of b (value_list fs)) → InFields P fs
  in_fields b term.NoFields h = tt
  in_fields b (term.MoreFields fs n e) h =
      let k : Each InPart (parts_of b (value_list fs)) × Each InPart (parts_of b (e ∷ [])) = split b (value_list fs) (e ∷ []) h in (in_fields b fs k.0, k.1.0)

  in_arms : (b : Bool) (arms : Arms) → Each InPart (parts_of b (arm_list arms)) → InArms P arms
  in_arms b term.NoArms h = tt
  in_arms b (term.MoreArms arms p e) h =
      let k : Each InPart (parts_of b (arm_list arms)) × Each InPart (parts_of b (p ∷ e ∷ [])) = split b (arm_list arms) (p ∷ e ∷ []) h in (in_arms b arms k.0, k.1.0, k.1.1.0)

  in_changes : (b : Bool) (cs : Changes) → Each InPart (change_parts b cs) → InChanges P cs
  in_changes b term.NoChanges h = tt
  in_changes b (term.MoreChanges cs path e) h =
      let before : List Part = change_parts b cs ++ steps_parts b path in
      let l : Each InPart before = left InPart before (part b e ∷ []) h in
      let r : Each InPart (part b e ∷ []) = right InPart before (part b e ∷ []) h in
      (in_changes b cs (left InPart (change_parts b cs) (steps_parts b path) l), in_steps b path (right InPart (change_parts b cs) (steps_parts b path) l), r.0)

  pub in_parts : (b : Bool) (m : Meaning) → Each InPart (parts b m) → InParts P m
  in_parts b (term.Known v) h = tt
  in_parts b (term.Named s) h = tt
  in_parts b (term.Variable x) h = tt
  in_parts b (term.Slot i) h = tt
  in_parts b (term.Use k ts) h = in_terms b ts h
  in_parts b (term.Standard o ts) h = in_terms b ts h
  in_parts b (term.Parenthesized e) h = h.0
  in_parts b (term.Scoped ks e) h = h.0
  in_parts b (term.All ts) h = in_terms b ts h
  in_parts b (term.Any ts) h = in_terms b ts h
  in_parts b (term.Prefix o e) h = h.0
  in_parts b (term.Infix o os e) h =
      let l : Each InPart (parts_of b (operand_list os)) = left InPart (parts_of b (operand_list os)) (part b e ∷ []) h in
      let r : Each InPart (part b e ∷ []) = right InPart (parts_of b (operand_list os)) (part b e ∷ []) h in
      (in_operands b os l, r.0)
  in_parts b (term.Postfix e ss s) h =
      let c : Bool = b || is_prime s in
      let first : List Part = part (c || has_prime ss) e ∷ [] ++ step_parts b s in
      let l : Each InPart first = left InPart first (steps_parts c ss) h in
      (l.0, in_steps c ss (right InPart first (steps_parts c ss) h), in_step b s l.1)
  in_parts b (term.SetOf ts) h = in_terms b ts h
  in_parts b (term.Filter s e) h = (h.0, h.1.0)
  in_parts b (term.Map e bs) h = (h.0, in_bounds b bs h.1)
  in_parts b (term.Tuple ts) h = in_terms b ts h
  in_parts b (term.Function bs e) h =
      let r : Each InPart (part b e ∷ []) = right InPart (parts_of b (set_list bs)) (part b e ∷ []) h in
      (in_bounds b bs (left InPart (parts_of b (set_list bs)) (part b e ∷ []) h), r.0)
  in_parts b (term.FunctionSet s e) h = (h.0, h.1.0)
  in_parts b (term.Record fs) h = in_fields b fs h
  in_parts b (term.RecordSet fs) h = in_fields b fs h
  in_parts b (term.Except e cs) h = (h.0, in_changes b cs h.1)
  in_parts b (term.Quantified q bs e) h =
      let r : Each InPart (part b e ∷ []) = right InPart (parts_of b (set_list bs)) (part b e ∷ []) h in
      (in_bounds b bs (left InPart (parts_of b (set_list bs)) (part b e ∷ []) h), r.0)
  in_parts b (term.Choose s e) h = (h.0, h.1.0)
  in_parts b (term.If p e f) h = (h.0, h.1.0, h.1.1.0)
  in_parts b (term.Case arms) h = in_arms b arms h
  in_parts b (term.CaseOther arms e) h =
      let r : Each InPart (part b e ∷ []) = right InPart (parts_of b (arm_list arms)) (part b e ∷ []) h in
      (in_arms b arms (left InPart (parts_of b (arm_list arms)) (part b e ∷ []) h), r.0)
  in_parts b (term.BoxAction e v) h = (h.0, h.1.0)
  in_parts b (term.AngleAction e v) h = (h.0, h.1.0)
  in_parts b (term.Fairness v e) h = (h.0, h.1.0)
