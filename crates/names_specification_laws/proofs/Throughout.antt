-- What follows from a fact that goes on from a term to its parts holds everywhere in it.
use Rattle.std.proofs.Common.{List, [], ◌∷◌, ◌++◌}
use Rattle.std.specs.Prelude.{◌+◌, ◌||◌, ℕ, suc, Bool, true, false, Contains}
use Rattle.std.proofs.lemmas.List.Elements.{Contains-push, Contains-append_left, Contains-append_right}
use Rattle.base_core.specs.declared.place.Place.{Place}
use Rattle.names_terms.specs.declared.level.Level.{Level}
use Rattle.names_terms.specs.Terms as term
use Rattle.names_terms.specs.Terms.{Term, Placed, Meaning, Terms, width}
use Rattle.names_term_parts.specs.Parts.{Part, part, parts, parts_of, listed, operand_list, set_list, value_list, arm_list, is_prime, primes, has_prime, step_parts, steps_parts, change_parts}
use Rattle.names_term_parts.proofs.Contained.{contains_head, contains_tail}
use Rattle.names_specification_laws.specs.Everywhere.{Everywhere, Inside, InTerms, InOperands, InStep, InSteps, InBounds, InFields, InChanges, InArms}
use Rattle.names_specification_laws.proofs.Shaped.{listed_part}

-- the fact goes on to parts
abbrev pub GoesOn : (Term → Type 0) → Type 0
GoesOn T = (at : Place) (l : Level) (m : Meaning) → T (Placed at l m) → (p : Part) → Contains (parts false m) p → T p.term

module _ (T : Term → Type 0) (Rows : ℕ → Place → Level → Meaning → Type 0) (goes : GoesOn T) (row : (i : ℕ) (at : Place) (l : Level) (m : Meaning) → T (Placed at l m) → Rows i at l m) where
  abbrev AreAll : List Term → Type 0
  AreAll es = (e : Term) → Contains es e → T e

  abbrev PartsAre : List Part → Type 0
  PartsAre ps = (p : Part) → Contains ps p → T p.term

  of_parts : (b : Bool) (es : List Term) → PartsAre (parts_of b es) → AreAll es
  of_parts b es h e c = h (part b e) (listed_part b es e c)

  left : (ps qs : List Part) → PartsAre (ps ++ qs) → PartsAre ps
  left ps qs h p c = h p (Contains-append_left ps qs p c)

  right : (ps qs : List Part) → PartsAre (ps ++ qs) → PartsAre qs
  right ps qs h p c = h p (Contains-append_right ps qs p c)

  head : (b : Bool) (e : Term) (ps : List Part) → PartsAre (part b e ∷ ps) → T e
  head b e ps h = h (part b e) (contains_head (part b e) ps)

  tail : (b : Bool) (e : Term) (ps : List Part) → PartsAre (part b e ∷ ps) → PartsAre ps
  tail b e ps h p c = h p (contains_tail (part b e) ps p c)

  before : (es : List Term) (e : Term) → AreAll (es ++ e ∷ []) → AreAll es
  before es e h x c = h x (Contains-append_left es (e ∷ []) x c)

  last : (es : List Term) (e : Term) → AreAll (es ++ e ∷ []) → T e
  last es e h = h e (Contains-push es e)

  second : (b c : Bool) (x y : Term) (ps : List Part) → PartsAre (part b x ∷ part c y ∷ ps) → T y
  second b c x y ps h = head c y ps (tail b x (part c y ∷ ps) h)

  mutual
    through : (i : ℕ) (e : Term) → T e → Everywhere Rows i e
    through i (Placed at l m) t = (row i at l m t, inside i m (goes at l m t))

    inside : (i : ℕ) (m : Meaning) → PartsAre (parts false m) → Inside Rows i m
    inside i (term.Known v) h = tt
    inside i (term.Named s) h = tt
    inside i (term.Variable x) h = tt
    inside i (term.Slot j) h = tt
    inside i (term.Use k ts) h = in_terms i ts (of_parts false (listed ts) h)
    inside i (term.Standard o ts) h = in_terms i ts (of_parts false (listed ts) h)
    inside i (term.Parenthesized e) h = through i e (head false e [] h)
    inside i (term.Scoped ks e) h = through i e (head false e [] h)
    inside i (term.All ts) h = in_terms i ts (of_parts false (listed ts) h)
    inside i (term.Any ts) h = in_terms i ts (of_parts false (listed ts) h)
    inside i (term.Prefix o e) h = through i e (head (false || primes o) e [] h)
    inside i (term.Infix o os e) h =
        (in_operands i os (of_parts false (operand_list os) (left (parts_of false (operand_list os)) (part false e ∷ []) h)), through i e (head false e [] (right (parts_of false (operand_list os)) (part false e ∷ []) h)))
    inside i (term.Postfix e ss s) h =
        let r : PartsAre (step_parts false s ++ steps_parts (false || is_prime s) ss) = tail ((false || is_prime s) || has_prime ss) e (step_parts false s ++ steps_parts (false || is_prime s) ss) h in (
          through i e (head ((false || is_prime s) || has_prime ss) e (step_parts false s ++ steps_parts (false || is_prime s) ss) h),
          in_steps i (false || is_prime s) ss (right (step_parts false s) (steps_parts (false || is_prime s) ss) r),
          in_step i false s (left (step_parts false s) (steps_parts (false || is_prime s) ss) r),
        )
    inside i (term.SetOf ts) h = in_terms i ts (of_parts false (listed ts) h)
    inside i (term.Filter s e) h = (through i s (head false s (part false e ∷ []) h), through (suc i) e (second false false s e [] h))
    inside i (term.Map e bs) h = (through (i + width bs) e (head false e (parts_of false (set_list bs)) h), in_bounds i bs (of_parts false (set_list bs) (tail false e (parts_of false (set_list bs)) h)))
    inside i (term.Tuple ts) h = in_terms i ts (of_parts false (listed ts) h)
    inside i (term.Function bs e) h =
        (in_bounds i bs (of_parts false (set_list bs) (left (parts_of false (set_list bs)) (part false e ∷ []) h)), through (i + width bs) e (head false e [] (right (parts_of false (set_list bs)) (part false e ∷ []) h)))
    inside i (term.FunctionSet s e) h = (through i s (head false s (part false e ∷ []) h), through i e (second false false s e [] h))
    inside i (term.Record fs) h = in_fields i fs (of_parts false (value_list fs) h)
    inside i (term.RecordSet fs) h = in_fields i fs (of_parts false (value_list fs) h)
    inside i (term.Except e cs) h = (through i e (head false e (change_parts false cs) h), in_changes i false cs (tail false e (change_parts false cs) h))
    inside i (term.Quantified q bs e) h =
        (in_bounds i bs (of_parts false (set_list bs) (left (parts_of false (set_list bs)) (part false e ∷ []) h)), through (i + width bs) e (head false e [] (right (parts_of false (set_list bs)) (part false e ∷ []) h)))
    inside i (term.Choose s e) h = (through i s (head false s (part false e ∷ []) h), through (suc i) e (second false false s e [] h))
    inside i (term.If p e f) h =
        (through i p (head false p (part false e ∷ part false f ∷ []) h), through i e (second false false p e (part false f ∷ []) h), through i f (second false false e f [] (tail false p (part false e ∷ part false f ∷ []) h)))
    inside i (term.Case arms) h = in_arms i arms (of_parts false (arm_list arms) h)
    inside i (term.CaseOther arms e) h =
        (in_arms i arms (of_parts false (arm_list arms) (left (parts_of false (arm_list arms)) (part false e ∷ []) h)), through i e (head false e [] (right (parts_of false (arm_list arms)) (part false e ∷ []) h)))
    inside i (term.BoxAction e v) h = (through i e (head false e (part true v ∷ []) h), through i v (second false true e v [] h))
    inside i (term.AngleAction e v) h = (through i e (head false e (part true v ∷ []) h), through i v (second false true e v [] h))
    inside i (term.Fairness v e) h = (through i v (head false v (part false e ∷ []) h), through i e (second false false v e [] h))

    in_terms : (i : ℕ) (ts : Terms) → AreAll (listed ts) → InTerms Rows i ts
    in_terms i term.NoTerms h = tt
    in_terms i (term.MoreTerms ts e) h = (in_terms i ts (before (listed ts) e h), through i e (last (listed ts) e h))

    in_operands : (i : ℕ) (os : term.Operands) → AreAll (operand_list os) → InOperands Rows i os
    in_operands i (term.First e) h = through i e (last [] e h)
    in_operands i (term.Next os at e) h = (in_operands i os (before (operand_list os) e h), through i e (last (operand_list os) e h))

    in_step : (i : ℕ) (b : Bool) (s : term.Step) → PartsAre (step_parts b s) → InStep Rows i s
    in_step i b term.Prime h = tt
    in_step i b (term.Index ts) h = in_terms i ts (of_parts b (listed ts) h)
    in_step i b (term.Field k) h = tt

    in_steps : (i : ℕ) (b : Bool) (ss : term.Steps) → PartsAre (steps_parts b ss) → InSteps Rows i ss
    in_steps i b term.NoSteps h = tt
    in_steps i b (term.MoreSteps ss at s) h =
        (in_steps i (b || is_prime s) ss (right (step_parts b s) (steps_parts (b || is_prime s) ss) h), in_step i b s (left (step_parts b s) (steps_parts (b || is_prime s) ss) h))

    in_bounds : (i : ℕ) (bs : term.Bounds) → AreAll (set_list bs) → InBounds Rows i bs
    in_bounds i term.NoBounds h = tt
    in_bounds i (term.MoreBounds bs n e) h = (in_bounds i bs (before (set_list bs) e h), through i e (last (set_list bs) e h))

    in_fields : (i : ℕ) (fs : term.Fields) → AreAll (value_list fs) → InFields Rows i fs
    in_fields i term.NoFields h = tt
    in_fields i (term.MoreFields fs n e) h = (in_fields i fs (before (value_list fs) e h), through i e (last (value_list fs) e h))

    in_changes : (i : ℕ) (b : Bool) (cs : term.Changes) → PartsAre (change_parts b cs) → InChanges Rows i cs
    in_changes i b term.NoChanges h = tt
    in_changes i b (term.MoreChanges cs path e) h =
        let r : PartsAre (change_parts b cs ++ steps_parts b path) = left (change_parts b cs ++ steps_parts b path) (part b e ∷ []) h in
        (in_changes i b cs (left (change_parts b cs) (steps_parts b path) r), in_steps i b path (right (change_parts b cs) (steps_parts b path) r), through (suc i) e (head b e [] (right (change_parts b cs ++ steps_parts b path) (part b e ∷ []) h)))

    in_arms : (i : ℕ) (arms : term.Arms) → AreAll (arm_list arms) → InArms Rows i arms
    in_arms i term.NoArms h = tt
    in_arms i (term.MoreArms arms p e) h =
        (in_arms i arms (λ x c. h x (Contains-append_left (arm_list arms) (p ∷ e ∷ []) x c)), through i p (h p (Contains-append_right (arm_list arms) (p ∷ e ∷ []) p (contains_head p (e ∷ [])))), through i e (h e (Contains-append_right (arm_list arms) (p ∷ e ∷ []) e (contains_tail p (e ∷ []) e (contains_head e [])))))

  pub throughout : (i : ℕ) (e : Term) → T e → Everywhere Rows i e
  throughout i e t = through i e t
