-- What holds everywhere in a term holds everywhere in each of its parts, and in the body of a definition that it uses.
use Rattle.std.proofs.Common.{refl, List, [], ◌∷◌, ◌++◌}
use Rattle.std.specs.Prelude.{◌≡◌, ◌+◌, ◌||◌, ℕ, suc, Bool, map, Option, Some, None, slice_get}
use Rattle.base_core.specs.declared.place.Place.{Place}
use Rattle.names_terms.specs.declared.level.Level.{Level}
use Rattle.names_terms.specs.declared.operator.Operator.{Operator}
use Rattle.names_terms.specs.Terms as term
use Rattle.names_terms.specs.Terms.{Term, Placed, Meaning, Terms, width}
use Rattle.names_term_parts.specs.Parts.{part, parts, parts_of, listed, operand_list, set_list, value_list, arm_list, is_prime, step_parts, steps_parts, change_parts}
use Rattle.eval_meanings.specs.Contexts.{Table}
use Rattle.actions_meanings.specs.Reads.{parts_in, body_of}
use Rattle.names_specification_laws.specs.Everywhere.{Everywhere, Inside, InTerms, InOperands, InStep, InSteps, InBounds, InFields, InChanges, InArms}
use Rattle.steps_walk_laws.proofs.PartLists.{OfPart, PartsAre, both, pushed}
use Rattle.steps_walk_laws.proofs.Rows.{Row, Bodies}

module _ (P : ℕ → Place → Level → Meaning → Type 0) where
  abbrev pub Holds : OfPart
  Holds p e = (i : ℕ) × Everywhere P i e

  two_pushed : (b : Bool) (es : List Term) (x y : Term) → PartsAre Holds (parts_of b es) → Holds b x → Holds b y → PartsAre Holds (parts_of b (es ++ x ∷ y ∷ []))
  two_pushed b [] x y h k w = (k, (w, tt))
  two_pushed b (e ∷ es) x y h k w = (h.0, two_pushed b es x y h.1 k w)

  terms_hold : (b : Bool) (i : ℕ) (ts : Terms) → InTerms P i ts → PartsAre Holds (parts_of b (listed ts))
  terms_hold b i term.NoTerms h = tt
  terms_hold b i (term.MoreTerms ts e) h = pushed Holds b (listed ts) e (terms_hold b i ts h.0) (i, h.1)

  operands_hold : (b : Bool) (i : ℕ) (os : term.Operands) → InOperands P i os → PartsAre Holds (parts_of b (operand_list os))
  operands_hold b i (term.First e) h = ((i, h), tt)
  operands_hold b i (term.Next os at e) h = pushed Holds b (operand_list os) e (operands_hold b i os h.0) (i, h.1)

  sets_hold : (b : Bool) (i : ℕ) (bs : term.Bounds) → InBounds P i bs → PartsAre Holds (parts_of b (set_list bs))
  sets_hold b i term.NoBounds h = tt
  sets_hold b i (term.MoreBounds bs n e) h = pushed Holds b (set_list bs) e (sets_hold b i bs h.0) (i, h.1)

  values_hold : (b : Bool) (i : ℕ) (fs : term.Fields) → InFields P i fs → PartsAre Holds (parts_of b (value_list fs))
  values_hold b i term.NoFields h = tt
  values_hold b i (term.MoreFields fs n e) h = pushed Holds b (value_list fs) e (values_hold b i fs h.0) (i, h.1)

  arms_hold : (b : Bool) (i : ℕ) (arms : term.Arms) → InArms P i arms → PartsAre Holds (parts_of b (arm_list arms))
  arms_hold b i term.NoArms h = tt
  arms_hold b i (term.MoreArms arms p e) h = two_pushed b (arm_list arms) p e (arms_hold b i arms h.0) (i, h.1) (i, h.2)

  step_holds : (b : Bool) (i : ℕ) (s : term.Step) → InStep P i s → PartsAre Holds (step_parts b s)
  step_holds b i term.Prime h = tt
  step_holds b i (term.Index ts) h = terms_hold b i ts h
  step_holds b i (term.Field k) h = tt

  steps_hold : (b : Bool) (i : ℕ) (ss : term.Steps) → InSteps P i ss → PartsAre Holds (steps_parts b ss)
  steps_hold b i term.NoSteps h = tt
  steps_hold b i (term.MoreSteps ss at s) h = both Holds (step_parts b s) (steps_parts (b || is_prime s) ss) (step_holds b i s h.1) (steps_hold (b || is_prime s) i ss h.0)

  changes_hold : (b : Bool) (i : ℕ) (cs : term.Changes) → InChanges P i cs → PartsAre Holds (change_parts b cs)
  changes_hold b i term.NoChanges h = tt
  changes_hold b i (term.MoreChanges cs path e) h =
      both Holds (change_parts b cs ++ steps_parts b path) (part b e ∷ []) (both Holds (change_parts b cs) (steps_parts b path) (changes_hold b i cs h.0) (steps_hold b i path h.1)) ((suc i, h.2), tt)

  sets_and : (b : Bool) (i : ℕ) (bs : term.Bounds) (e : Term) → InBounds P i bs → Everywhere P (i + width bs) e → PartsAre Holds (parts_of b (set_list bs) ++ part b e ∷ [])
  sets_and b i bs e h k = both Holds (parts_of b (set_list bs)) (part b e ∷ []) (sets_hold b i bs h) ((i + width bs, k), tt)

  row_holds : (b : Bool) (i : ℕ) (m : Meaning) → Inside P i m → PartsAre Holds (parts b m)
  row_holds b i (term.Known v) h = tt
  row_holds b i (term.Named s) h = tt
  row_holds b i (term.Variable x) h = tt
  row_holds b i (term.Slot j) h = tt
  row_holds b i (term.Use k ts) h = terms_hold b i ts h
  row_holds b i (term.Standard o ts) h = terms_hold b i ts h
  row_holds b i (term.Parenthesized e) h = ((i, h), tt)
  row_holds b i (term.Scoped ks e) h = ((i, h), tt)
  row_holds b i (term.All ts) h = terms_hold b i ts h
  row_holds b i (term.Any ts) h = terms_hold b i ts h
  row_holds b i (term.Prefix o e) h = ((i, h), tt)
  row_holds b i (term.Infix o os e) h = both Holds (parts_of b (operand_list os)) (part b e ∷ []) (operands_hold b i os h.0) ((i, h.1), tt)
  row_holds b i (term.Postfix e ss s) h = ((i, h.0), both Holds (step_parts b s) (steps_parts (b || is_prime s) ss) (step_holds b i s h.2) (steps_hold (b || is_prime s) i ss h.1))
  row_holds b i (term.SetOf ts) h = terms_hold b i ts h
  row_holds b i (term.Filter s e) h = ((i, h.0), ((suc i, h.1), tt))
  row_holds b i (term.Map e bs) h = ((i + width bs, h.0), sets_hold b i bs h.1)
  row_holds b i (term.Tuple ts) h = terms_hold b i ts h
  row_holds b i (term.Function bs e) h = sets_and b i bs e h.0 h.1
  row_holds b i (term.FunctionSet s e) h = ((i, h.0), ((i, h.1), tt))
  row_holds b i (term.Record fs) h = values_hold b i fs h
  row_holds b i (term.RecordSet fs) h = values_hold b i fs h
  row_holds b i (term.Except e cs) h = ((i, h.0), changes_hold b i cs h.1)
  row_holds b i (term.Quantified q bs e) h = sets_and b i bs e h.0 h.1
  row_holds b i (term.Choose s e) h = ((i, h.0), ((suc i, h.1), tt))
  row_holds b i (term.If p e f) h = ((i, h.0), ((i, h.1), ((i, h.2), tt)))
  row_holds b i (term.Case arms) h = arms_hold b i arms h
  row_holds b i (term.CaseOther arms e) h = both Holds (parts_of b (arm_list arms)) (part b e ∷ []) (arms_hold b i arms h.0) ((i, h.1), tt)
  row_holds b i (term.BoxAction e v) h = ((i, h.0), ((i, h.1), tt))
  row_holds b i (term.AngleAction e v) h = ((i, h.0), ((i, h.1), tt))
  row_holds b i (term.Fairness v e) h = ((i, h.0), ((i, h.1), tt))

module _ (variables : ℕ) (ops : Table) (Q : ℕ → Type 0) (bodies : Bodies variables ops Q) where
  abbrev Good : ℕ → Place → Level → Meaning → Type 0
  Good = Row variables ops Q

  body_holds : (b : Bool) (r : Option Operator) → ((o : Operator) → r ≡ Some o → Everywhere Good (o.outer + o.params) o.body) → PartsAre (Holds Good) (map (part b) (body_of r))
  body_holds b None f = tt
  body_holds b (Some o) f = ((o.outer + o.params, f o refl), tt)

  pub parts_hold : (b : Bool) (n : ℕ) (at : Place) (l : Level) (m : Meaning) → Everywhere Good n (Placed at l m) → PartsAre (Holds Good) (parts_in ops b m)
  parts_hold b n at l (term.Use j ts) h =
      both (Holds Good) (parts_of b (listed ts)) (map (part b) (body_of (slice_get ops j))) (terms_hold Good b n ts h.1) (body_holds b (slice_get ops j) (λ o e. (bodies j o h.0.1.1 e).0))
  parts_hold b n at l m h = row_holds Good b n m h.1
