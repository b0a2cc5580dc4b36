-- What holds everywhere in a term in order holds everywhere in each term of which it is made.
use Rattle.std.proofs.Common.{refl, List, [], ◌∷◌, ◌++◌}
use Rattle.std.specs.Prelude.{◌≡◌, ◌+◌, ℕ, suc, flat_map, Option, Some, None, slice_get}
use Rattle.base_core.specs.declared.place.Place.{Place}
use Rattle.names_terms.specs.declared.level.Level.{Level}
use Rattle.names_terms.specs.declared.operator.Operator.{Operator}
use Rattle.names_terms.specs.Lists.{terms_list, steps_list, changes_list}
use Rattle.names_terms.specs.Terms as term
use Rattle.names_terms.specs.Terms.{Term, Placed, Meaning, Terms, Operands, Step, Steps, Bounds, Fields, Changes, Arms, width}
use Rattle.names_term_parts.specs.Parts.{operand_list, set_list, value_list, arm_list}
use Rattle.eval_meanings.specs.Contexts.{Table}
use Rattle.actions_meanings.specs.Reads.{body_of, path_terms, step_terms, terms_in}
use Rattle.names_specification_laws.specs.Everywhere.{InTerms, InOperands, InStep, InSteps, InBounds, InFields, InChanges, InArms}
use Rattle.steps_walk_laws.proofs.Made.{changed_rows, unchanged_rows}
use Rattle.steps_walk_laws.proofs.Rows.{Row, Rows, Bodies}
use Rattle.steps_walk_laws.proofs.TermsOfParts.{Each, each_both, each_gathered_on}

module _ (variables : ℕ) (ops : Table) (Q : ℕ → Type 0) (bodies : Bodies variables ops Q) where
  abbrev Good : ℕ → Place → Level → Meaning → Type 0
  Good = Row variables ops Q

  -- in order with some number of slots
  abbrev pub IsHeld : Term → Type 0
  IsHeld e = (n : ℕ) × Rows variables ops Q n e

  behind_one : (es : List Term) (n : ℕ) (e : Term) → Each IsHeld es → Rows variables ops Q n e → Each IsHeld (es ++ e ∷ [])
  behind_one es n e h k = each_both IsHeld es (e ∷ []) h ((n, k), tt)

  terms_held : (n : ℕ) (ts : Terms) → InTerms Good n ts → Each IsHeld (terms_list ts)
  terms_held n term.NoTerms h = tt
  terms_held n (term.MoreTerms ts e) h = behind_one (terms_list ts) n e (terms_held n ts h.0) h.1

  operands_held : (n : ℕ) (os : Operands) → InOperands Good n os → Each IsHeld (operand_list os)
  operands_held n (term.First e) h = ((n, h), tt)
  operands_held n (term.Next os at e) h = behind_one (operand_list os) n e (operands_held n os h.0) h.1

  sets_held : (n : ℕ) (bs : Bounds) → InBounds Good n bs → Each IsHeld (set_list bs)
  sets_held n term.NoBounds h = tt
  sets_held n (term.MoreBounds bs k e) h = behind_one (set_list bs) n e (sets_held n bs h.0) h.1

  values_held : (n : ℕ) (fs : Fields) → InFields Good n fs → Each IsHeld (value_list fs)
  values_held n term.NoFields h = tt
  values_held n (term.MoreFields fs k e) h = behind_one (value_list fs) n e (values_held n fs h.0) h.1

  arms_held : (n : ℕ) (arms : Arms) → InArms Good n arms → Each IsHeld (arm_list arms)
  arms_held n term.NoArms h = tt
  arms_held n (term.MoreArms arms p e) h = each_both IsHeld (arm_list arms) (p ∷ e ∷ []) (arms_held n arms h.0) ((n, h.1), ((n, h.2), tt))

  step_held : (n : ℕ) (s : Step) → InStep Good n s → Each IsHeld (step_terms s)
  step_held n term.Prime h = tt
  step_held n (term.Index ts) h = terms_held n ts h
  step_held n (term.Field f) h = tt

  path_held : (n : ℕ) (ss : Steps) → InSteps Good n ss → Each IsHeld (path_terms ss)
  path_held n term.NoSteps h = tt
  path_held n (term.MoreSteps ss at s) h = each_gathered_on IsHeld (λ s. step_terms s.1) (steps_list ss) (at, s) (path_held n ss h.0) (step_held n s h.1)

  changes_held : (n : ℕ) (cs : Changes) → InChanges Good n cs → Each IsHeld (flat_map (λ change. path_terms change.0 ++ change.1 ∷ []) (changes_list cs))
  changes_held n term.NoChanges h = tt
  changes_held n (term.MoreChanges cs path e) h =
      each_gathered_on IsHeld (λ change. path_terms change.0 ++ change.1 ∷ []) (changes_list cs) (path, e) (changes_held n cs h.0) (behind_one (path_terms path) (suc n) e (path_held n path h.1) h.2)

  body_held : (r : Option Operator) → ((o : Operator) → r ≡ Some o → Rows variables ops Q (o.outer + o.params) o.body) → Each IsHeld (body_of r)
  body_held None f = tt
  body_held (Some o) f = ((o.outer + o.params, f o refl), tt)

  pub terms_hold : (n : ℕ) (at : Place) (l : Level) (m : Meaning) → Rows variables ops Q n (Placed at l m) → Each IsHeld (terms_in ops at m)
  terms_hold n at l (term.Known v) h = tt
  terms_hold n at l (term.Named s) h = tt
  terms_hold n at l (term.Variable x) h = tt
  terms_hold n at l (term.Slot i) h = tt
  terms_hold n at l (term.Use j ts) h = each_both IsHeld (terms_list ts) (body_of (slice_get ops j)) (terms_held n ts h.1) (body_held (slice_get ops j) (λ o e. (bodies j o h.0.1.1 e).0))
  terms_hold n at l (term.Standard o ts) h = terms_held n ts h.1
  terms_hold n at l (term.Parenthesized e) h = ((n, h.1), tt)
  terms_hold n at l (term.Scoped ks e) h = ((n, h.1), tt)
  terms_hold n at l (term.All ts) h = terms_held n ts h.1
  terms_hold n at l (term.Any ts) h = terms_held n ts h.1
  terms_hold n at l (term.Prefix o e) h = ((n, h.1), tt)
  terms_hold n at l (term.Infix o os e) h = behind_one (operand_list os) n e (operands_held n os h.1.0) h.1.1
  terms_hold n at l (term.Postfix e ss s) h = ((n, h.1.0), each_both IsHeld (path_terms ss) (step_terms s) (path_held n ss h.1.1) (step_held n s h.1.2))
  terms_hold n at l (term.SetOf ts) h = terms_held n ts h.1
  terms_hold n at l (term.Filter s e) h = ((n, h.1.0), ((suc n, h.1.1), tt))
  terms_hold n at l (term.Map e bs) h = ((n + width bs, h.1.0), sets_held n bs h.1.1)
  terms_hold n at l (term.Tuple ts) h = terms_held n ts h.1
  terms_hold n at l (term.Function bs e) h = behind_one (set_list bs) (n + width bs) e (sets_held n bs h.1.0) h.1.1
  terms_hold n at l (term.FunctionSet s e) h = ((n, h.1.0), ((n, h.1.1), tt))
  terms_hold n at l (term.Record fs) h = values_held n fs h.1
  terms_hold n at l (term.RecordSet fs) h = values_held n fs h.1
  terms_hold n at l (term.Except e cs) h = ((n, h.1.0), changes_held n cs h.1.1)
  terms_hold n at l (term.Quantified q bs e) h = behind_one (set_list bs) (n + width bs) e (sets_held n bs h.1.0) h.1.1
  terms_hold n at l (term.Choose s e) h = ((n, h.1.0), ((suc n, h.1.1), tt))
  terms_hold n at l (term.If p e f) h = ((n, h.1.0), ((n, h.1.1), ((n, h.1.2), tt)))
  terms_hold n at l (term.Case arms) h = arms_held n arms h.1
  terms_hold n at l (term.CaseOther arms e) h = behind_one (arm_list arms) n e (arms_held n arms h.1.0) h.1.1
  terms_hold n at l (term.BoxAction e v) h = ((n, h.1.0), ((n, unchanged_rows variables ops Q n at v h.1.1 h.0.1.0.1.0), tt))
  terms_hold n at l (term.AngleAction e v) h = ((n, h.1.0), ((n, changed_rows variables ops Q n at v h.1.1 h.0.1.0.1.0), tt))
  terms_hold n at l (term.Fairness v e) h = ((n, h.1.0), ((n, h.1.1), tt))
