-- For the prover: how many terms a term has, itself and all in it.
use Rattle.std.specs.Prelude.{ℕ, suc, ◌+◌, List, [], ◌∷◌}
use Rattle.names_terms.specs.Terms.{Term, Placed, Meaning, Use, Standard, Parenthesized, Scoped, All, Any, Prefix, Infix, Postfix, SetOf, Filter, Map, Tuple, Function, FunctionSet, Record, RecordSet, Except, Quantified, Choose, If, Case, CaseOther, BoxAction, AngleAction, Fairness, Terms, NoTerms, MoreTerms, Operands, First, Next, Step, Prime, Index, Field, Steps, NoSteps, MoreSteps, Bounds, NoBounds, MoreBounds, Fields, NoFields, MoreFields, Changes, NoChanges, MoreChanges, Arms, NoArms, MoreArms}
use Rattle.names_term_parts.specs.Parts.{Part}

abbrev mutual
  pub weight : Term → ℕ
  weight (Placed at l m) = suc (inner m)

  pub inner : Meaning → ℕ
  inner (Use k ts) = in_terms ts
  inner (Standard o ts) = in_terms ts
  inner (Parenthesized e) = weight e
  inner (Scoped ks e) = weight e
  inner (All ts) = in_terms ts
  inner (Any ts) = in_terms ts
  inner (Prefix o e) = weight e
  inner (Infix o os e) = in_operands os + weight e
  inner (Postfix e ss s) = weight e + (in_step s + in_steps ss)
  inner (SetOf ts) = in_terms ts
  inner (Filter s e) = weight s + weight e
  inner (Map e bs) = weight e + in_bounds bs
  inner (Tuple ts) = in_terms ts
  inner (Function bs e) = in_bounds bs + weight e
  inner (FunctionSet s e) = weight s + weight e
  inner (Record fs) = in_fields fs
  inner (RecordSet fs) = in_fields fs
  inner (Except e cs) = weight e + in_changes cs
  inner (Quantified q bs e) = in_bounds bs + weight e
  inner (Choose s e) = weight s + weight e
  inner (If p e f) = weight p + (weight e + weight f)
  inner (Case arms) = in_arms arms
  inner (CaseOther arms e) = in_arms arms + weight e
  inner (BoxAction e v) = weight e + weight v
  inner (AngleAction e v) = weight e + weight v
  inner (Fairness v e) = weight v + weight e
  inner m = 0

  pub in_terms : Terms → ℕ
  in_terms NoTerms = 0
  in_terms (MoreTerms ts e) = in_terms ts + weight e

  pub in_operands : Operands → ℕ
  in_operands (First e) = weight e
  in_operands (Next os at e) = in_operands os + weight e

  pub in_step : Step → ℕ
  in_step Prime = 0
  in_step (Index ts) = in_terms ts
  in_step (Field h) = 0

  pub in_steps : Steps → ℕ
  in_steps NoSteps = 0
  in_steps (MoreSteps ss at s) = in_step s + in_steps ss

  pub in_bounds : Bounds → ℕ
  in_bounds NoBounds = 0
  in_bounds (MoreBounds bs n e) = in_bounds bs + weight e

  pub in_fields : Fields → ℕ
  in_fields NoFields = 0
  in_fields (MoreFields fs h e) = in_fields fs + weight e

  pub in_changes : Changes → ℕ
  in_changes NoChanges = 0
  in_changes (MoreChanges cs path e) = in_changes cs + (in_steps path + weight e)

  pub in_arms : Arms → ℕ
  in_arms NoArms = 0
  in_arms (MoreArms arms p e) = in_arms arms + (weight p + weight e)

-- of all that wait
unfoldable pub total : List Part → ℕ
total [] = 0
total (p ∷ ps) = weight p.term + total ps
