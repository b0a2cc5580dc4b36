-- For the prover: a number for each term and list of terms that is above those of its parts.
use Rattle.std.specs.Prelude.{ℕ, suc, max}
use Rattle.names_terms.specs.Terms.{Term, Placed, Meaning, Known, Named, Variable, Slot, Use, Standard, Parenthesized, Scoped, All, Any, Prefix, Infix, Postfix, SetOf, Filter, Map, Tuple, Function, FunctionSet, Record, RecordSet, Except, Quantified, Choose, If, Case, CaseOther, BoxAction, AngleAction, Fairness, Terms, NoTerms, MoreTerms, Operands, First, Next, Step, Prime, Index, Field, Steps, NoSteps, MoreSteps, Bounds, NoBounds, MoreBounds, Fields, NoFields, MoreFields, Changes, NoChanges, MoreChanges, Arms, NoArms, MoreArms}

abbrev mutual
  pub term_size : Term → ℕ
  term_size (Placed a b c) = meaning_size c

  pub meaning_size : Meaning → ℕ
  meaning_size (Known a) = 0
  meaning_size (Named a) = 0
  meaning_size (Variable a) = 0
  meaning_size (Slot a) = 0
  meaning_size (Use a b) = suc (terms_size b)
  meaning_size (Standard a b) = suc (terms_size b)
  meaning_size (Parenthesized a) = suc (term_size a)
  meaning_size (Scoped a b) = suc (term_size b)
  meaning_size (All a) = suc (terms_size a)
  meaning_size (Any a) = suc (terms_size a)
  meaning_size (Prefix a b) = suc (term_size b)
  meaning_size (Infix a b c) = suc (max (operands_size b) (term_size c))
  meaning_size (Postfix a b c) = suc (max (max (term_size a) (steps_size b)) (step_size c))
  meaning_size (SetOf a) = suc (terms_size a)
  meaning_size (Filter a b) = suc (max (term_size a) (term_size b))
  meaning_size (Map a b) = suc (max (term_size a) (bounds_size b))
  meaning_size (Tuple a) = suc (terms_size a)
  meaning_size (Function a b) = suc (max (bounds_size a) (term_size b))
  meaning_size (FunctionSet a b) = suc (max (term_size a) (term_size b))
  meaning_size (Record a) = suc (fields_size a)
  meaning_size (RecordSet a) = suc (fields_size a)
  meaning_size (Except a b) = suc (max (term_size a) (changes_size b))
  meaning_size (Quantified a b c) = suc (max (bounds_size b) (term_size c))
  meaning_size (Choose a b) = suc (max (term_size a) (term_size b))
  meaning_size (If a b c) = suc (max (max (term_size a) (term_size b)) (term_size c))
  meaning_size (Case a) = suc (arms_size a)
  meaning_size (CaseOther a b) = suc (max (arms_size a) (term_size b))
  meaning_size (BoxAction a b) = suc (max (term_size a) (term_size b))
  meaning_size (AngleAction a b) = suc (max (term_size a) (term_size b))
  meaning_size (Fairness a b) = suc (max (term_size a) (term_size b))

  pub terms_size : Terms → ℕ
  terms_size NoTerms = 0
  terms_size (MoreTerms a b) = suc (max (terms_size a) (term_size b))

  pub operands_size : Operands → ℕ
  operands_size (First a) = suc (term_size a)
  operands_size (Next a b c) = suc (max (operands_size a) (term_size c))

  pub step_size : Step → ℕ
  step_size Prime = 0
  step_size (Index a) = suc (terms_size a)
  step_size (Field a) = 0

  pub steps_size : Steps → ℕ
  steps_size NoSteps = 0
  steps_size (MoreSteps a b c) = suc (max (steps_size a) (step_size c))

  pub bounds_size : Bounds → ℕ
  bounds_size NoBounds = 0
  bounds_size (MoreBounds a b c) = suc (max (bounds_size a) (term_size c))

  pub fields_size : Fields → ℕ
  fields_size NoFields = 0
  fields_size (MoreFields a b c) = suc (max (fields_size a) (term_size c))

  pub changes_size : Changes → ℕ
  changes_size NoChanges = 0
  changes_size (MoreChanges a b c) = suc (max (max (changes_size a) (steps_size b)) (term_size c))

  pub arms_size : Arms → ℕ
  arms_size NoArms = 0
  arms_size (MoreArms a b c) = suc (max (max (arms_size a) (term_size b)) (term_size c))
