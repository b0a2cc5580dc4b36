-- For the prover: how terms are told apart, each as data of numbers, by the number of its constructor.
use Rattle.std.specs.Prelude.{◌≡◌, zero, suc, refl}
use Rattle.std.specs.Coded.{Coded, code_by}
use base.Stored.{Gv, gnil, gnum, gcons}
use denote.Struct.Codes.{itself}
use Rattle.reading_trees.specs.OperatorCodes.{place_gv, gv_place, place_back, bytes_gv, gv_bytes, bytes_back, prefix_gv, gv_prefix, prefix_back, infix_gv, gv_infix, infix_back, quantifier_gv, gv_quantifier, quantifier_back}
use Rattle.names_terms.specs.PartCodes.{level_gv, gv_level, level_back, val_gv, gv_val, val_back, named_gv, gv_named, named_back, standard_gv, gv_standard, standard_back, nat_gv, gv_nat, nat_back}
use Rattle.names_terms.specs.Terms.{Term, Placed, Meaning, Known, Named, Variable, Slot, Use, Standard, Parenthesized, Scoped, All, Any, Prefix, Infix, Postfix, SetOf, Filter, Map, Tuple, Function, FunctionSet, Record, RecordSet, Except, Quantified, Choose, If, Case, CaseOther, BoxAction, AngleAction, Fairness, Terms, NoTerms, MoreTerms, Operands, First, Next, Step, Prime, Index, Field, Steps, NoSteps, MoreSteps, Bounds, NoBounds, MoreBounds, Fields, NoFields, MoreFields, Changes, NoChanges, MoreChanges, Arms, NoArms, MoreArms}

abbrev mutual
  pub term_gv : Term → Gv
  term_gv (Placed a b c) = gcons (gnum 0) (gcons (place_gv a) (gcons (level_gv b) (meaning_gv c)))

  pub meaning_gv : Meaning → Gv
  meaning_gv (Known a) = gcons (gnum 0) (val_gv a)
  meaning_gv (Named a) = gcons (gnum 1) (named_gv a)
  meaning_gv (Variable a) = gcons (gnum 2) (nat_gv a)
  meaning_gv (Slot a) = gcons (gnum 3) (nat_gv a)
  meaning_gv (Use a b) = gcons (gnum 4) (gcons (nat_gv a) (terms_gv b))
  meaning_gv (Standard a b) = gcons (gnum 5) (gcons (standard_gv a) (terms_gv b))
  meaning_gv (Parenthesized a) = gcons (gnum 6) (term_gv a)
  meaning_gv (Scoped a b) = gcons (gnum 7) (gcons (bytes_gv a) (term_gv b))
  meaning_gv (All a) = gcons (gnum 8) (terms_gv a)
  meaning_gv (Any a) = gcons (gnum 9) (terms_gv a)
  meaning_gv (Prefix a b) = gcons (gnum 10) (gcons (prefix_gv a) (term_gv b))
  meaning_gv (Infix a b c) = gcons (gnum 11) (gcons (infix_gv a) (gcons (operands_gv b) (term_gv c)))
  meaning_gv (Postfix a b c) = gcons (gnum 12) (gcons (term_gv a) (gcons (steps_gv b) (step_gv c)))
  meaning_gv (SetOf a) = gcons (gnum 13) (terms_gv a)
  meaning_gv (Filter a b) = gcons (gnum 14) (gcons (term_gv a) (term_gv b))
  meaning_gv (Map a b) = gcons (gnum 15) (gcons (term_gv a) (bounds_gv b))
  meaning_gv (Tuple a) = gcons (gnum 16) (terms_gv a)
  meaning_gv (Function a b) = gcons (gnum 17) (gcons (bounds_gv a) (term_gv b))
  meaning_gv (FunctionSet a b) = gcons (gnum 18) (gcons (term_gv a) (term_gv b))
  meaning_gv (Record a) = gcons (gnum 19) (fields_gv a)
  meaning_gv (RecordSet a) = gcons (gnum 20) (fields_gv a)
  meaning_gv (Except a b) = gcons (gnum 21) (gcons (term_gv a) (changes_gv b))
  meaning_gv (Quantified a b c) = gcons (gnum 22) (gcons (quantifier_gv a) (gcons (bounds_gv b) (term_gv c)))
  meaning_gv (Choose a b) = gcons (gnum 23) (gcons (term_gv a) (term_gv b))
  meaning_gv (If a b c) = gcons (gnum 24) (gcons (term_gv a) (gcons (term_gv b) (term_gv c)))
  meaning_gv (Case a) = gcons (gnum 25) (arms_gv a)
  meaning_gv (CaseOther a b) = gcons (gnum 26) (gcons (arms_gv a) (term_gv b))
  meaning_gv (BoxAction a b) = gcons (gnum 27) (gcons (term_gv a) (term_gv b))
  meaning_gv (AngleAction a b) = gcons (gnum 28) (gcons (term_gv a) (term_gv b))
  meaning_gv (Fairness a b) = gcons (gnum 29) (gcons (term_gv a) (term_gv b))

  pub terms_gv : Terms → Gv
  terms_gv NoTerms = gcons (gnum 0) gnil
  terms_gv (MoreTerms a b) = gcons (gnum 1) (gcons (terms_gv a) (term_gv b))

  pub operands_gv : Operands → Gv
  operands_gv (First a) = gcons (gnum 0) (term_gv a)
  operands_gv (Next a b c) = gcons (gnum 1) (gcons (operands_gv a) (gcons (place_gv b) (term_gv c)))

  pub step_gv : Step → Gv
  step_gv Prime = gcons (gnum 0) gnil
  step_gv (Index a) = gcons (gnum 1) (terms_gv a)
  step_gv (Field a) = gcons (gnum 2) (bytes_gv a)

  pub steps_gv : Steps → Gv
  steps_gv NoSteps = gcons (gnum 0) gnil
  steps_gv (MoreSteps a b c) = gcons (gnum 1) (gcons (steps_gv a) (gcons (place_gv b) (step_gv c)))

  pub bounds_gv : Bounds → Gv
  bounds_gv NoBounds = gcons (gnum 0) gnil
  bounds_gv (MoreBounds a b c) = gcons (gnum 1) (gcons (bounds_gv a) (gcons (nat_gv b) (term_gv c)))

  pub fields_gv : Fields → Gv
  fields_gv NoFields = gcons (gnum 0) gnil
  fields_gv (MoreFields a b c) = gcons (gnum 1) (gcons (fields_gv a) (gcons (bytes_gv b) (term_gv c)))

  pub changes_gv : Changes → Gv
  changes_gv NoChanges = gcons (gnum 0) gnil
  changes_gv (MoreChanges a b c) = gcons (gnum 1) (gcons (changes_gv a) (gcons (steps_gv b) (term_gv c)))

  pub arms_gv : Arms → Gv
  arms_gv NoArms = gcons (gnum 0) gnil
  arms_gv (MoreArms a b c) = gcons (gnum 1) (gcons (arms_gv a) (gcons (term_gv b) (term_gv c)))

abbrev mutual
  pub gv_term : Gv → Term
  gv_term (gcons (gnum zero) (gcons a (gcons b c))) = Placed (gv_place a) (gv_level b) (gv_meaning c)
  gv_term _ = Placed (gv_place gnil) (gv_level gnil) (Slot 0)

  pub gv_meaning : Gv → Meaning
  gv_meaning (gcons (gnum zero) a) = Known (gv_val a)
  gv_meaning (gcons (gnum (suc zero)) a) = Named (gv_named a)
  gv_meaning (gcons (gnum (suc (suc zero))) a) = Variable (gv_nat a)
  gv_meaning (gcons (gnum (suc (suc (suc zero)))) a) = Slot (gv_nat a)
  gv_meaning (gcons (gnum (suc (suc (suc (suc zero))))) (gcons a b)) = Use (gv_nat a) (gv_terms b)
  gv_meaning (gcons (gnum (suc (suc (suc (suc (suc zero)))))) (gcons a b)) = Standard (gv_standard a) (gv_terms b)
  gv_meaning (gcons (gnum (suc (suc (suc (suc (suc (suc zero))))))) a) = Parenthesized (gv_term a)
  gv_meaning (gcons (gnum (suc (suc (suc (suc (suc (suc (suc zero)))))))) (gcons a b)) = Scoped (gv_bytes a) (gv_term b)
  gv_meaning (gcons (gnum (suc (suc (suc (suc (suc (suc (suc (suc zero))))))))) a) = All (gv_terms a)
  gv_meaning (gcons (gnum (suc (suc (suc (suc (suc (suc (suc (suc (suc zero)))))))))) a) = Any (gv_terms a)
  gv_meaning (gcons (gnum (suc (suc (suc (suc (suc (suc (suc (suc (suc (suc zero))))))))))) (gcons a b)) = Prefix (gv_prefix a) (gv_term b)
  gv_meaning (gcons (gnum (suc (suc (suc (suc (suc (suc (suc (suc (suc (suc (suc zero)))))))))))) (gcons a (gcons b c))) = Infix (gv_infix a) (gv_operands b) (gv_term c)
  gv_meaning (gcons (gnum (suc (suc (suc (suc (suc (suc (suc (suc (suc (suc (suc (suc zero))))))))))))) (gcons a (gcons b c))) = Postfix (gv_term a) (gv_steps b) (gv_step c)
  gv_meaning (gcons (gnum (suc (suc (suc (suc (suc (suc (suc (suc (suc (suc (suc (suc (suc zero)))))))))))))) a) = SetOf (gv_terms a)
  gv_meaning (gcons (gnum (suc (suc (suc (suc (suc (suc (suc (suc (suc (suc (suc (suc (suc (suc zero))))))))))))))) (gcons a b)) = Filter (gv_term a) (gv_term b)
  gv_meaning (gcons (gnum (suc (suc (suc (suc (suc (suc (suc (suc (suc (suc (suc (suc (suc (suc (suc zero)))))))))))))))) (gcons a b)) = Map (gv_term a) (gv_bounds b)
  gv_meaning (gcons (gnum (suc (suc (suc (suc (suc (suc (suc (suc (suc (suc (suc (suc (suc (suc (suc (suc zero))))))))))))))))) a) = Tuple (gv_terms a)
  gv_meaning (gcons (gnum (suc (suc (suc (suc (suc (suc (suc (suc (suc (suc (suc (suc (suc (suc (suc (suc (suc zero)))))))))))))))))) (gcons a b)) = Function (gv_bounds a) (gv_term b)
  gv_meaning (gcons (gnum (suc (suc (suc (suc (suc (suc (suc (suc (suc (suc (suc (suc (suc (suc (suc (suc (suc (suc zero))))))))))))))))))) (gcons a b)) = FunctionSet (gv_term a) (gv_term b)
  gv_meaning (gcons (gnum (suc (suc (suc (suc (suc (suc (suc (suc (suc (suc (suc (suc (suc (suc (suc (suc (suc (suc (suc zero)))))))))))))))))))) a) = Record (gv_fields a)
  gv_meaning (gcons (gnum (suc (suc (suc (suc (suc (suc (suc (suc (suc (suc (suc (suc (suc (suc (suc (suc (suc (suc (suc (suc zero))))))))))))))))))))) a) = RecordSet (gv_fields a)
  gv_meaning (gcons (gnum (suc (suc (suc (suc (suc (suc (suc (suc (suc (suc (suc (suc (suc (suc (suc (suc (suc (suc (suc (suc (suc zero)))))))))))))))))))))) (gcons a b)) = Except (gv_term a) (gv_changes b)
  gv_meaning (gcons (gnum (suc (suc (suc (suc (suc (suc (suc (suc (suc (suc (suc (suc (suc (suc (suc (suc (suc (suc (suc (suc (suc (suc zero))))))))))))))))))))))) (gcons a (gcons b c))) = Quantified (gv_quantifier a) (gv_bounds b) (gv_term c)
  gv_meaning (gcons (gnum (suc (suc (suc (suc (suc (suc (suc (suc (suc (suc (suc (suc (suc (suc (suc (suc (suc (suc (suc (suc (suc (suc (suc zero)))))))))))))))))))))))) (gcons a b)) = Choose (gv_term a) (gv_term b)
  gv_meaning (gcons (gnum (suc (suc (suc (suc (suc (suc (suc (suc (suc (suc (suc (suc (suc (suc (suc (suc (suc (suc (suc (suc (suc (suc (suc (suc zero))))))))))))))))))))))))) (gcons a (gcons b c))) = If (gv_term a) (gv_term b) (gv_term c)
  gv_meaning (gcons (gnum (suc (suc (suc (suc (suc (suc (suc (suc (suc (suc (suc (suc (suc (suc (suc (suc (suc (suc (suc (suc (suc (suc (suc (suc (suc zero)))))))))))))))))))))))))) a) = Case (gv_arms a)
  gv_meaning (gcons (gnum (suc (suc (suc (suc (suc (suc (suc (suc (suc (suc (suc (suc (suc (suc (suc (suc (suc (suc (suc (suc (suc (suc (suc (suc (suc (suc zero))))))))))))))))))))))))))) (gcons a b)) = CaseOther (gv_arms a) (gv_term b)
  gv_meaning (gcons (gnum (suc (suc (suc (suc (suc (suc (suc (suc (suc (suc (suc (suc (suc (suc (suc (suc (suc (suc (suc (suc (suc (suc (suc (suc (suc (suc (suc zero)))))))))))))))))))))))))))) (gcons a b)) = BoxAction (gv_term a) (gv_term b)
  gv_meaning (gcons (gnum (suc (suc (suc (suc (suc (suc (suc (suc (suc (suc (suc (suc (suc (suc (suc (suc (suc (suc (suc (suc (suc (suc (suc (suc (suc (suc (suc (suc zero))))))))))))))))))))))))))))) (gcons a b)) = AngleAction (gv_term a) (gv_term b)
  gv_meaning (gcons (gnum (suc (suc (suc (suc (suc (suc (suc (suc (suc (suc (suc (suc (suc (suc (suc (suc (suc (suc (suc (suc (suc (suc (suc (suc (suc (suc (suc (suc (suc zero)))))))))))))))))))))))))))))) (gcons a b)) = Fairness (gv_term a) (gv_term b)
  gv_meaning _ = Slot 0

  pub gv_terms : Gv → Terms
  gv_terms (gcons (gnum zero) g) = NoTerms
  gv_terms (gcons (gnum (suc zero)) (gcons a b)) = MoreTerms (gv_terms a) (gv_term b)
  gv_terms _ = NoTerms

  pub gv_operands : Gv → Operands
  gv_operands (gcons (gnum zero) a) = First (gv_term a)
  gv_operands (gcons (gnum (suc zero)) (gcons a (gcons b c))) = Next (gv_operands a) (gv_place b) (gv_term c)
  gv_operands _ = First (Placed (gv_place gnil) (gv_level gnil) (Slot 0))

  pub gv_step : Gv → Step
  gv_step (gcons (gnum zero) g) = Prime
  gv_step (gcons (gnum (suc zero)) a) = Index (gv_terms a)
  gv_step (gcons (gnum (suc (suc zero))) a) = Field (gv_bytes a)
  gv_step _ = Prime

  pub gv_steps : Gv → Steps
  gv_steps (gcons (gnum zero) g) = NoSteps
  gv_steps (gcons (gnum (suc zero)) (gcons a (gcons b c))) = MoreSteps (gv_steps a) (gv_place b) (gv_step c)
  gv_steps _ = NoSteps

  pub gv_bounds : Gv → Bounds
  gv_bounds (gcons (gnum zero) g) = NoBounds
  gv_bounds (gcons (gnum (suc zero)) (gcons a (gcons b c))) = MoreBounds (gv_bounds a) (gv_nat b) (gv_term c)
  gv_bounds _ = NoBounds

  pub gv_fields : Gv → Fields
  gv_fields (gcons (gnum zero) g) = NoFields
  gv_fields (gcons (gnum (suc zero)) (gcons a (gcons b c))) = MoreFields (gv_fields a) (gv_bytes b) (gv_term c)
  gv_fields _ = NoFields

  pub gv_changes : Gv → Changes
  gv_changes (gcons (gnum zero) g) = NoChanges
  gv_changes (gcons (gnum (suc zero)) (gcons a (gcons b c))) = MoreChanges (gv_changes a) (gv_steps b) (gv_term c)
  gv_changes _ = NoChanges

  pub gv_arms : Gv → Arms
  gv_arms (gcons (gnum zero) g) = NoArms
  gv_arms (gcons (gnum (suc zero)) (gcons a (gcons b c))) = MoreArms (gv_arms a) (gv_term b) (gv_term c)
  gv_arms _ = NoArms

mutual
  pub term_back : (x : Term) → gv_term (term_gv x) ≡ x
  term_back (Placed a b c) = λ i. Placed (place_back a i) (level_back b i) (meaning_back c i)

  pub meaning_back : (x : Meaning) → gv_meaning (meaning_gv x) ≡ x
  meaning_back (Known a) = λ i. Known (val_back a i)
  meaning_back (Named a) = λ i. Named (named_back a i)
  meaning_back (Variable a) = λ i. Variable (nat_back a i)
  meaning_back (Slot a) = λ i. Slot (nat_back a i)
  meaning_back (Use a b) = λ i. Use (nat_back a i) (terms_back b i)
  meaning_back (Standard a b) = λ i. Standard (standard_back a i) (terms_back b i)
  meaning_back (Parenthesized a) = λ i. Parenthesized (term_back a i)
  meaning_back (Scoped a b) = λ i. Scoped (bytes_back a i) (term_back b i)
  meaning_back (All a) = λ i. All (terms_back a i)
  meaning_back (Any a) = λ i. Any (terms_back a i)
  meaning_back (Prefix a b) = λ i. Prefix (prefix_back a i) (term_back b i)
  meaning_back (Infix a b c) = λ i. Infix (infix_back a i) (operands_back b i) (term_back c i)
  meaning_back (Postfix a b c) = λ i. Postfix (term_back a i) (steps_back b i) (step_back c i)
  meaning_back (SetOf a) = λ i. SetOf (terms_back a i)
  meaning_back (Filter a b) = λ i. Filter (term_back a i) (term_back b i)
  meaning_back (Map a b) = λ i. Map (term_back a i) (bounds_back b i)
  meaning_back (Tuple a) = λ i. Tuple (terms_back a i)
  meaning_back (Function a b) = λ i. Function (bounds_back a i) (term_back b i)
  meaning_back (FunctionSet a b) = λ i. FunctionSet (term_back a i) (term_back b i)
  meaning_back (Record a) = λ i. Record (fields_back a i)
  meaning_back (RecordSet a) = λ i. RecordSet (fields_back a i)
  meaning_back (Except a b) = λ i. Except (term_back a i) (changes_back b i)
  meaning_back (Quantified a b c) = λ i. Quantified (quantifier_back a i) (bounds_back b i) (term_back c i)
  meaning_back (Choose a b) = λ i. Choose (term_back a i) (term_back b i)
  meaning_back (If a b c) = λ i. If (term_back a i) (term_back b i) (term_back c i)
  meaning_back (Case a) = λ i. Case (arms_back a i)
  meaning_back (CaseOther a b) = λ i. CaseOther (arms_back a i) (term_back b i)
  meaning_back (BoxAction a b) = λ i. BoxAction (term_back a i) (term_back b i)
  meaning_back (AngleAction a b) = λ i. AngleAction (term_back a i) (term_back b i)
  meaning_back (Fairness a b) = λ i. Fairness (term_back a i) (term_back b i)

  pub terms_back : (x : Terms) → gv_terms (terms_gv x) ≡ x
  terms_back NoTerms = refl
  terms_back (MoreTerms a b) = λ i. MoreTerms (terms_back a i) (term_back b i)

  pub operands_back : (x : Operands) → gv_operands (operands_gv x) ≡ x
  operands_back (First a) = λ i. First (term_back a i)
  operands_back (Next a b c) = λ i. Next (operands_back a i) (place_back b i) (term_back c i)

  pub step_back : (x : Step) → gv_step (step_gv x) ≡ x
  step_back Prime = refl
  step_back (Index a) = λ i. Index (terms_back a i)
  step_back (Field a) = λ i. Field (bytes_back a i)

  pub steps_back : (x : Steps) → gv_steps (steps_gv x) ≡ x
  steps_back NoSteps = refl
  steps_back (MoreSteps a b c) = λ i. MoreSteps (steps_back a i) (place_back b i) (step_back c i)

  pub bounds_back : (x : Bounds) → gv_bounds (bounds_gv x) ≡ x
  bounds_back NoBounds = refl
  bounds_back (MoreBounds a b c) = λ i. MoreBounds (bounds_back a i) (nat_back b i) (term_back c i)

  pub fields_back : (x : Fields) → gv_fields (fields_gv x) ≡ x
  fields_back NoFields = refl
  fields_back (MoreFields a b c) = λ i. MoreFields (fields_back a i) (bytes_back b i) (term_back c i)

  pub changes_back : (x : Changes) → gv_changes (changes_gv x) ≡ x
  changes_back NoChanges = refl
  changes_back (MoreChanges a b c) = λ i. MoreChanges (changes_back a i) (steps_back b i) (term_back c i)

  pub arms_back : (x : Arms) → gv_arms (arms_gv x) ≡ x
  arms_back NoArms = refl
  arms_back (MoreArms a b c) = λ i. MoreArms (arms_back a i) (term_back b i) (term_back c i)

abbrev pub term_code : Coded Term
term_code = code_by Gv itself term_gv gv_term term_back

abbrev pub meaning_code : Coded Meaning
meaning_code = code_by Gv itself meaning_gv gv_meaning meaning_back

abbrev pub terms_code : Coded Terms
terms_code = code_by Gv itself terms_gv gv_terms terms_back

abbrev pub operands_code : Coded Operands
operands_code = code_by Gv itself operands_gv gv_operands operands_back

abbrev pub step_code : Coded Step
step_code = code_by Gv itself step_gv gv_step step_back

abbrev pub steps_code : Coded Steps
steps_code = code_by Gv itself steps_gv gv_steps steps_back

abbrev pub bounds_code : Coded Bounds
bounds_code = code_by Gv itself bounds_gv gv_bounds bounds_back

abbrev pub fields_code : Coded Fields
fields_code = code_by Gv itself fields_gv gv_fields fields_back

abbrev pub changes_code : Coded Changes
changes_code = code_by Gv itself changes_gv gv_changes changes_back

abbrev pub arms_code : Coded Arms
arms_code = code_by Gv itself arms_gv gv_arms arms_back
