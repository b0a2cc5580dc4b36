-- How syntax trees are told apart by a proof: each as data of numbers, by the number of its row.
use Rattle.std.specs.Prelude.{◌≡◌, zero, suc, refl}
use Rattle.std.specs.Coded.{Coded, code_by}
use base.Stored.{Gv, gnil, gnum, gcons}
use denote.Struct.Codes.{itself}
use Rattle.reading_trees.specs.OperatorCodes.{place_gv, gv_place, place_back, int_gv, gv_int, int_back, bool_gv, gv_bool, bool_back, bytes_gv, gv_bytes, bytes_back, names_gv, gv_names, names_back, prefix_gv, gv_prefix, prefix_back, infix_gv, gv_infix, infix_back, quantifier_gv, gv_quantifier, quantifier_back, builtin_gv, gv_builtin, builtin_back, bullet_gv, gv_bullet, bullet_back, form_gv, gv_form, form_back}
use Rattle.reading_trees.specs.Trees.{Tree, Number, Str, Truth, Builtin, Name, Call, Qualified, At, Parenthesized, Junction, Prefix, Infix, Postfix, SetOf, Filter, Map, Tuple, Function, FunctionSet, Record, RecordSet, Except, Quantified, Choose, If, Case, CaseOther, Let, BoxAction, AngleAction, Fairness, Trees, NoTrees, MoreTrees, Operands, First, Next, Step, Prime, Index, Field, Steps, NoSteps, MoreSteps, Bounds, NoBounds, MoreBounds, Fields, NoFields, MoreFields, Changes, NoChanges, MoreChanges, Arms, NoArms, MoreArms, Definitions, NoDefinitions, MoreDefinitions}

abbrev mutual
  pub tree_gv : Tree → Gv
  tree_gv (Number a b) = gcons (gnum 0) (gcons (place_gv a) (int_gv b))
  tree_gv (Str a b) = gcons (gnum 1) (gcons (place_gv a) (bytes_gv b))
  tree_gv (Truth a b) = gcons (gnum 2) (gcons (place_gv a) (bool_gv b))
  tree_gv (Builtin a b) = gcons (gnum 3) (gcons (place_gv a) (builtin_gv b))
  tree_gv (Name a b) = gcons (gnum 4) (gcons (place_gv a) (bytes_gv b))
  tree_gv (Call a b c) = gcons (gnum 5) (gcons (place_gv a) (gcons (bytes_gv b) (trees_gv c)))
  tree_gv (At a) = gcons (gnum 6) (place_gv a)
  tree_gv (Parenthesized a b) = gcons (gnum 7) (gcons (place_gv a) (tree_gv b))
  tree_gv (Junction a b c) = gcons (gnum 8) (gcons (place_gv a) (gcons (bullet_gv b) (trees_gv c)))
  tree_gv (Prefix a b c) = gcons (gnum 9) (gcons (place_gv a) (gcons (prefix_gv b) (tree_gv c)))
  tree_gv (Infix a b c d) = gcons (gnum 10) (gcons (place_gv a) (gcons (infix_gv b) (gcons (operands_gv c) (tree_gv d))))
  tree_gv (Postfix a b c d) = gcons (gnum 11) (gcons (place_gv a) (gcons (tree_gv b) (gcons (steps_gv c) (step_gv d))))
  tree_gv (SetOf a b) = gcons (gnum 12) (gcons (place_gv a) (trees_gv b))
  tree_gv (Filter a b c d) = gcons (gnum 13) (gcons (place_gv a) (gcons (bytes_gv b) (gcons (tree_gv c) (tree_gv d))))
  tree_gv (Map a b c) = gcons (gnum 14) (gcons (place_gv a) (gcons (tree_gv b) (bounds_gv c)))
  tree_gv (Tuple a b) = gcons (gnum 15) (gcons (place_gv a) (trees_gv b))
  tree_gv (Function a b c) = gcons (gnum 16) (gcons (place_gv a) (gcons (bounds_gv b) (tree_gv c)))
  tree_gv (FunctionSet a b c) = gcons (gnum 17) (gcons (place_gv a) (gcons (tree_gv b) (tree_gv c)))
  tree_gv (Record a b) = gcons (gnum 18) (gcons (place_gv a) (fields_gv b))
  tree_gv (RecordSet a b) = gcons (gnum 19) (gcons (place_gv a) (fields_gv b))
  tree_gv (Except a b c) = gcons (gnum 20) (gcons (place_gv a) (gcons (tree_gv b) (changes_gv c)))
  tree_gv (Quantified a b c d) = gcons (gnum 21) (gcons (place_gv a) (gcons (quantifier_gv b) (gcons (bounds_gv c) (tree_gv d))))
  tree_gv (Choose a b c d) = gcons (gnum 22) (gcons (place_gv a) (gcons (bytes_gv b) (gcons (tree_gv c) (tree_gv d))))
  tree_gv (If a b c d) = gcons (gnum 23) (gcons (place_gv a) (gcons (tree_gv b) (gcons (tree_gv c) (tree_gv d))))
  tree_gv (Case a b) = gcons (gnum 24) (gcons (place_gv a) (arms_gv b))
  tree_gv (CaseOther a b c) = gcons (gnum 25) (gcons (place_gv a) (gcons (arms_gv b) (tree_gv c)))
  tree_gv (Let a b c) = gcons (gnum 26) (gcons (place_gv a) (gcons (definitions_gv b) (tree_gv c)))
  tree_gv (BoxAction a b c) = gcons (gnum 27) (gcons (place_gv a) (gcons (tree_gv b) (tree_gv c)))
  tree_gv (AngleAction a b c) = gcons (gnum 28) (gcons (place_gv a) (gcons (tree_gv b) (tree_gv c)))
  tree_gv (Fairness a b c) = gcons (gnum 29) (gcons (place_gv a) (gcons (tree_gv b) (tree_gv c)))
  tree_gv (Qualified a b c) = gcons (gnum 30) (gcons (place_gv a) (gcons (bytes_gv b) (trees_gv c)))

  pub trees_gv : Trees → Gv
  trees_gv NoTrees = gcons (gnum 0) gnil
  trees_gv (MoreTrees a b) = gcons (gnum 1) (gcons (trees_gv a) (tree_gv b))

  pub operands_gv : Operands → Gv
  operands_gv (First a) = gcons (gnum 0) (tree_gv a)
  operands_gv (Next a b c) = gcons (gnum 1) (gcons (operands_gv a) (gcons (place_gv b) (tree_gv c)))

  pub step_gv : Step → Gv
  step_gv Prime = gcons (gnum 0) gnil
  step_gv (Index a) = gcons (gnum 1) (trees_gv a)
  step_gv (Field a) = gcons (gnum 2) (bytes_gv a)

  pub steps_gv : Steps → Gv
  steps_gv NoSteps = gcons (gnum 0) gnil
  steps_gv (MoreSteps a b c) = gcons (gnum 1) (gcons (steps_gv a) (gcons (place_gv b) (step_gv c)))

  pub bounds_gv : Bounds → Gv
  bounds_gv NoBounds = gcons (gnum 0) gnil
  bounds_gv (MoreBounds a b c) = gcons (gnum 1) (gcons (bounds_gv a) (gcons (names_gv b) (tree_gv c)))

  pub fields_gv : Fields → Gv
  fields_gv NoFields = gcons (gnum 0) gnil
  fields_gv (MoreFields a b c) = gcons (gnum 1) (gcons (fields_gv a) (gcons (bytes_gv b) (tree_gv c)))

  pub changes_gv : Changes → Gv
  changes_gv NoChanges = gcons (gnum 0) gnil
  changes_gv (MoreChanges a b c) = gcons (gnum 1) (gcons (changes_gv a) (gcons (steps_gv b) (tree_gv c)))

  pub arms_gv : Arms → Gv
  arms_gv NoArms = gcons (gnum 0) gnil
  arms_gv (MoreArms a b c) = gcons (gnum 1) (gcons (arms_gv a) (gcons (tree_gv b) (tree_gv c)))

  pub definitions_gv : Definitions → Gv
  definitions_gv NoDefinitions = gcons (gnum 0) gnil
  definitions_gv (MoreDefinitions a b c d e f) = gcons (gnum 1) (gcons (definitions_gv a) (gcons (bytes_gv b) (gcons (place_gv c) (gcons (names_gv d) (gcons (form_gv e) (tree_gv f))))))

abbrev mutual
  pub gv_tree : Gv → Tree
  gv_tree (gcons (gnum zero) (gcons a b)) = Number (gv_place a) (gv_int b)
  gv_tree (gcons (gnum (suc zero)) (gcons a b)) = Str (gv_place a) (gv_bytes b)
  gv_tree (gcons (gnum (suc (suc zero))) (gcons a b)) = Truth (gv_place a) (gv_bool b)
  gv_tree (gcons (gnum (suc (suc (suc zero)))) (gcons a b)) = Builtin (gv_place a) (gv_builtin b)
  gv_tree (gcons (gnum (suc (suc (suc (suc zero))))) (gcons a b)) = Name (gv_place a) (gv_bytes b)
  gv_tree (gcons (gnum (suc (suc (suc (suc (suc zero)))))) (gcons a (gcons b c))) = Call (gv_place a) (gv_bytes b) (gv_trees c)
  gv_tree (gcons (gnum (suc (suc (suc (suc (suc (suc zero))))))) a) = At (gv_place a)
  gv_tree (gcons (gnum (suc (suc (suc (suc (suc (suc (suc zero)))))))) (gcons a b)) = Parenthesized (gv_place a) (gv_tree b)
  gv_tree (gcons (gnum (suc (suc (suc (suc (suc (suc (suc (suc zero))))))))) (gcons a (gcons b c))) = Junction (gv_place a) (gv_bullet b) (gv_trees c)
  gv_tree (gcons (gnum (suc (suc (suc (suc (suc (suc (suc (suc (suc zero)))))))))) (gcons a (gcons b c))) = Prefix (gv_place a) (gv_prefix b) (gv_tree c)
  gv_tree (gcons (gnum (suc (suc (suc (suc (suc (suc (suc (suc (suc (suc zero))))))))))) (gcons a (gcons b (gcons c d)))) = Infix (gv_place a) (gv_infix b) (gv_operands c) (gv_tree d)
  gv_tree (gcons (gnum (suc (suc (suc (suc (suc (suc (suc (suc (suc (suc (suc zero)))))))))))) (gcons a (gcons b (gcons c d)))) = Postfix (gv_place a) (gv_tree b) (gv_steps c) (gv_step d)
  gv_tree (gcons (gnum (suc (suc (suc (suc (suc (suc (suc (suc (suc (suc (suc (suc zero))))))))))))) (gcons a b)) = SetOf (gv_place a) (gv_trees b)
  gv_tree (gcons (gnum (suc (suc (suc (suc (suc (suc (suc (suc (suc (suc (suc (suc (suc zero)))))))))))))) (gcons a (gcons b (gcons c d)))) = Filter (gv_place a) (gv_bytes b) (gv_tree c) (gv_tree d)
  gv_tree (gcons (gnum (suc (suc (suc (suc (suc (suc (suc (suc (suc (suc (suc (suc (suc (suc zero))))))))))))))) (gcons a (gcons b c))) = Map (gv_place a) (gv_tree b) (gv_bounds c)
  gv_tree (gcons (gnum (suc (suc (suc (suc (suc (suc (suc (suc (suc (suc (suc (suc (suc (suc (suc zero)))))))))))))))) (gcons a b)) = Tuple (gv_place a) (gv_trees b)
  gv_tree (gcons (gnum (suc (suc (suc (suc (suc (suc (suc (suc (suc (suc (suc (suc (suc (suc (suc (suc zero))))))))))))))))) (gcons a (gcons b c))) = Function (gv_place a) (gv_bounds b) (gv_tree c)
  gv_tree (gcons (gnum (suc (suc (suc (suc (suc (suc (suc (suc (suc (suc (suc (suc (suc (suc (suc (suc (suc zero)))))))))))))))))) (gcons a (gcons b c))) = FunctionSet (gv_place a) (gv_tree b) (gv_tree c)
  gv_tree (gcons (gnum (suc (suc (suc (suc (suc (suc (suc (suc (suc (suc (suc (suc (suc (suc (suc (suc (suc (suc zero))))))))))))))))))) (gcons a b)) = Record (gv_place a) (gv_fields b)
  gv_tree (gcons (gnum (suc (suc (suc (suc (suc (suc (suc (suc (suc (suc (suc (suc (suc (suc (suc (suc (suc (suc (suc zero)))))))))))))))))))) (gcons a b)) = RecordSet (gv_place a) (gv_fields b)
  gv_tree (gcons (gnum (suc (suc (suc (suc (suc (suc (suc (suc (suc (suc (suc (suc (suc (suc (suc (suc (suc (suc (suc (suc zero))))))))))))))))))))) (gcons a (gcons b c))) = Except (gv_place a) (gv_tree b) (gv_changes c)
  gv_tree (gcons (gnum (suc (suc (suc (suc (suc (suc (suc (suc (suc (suc (suc (suc (suc (suc (suc (suc (suc (suc (suc (suc (suc zero)))))))))))))))))))))) (gcons a (gcons b (gcons c d)))) = Quantified (gv_place a) (gv_quantifier b) (gv_bounds c) (gv_tree d)
  gv_tree (gcons (gnum (suc (suc (suc (suc (suc (suc (suc (suc (suc (suc (suc (suc (suc (suc (suc (suc (suc (suc (suc (suc (suc (suc zero))))))))))))))))))))))) (gcons a (gcons b (gcons c d)))) = Choose (gv_place a) (gv_bytes b) (gv_tree c) (gv_tree d)
  gv_tree (gcons (gnum (suc (suc (suc (suc (suc (suc (suc (suc (suc (suc (suc (suc (suc (suc (suc (suc (suc (suc (suc (suc (suc (suc (suc zero)))))))))))))))))))))))) (gcons a (gcons b (gcons c d)))) = If (gv_place a) (gv_tree b) (gv_tree c) (gv_tree d)
  gv_tree (gcons (gnum (suc (suc (suc (suc (suc (suc (suc (suc (suc (suc (suc (suc (suc (suc (suc (suc (suc (suc (suc (suc (suc (suc (suc (suc zero))))))))))))))))))))))))) (gcons a b)) = Case (gv_place a) (gv_arms b)
  gv_tree (gcons (gnum (suc (suc (suc (suc (suc (suc (suc (suc (suc (suc (suc (suc (suc (suc (suc (suc (suc (suc (suc (suc (suc (suc (suc (suc (suc zero)))))))))))))))))))))))))) (gcons a (gcons b c))) = CaseOther (gv_place a) (gv_arms b) (gv_tree c)
  gv_tree (gcons (gnum (suc (suc (suc (suc (suc (suc (suc (suc (suc (suc (suc (suc (suc (suc (suc (suc (suc (suc (suc (suc (suc (suc (suc (suc (suc (suc zero))))))))))))))))))))))))))) (gcons a (gcons b c))) = Let (gv_place a) (gv_definitions b) (gv_tree c)
  gv_tree (gcons (gnum (suc (suc (suc (suc (suc (suc (suc (suc (suc (suc (suc (suc (suc (suc (suc (suc (suc (suc (suc (suc (suc (suc (suc (suc (suc (suc (suc zero)))))))))))))))))))))))))))) (gcons a (gcons b c))) = BoxAction (gv_place a) (gv_tree b) (gv_tree c)
  gv_tree (gcons (gnum (suc (suc (suc (suc (suc (suc (suc (suc (suc (suc (suc (suc (suc (suc (suc (suc (suc (suc (suc (suc (suc (suc (suc (suc (suc (suc (suc (suc zero))))))))))))))))))))))))))))) (gcons a (gcons b c))) = AngleAction (gv_place a) (gv_tree b) (gv_tree c)
  gv_tree (gcons (gnum (suc (suc (suc (suc (suc (suc (suc (suc (suc (suc (suc (suc (suc (suc (suc (suc (suc (suc (suc (suc (suc (suc (suc (suc (suc (suc (suc (suc (suc zero)))))))))))))))))))))))))))))) (gcons a (gcons b c))) = Fairness (gv_place a) (gv_tree b) (gv_tree c)
  gv_tree (gcons (gnum (suc (suc (suc (suc (suc (suc (suc (suc (suc (suc (suc (suc (suc (suc (suc (suc (suc (suc (suc (suc (suc (suc (suc (suc (suc (suc (suc (suc (suc (suc zero))))))))))))))))))))))))))))))) (gcons a (gcons b c))) = Qualified (gv_place a) (gv_bytes b) (gv_trees c)
  gv_tree _ = At (gv_place gnil)

  pub gv_trees : Gv → Trees
  gv_trees (gcons (gnum zero) g) = NoTrees
  gv_trees (gcons (gnum (suc zero)) (gcons a b)) = MoreTrees (gv_trees a) (gv_tree b)
  gv_trees _ = NoTrees

  pub gv_operands : Gv → Operands
  gv_operands (gcons (gnum zero) a) = First (gv_tree a)
  gv_operands (gcons (gnum (suc zero)) (gcons a (gcons b c))) = Next (gv_operands a) (gv_place b) (gv_tree c)
  gv_operands _ = First (At (gv_place gnil))

  pub gv_step : Gv → Step
  gv_step (gcons (gnum zero) g) = Prime
  gv_step (gcons (gnum (suc zero)) a) = Index (gv_trees a)
  gv_step (gcons (gnum (suc (suc zero))) a) = Field (gv_bytes a)
  gv_step _ = Prime

  pub gv_steps : Gv → Steps
  gv_steps (gcons (gnum zero) g) = NoSteps
  gv_steps (gcons (gnum (suc zero)) (gcons a (gcons b c))) = MoreSteps (gv_steps a) (gv_place b) (gv_step c)
  gv_steps _ = NoSteps

  pub gv_bounds : Gv → Bounds
  gv_bounds (gcons (gnum zero) g) = NoBounds
  gv_bounds (gcons (gnum (suc zero)) (gcons a (gcons b c))) = MoreBounds (gv_bounds a) (gv_names b) (gv_tree c)
  gv_bounds _ = NoBounds

  pub gv_fields : Gv → Fields
  gv_fields (gcons (gnum zero) g) = NoFields
  gv_fields (gcons (gnum (suc zero)) (gcons a (gcons b c))) = MoreFields (gv_fields a) (gv_bytes b) (gv_tree c)
  gv_fields _ = NoFields

  pub gv_changes : Gv → Changes
  gv_changes (gcons (gnum zero) g) = NoChanges
  gv_changes (gcons (gnum (suc zero)) (gcons a (gcons b c))) = MoreChanges (gv_changes a) (gv_steps b) (gv_tree c)
  gv_changes _ = NoChanges

  pub gv_arms : Gv → Arms
  gv_arms (gcons (gnum zero) g) = NoArms
  gv_arms (gcons (gnum (suc zero)) (gcons a (gcons b c))) = MoreArms (gv_arms a) (gv_tree b) (gv_tree c)
  gv_arms _ = NoArms

  pub gv_definitions : Gv → Definitions
  gv_definitions (gcons (gnum zero) g) = NoDefinitions
  gv_definitions (gcons (gnum (suc zero)) (gcons a (gcons b (gcons c (gcons d (gcons e f)))))) = MoreDefinitions (gv_definitions a) (gv_bytes b) (gv_place c) (gv_names d) (gv_form e) (gv_tree f)
  gv_definitions _ = NoDefinitions

mutual
  pub tree_back : (x : Tree) → gv_tree (tree_gv x) ≡ x
  tree_back (Number a b) = λ i. Number (place_back a i) (int_back b i)
  tree_back (Str a b) = λ i. Str (place_back a i) (bytes_back b i)
  tree_back (Truth a b) = λ i. Truth (place_back a i) (bool_back b i)
  tree_back (Builtin a b) = λ i. Builtin (place_back a i) (builtin_back b i)
  tree_back (Name a b) = λ i. Name (place_back a i) (bytes_back b i)
  tree_back (Call a b c) = λ i. Call (place_back a i) (bytes_back b i) (trees_back c i)
  tree_back (At a) = λ i. At (place_back a i)
  tree_back (Parenthesized a b) = λ i. Parenthesized (place_back a i) (tree_back b i)
  tree_back (Junction a b c) = λ i. Junction (place_back a i) (bullet_back b i) (trees_back c i)
  tree_back (Prefix a b c) = λ i. Prefix (place_back a i) (prefix_back b i) (tree_back c i)
  tree_back (Infix a b c d) = λ i. Infix (place_back a i) (infix_back b i) (operands_back c i) (tree_back d i)
  tree_back (Postfix a b c d) = λ i. Postfix (place_back a i) (tree_back b i) (steps_back c i) (step_back d i)
  tree_back (SetOf a b) = λ i. SetOf (place_back a i) (trees_back b i)
  tree_back (Filter a b c d) = λ i. Filter (place_back a i) (bytes_back b i) (tree_back c i) (tree_back d i)
  tree_back (Map a b c) = λ i. Map (place_back a i) (tree_back b i) (bounds_back c i)
  tree_back (Tuple a b) = λ i. Tuple (place_back a i) (trees_back b i)
  tree_back (Function a b c) = λ i. Function (place_back a i) (bounds_back b i) (tree_back c i)
  tree_back (FunctionSet a b c) = λ i. FunctionSet (place_back a i) (tree_back b i) (tree_back c i)
  tree_back (Record a b) = λ i. Record (place_back a i) (fields_back b i)
  tree_back (RecordSet a b) = λ i. RecordSet (place_back a i) (fields_back b i)
  tree_back (Except a b c) = λ i. Except (place_back a i) (tree_back b i) (changes_back c i)
  tree_back (Quantified a b c d) = λ i. Quantified (place_back a i) (quantifier_back b i) (bounds_back c i) (tree_back d i)
  tree_back (Choose a b c d) = λ i. Choose (place_back a i) (bytes_back b i) (tree_back c i) (tree_back d i)
  tree_back (If a b c d) = λ i. If (place_back a i) (tree_back b i) (tree_back c i) (tree_back d i)
  tree_back (Case a b) = λ i. Case (place_back a i) (arms_back b i)
  tree_back (CaseOther a b c) = λ i. CaseOther (place_back a i) (arms_back b i) (tree_back c i)
  tree_back (Let a b c) = λ i. Let (place_back a i) (definitions_back b i) (tree_back c i)
  tree_back (BoxAction a b c) = λ i. BoxAction (place_back a i) (tree_back b i) (tree_back c i)
  tree_back (AngleAction a b c) = λ i. AngleAction (place_back a i) (tree_back b i) (tree_back c i)
  tree_back (Fairness a b c) = λ i. Fairness (place_back a i) (tree_back b i) (tree_back c i)
  tree_back (Qualified a b c) = λ i. Qualified (place_back a i) (bytes_back b i) (trees_back c i)

  pub trees_back : (x : Trees) → gv_trees (trees_gv x) ≡ x
  trees_back NoTrees = refl
  trees_back (MoreTrees a b) = λ i. MoreTrees (trees_back a i) (tree_back b i)

  pub operands_back : (x : Operands) → gv_operands (operands_gv x) ≡ x
  operands_back (First a) = λ i. First (tree_back a i)
  operands_back (Next a b c) = λ i. Next (operands_back a i) (place_back b i) (tree_back c i)

  pub step_back : (x : Step) → gv_step (step_gv x) ≡ x
  step_back Prime = refl
  step_back (Index a) = λ i. Index (trees_back a i)
  step_back (Field a) = λ i. Field (bytes_back a i)

  pub steps_back : (x : Steps) → gv_steps (steps_gv x) ≡ x
  steps_back NoSteps = refl
  steps_back (MoreSteps a b c) = λ i. MoreSteps (steps_back a i) (place_back b i) (step_back c i)

  pub bounds_back : (x : Bounds) → gv_bounds (bounds_gv x) ≡ x
  bounds_back NoBounds = refl
  bounds_back (MoreBounds a b c) = λ i. MoreBounds (bounds_back a i) (names_back b i) (tree_back c i)

  pub fields_back : (x : Fields) → gv_fields (fields_gv x) ≡ x
  fields_back NoFields = refl
  fields_back (MoreFields a b c) = λ i. MoreFields (fields_back a i) (bytes_back b i) (tree_back c i)

  pub changes_back : (x : Changes) → gv_changes (changes_gv x) ≡ x
  changes_back NoChanges = refl
  changes_back (MoreChanges a b c) = λ i. MoreChanges (changes_back a i) (steps_back b i) (tree_back c i)

  pub arms_back : (x : Arms) → gv_arms (arms_gv x) ≡ x
  arms_back NoArms = refl
  arms_back (MoreArms a b c) = λ i. MoreArms (arms_back a i) (tree_back b i) (tree_back c i)

  pub definitions_back : (x : Definitions) → gv_definitions (definitions_gv x) ≡ x
  definitions_back NoDefinitions = refl
  definitions_back (MoreDefinitions a b c d e f) = λ i. MoreDefinitions (definitions_back a i) (bytes_back b i) (place_back c i) (names_back d i) (form_back e i) (tree_back f i)

abbrev pub tree_code : Coded Tree
tree_code = code_by Gv itself tree_gv gv_tree tree_back

abbrev pub trees_code : Coded Trees
trees_code = code_by Gv itself trees_gv gv_trees trees_back

abbrev pub operands_code : Coded Operands
operands_code = code_by Gv itself operands_gv gv_operands operands_back

abbrev pub step_code : Coded Step
step_code = code_by Gv itself step_gv gv_step step_back

abbrev pub steps_code : Coded Steps
steps_code = code_by Gv itself steps_gv gv_steps steps_back

abbrev pub bounds_code : Coded Bounds
bounds_code = code_by Gv itself bounds_gv gv_bounds bounds_back

abbrev pub fields_code : Coded Fields
fields_code = code_by Gv itself fields_gv gv_fields fields_back

abbrev pub changes_code : Coded Changes
changes_code = code_by Gv itself changes_gv gv_changes changes_back

abbrev pub arms_code : Coded Arms
arms_code = code_by Gv itself arms_gv gv_arms arms_back

abbrev pub definitions_code : Coded Definitions
definitions_code = code_by Gv itself definitions_gv gv_definitions definitions_back
