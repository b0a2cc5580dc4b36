-- Where each name stays, the tree that is made is the same.
use Rattle.std.proofs.Common.{◌≡◌, ◌∙◌, ap, refl, List, [], ◌∷◌, ◌++◌}
use Rattle.std.specs.Prelude.{ℕ, Bool, true, false, if◌then◌else◌, Option, None}
use Rattle.names_scopes.specs.Mentions.{is_one_of}
use Rattle.reading_trees.specs.Trees.{Tree, Number, Str, Truth, Builtin, Name, Call, Qualified, At, Parenthesized, Junction, Prefix, Infix, Postfix, SetOf, Filter, Map, Tuple, Function, FunctionSet, Record, RecordSet, Except, Quantified, Choose, If, Case, CaseOther, Let, BoxAction, AngleAction, Fairness, Trees, NoTrees, MoreTrees, Operands, First, Next, Step, Prime, Index, Field, Steps, NoSteps, MoreSteps, Bounds, NoBounds, MoreBounds, Fields, NoFields, MoreFields, Changes, NoChanges, MoreChanges, Arms, NoArms, MoreArms, Definitions, NoDefinitions, MoreDefinitions}
use Rattle.names_instances.specs.Made.{no_stand_ins, unless_bound, name_by, call_by, bound_by, defined_by, made, made_each, made_operands, made_step, made_steps, made_bounds, made_fields, made_changes, made_arms, made_definitions}
use Rattle.names_instances.proofs.Items.{NameList}

none_either_way : (b : Bool) (x : Option (List ℕ)) → x ≡ None → (if b then None else x) ≡ None
none_either_way true x e = refl
none_either_way false x e = e

stays : (bs : NameList) (n : List ℕ) → unless_bound bs no_stand_ins n ≡ None
stays bs n = none_either_way (is_one_of n bs) (no_stand_ins n) refl

mutual
  pub keeps : (bs : NameList) (t : Tree) → made no_stand_ins bs t ≡ t
  keeps bs (Number at z) = refl
  keeps bs (Str at s) = refl
  keeps bs (Truth at b) = refl
  keeps bs (Builtin at b) = refl
  keeps bs (Name at n) = ap (λ w. name_by w at n) (stays bs n)
  keeps bs (Call at n es) = ap (λ w. call_by w at n (made_each no_stand_ins bs es)) (stays bs n) ∙ ap (λ z. Call at n z) (keeps_each bs es)
  keeps bs (Qualified at n es) = ap (λ z. Qualified at n z) (keeps_each bs es)
  keeps bs (At at) = refl
  keeps bs (Parenthesized at a) = λ i. Parenthesized at (keeps bs a i)
  keeps bs (Junction at b a) = λ i. Junction at b (keeps_each bs a i)
  keeps bs (Prefix at o a) = λ i. Prefix at o (keeps bs a i)
  keeps bs (Infix at o a b) = λ i. Infix at o (keeps_operands bs a i) (keeps bs b i)
  keeps bs (Postfix at a b c) = λ i. Postfix at (keeps bs a i) (keeps_steps bs b i) (keeps_step bs c i)
  keeps bs (SetOf at a) = λ i. SetOf at (keeps_each bs a i)
  keeps bs (Filter at n a b) = λ i. Filter at n (keeps bs a i) (keeps (bs ++ n ∷ []) b i)
  keeps bs (Map at a b) = λ i. Map at (keeps (bs ++ bound_by b) a i) (keeps_bounds bs b i)
  keeps bs (Tuple at a) = λ i. Tuple at (keeps_each bs a i)
  keeps bs (Function at a b) = λ i. Function at (keeps_bounds bs a i) (keeps (bs ++ bound_by a) b i)
  keeps bs (FunctionSet at a b) = λ i. FunctionSet at (keeps bs a i) (keeps bs b i)
  keeps bs (Record at a) = λ i. Record at (keeps_fields bs a i)
  keeps bs (RecordSet at a) = λ i. RecordSet at (keeps_fields bs a i)
  keeps bs (Except at a b) = λ i. Except at (keeps bs a i) (keeps_changes bs b i)
  keeps bs (Quantified at q a b) = λ i. Quantified at q (keeps_bounds bs a i) (keeps (bs ++ bound_by a) b i)
  keeps bs (Choose at n a b) = λ i. Choose at n (keeps bs a i) (keeps (bs ++ n ∷ []) b i)
  keeps bs (If at a b c) = λ i. If at (keeps bs a i) (keeps bs b i) (keeps bs c i)
  keeps bs (Case at a) = λ i. Case at (keeps_arms bs a i)
  keeps bs (CaseOther at a b) = λ i. CaseOther at (keeps_arms bs a i) (keeps bs b i)
  keeps bs (Let at a b) = λ i. Let at (keeps_definitions bs a i) (keeps (bs ++ defined_by a) b i)
  keeps bs (BoxAction at a b) = λ i. BoxAction at (keeps bs a i) (keeps bs b i)
  keeps bs (AngleAction at a b) = λ i. AngleAction at (keeps bs a i) (keeps bs b i)
  keeps bs (Fairness at a b) = λ i. Fairness at (keeps bs a i) (keeps bs b i)

  pub keeps_each : (bs : NameList) (t : Trees) → made_each no_stand_ins bs t ≡ t
  keeps_each bs NoTrees = refl
  keeps_each bs (MoreTrees a b) = λ i. MoreTrees (keeps_each bs a i) (keeps bs b i)

  pub keeps_operands : (bs : NameList) (t : Operands) → made_operands no_stand_ins bs t ≡ t
  keeps_operands bs (First a) = λ i. First (keeps bs a i)
  keeps_operands bs (Next a at b) = λ i. Next (keeps_operands bs a i) at (keeps bs b i)

  pub keeps_step : (bs : NameList) (t : Step) → made_step no_stand_ins bs t ≡ t
  keeps_step bs Prime = refl
  keeps_step bs (Index a) = λ i. Index (keeps_each bs a i)
  keeps_step bs (Field h) = refl

  pub keeps_steps : (bs : NameList) (t : Steps) → made_steps no_stand_ins bs t ≡ t
  keeps_steps bs NoSteps = refl
  keeps_steps bs (MoreSteps a at b) = λ i. MoreSteps (keeps_steps bs a i) at (keeps_step bs b i)

  pub keeps_bounds : (bs : NameList) (t : Bounds) → made_bounds no_stand_ins bs t ≡ t
  keeps_bounds bs NoBounds = refl
  keeps_bounds bs (MoreBounds a ns b) = λ i. MoreBounds (keeps_bounds bs a i) ns (keeps bs b i)

  pub keeps_fields : (bs : NameList) (t : Fields) → made_fields no_stand_ins bs t ≡ t
  keeps_fields bs NoFields = refl
  keeps_fields bs (MoreFields a n b) = λ i. MoreFields (keeps_fields bs a i) n (keeps bs b i)

  pub keeps_changes : (bs : NameList) (t : Changes) → made_changes no_stand_ins bs t ≡ t
  keeps_changes bs NoChanges = refl
  keeps_changes bs (MoreChanges a b c) = λ i. MoreChanges (keeps_changes bs a i) (keeps_steps bs b i) (keeps bs c i)

  pub keeps_arms : (bs : NameList) (t : Arms) → made_arms no_stand_ins bs t ≡ t
  keeps_arms bs NoArms = refl
  keeps_arms bs (MoreArms a b c) = λ i. MoreArms (keeps_arms bs a i) (keeps bs b i) (keeps bs c i)

  pub keeps_definitions : (bs : NameList) (t : Definitions) → made_definitions no_stand_ins bs t ≡ t
  keeps_definitions bs NoDefinitions = refl
  keeps_definitions bs (MoreDefinitions a m at ps form b) = λ i. MoreDefinitions (keeps_definitions bs a i) m at ps form (keeps (bs ++ defined_by a ++ m ∷ [] ++ ps) b i)
