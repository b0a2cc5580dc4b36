-- Terms that differ by the numbers of definitions alone: each over a table of its own, with the same places and levels, and each use of a definition is one of
-- a definition that is alike. What is the same of two values that are known is told from outside. At first it is so too which variables and which definitions
-- stand for each other (`Stands`, `Row`): a derivation then ends at each use, and tables may have cycles.
use Rattle.std.specs.Prelude.{◌≡◌, ℕ, zero, suc, List, [], ◌∷◌, Some, slice_get}
use Rattle.base_core.specs.declared.place.Place.{Place}
use Rattle.values_core.specs.Data.{Val}
use Rattle.reading_trees.specs.declared.operators.PrefixOperator.{PrefixOperator}
use Rattle.reading_trees.specs.declared.operators.InfixOperator.{InfixOperator}
use Rattle.reading_trees.specs.declared.operators.Quantifier.{Quantifier}
use Rattle.names_terms.specs.declared.level.Level.{Level}
use Rattle.names_terms.specs.declared.standard.NamedSet.{NamedSet}
use Rattle.names_terms.specs.declared.standard.StandardOperator.{StandardOperator}
use Rattle.names_terms.specs.declared.operator.Operator.{Operator}
use Rattle.names_terms.specs.Terms.{Term, Placed, Meaning, Known, Named, Variable, Slot, Use, Standard, Parenthesized, Scoped, All, Any, Prefix, Infix, Postfix, SetOf, Filter, Map, Tuple, Function, FunctionSet, Record, RecordSet, Except, Quantified, Choose, If, Case, CaseOther, BoxAction, AngleAction, Fairness, Terms, NoTerms, MoreTerms, Operands, First, Next, Step, Prime, Index, Field, Steps, NoSteps, MoreSteps, Bounds, NoBounds, MoreBounds, Fields, NoFields, MoreFields, Changes, NoChanges, MoreChanges, Arms, NoArms, MoreArms}

mutual
  pub data AlikeBy (Same : Val → Val → Type 0) (Stands Row : ℕ → ℕ → Type 0) : Term → Term → Type 0 where
    placed_alike : (at : Place) (l : Level) (m n : Meaning) → AlikeMeaningsBy Same Stands Row m n → AlikeBy Same Stands Row (Placed at l m) (Placed at l n)

  -- one case for each kind of meaning
  pub data AlikeMeaningsBy (Same : Val → Val → Type 0) (Stands Row : ℕ → ℕ → Type 0) : Meaning → Meaning → Type 0 where
    known_alike : (v w : Val) → Same v w → AlikeMeaningsBy Same Stands Row (Known v) (Known w)
    named_alike : (s : NamedSet) → AlikeMeaningsBy Same Stands Row (Named s) (Named s)
    variable_alike : (x y : ℕ) → Stands x y → AlikeMeaningsBy Same Stands Row (Variable x) (Variable y)
    slot_alike : (i : ℕ) → AlikeMeaningsBy Same Stands Row (Slot i) (Slot i)
    use_alike : (k j : ℕ) (ts us : Terms) → Row k j → AlikeTermsBy Same Stands Row ts us → AlikeMeaningsBy Same Stands Row (Use k ts) (Use j us)
    standard_alike : (o : StandardOperator) (ts us : Terms) → AlikeTermsBy Same Stands Row ts us → AlikeMeaningsBy Same Stands Row (Standard o ts) (Standard o us)
    parenthesized_alike : (e f : Term) → AlikeBy Same Stands Row e f → AlikeMeaningsBy Same Stands Row (Parenthesized e) (Parenthesized f)
    scoped_alike : (ks js : List ℕ) (e f : Term) → AlikeNumbersBy Same Stands Row ks js → AlikeBy Same Stands Row e f
        → AlikeMeaningsBy Same Stands Row (Scoped ks e) (Scoped js f)
    all_alike : (ts us : Terms) → AlikeTermsBy Same Stands Row ts us → AlikeMeaningsBy Same Stands Row (All ts) (All us)
    any_alike : (ts us : Terms) → AlikeTermsBy Same Stands Row ts us → AlikeMeaningsBy Same Stands Row (Any ts) (Any us)
    prefix_alike : (o : PrefixOperator) (e f : Term) → AlikeBy Same Stands Row e f → AlikeMeaningsBy Same Stands Row (Prefix o e) (Prefix o f)
    infix_alike : (o : InfixOperator) (os ps : Operands) (e f : Term) → AlikeOperandsBy Same Stands Row os ps → AlikeBy Same Stands Row e f
        → AlikeMeaningsBy Same Stands Row (Infix o os e) (Infix o ps f)
    postfix_alike : (e f : Term) (ss rs : Steps) (s r : Step) → AlikeBy Same Stands Row e f → AlikeStepsBy Same Stands Row ss rs → AlikeStepBy Same Stands Row s r
        → AlikeMeaningsBy Same Stands Row (Postfix e ss s) (Postfix f rs r)
    set_alike : (ts us : Terms) → AlikeTermsBy Same Stands Row ts us → AlikeMeaningsBy Same Stands Row (SetOf ts) (SetOf us)
    filter_alike : (a b e f : Term) → AlikeBy Same Stands Row a b → AlikeBy Same Stands Row e f → AlikeMeaningsBy Same Stands Row (Filter a e) (Filter b f)
    map_alike : (e f : Term) (bs cs : Bounds) → AlikeBy Same Stands Row e f → AlikeBoundsBy Same Stands Row bs cs → AlikeMeaningsBy Same Stands Row (Map e bs) (Map f cs)
    tuple_alike : (ts us : Terms) → AlikeTermsBy Same Stands Row ts us → AlikeMeaningsBy Same Stands Row (Tuple ts) (Tuple us)
    function_alike : (bs cs : Bounds) (e f : Term) → AlikeBoundsBy Same Stands Row bs cs → AlikeBy Same Stands Row e f
        → AlikeMeaningsBy Same Stands Row (Function bs e) (Function cs f)
    function_set_alike : (a b e f : Term) → AlikeBy Same Stands Row a b → AlikeBy Same Stands Row e f → AlikeMeaningsBy Same Stands Row (FunctionSet a e) (FunctionSet b f)
    record_alike : (fs gs : Fields) → AlikeFieldsBy Same Stands Row fs gs → AlikeMeaningsBy Same Stands Row (Record fs) (Record gs)
    record_set_alike : (fs gs : Fields) → AlikeFieldsBy Same Stands Row fs gs → AlikeMeaningsBy Same Stands Row (RecordSet fs) (RecordSet gs)
    except_alike : (e f : Term) (cs ds : Changes) → AlikeBy Same Stands Row e f → AlikeChangesBy Same Stands Row cs ds
        → AlikeMeaningsBy Same Stands Row (Except e cs) (Except f ds)
    quantified_alike : (q : Quantifier) (bs cs : Bounds) (e f : Term) → AlikeBoundsBy Same Stands Row bs cs → AlikeBy Same Stands Row e f
        → AlikeMeaningsBy Same Stands Row (Quantified q bs e) (Quantified q cs f)
    choose_alike : (a b e f : Term) → AlikeBy Same Stands Row a b → AlikeBy Same Stands Row e f → AlikeMeaningsBy Same Stands Row (Choose a e) (Choose b f)
    if_alike : (p q a b e f : Term) → AlikeBy Same Stands Row p q → AlikeBy Same Stands Row a b → AlikeBy Same Stands Row e f
        → AlikeMeaningsBy Same Stands Row (If p a e) (If q b f)
    case_alike : (ps qs : Arms) → AlikeArmsBy Same Stands Row ps qs → AlikeMeaningsBy Same Stands Row (Case ps) (Case qs)
    case_other_alike : (ps qs : Arms) (e f : Term) → AlikeArmsBy Same Stands Row ps qs → AlikeBy Same Stands Row e f
        → AlikeMeaningsBy Same Stands Row (CaseOther ps e) (CaseOther qs f)
    box_alike : (e f v w : Term) → AlikeBy Same Stands Row e f → AlikeBy Same Stands Row v w → AlikeMeaningsBy Same Stands Row (BoxAction e v) (BoxAction f w)
    angle_alike : (e f v w : Term) → AlikeBy Same Stands Row e f → AlikeBy Same Stands Row v w → AlikeMeaningsBy Same Stands Row (AngleAction e v) (AngleAction f w)
    fairness_alike : (v w e f : Term) → AlikeBy Same Stands Row v w → AlikeBy Same Stands Row e f → AlikeMeaningsBy Same Stands Row (Fairness v e) (Fairness w f)

  pub data AlikeTermsBy (Same : Val → Val → Type 0) (Stands Row : ℕ → ℕ → Type 0) : Terms → Terms → Type 0 where
    no_terms_alike : AlikeTermsBy Same Stands Row NoTerms NoTerms
    more_terms_alike : (ts us : Terms) (e f : Term) → AlikeTermsBy Same Stands Row ts us → AlikeBy Same Stands Row e f
        → AlikeTermsBy Same Stands Row (MoreTerms ts e) (MoreTerms us f)

  pub data AlikeOperandsBy (Same : Val → Val → Type 0) (Stands Row : ℕ → ℕ → Type 0) : Operands → Operands → Type 0 where
    first_alike : (e f : Term) → AlikeBy Same Stands Row e f → AlikeOperandsBy Same Stands Row (First e) (First f)
    next_alike : (os ps : Operands) (at : Place) (e f : Term) → AlikeOperandsBy Same Stands Row os ps → AlikeBy Same Stands Row e f
        → AlikeOperandsBy Same Stands Row (Next os at e) (Next ps at f)

  pub data AlikeStepBy (Same : Val → Val → Type 0) (Stands Row : ℕ → ℕ → Type 0) : Step → Step → Type 0 where
    prime_alike : AlikeStepBy Same Stands Row Prime Prime
    index_alike : (ts us : Terms) → AlikeTermsBy Same Stands Row ts us → AlikeStepBy Same Stands Row (Index ts) (Index us)
    field_alike : (h : List ℕ) → AlikeStepBy Same Stands Row (Field h) (Field h)

  pub data AlikeStepsBy (Same : Val → Val → Type 0) (Stands Row : ℕ → ℕ → Type 0) : Steps → Steps → Type 0 where
    no_steps_alike : AlikeStepsBy Same Stands Row NoSteps NoSteps
    more_steps_alike : (ss rs : Steps) (at : Place) (s r : Step) → AlikeStepsBy Same Stands Row ss rs → AlikeStepBy Same Stands Row s r
        → AlikeStepsBy Same Stands Row (MoreSteps ss at s) (MoreSteps rs at r)

  pub data AlikeBoundsBy (Same : Val → Val → Type 0) (Stands Row : ℕ → ℕ → Type 0) : Bounds → Bounds → Type 0 where
    no_bounds_alike : AlikeBoundsBy Same Stands Row NoBounds NoBounds
    more_bounds_alike : (bs cs : Bounds) (n : ℕ) (e f : Term) → AlikeBoundsBy Same Stands Row bs cs → AlikeBy Same Stands Row e f
        → AlikeBoundsBy Same Stands Row (MoreBounds bs n e) (MoreBounds cs n f)

  pub data AlikeFieldsBy (Same : Val → Val → Type 0) (Stands Row : ℕ → ℕ → Type 0) : Fields → Fields → Type 0 where
    no_fields_alike : AlikeFieldsBy Same Stands Row NoFields NoFields
    more_fields_alike : (fs gs : Fields) (h : List ℕ) (e f : Term) → AlikeFieldsBy Same Stands Row fs gs → AlikeBy Same Stands Row e f
        → AlikeFieldsBy Same Stands Row (MoreFields fs h e) (MoreFields gs h f)

  pub data AlikeChangesBy (Same : Val → Val → Type 0) (Stands Row : ℕ → ℕ → Type 0) : Changes → Changes → Type 0 where
    no_changes_alike : AlikeChangesBy Same Stands Row NoChanges NoChanges
    more_changes_alike : (cs ds : Changes) (p q : Steps) (e f : Term) → AlikeChangesBy Same Stands Row cs ds → AlikeStepsBy Same Stands Row p q → AlikeBy Same Stands Row e f
        → AlikeChangesBy Same Stands Row (MoreChanges cs p e) (MoreChanges ds q f)

  pub data AlikeArmsBy (Same : Val → Val → Type 0) (Stands Row : ℕ → ℕ → Type 0) : Arms → Arms → Type 0 where
    no_arms_alike : AlikeArmsBy Same Stands Row NoArms NoArms
    more_arms_alike : (ps qs : Arms) (a b e f : Term) → AlikeArmsBy Same Stands Row ps qs → AlikeBy Same Stands Row a b → AlikeBy Same Stands Row e f
        → AlikeArmsBy Same Stands Row (MoreArms ps a e) (MoreArms qs b f)

  -- the definitions of these numbers stand for each other one by one
  pub data AlikeNumbersBy (Same : Val → Val → Type 0) (Stands Row : ℕ → ℕ → Type 0) : List ℕ → List ℕ → Type 0 where
    no_numbers_alike : AlikeNumbersBy Same Stands Row [] []
    more_numbers_alike : (k j : ℕ) (ks js : List ℕ) → Row k j → AlikeNumbersBy Same Stands Row ks js → AlikeNumbersBy Same Stands Row (k ∷ ks) (j ∷ js)

-- two definitions differ by the numbers in their bodies alone
pub record AlikeOperatorsBy (Same : Val → Val → Type 0) (Stands Row : ℕ → ℕ → Type 0) (o p : Operator) : Type 0 where
  pub name : o.name ≡ p.name
  pub outer : o.outer ≡ p.outer
  pub params : o.params ≡ p.params
  pub level : o.level ≡ p.level
  pub own : o.own ≡ p.own
  pub body : AlikeBy Same Stands Row o.body p.body

-- the definitions of these numbers are there, and differ so
pub record RowsBy (Same : Val → Val → Type 0) (Stands Row : ℕ → ℕ → Type 0) (ops all : List Operator) (k j : ℕ) : Type 0 where
  pub left : Operator
  pub right : Operator
  pub here : slice_get ops k ≡ Some left
  pub there : slice_get all j ≡ Some right
  pub same : AlikeOperatorsBy Same Stands Row left right

-- the definitions of these numbers are there, and all of them is the same but the bodies
pub record SameHeads (ops all : List Operator) (k j : ℕ) : Type 0 where
  pub left : Operator
  pub right : Operator
  pub here : slice_get ops k ≡ Some left
  pub there : slice_get all j ≡ Some right
  pub name : left.name ≡ right.name
  pub outer : left.outer ≡ right.outer
  pub params : left.params ≡ right.params
  pub level : left.level ≡ right.level
  pub own : left.own ≡ right.own

-- The definitions of these numbers are alike as far as is seen through so many uses, one inside the other: through none their heads alone are seen.
abbrev pub AlikeUpTo : (Val → Val → Type 0) → (ℕ → ℕ → Type 0) → List Operator → List Operator → ℕ → ℕ → ℕ → Type 0
AlikeUpTo Same Stands ops all zero k j = SameHeads ops all k j
AlikeUpTo Same Stands ops all (suc n) k j = RowsBy Same Stands (AlikeUpTo Same Stands ops all n) ops all k j

-- a variable stands for itself alone
abbrev pub IsOneVariable : ℕ → ℕ → Type 0
IsOneVariable x y = x ≡ y

-- The definitions of these numbers are alike: through however many uses they are seen. So definitions may use themselves, and one another. Where they are so,
-- and only there, their heads are the same and their bodies are alike.
abbrev pub AlikeRows : (Val → Val → Type 0) → List Operator → List Operator → ℕ → ℕ → Type 0
AlikeRows Same ops all k j = (n : ℕ) → AlikeUpTo Same IsOneVariable ops all n k j

-- terms that differ by the numbers of such definitions alone, and so each of their parts

abbrev pub Alike : (Val → Val → Type 0) → List Operator → List Operator → Term → Term → Type 0
Alike Same ops all e f = AlikeBy Same IsOneVariable (AlikeRows Same ops all) e f

abbrev pub AlikeMeanings : (Val → Val → Type 0) → List Operator → List Operator → Meaning → Meaning → Type 0
AlikeMeanings Same ops all m n = AlikeMeaningsBy Same IsOneVariable (AlikeRows Same ops all) m n

abbrev pub AlikeTerms : (Val → Val → Type 0) → List Operator → List Operator → Terms → Terms → Type 0
AlikeTerms Same ops all ts us = AlikeTermsBy Same IsOneVariable (AlikeRows Same ops all) ts us

abbrev pub AlikeOperands : (Val → Val → Type 0) → List Operator → List Operator → Operands → Operands → Type 0
AlikeOperands Same ops all os ps = AlikeOperandsBy Same IsOneVariable (AlikeRows Same ops all) os ps

abbrev pub AlikeStep : (Val → Val → Type 0) → List Operator → List Operator → Step → Step → Type 0
AlikeStep Same ops all s r = AlikeStepBy Same IsOneVariable (AlikeRows Same ops all) s r

abbrev pub AlikeSteps : (Val → Val → Type 0) → List Operator → List Operator → Steps → Steps → Type 0
AlikeSteps Same ops all ss rs = AlikeStepsBy Same IsOneVariable (AlikeRows Same ops all) ss rs

abbrev pub AlikeBounds : (Val → Val → Type 0) → List Operator → List Operator → Bounds → Bounds → Type 0
AlikeBounds Same ops all bs cs = AlikeBoundsBy Same IsOneVariable (AlikeRows Same ops all) bs cs

abbrev pub AlikeFields : (Val → Val → Type 0) → List Operator → List Operator → Fields → Fields → Type 0
AlikeFields Same ops all fs gs = AlikeFieldsBy Same IsOneVariable (AlikeRows Same ops all) fs gs

abbrev pub AlikeChanges : (Val → Val → Type 0) → List Operator → List Operator → Changes → Changes → Type 0
AlikeChanges Same ops all cs ds = AlikeChangesBy Same IsOneVariable (AlikeRows Same ops all) cs ds

abbrev pub AlikeArms : (Val → Val → Type 0) → List Operator → List Operator → Arms → Arms → Type 0
AlikeArms Same ops all ps qs = AlikeArmsBy Same IsOneVariable (AlikeRows Same ops all) ps qs

abbrev pub AlikeNumbers : (Val → Val → Type 0) → List Operator → List Operator → List ℕ → List ℕ → Type 0
AlikeNumbers Same ops all ks js = AlikeNumbersBy Same IsOneVariable (AlikeRows Same ops all) ks js
