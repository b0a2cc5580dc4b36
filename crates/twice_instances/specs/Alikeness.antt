-- Terms that differ by the numbers of definitions and by their variables alone: each over a table of its own, and each variable of the one has that of the other
-- which stands for it. Definitions may have other names too, as those of an instance have. All else is the same, places and levels too.
use Rattle.std.specs.Prelude.{◌≡◌, ℕ, zero, suc, List, Some, slice_get}
use Rattle.names_terms.specs.declared.operator.Operator.{Operator}
use Rattle.names_terms.specs.Terms.{Term, Meaning, Terms, Operands, Step, Steps, Bounds, Fields, Changes, Arms}
use Rattle.twice_terms.specs.Alike.{AlikeBy, AlikeMeaningsBy, AlikeTermsBy, AlikeOperandsBy, AlikeStepBy, AlikeStepsBy, AlikeBoundsBy, AlikeFieldsBy, AlikeChangesBy, AlikeArmsBy, AlikeNumbersBy}
use Rattle.twice_terms.specs.Laws.{AreOne}

-- two definitions that differ so, where it is told which definitions stand for each other
pub record LikeOperatorsBy (Stands Row : ℕ → ℕ → Type 0) (o p : Operator) : Type 0 where
  pub outer : o.outer ≡ p.outer
  pub params : o.params ≡ p.params
  pub level : o.level ≡ p.level
  pub own : o.own ≡ p.own
  pub body : AlikeBy AreOne Stands Row o.body p.body

-- the definitions of these numbers are there, and differ so
pub record LikeRowsBy (Stands Row : ℕ → ℕ → Type 0) (ops all : List Operator) (k j : ℕ) : Type 0 where
  pub left : Operator
  pub right : Operator
  pub here : slice_get ops k ≡ Some left
  pub there : slice_get all j ≡ Some right
  pub same : LikeOperatorsBy Stands Row left right

-- the definitions of these numbers are there, and all of them is the same but the names and the bodies
pub record LikeHeads (ops all : List Operator) (k j : ℕ) : Type 0 where
  pub left : Operator
  pub right : Operator
  pub here : slice_get ops k ≡ Some left
  pub there : slice_get all j ≡ Some right
  pub outer : left.outer ≡ right.outer
  pub params : left.params ≡ right.params
  pub level : left.level ≡ right.level
  pub own : left.own ≡ right.own

-- The definitions of these numbers differ so as far as is seen through so many uses, one inside the other: through none their heads alone are seen.
abbrev pub LikeUpTo : (ℕ → ℕ → Type 0) → List Operator → List Operator → ℕ → ℕ → ℕ → Type 0
LikeUpTo Stands ops all zero k j = LikeHeads ops all k j
LikeUpTo Stands ops all (suc n) k j = LikeRowsBy Stands (LikeUpTo Stands ops all n) ops all k j

-- Through however many uses they are seen. So definitions may use themselves, and one another.
abbrev pub LikeRows : (ℕ → ℕ → Type 0) → List Operator → List Operator → ℕ → ℕ → Type 0
LikeRows Stands ops all k j = (n : ℕ) → LikeUpTo Stands ops all n k j

-- two definitions whose bodies use such alone
abbrev pub LikeOperators : (ℕ → ℕ → Type 0) → List Operator → List Operator → Operator → Operator → Type 0
LikeOperators Stands ops all o p = LikeOperatorsBy Stands (LikeRows Stands ops all) o p

-- terms that differ so, and their parts

abbrev pub Like : (ℕ → ℕ → Type 0) → List Operator → List Operator → Term → Term → Type 0
Like Stands ops all e f = AlikeBy AreOne Stands (LikeRows Stands ops all) e f

abbrev pub LikeMeanings : (ℕ → ℕ → Type 0) → List Operator → List Operator → Meaning → Meaning → Type 0
LikeMeanings Stands ops all x y = AlikeMeaningsBy AreOne Stands (LikeRows Stands ops all) x y

abbrev pub LikeTerms : (ℕ → ℕ → Type 0) → List Operator → List Operator → Terms → Terms → Type 0
LikeTerms Stands ops all x y = AlikeTermsBy AreOne Stands (LikeRows Stands ops all) x y

abbrev pub LikeOperands : (ℕ → ℕ → Type 0) → List Operator → List Operator → Operands → Operands → Type 0
LikeOperands Stands ops all x y = AlikeOperandsBy AreOne Stands (LikeRows Stands ops all) x y

abbrev pub LikeStep : (ℕ → ℕ → Type 0) → List Operator → List Operator → Step → Step → Type 0
LikeStep Stands ops all x y = AlikeStepBy AreOne Stands (LikeRows Stands ops all) x y

abbrev pub LikeSteps : (ℕ → ℕ → Type 0) → List Operator → List Operator → Steps → Steps → Type 0
LikeSteps Stands ops all x y = AlikeStepsBy AreOne Stands (LikeRows Stands ops all) x y

abbrev pub LikeBounds : (ℕ → ℕ → Type 0) → List Operator → List Operator → Bounds → Bounds → Type 0
LikeBounds Stands ops all x y = AlikeBoundsBy AreOne Stands (LikeRows Stands ops all) x y

abbrev pub LikeFields : (ℕ → ℕ → Type 0) → List Operator → List Operator → Fields → Fields → Type 0
LikeFields Stands ops all x y = AlikeFieldsBy AreOne Stands (LikeRows Stands ops all) x y

abbrev pub LikeChanges : (ℕ → ℕ → Type 0) → List Operator → List Operator → Changes → Changes → Type 0
LikeChanges Stands ops all x y = AlikeChangesBy AreOne Stands (LikeRows Stands ops all) x y

abbrev pub LikeArms : (ℕ → ℕ → Type 0) → List Operator → List Operator → Arms → Arms → Type 0
LikeArms Stands ops all x y = AlikeArmsBy AreOne Stands (LikeRows Stands ops all) x y

abbrev pub LikeNumbers : (ℕ → ℕ → Type 0) → List Operator → List Operator → List ℕ → List ℕ → Type 0
LikeNumbers Stands ops all x y = AlikeNumbersBy AreOne Stands (LikeRows Stands ops all) x y
