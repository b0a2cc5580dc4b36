-- Which definitions without a name stand in the table of a specification: those of LETs alone, each of one LET. The definitions of the program have names.
use Rattle.std.specs.Prelude.{◌≡◌, ◌≢◌, ◌+◌, ◌==◌, ℕ, Bool, true, false, Contains, List, [], ◌∷◌, ◌++◌, Option, Some, None, slice_get}
use Rattle.names_terms.specs.declared.operator.Operator.{Operator}
use Rattle.names_terms.specs.Terms.{Term, Placed, Meaning, Known, Named, Variable, Slot, Use, Standard, Parenthesized, Scoped, All, Any, Prefix, Infix, Postfix, SetOf, Filter, Map, Tuple, Function, FunctionSet, Record, RecordSet, Except, Quantified, Choose, If, Case, CaseOther, BoxAction, AngleAction, Fairness, Terms, NoTerms, MoreTerms, Operands, First, Next, Step, Prime, Index, Field, Steps, NoSteps, MoreSteps, Bounds, NoBounds, MoreBounds, Fields, NoFields, MoreFields, Changes, NoChanges, MoreChanges, Arms, NoArms, MoreArms}

-- ---- what LETs list

-- the numbers of the definitions that the LETs of a term list
abbrev mutual
  pub lets : Term → List ℕ
  lets (Placed at l m) = lets_in m

  pub lets_in : Meaning → List ℕ
  lets_in (Known v) = []
  lets_in (Named s) = []
  lets_in (Variable x) = []
  lets_in (Slot i) = []
  lets_in (Use k ts) = lets_each ts
  lets_in (Standard o ts) = lets_each ts
  lets_in (Parenthesized e) = lets e
  lets_in (Scoped ks e) = ks ++ lets e
  lets_in (All ts) = lets_each ts
  lets_in (Any ts) = lets_each ts
  lets_in (Prefix o e) = lets e
  lets_in (Infix o os e) = lets_operands os ++ lets e
  lets_in (Postfix e ss s) = lets e ++ (lets_steps ss ++ lets_step s)
  lets_in (SetOf ts) = lets_each ts
  lets_in (Filter s e) = lets s ++ lets e
  lets_in (Map e bs) = lets e ++ lets_bounds bs
  lets_in (Tuple ts) = lets_each ts
  lets_in (Function bs e) = lets_bounds bs ++ lets e
  lets_in (FunctionSet s e) = lets s ++ lets e
  lets_in (Record fs) = lets_fields fs
  lets_in (RecordSet fs) = lets_fields fs
  lets_in (Except e cs) = lets e ++ lets_changes cs
  lets_in (Quantified q bs e) = lets_bounds bs ++ lets e
  lets_in (Choose s e) = lets s ++ lets e
  lets_in (If p e f) = lets p ++ (lets e ++ lets f)
  lets_in (Case arms) = lets_arms arms
  lets_in (CaseOther arms e) = lets_arms arms ++ lets e
  lets_in (BoxAction e v) = lets e ++ lets v
  lets_in (AngleAction e v) = lets e ++ lets v
  lets_in (Fairness v e) = lets v ++ lets e

  pub lets_each : Terms → List ℕ
  lets_each NoTerms = []
  lets_each (MoreTerms ts e) = lets_each ts ++ lets e

  pub lets_operands : Operands → List ℕ
  lets_operands (First e) = lets e
  lets_operands (Next os at e) = lets_operands os ++ lets e

  pub lets_step : Step → List ℕ
  lets_step Prime = []
  lets_step (Index ts) = lets_each ts
  lets_step (Field n) = []

  pub lets_steps : Steps → List ℕ
  lets_steps NoSteps = []
  lets_steps (MoreSteps ss at s) = lets_steps ss ++ lets_step s

  pub lets_bounds : Bounds → List ℕ
  lets_bounds NoBounds = []
  lets_bounds (MoreBounds bs n e) = lets_bounds bs ++ lets e

  pub lets_fields : Fields → List ℕ
  lets_fields NoFields = []
  lets_fields (MoreFields fs n e) = lets_fields fs ++ lets e

  pub lets_changes : Changes → List ℕ
  lets_changes NoChanges = []
  lets_changes (MoreChanges cs path e) = lets_changes cs ++ (lets_steps path ++ lets e)

  pub lets_arms : Arms → List ℕ
  lets_arms NoArms = []
  lets_arms (MoreArms arms p e) = lets_arms arms ++ (lets p ++ lets e)

-- those of the LETs in some terms, and in the bodies of definitions
abbrev pub lets_of_terms : List Term → List ℕ
lets_of_terms [] = []
lets_of_terms (e ∷ es) = lets e ++ lets_of_terms es

abbrev pub lets_of_bodies : List Operator → List ℕ
lets_of_bodies [] = []
lets_of_bodies (o ∷ os) = lets o.body ++ lets_of_bodies os

-- ---- each is of one

abbrev pub one_if : Bool → ℕ
one_if true = 1
one_if false = 0

-- how often a number stands in a list
abbrev pub times : ℕ → List ℕ → ℕ
times k [] = 0
times k (j ∷ js) = one_if (j == k) + times k js

abbrev pub is_empty : List ℕ → Bool
is_empty [] = true
is_empty (c ∷ cs) = false

-- a definition stands there that has no name
abbrev pub is_nameless : Option Operator → Bool
is_nameless None = false
is_nameless (Some o) = is_empty o.name

-- The definition of that number is one of a LET: of one in the body of a definition that has a name, of one in what is assumed, or of one in the body of another
-- such definition.
pub data IsOfLet (ops : List Operator) (assumes : List Term) : ℕ → Type 0 where
  in_a_definition : (j k : ℕ) (o : Operator) → slice_get ops j ≡ Some o → o.name ≢ [] → Contains (lets o.body) k → IsOfLet ops assumes k
  in_an_assumption : (k : ℕ) → Contains (lets_of_terms assumes) k → IsOfLet ops assumes k
  in_another : (j k : ℕ) (o : Operator) → IsOfLet ops assumes j → slice_get ops j ≡ Some o → Contains (lets o.body) k → IsOfLet ops assumes k

-- Each definition without a name is one of a LET, and of no other LET; and LETs list no other definitions.
pub record EachIsOfOneLet (ops : List Operator) (assumes : List Term) : Type 0 where
  pub is : (k : ℕ) (o : Operator) → slice_get ops k ≡ Some o → o.name ≡ [] → IsOfLet ops assumes k
  pub once : (k : ℕ) → times k (lets_of_bodies ops ++ lets_of_terms assumes) ≡ one_if (is_nameless (slice_get ops k))
