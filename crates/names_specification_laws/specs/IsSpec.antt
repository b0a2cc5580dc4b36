-- A specification in order, part by part: what resolving gives, and what every call above asks for.
use Rattle.std.specs.Prelude.{◌≡◌, ◌≢◌, ◌<◌, ◌≤◌, ◌+◌, ℕ, true, false, List, [], length, All, AllPairs, Some, IfSome, Contains, slice_get}
use Rattle.base_core.specs.declared.place.Place.{Place}
use Rattle.reading_trees.specs.declared.operators.InfixOperator.{InfixOperator}
use Rattle.reading_trees.specs.Precedence.{chains}
use Rattle.names_terms.specs.declared.level.Level.{Level}
use Rattle.names_terms.specs.declared.level.Level.TheVariants.{Constant, State, Action}
use Rattle.names_terms.specs.declared.ids.DefId.{DefId}
use Rattle.names_terms.specs.declared.operator.Operator.{Operator}
use Rattle.names_terms.specs.declared.standard.StandardOperator.{StandardOperator}
use Rattle.names_terms.specs.declared.standard.StandardOperator.TheVariants as operators
use Rattle.names_terms.specs.declared.spec.Spec.{Spec}
use Rattle.names_terms.specs.Terms as term
use Rattle.names_terms.specs.Terms.{Term, Meaning, Terms, Operands, Step, Steps, Bounds, Fields, Changes, count, level_of}
use Rattle.names_terms.specs.Levels.{level_for}
use Rattle.names_terms.specs.Lists.{terms_list, fields_list, bounds_list}
use Rattle.names_term_parts.specs.declared.fault.LevelFault.{LevelFault}
use Rattle.names_term_parts.specs.Limits.{is_above}
use Rattle.names_term_parts.specs.Slots.{Mentions, UsesSmaller, MentionsBelow}
use Rattle.names_term_levels.specs.Faults.{IsFault}
use Rattle.names_meanings.specs.Means.{is_junction}
use Rattle.names_specification_laws.specs.Everywhere.{Everywhere}

-- how many arguments an operator of a standard module takes
abbrev pub needed_by : StandardOperator → ℕ
needed_by operators.Append = 2
needed_by operators.SubSeq = 3
needed_by o = 1

-- The definition of that number takes so many arguments, and the slots around it are in scope.
pub record IsUse (ops : List Operator) (n k : ℕ) (ts : Terms) : Type 0 where
  pub operator : Operator
  pub is : slice_get ops k ≡ Some operator
  pub arguments : count ts ≡ operator.params
  pub around : operator.outer ≤ n

-- numbers and slots are in range, and each use has its arguments
abbrev pub IsInRange : ℕ → List Operator → ℕ → Meaning → Type 0
IsInRange variables ops n (term.Variable x) = x < variables
IsInRange variables ops n (term.Slot i) = i < n
IsInRange variables ops n (term.Use k ts) = IsUse ops n k ts
IsInRange variables ops n (term.Standard o ts) = count ts ≡ needed_by o
IsInRange variables ops n (term.Scoped ks e) = All (λ k. k < length ops) ks
IsInRange variables ops n m = Unit {0}

-- each set of bounds binds a name at least, and there is one
abbrev pub AreBounds : Bounds → Type 0
AreBounds bs = (bounds_list bs ≢ []) × All (λ b. 0 < b.0) (bounds_list bs)

abbrev pub IsStep : Step → Type 0
IsStep term.Prime = Unit {0}
IsStep (term.Index ts) = 0 < count ts
IsStep (term.Field h) = Unit {0}

abbrev pub AreSteps : Steps → Type 0
AreSteps term.NoSteps = Unit {0}
AreSteps (term.MoreSteps ss at s) = AreSteps ss × IsStep s

abbrev pub IsKey : Step → Type 0
IsKey term.Prime = ⊥
IsKey (term.Index ts) = Unit {0}
IsKey (term.Field h) = Unit {0}

abbrev pub AreKeys : Steps → Type 0
AreKeys term.NoSteps = Unit {0}
AreKeys (term.MoreSteps ss at s) = AreKeys ss × IsKey s

-- the path of a change is one or more steps, none of them a prime
abbrev pub ArePaths : Changes → Type 0
ArePaths term.NoChanges = Unit {0}
ArePaths (term.MoreChanges cs path e) = ArePaths cs × (path ≢ term.NoSteps) × AreSteps path × AreKeys path

-- the operands of a chain but its last: more than two operands only in a chain that may have them
abbrev pub AreOperands : InfixOperator → Operands → Type 0
AreOperands o (term.First e) = Unit {0}
AreOperands o (term.Next os at e) = AreOperands o os × (chains o ≡ true)

-- no two fields have one name
abbrev pub AreFields : Fields → Type 0
AreFields fs = (fields_list fs ≢ []) × AllPairs (λ f g. f.0 ≢ g.0) (fields_list fs)

-- each list has as many parts as its row of the grammar asks for, and no record has a field twice
abbrev pub HasParts : Meaning → Type 0
HasParts (term.All ts) = 0 < count ts
HasParts (term.Any ts) = 0 < count ts
HasParts (term.Infix o os e) = (is_junction o ≡ false) × AreOperands o os
HasParts (term.Postfix e ss s) = AreSteps ss × IsStep s
HasParts (term.Map e bs) = AreBounds bs
HasParts (term.Function bs e) = AreBounds bs
HasParts (term.Record fs) = AreFields fs
HasParts (term.RecordSet fs) = AreFields fs
HasParts (term.Except e cs) = (cs ≢ term.NoChanges) × ArePaths cs
HasParts (term.Quantified q bs e) = AreBounds bs
HasParts (term.Case arms) = arms ≢ term.NoArms
HasParts (term.CaseOther arms e) = arms ≢ term.NoArms
HasParts m = Unit {0}

abbrev pub IsRow : ℕ → List Operator → ℕ → Place → Level → Meaning → Type 0
IsRow variables ops n at l m = IsInRange variables ops n m × HasParts m × (l ≡ level_for ops m)

-- a term with so many slots around it
pub record IsTerm (variables : ℕ) (ops : List Operator) (n : ℕ) (e : Term) : Type 0 where
  pub rows : Everywhere (IsRow variables ops) n e
  pub bounded : (f : LevelFault) → IsFault ops e f → ⊥

abbrev pub IsAtMost : Level → Term → Type 0
IsAtMost l e = is_above (level_of e) l ≡ false

-- the operator of the steps without a line has no parameters
pub record IsSilent (ops : List Operator) (k : ℕ) : Type 0 where
  pub operator : Operator
  pub is : slice_get ops k ≡ Some operator
  pub named : operator.name ≢ []
  pub alone : operator.params ≡ 0
  pub level : is_above operator.level Action ≡ false

-- the definition has a name, or Init, Next or an assumption mentions it, or the steps without a line are its own
pub data IsNeeded (s : Spec) : ℕ → Type 0 where
  has_name : (k : ℕ) (o : Operator) → slice_get s.operators k ≡ Some o → o.name ≢ [] → IsNeeded s k
  in_init : (k : ℕ) → Mentions s.init k → IsNeeded s k
  in_next : (k : ℕ) → Mentions s.next k → IsNeeded s k
  in_assumption : (e : Term) (k : ℕ) → Contains (terms_list s.assumes) e → Mentions e k → IsNeeded s k
  is_silent : (d : DefId) → s.silent ≡ Some d → IsNeeded s d.0

-- The definition is needed, or the body of one that is reached mentions it. Nothing is said of others, which nothing reads.
pub data IsReached (s : Spec) : ℕ → Type 0 where
  needed : (k : ℕ) → IsNeeded s k → IsReached s k
  in_body : (j : ℕ) (o : Operator) (k : ℕ) → IsReached s j → slice_get s.operators j ≡ Some o → Mentions o.body k → IsReached s k

pub record IsSpec (s : Spec) : Type 0 where
  pub few : length s.variables ≤ 64
  pub variables_differ : AllPairs (λ a b. a ≢ b) s.variables
  pub operators_differ : (j k : ℕ) (o q : Operator) → slice_get s.operators j ≡ Some o → slice_get s.operators k ≡ Some q → o.name ≢ [] → o.name ≡ q.name → j ≡ k
  -- a definition with a name is none of a LET: no slots stand around it
  pub outermost : (k : ℕ) (o : Operator) → slice_get s.operators k ≡ Some o → o.name ≢ [] → o.outer ≡ 0
  pub smaller : UsesSmaller s.operators
  pub bodies : (k : ℕ) (o : Operator) → IsReached s k → slice_get s.operators k ≡ Some o → IsTerm (length s.variables) s.operators (o.outer + o.params) o.body × (o.level ≡ level_of o.body)
  pub init : IsTerm (length s.variables) s.operators 0 s.init × IsAtMost State s.init
  pub next : IsTerm (length s.variables) s.operators 0 s.next × IsAtMost Action s.next
  pub uses : MentionsBelow (length s.operators) s.init × MentionsBelow (length s.operators) s.next
  pub silent : IfSome s.silent (λ d. IsSilent s.operators d.0)
  pub assumes : (e : Term) → Contains (terms_list s.assumes) e → IsTerm (length s.variables) s.operators 0 e × IsAtMost Constant e
