-- Calls of TLC's operators for assertions and for printing, spelled out. What they print is no part of a step, and an assertion that fails has no value. So, at
-- the place of the call:
--
--     Assert(p, t)    CASE p -> TRUE
--     Print(t, e)     (e)
--     PrintT(t)       TRUE
--     TLCEval(e)      (e)
--
-- A name that is bound around the call is no operator of TLC, nor is one that the program has itself (see Programs). All else stays, places too.
use Rattle.std.specs.Prelude.{ℕ, Bool, true, false, if◌then◌else◌, List, [], ◌∷◌, ◌++◌, codes}
use Rattle.std.specs.Str.{bytes_eq}
use Rattle.base_core.specs.declared.place.Place.{Place}
use Rattle.names_scopes.specs.Mentions.{is_one_of}
use Rattle.reading_trees.specs.Trees.{Tree, Number, Str, Truth, Builtin, Name, Call, Qualified, At, Parenthesized, Junction, Prefix, Infix, Postfix, SetOf, Filter, Map, Tuple, Function, FunctionSet, Record, RecordSet, Except, Quantified, Choose, If, Case, CaseOther, Let, BoxAction, AngleAction, Fairness, Trees, NoTrees, MoreTrees, Operands, First, Next, Step, Prime, Index, Field, Steps, NoSteps, MoreSteps, Bounds, NoBounds, MoreBounds, Fields, NoFields, MoreFields, Changes, NoChanges, MoreChanges, Arms, NoArms, MoreArms, Definitions, NoDefinitions, MoreDefinitions}

-- a call with one argument, and one with two
abbrev pub with_one : Place → List ℕ → Tree → Tree
with_one at n e =
    if bytes_eq n (codes "PrintT") then Truth at true
    else (if bytes_eq n (codes "TLCEval") then Parenthesized at e else Call at n (MoreTrees NoTrees e))

abbrev pub with_two : Place → List ℕ → Tree → Tree → Tree
with_two at n e f =
    if bytes_eq n (codes "Assert") then Case at (MoreArms NoArms e (Truth at true))
    else (if bytes_eq n (codes "Print") then Parenthesized at f else Call at n (MoreTrees (MoreTrees NoTrees e) f))

-- a call whose name is no other's
abbrev pub called_of : Place → List ℕ → Trees → Tree
called_of at n NoTrees = Call at n NoTrees
called_of at n (MoreTrees NoTrees e) = with_one at n e
called_of at n (MoreTrees (MoreTrees NoTrees e) f) = with_two at n e f
called_of at n (MoreTrees (MoreTrees (MoreTrees es d) e) f) = Call at n (MoreTrees (MoreTrees (MoreTrees es d) e) f)

-- a call with these arguments, where the name is another's or not
abbrev pub called : Bool → Place → List ℕ → Trees → Tree
called true at n es = Call at n es
called false at n es = called_of at n es

-- the names that bounds bind, and those that definitions do
abbrev pub bound_by : Bounds → List (List ℕ)
bound_by NoBounds = []
bound_by (MoreBounds bounds ns e) = bound_by bounds ++ ns

abbrev pub defined_by : Definitions → List (List ℕ)
defined_by NoDefinitions = []
defined_by (MoreDefinitions ds m at ps form e) = defined_by ds ++ m ∷ []

abbrev mutual
  -- the tree where these names are bound around it, or mean something of the program's own
  pub spelled : List (List ℕ) → Tree → Tree
  spelled bs (Number at z) = Number at z
  spelled bs (Str at s) = Str at s
  spelled bs (Truth at b) = Truth at b
  spelled bs (Builtin at b) = Builtin at b
  spelled bs (Name at n) = Name at n
  spelled bs (Call at n es) = called (is_one_of n bs) at n (spelled_each bs es)
  spelled bs (Qualified at n es) = Qualified at n (spelled_each bs es)
  spelled bs (At at) = At at
  spelled bs (Parenthesized at e) = Parenthesized at (spelled bs e)
  spelled bs (Junction at b es) = Junction at b (spelled_each bs es)
  spelled bs (Prefix at o e) = Prefix at o (spelled bs e)
  spelled bs (Infix at o os e) = Infix at o (spelled_operands bs os) (spelled bs e)
  spelled bs (Postfix at e ss s) = Postfix at (spelled bs e) (spelled_steps bs ss) (spelled_step bs s)
  spelled bs (SetOf at es) = SetOf at (spelled_each bs es)
  spelled bs (Filter at n s e) = Filter at n (spelled bs s) (spelled (bs ++ n ∷ []) e)
  spelled bs (Map at e bounds) = Map at (spelled (bs ++ bound_by bounds) e) (spelled_bounds bs bounds)
  spelled bs (Tuple at es) = Tuple at (spelled_each bs es)
  spelled bs (Function at bounds e) = Function at (spelled_bounds bs bounds) (spelled (bs ++ bound_by bounds) e)
  spelled bs (FunctionSet at s e) = FunctionSet at (spelled bs s) (spelled bs e)
  spelled bs (Record at fs) = Record at (spelled_fields bs fs)
  spelled bs (RecordSet at fs) = RecordSet at (spelled_fields bs fs)
  spelled bs (Except at e cs) = Except at (spelled bs e) (spelled_changes bs cs)
  spelled bs (Quantified at q bounds e) = Quantified at q (spelled_bounds bs bounds) (spelled (bs ++ bound_by bounds) e)
  spelled bs (Choose at n s e) = Choose at n (spelled bs s) (spelled (bs ++ n ∷ []) e)
  spelled bs (If at p e f) = If at (spelled bs p) (spelled bs e) (spelled bs f)
  spelled bs (Case at arms) = Case at (spelled_arms bs arms)
  spelled bs (CaseOther at arms e) = CaseOther at (spelled_arms bs arms) (spelled bs e)
  spelled bs (Let at ds e) = Let at (spelled_definitions bs ds) (spelled (bs ++ defined_by ds) e)
  spelled bs (BoxAction at e v) = BoxAction at (spelled bs e) (spelled bs v)
  spelled bs (AngleAction at e v) = AngleAction at (spelled bs e) (spelled bs v)
  spelled bs (Fairness at v e) = Fairness at (spelled bs v) (spelled bs e)

  pub spelled_each : List (List ℕ) → Trees → Trees
  spelled_each bs NoTrees = NoTrees
  spelled_each bs (MoreTrees es e) = MoreTrees (spelled_each bs es) (spelled bs e)

  pub spelled_operands : List (List ℕ) → Operands → Operands
  spelled_operands bs (First e) = First (spelled bs e)
  spelled_operands bs (Next os at e) = Next (spelled_operands bs os) at (spelled bs e)

  pub spelled_step : List (List ℕ) → Step → Step
  spelled_step bs Prime = Prime
  spelled_step bs (Index es) = Index (spelled_each bs es)
  spelled_step bs (Field h) = Field h

  pub spelled_steps : List (List ℕ) → Steps → Steps
  spelled_steps bs NoSteps = NoSteps
  spelled_steps bs (MoreSteps ss at s) = MoreSteps (spelled_steps bs ss) at (spelled_step bs s)

  -- a set of bounds does not see the names that they bind
  pub spelled_bounds : List (List ℕ) → Bounds → Bounds
  spelled_bounds bs NoBounds = NoBounds
  spelled_bounds bs (MoreBounds bounds ns e) = MoreBounds (spelled_bounds bs bounds) ns (spelled bs e)

  pub spelled_fields : List (List ℕ) → Fields → Fields
  spelled_fields bs NoFields = NoFields
  spelled_fields bs (MoreFields fs n e) = MoreFields (spelled_fields bs fs) n (spelled bs e)

  pub spelled_changes : List (List ℕ) → Changes → Changes
  spelled_changes bs NoChanges = NoChanges
  spelled_changes bs (MoreChanges cs path e) = MoreChanges (spelled_changes bs cs) (spelled_steps bs path) (spelled bs e)

  pub spelled_arms : List (List ℕ) → Arms → Arms
  spelled_arms bs NoArms = NoArms
  spelled_arms bs (MoreArms arms p e) = MoreArms (spelled_arms bs arms) (spelled bs p) (spelled bs e)

  -- a definition sees those before it, itself, and its parameters
  pub spelled_definitions : List (List ℕ) → Definitions → Definitions
  spelled_definitions bs NoDefinitions = NoDefinitions
  spelled_definitions bs (MoreDefinitions ds m at ps form e) =
      MoreDefinitions (spelled_definitions bs ds) m at ps form (spelled (bs ++ defined_by ds ++ m ∷ [] ++ ps) e)
