-- The trees of an instance, node by node. An instance of a module is the module with other expressions in place of its constants and variables (Lamport,
-- Specifying Systems, 17.8). Here each name that nothing in the tree binds becomes the name that stands for it, and all else is as it was, places too.
--
-- Bound are parameters, the names of bounds, and the names of a LET: of its definitions each sees those before it and itself, and the expression behind IN
-- sees all. A bound name stays, whatever its spelling means in the module. What stands for a name is qualified, and nothing binds a qualified name: so no
-- bound name hides it. `@` and the names of fields are no names of the module.
use Rattle.std.specs.Prelude.{ℕ, if◌then◌else◌, List, [], ◌∷◌, ◌++◌, Option, Some, None}
use Rattle.base_core.specs.declared.place.Place.{Place}
use Rattle.names_scopes.specs.Mentions.{is_one_of}
use Rattle.reading_trees.specs.Trees.{Tree, Number, Str, Truth, Builtin, Name, Call, Qualified, At, Parenthesized, Junction, Prefix, Infix, Postfix, SetOf, Filter, Map, Tuple, Function, FunctionSet, Record, RecordSet, Except, Quantified, Choose, If, Case, CaseOther, Let, BoxAction, AngleAction, Fairness, Trees, NoTrees, MoreTrees, Operands, First, Next, Step, Prime, Index, Field, Steps, NoSteps, MoreSteps, Bounds, NoBounds, MoreBounds, Fields, NoFields, MoreFields, Changes, NoChanges, MoreChanges, Arms, NoArms, MoreArms, Definitions, NoDefinitions, MoreDefinitions}

-- the qualified name that stands for a name, or none where the name stays
abbrev pub StandIns : Type 0
StandIns = List ℕ → Option (List ℕ)

-- each name stays
abbrev pub no_stand_ins : StandIns
no_stand_ins n = None

abbrev pub unless_bound : List (List ℕ) → StandIns → StandIns
unless_bound bs by n = if is_one_of n bs then None else by n

-- a use of a name, and one with arguments
abbrev pub name_by : Option (List ℕ) → Place → List ℕ → Tree
name_by None at n = Name at n
name_by (Some q) at n = Qualified at q NoTrees

abbrev pub call_by : Option (List ℕ) → Place → List ℕ → Trees → Tree
call_by None at n es = Call at n es
call_by (Some q) at n es = Qualified at q es

-- a use of a qualified name, with arguments or none
abbrev pub qualified_by : Option (List ℕ) → Place → List ℕ → Trees → Tree
qualified_by None at n es = Qualified at n es
qualified_by (Some q) at n es = Qualified at q es

-- the names that bounds bind, and those that definitions do
abbrev pub bound_by : Bounds → List (List ℕ)
bound_by NoBounds = []
bound_by (MoreBounds bounds ns e) = bound_by bounds ++ ns

abbrev pub defined_by : Definitions → List (List ℕ)
defined_by NoDefinitions = []
defined_by (MoreDefinitions ds m at ps form e) = defined_by ds ++ m ∷ []

module _ (by : StandIns) where
  abbrev mutual
    -- the tree that is made of a tree around which these names are bound
    pub made : List (List ℕ) → Tree → Tree
    made bs (Number at z) = Number at z
    made bs (Str at s) = Str at s
    made bs (Truth at b) = Truth at b
    made bs (Builtin at b) = Builtin at b
    made bs (Name at n) = name_by (unless_bound bs by n) at n
    made bs (Call at n es) = call_by (unless_bound bs by n) at n (made_each bs es)
    made bs (Qualified at n es) = qualified_by (by n) at n (made_each bs es)
    made bs (At at) = At at
    made bs (Parenthesized at e) = Parenthesized at (made bs e)
    made bs (Junction at b es) = Junction at b (made_each bs es)
    made bs (Prefix at o e) = Prefix at o (made bs e)
    made bs (Infix at o os e) = Infix at o (made_operands bs os) (made bs e)
    made bs (Postfix at e ss s) = Postfix at (made bs e) (made_steps bs ss) (made_step bs s)
    made bs (SetOf at es) = SetOf at (made_each bs es)
    made bs (Filter at n s e) = Filter at n (made bs s) (made (bs ++ n ∷ []) e)
    made bs (Map at e bounds) = Map at (made (bs ++ bound_by bounds) e) (made_bounds bs bounds)
    made bs (Tuple at es) = Tuple at (made_each bs es)
    made bs (Function at bounds e) = Function at (made_bounds bs bounds) (made (bs ++ bound_by bounds) e)
    made bs (FunctionSet at s e) = FunctionSet at (made bs s) (made bs e)
    made bs (Record at fs) = Record at (made_fields bs fs)
    made bs (RecordSet at fs) = RecordSet at (made_fields bs fs)
    made bs (Except at e cs) = Except at (made bs e) (made_changes bs cs)
    made bs (Quantified at q bounds e) = Quantified at q (made_bounds bs bounds) (made (bs ++ bound_by bounds) e)
    made bs (Choose at n s e) = Choose at n (made bs s) (made (bs ++ n ∷ []) e)
    made bs (If at p e f) = If at (made bs p) (made bs e) (made bs f)
    made bs (Case at arms) = Case at (made_arms bs arms)
    made bs (CaseOther at arms e) = CaseOther at (made_arms bs arms) (made bs e)
    made bs (Let at ds e) = Let at (made_definitions bs ds) (made (bs ++ defined_by ds) e)
    made bs (BoxAction at e v) = BoxAction at (made bs e) (made bs v)
    made bs (AngleAction at e v) = AngleAction at (made bs e) (made bs v)
    made bs (Fairness at v e) = Fairness at (made bs v) (made bs e)

    pub made_each : List (List ℕ) → Trees → Trees
    made_each bs NoTrees = NoTrees
    made_each bs (MoreTrees es e) = MoreTrees (made_each bs es) (made bs e)

    pub made_operands : List (List ℕ) → Operands → Operands
    made_operands bs (First e) = First (made bs e)
    made_operands bs (Next os at e) = Next (made_operands bs os) at (made bs e)

    pub made_step : List (List ℕ) → Step → Step
    made_step bs Prime = Prime
    made_step bs (Index es) = Index (made_each bs es)
    made_step bs (Field h) = Field h

    pub made_steps : List (List ℕ) → Steps → Steps
    made_steps bs NoSteps = NoSteps
    made_steps bs (MoreSteps ss at s) = MoreSteps (made_steps bs ss) at (made_step bs s)

    -- a set of bounds does not see the names that they bind
    pub made_bounds : List (List ℕ) → Bounds → Bounds
    made_bounds bs NoBounds = NoBounds
    made_bounds bs (MoreBounds bounds ns e) = MoreBounds (made_bounds bs bounds) ns (made bs e)

    pub made_fields : List (List ℕ) → Fields → Fields
    made_fields bs NoFields = NoFields
    made_fields bs (MoreFields fs n e) = MoreFields (made_fields bs fs) n (made bs e)

    pub made_changes : List (List ℕ) → Changes → Changes
    made_changes bs NoChanges = NoChanges
    made_changes bs (MoreChanges cs path e) = MoreChanges (made_changes bs cs) (made_steps bs path) (made bs e)

    pub made_arms : List (List ℕ) → Arms → Arms
    made_arms bs NoArms = NoArms
    made_arms bs (MoreArms arms p e) = MoreArms (made_arms bs arms) (made bs p) (made bs e)

    -- a definition sees those before it, itself, and its parameters
    pub made_definitions : List (List ℕ) → Definitions → Definitions
    made_definitions bs NoDefinitions = NoDefinitions
    made_definitions bs (MoreDefinitions ds m at ps form e) =
        MoreDefinitions (made_definitions bs ds) m at ps form (made (bs ++ defined_by ds ++ m ∷ [] ++ ps) e)
