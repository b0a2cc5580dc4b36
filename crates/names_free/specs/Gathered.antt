-- For the prover: what a walk through a tree adds to the names that were found, in its order. A name is added where it occurs, if it is not among
-- those that are hidden there.
use Rattle.std.specs.Prelude.{ℕ, if◌then◌else◌, List, [], ◌∷◌, ◌++◌}
use Rattle.names_scopes.specs.Mentions.{is_one_of}
use Rattle.names_scopes.specs.Scopes.{at_sign}
use Rattle.reading_trees.specs.Trees.{Tree, Name, Call, Qualified, At, Parenthesized, Junction, Prefix, Infix, Postfix, SetOf, Filter, Map, Tuple, Function, FunctionSet, Record, RecordSet, Except, Quantified, Choose, If, Case, CaseOther, Let, BoxAction, AngleAction, Fairness, Trees, NoTrees, MoreTrees, Operands, First, Next, Step, Index, Steps, NoSteps, MoreSteps, Bounds, NoBounds, MoreBounds, Fields, NoFields, MoreFields, Changes, NoChanges, MoreChanges, Arms, NoArms, MoreArms, Definitions, NoDefinitions, MoreDefinitions}

abbrev pub NameList : Type 0
NameList = List (List ℕ)

-- the names that bounds bind
abbrev pub bound_by : Bounds → NameList
bound_by NoBounds = []
bound_by (MoreBounds bs ns e) = bound_by bs ++ ns

abbrev pub defined_by : Definitions → NameList
defined_by NoDefinitions = []
defined_by (MoreDefinitions ds m at ps form e) = defined_by ds ++ m ∷ []

-- a name that occurs under those that are hidden, behind those found
abbrev pub add : NameList → NameList → List ℕ → NameList
add hidden found n = if is_one_of n hidden then found else found ++ n ∷ []

abbrev mutual
  pub gather : NameList → NameList → Tree → NameList
  gather hs ns (Name at m) = add hs ns m
  gather hs ns (Call at m es) = gather_each hs (add hs ns m) es
  gather hs ns (Qualified at m es) = gather_each hs (add hs ns m) es
  gather hs ns (At at) = add hs ns at_sign
  gather hs ns (Parenthesized at e) = gather hs ns e
  gather hs ns (Junction at b es) = gather_each hs ns es
  gather hs ns (Prefix at o e) = gather hs ns e
  gather hs ns (Infix at o os e) = gather hs (gather_operands hs ns os) e
  gather hs ns (Postfix at e ss s) = gather_step hs (gather_steps hs (gather hs ns e) ss) s
  gather hs ns (SetOf at es) = gather_each hs ns es
  gather hs ns (Filter at m s e) = gather (hs ++ m ∷ []) (gather hs ns s) e
  gather hs ns (Map at e bs) = gather (hs ++ bound_by bs) (gather_bounds hs ns bs) e
  gather hs ns (Tuple at es) = gather_each hs ns es
  gather hs ns (Function at bs e) = gather (hs ++ bound_by bs) (gather_bounds hs ns bs) e
  gather hs ns (FunctionSet at s e) = gather hs (gather hs ns s) e
  gather hs ns (Record at fs) = gather_fields hs ns fs
  gather hs ns (RecordSet at fs) = gather_fields hs ns fs
  gather hs ns (Except at e cs) = gather_changes hs (gather hs ns e) cs
  gather hs ns (Quantified at q bs e) = gather (hs ++ bound_by bs) (gather_bounds hs ns bs) e
  gather hs ns (Choose at m s e) = gather (hs ++ m ∷ []) (gather hs ns s) e
  gather hs ns (If at p e f) = gather hs (gather hs (gather hs ns p) e) f
  gather hs ns (Case at arms) = gather_arms hs ns arms
  gather hs ns (CaseOther at arms e) = gather hs (gather_arms hs ns arms) e
  gather hs ns (Let at ds e) = gather (hs ++ defined_by ds) (gather_definitions hs ns ds) e
  gather hs ns (BoxAction at e v) = gather hs (gather hs ns e) v
  gather hs ns (AngleAction at e v) = gather hs (gather hs ns e) v
  gather hs ns (Fairness at v e) = gather hs (gather hs ns v) e
  gather hs ns _ = ns

  pub gather_each : NameList → NameList → Trees → NameList
  gather_each hs ns NoTrees = ns
  gather_each hs ns (MoreTrees es e) = gather hs (gather_each hs ns es) e

  pub gather_operands : NameList → NameList → Operands → NameList
  gather_operands hs ns (First e) = gather hs ns e
  gather_operands hs ns (Next os at e) = gather hs (gather_operands hs ns os) e

  pub gather_step : NameList → NameList → Step → NameList
  gather_step hs ns (Index es) = gather_each hs ns es
  gather_step hs ns _ = ns

  pub gather_steps : NameList → NameList → Steps → NameList
  gather_steps hs ns NoSteps = ns
  gather_steps hs ns (MoreSteps ss at s) = gather_step hs (gather_steps hs ns ss) s

  pub gather_bounds : NameList → NameList → Bounds → NameList
  gather_bounds hs ns NoBounds = ns
  gather_bounds hs ns (MoreBounds bs ms e) = gather hs (gather_bounds hs ns bs) e

  pub gather_fields : NameList → NameList → Fields → NameList
  gather_fields hs ns NoFields = ns
  gather_fields hs ns (MoreFields fs m e) = gather hs (gather_fields hs ns fs) e

  pub gather_changes : NameList → NameList → Changes → NameList
  gather_changes hs ns NoChanges = ns
  gather_changes hs ns (MoreChanges cs path e) = gather (hs ++ at_sign ∷ []) (gather_steps hs (gather_changes hs ns cs) path) e

  pub gather_arms : NameList → NameList → Arms → NameList
  gather_arms hs ns NoArms = ns
  gather_arms hs ns (MoreArms arms p e) = gather hs (gather hs (gather_arms hs ns arms) p) e

  -- a definition sees itself and those before it
  pub gather_definitions : NameList → NameList → Definitions → NameList
  gather_definitions hs ns NoDefinitions = ns
  gather_definitions hs ns (MoreDefinitions ds m at ps form e) = gather (hs ++ defined_by ds ++ m ∷ [] ++ ps) (gather_definitions hs ns ds) e
