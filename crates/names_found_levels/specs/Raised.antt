-- For the prover: whether a tree is above level 0, or something before it was, as a walk finds it in its order. `hs` are the names that are bound or
-- defined around, with what they are, from the outermost.
use Rattle.std.specs.Prelude.{ℕ, Bool, true, false, ◌||◌, List, [], ◌∷◌, ◌++◌}
use Rattle.reading_trees.specs.Trees.{Tree, Name, Call, Qualified, At, Parenthesized, Junction, Prefix, Infix, Postfix, SetOf, Filter, Map, Tuple, Function, FunctionSet, Record, RecordSet, Except, Quantified, Choose, If, Case, CaseOther, Let, BoxAction, AngleAction, Fairness, Trees, NoTrees, MoreTrees, Operands, First, Next, Step, Prime, Index, Field, Steps, NoSteps, MoreSteps, Bounds, NoBounds, MoreBounds, Fields, NoFields, MoreFields, Changes, NoChanges, MoreChanges, Arms, NoArms, MoreArms, Definitions, NoDefinitions, MoreDefinitions}
use Rattle.names_scopes.specs.Scopes.{at_sign}
use Rattle.names_found_levels.specs.declared.around.NameMark.{NameMark}
use Rattle.names_least_levels.specs.Rising.{Rising, with_name, prefix_rises, infix_rises}

abbrev pub Marks : Type 0
Marks = List NameMark

abbrev pub marked : List ℕ → Bool → NameMark
marked n b = record { name = n; rises = b }

abbrev pub unmarked : List ℕ → NameMark
unmarked n = marked n false

-- names that are bound
abbrev pub names_marked : List (List ℕ) → Marks
names_marked [] = []
names_marked (n ∷ ns) = unmarked n ∷ names_marked ns

-- with the names around
abbrev pub told : Rising → Marks → Rising
told g [] = g
told g (m ∷ ms) = told (with_name g m.name m.rises) ms

abbrev pub bound_by : Bounds → Marks
bound_by NoBounds = []
bound_by (MoreBounds bs ns e) = bound_by bs ++ names_marked ns

-- the own name of a definition in its body
abbrev pub own : List ℕ → Marks
own n = unmarked n ∷ []

abbrev mutual
  pub raise : Rising → Marks → Bool → Tree → Bool
  raise g hs b (Name at n) = b || told g hs n
  raise g hs b (Call at n es) = raise_each g hs (b || told g hs n) es
  raise g hs b (Qualified at n es) = raise_each g hs (b || told g hs n) es
  raise g hs b (At at) = b || told g hs at_sign
  raise g hs b (Parenthesized at e) = raise g hs b e
  raise g hs b (Junction at o es) = raise_each g hs b es
  raise g hs b (Prefix at o e) = raise g hs (b || prefix_rises o) e
  raise g hs b (Infix at o os e) = raise g hs (raise_operands g hs (b || infix_rises o) os) e
  raise g hs b (Postfix at e ss s) = raise_step g hs (raise_steps g hs (raise g hs b e) ss) s
  raise g hs b (SetOf at es) = raise_each g hs b es
  raise g hs b (Filter at n s e) = raise g (hs ++ unmarked n ∷ []) (raise g hs b s) e
  raise g hs b (Map at e bs) = raise g (hs ++ bound_by bs) (raise_bounds g hs b bs) e
  raise g hs b (Tuple at es) = raise_each g hs b es
  raise g hs b (Function at bs e) = raise g (hs ++ bound_by bs) (raise_bounds g hs b bs) e
  raise g hs b (FunctionSet at s e) = raise g hs (raise g hs b s) e
  raise g hs b (Record at fs) = raise_fields g hs b fs
  raise g hs b (RecordSet at fs) = raise_fields g hs b fs
  raise g hs b (Except at e cs) = raise_changes g hs (raise g hs b e) cs
  raise g hs b (Quantified at q bs e) = raise g (hs ++ bound_by bs) (raise_bounds g hs b bs) e
  raise g hs b (Choose at n s e) = raise g (hs ++ unmarked n ∷ []) (raise g hs b s) e
  raise g hs b (If at p e f) = raise g hs (raise g hs (raise g hs b p) e) f
  raise g hs b (Case at arms) = raise_arms g hs b arms
  raise g hs b (CaseOther at arms e) = raise g hs (raise_arms g hs b arms) e
  raise g hs b (Let at ds e) = raise g (hs ++ defined_by g hs ds) b e
  raise g hs b (BoxAction at e v) = true
  raise g hs b (AngleAction at e v) = true
  raise g hs b (Fairness at v e) = true
  raise g hs b _ = b

  pub raise_each : Rising → Marks → Bool → Trees → Bool
  raise_each g hs b NoTrees = b
  raise_each g hs b (MoreTrees es e) = raise g hs (raise_each g hs b es) e

  pub raise_operands : Rising → Marks → Bool → Operands → Bool
  raise_operands g hs b (First e) = raise g hs b e
  raise_operands g hs b (Next os at e) = raise g hs (raise_operands g hs b os) e

  pub raise_step : Rising → Marks → Bool → Step → Bool
  raise_step g hs b Prime = true
  raise_step g hs b (Index es) = raise_each g hs b es
  raise_step g hs b (Field h) = b

  pub raise_steps : Rising → Marks → Bool → Steps → Bool
  raise_steps g hs b NoSteps = b
  raise_steps g hs b (MoreSteps ss at s) = raise_step g hs (raise_steps g hs b ss) s

  pub raise_bounds : Rising → Marks → Bool → Bounds → Bool
  raise_bounds g hs b NoBounds = b
  raise_bounds g hs b (MoreBounds bs ns e) = raise g hs (raise_bounds g hs b bs) e

  pub raise_fields : Rising → Marks → Bool → Fields → Bool
  raise_fields g hs b NoFields = b
  raise_fields g hs b (MoreFields fs n e) = raise g hs (raise_fields g hs b fs) e

  pub raise_changes : Rising → Marks → Bool → Changes → Bool
  raise_changes g hs b NoChanges = b
  raise_changes g hs b (MoreChanges cs path e) = raise g (hs ++ unmarked at_sign ∷ []) (raise_steps g hs (raise_changes g hs b cs) path) e

  pub raise_arms : Rising → Marks → Bool → Arms → Bool
  raise_arms g hs b NoArms = b
  raise_arms g hs b (MoreArms arms p e) = raise g hs (raise g hs (raise_arms g hs b arms) p) e

  -- the definitions of a LET with what they are; each sees those before it
  pub defined_by : Rising → Marks → Definitions → Marks
  defined_by g hs NoDefinitions = []
  defined_by g hs (MoreDefinitions ds n at ps form e) =
      defined_by g hs ds ++ marked n (raise g (((hs ++ defined_by g hs ds) ++ own n) ++ names_marked ps) false e) ∷ []
