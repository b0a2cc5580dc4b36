-- Whether a name occurs in a tree where nothing in the tree binds it: the free names of an expression, as Lamport has them. `@` is a name of its own,
-- which the new value of a change binds.
use Rattle.std.specs.Prelude.{ℕ, Bool, false, not, ◌&&◌, ◌||◌, List, []}
use Rattle.std.specs.List.{list_any}
use Rattle.std.specs.Str.{bytes_eq}
use Rattle.names_scopes.specs.Scopes.{at_sign}
use Rattle.reading_trees.specs.Trees.{Tree, Name, Call, Qualified, At, Parenthesized, Junction, Prefix, Infix, Postfix, SetOf, Filter, Map, Tuple, Function, FunctionSet, Record, RecordSet, Except, Quantified, Choose, If, Case, CaseOther, Let, BoxAction, AngleAction, Fairness, Trees, NoTrees, MoreTrees, Operands, First, Next, Step, Index, Steps, NoSteps, MoreSteps, Bounds, NoBounds, MoreBounds, Fields, NoFields, MoreFields, Changes, NoChanges, MoreChanges, Arms, NoArms, MoreArms, Definitions, NoDefinitions, MoreDefinitions}

abbrev pub is_one_of : List ℕ → List (List ℕ) → Bool
is_one_of n ns = list_any (λ m. bytes_eq m n) ns

-- whether the bounds bind the name
abbrev pub binds : Bounds → List ℕ → Bool
binds NoBounds n = false
binds (MoreBounds bs ns e) n = binds bs n || is_one_of n ns

abbrev pub defines : Definitions → List ℕ → Bool
defines NoDefinitions n = false
defines (MoreDefinitions ds m at ps form e) n = defines ds n || bytes_eq m n

abbrev mutual
  pub mentions : List ℕ → Tree → Bool
  mentions n (Name at m) = bytes_eq m n
  mentions n (Call at m es) = bytes_eq m n || mentions_each n es
  mentions n (Qualified at m es) = bytes_eq m n || mentions_each n es
  mentions n (At at) = bytes_eq at_sign n
  mentions n (Parenthesized at e) = mentions n e
  mentions n (Junction at b es) = mentions_each n es
  mentions n (Prefix at o e) = mentions n e
  mentions n (Infix at o os e) = mentions_operands n os || mentions n e
  mentions n (Postfix at e ss s) = mentions n e || mentions_steps n ss || mentions_step n s
  mentions n (SetOf at es) = mentions_each n es
  mentions n (Filter at m s e) = mentions n s || (not (bytes_eq m n) && mentions n e)
  mentions n (Map at e bs) = (not (binds bs n) && mentions n e) || mentions_bounds n bs
  mentions n (Tuple at es) = mentions_each n es
  mentions n (Function at bs e) = mentions_bounds n bs || (not (binds bs n) && mentions n e)
  mentions n (FunctionSet at s e) = mentions n s || mentions n e
  mentions n (Record at fs) = mentions_fields n fs
  mentions n (RecordSet at fs) = mentions_fields n fs
  mentions n (Except at e cs) = mentions n e || mentions_changes n cs
  mentions n (Quantified at q bs e) = mentions_bounds n bs || (not (binds bs n) && mentions n e)
  mentions n (Choose at m s e) = mentions n s || (not (bytes_eq m n) && mentions n e)
  mentions n (If at p e f) = mentions n p || mentions n e || mentions n f
  mentions n (Case at arms) = mentions_arms n arms
  mentions n (CaseOther at arms e) = mentions_arms n arms || mentions n e
  mentions n (Let at ds e) = mentions_definitions n ds || (not (defines ds n) && mentions n e)
  mentions n (BoxAction at e v) = mentions n e || mentions n v
  mentions n (AngleAction at e v) = mentions n e || mentions n v
  mentions n (Fairness at v e) = mentions n v || mentions n e
  mentions n _ = false

  pub mentions_each : List ℕ → Trees → Bool
  mentions_each n NoTrees = false
  mentions_each n (MoreTrees es e) = mentions_each n es || mentions n e

  pub mentions_operands : List ℕ → Operands → Bool
  mentions_operands n (First e) = mentions n e
  mentions_operands n (Next os at e) = mentions_operands n os || mentions n e

  pub mentions_step : List ℕ → Step → Bool
  mentions_step n (Index es) = mentions_each n es
  mentions_step n _ = false

  pub mentions_steps : List ℕ → Steps → Bool
  mentions_steps n NoSteps = false
  mentions_steps n (MoreSteps ss at s) = mentions_steps n ss || mentions_step n s

  pub mentions_bounds : List ℕ → Bounds → Bool
  mentions_bounds n NoBounds = false
  mentions_bounds n (MoreBounds bs ns e) = mentions_bounds n bs || mentions n e

  pub mentions_fields : List ℕ → Fields → Bool
  mentions_fields n NoFields = false
  mentions_fields n (MoreFields fs m e) = mentions_fields n fs || mentions n e

  pub mentions_changes : List ℕ → Changes → Bool
  mentions_changes n NoChanges = false
  mentions_changes n (MoreChanges cs path e) = mentions_changes n cs || mentions_steps n path || (not (bytes_eq at_sign n) && mentions n e)

  pub mentions_arms : List ℕ → Arms → Bool
  mentions_arms n NoArms = false
  mentions_arms n (MoreArms arms p e) = mentions_arms n arms || mentions n p || mentions n e

  -- a definition sees itself and those before it
  pub mentions_definitions : List ℕ → Definitions → Bool
  mentions_definitions n NoDefinitions = false
  mentions_definitions n (MoreDefinitions ds m at ps form e) =
      mentions_definitions n ds || (not (defines ds n || bytes_eq m n || is_one_of n ps) && mentions n e)
