-- Functions that apply themselves. A name stands bare where it is free in a tree in another way than as the function of an application `f[x]`; all other
-- rows are as those of `mentions`.
use Rattle.std.specs.Prelude.{ℕ, Bool, true, false, not, ◌&&◌, ◌||◌, List, []}
use Rattle.std.specs.Str.{bytes_eq}
use Rattle.names_scopes.specs.Mentions.{binds, defines, is_one_of, mentions_bounds}
use Rattle.names_scopes.specs.Scopes.{at_sign}
use Rattle.reading_trees.specs.TreeViews.{are_none}
use Rattle.reading_trees.specs.Trees.{Tree, Name, Call, Qualified, At, Parenthesized, Junction, Prefix, Infix, Postfix, SetOf, Filter, Map, Tuple, Function, FunctionSet, Record, RecordSet, Except, Quantified, Choose, If, Case, CaseOther, Let, BoxAction, AngleAction, Fairness, Trees, NoTrees, MoreTrees, Operands, First, Next, Step, Index, Steps, NoSteps, MoreSteps, Bounds, NoBounds, MoreBounds, Fields, NoFields, MoreFields, Changes, NoChanges, MoreChanges, Arms, NoArms, MoreArms, Definitions, NoDefinitions, MoreDefinitions}

abbrev pub is_index : Step → Bool
is_index (Index es) = true
is_index _ = false

-- of steps, the last of which stands apart
abbrev pub begins_with_index : Steps → Step → Bool
begins_with_index NoSteps s = is_index s
begins_with_index (MoreSteps ss at t) s = begins_with_index ss t

-- whether that counts of which steps are taken: not where it is a name, or a name of an instance, that is applied
abbrev pub counts_base : Tree → Steps → Step → Bool
counts_base (Name at n) ss s = not (begins_with_index ss s)
counts_base (Qualified at n es) ss s = not (are_none es && begins_with_index ss s)
counts_base e ss s = true

abbrev mutual
  pub bare : List ℕ → Tree → Bool
  bare n (Name at m) = bytes_eq m n
  bare n (Call at m es) = bytes_eq m n || bare_each n es
  bare n (Qualified at m es) = bytes_eq m n || bare_each n es
  bare n (At at) = bytes_eq at_sign n
  bare n (Parenthesized at e) = bare n e
  bare n (Junction at b es) = bare_each n es
  bare n (Prefix at o e) = bare n e
  bare n (Infix at o os e) = bare_operands n os || bare n e
  bare n (Postfix at e ss s) = (counts_base e ss s && bare n e) || bare_steps n ss || bare_step n s
  bare n (SetOf at es) = bare_each n es
  bare n (Filter at m s e) = bare n s || (not (bytes_eq m n) && bare n e)
  bare n (Map at e bs) = (not (binds bs n) && bare n e) || bare_bounds n bs
  bare n (Tuple at es) = bare_each n es
  bare n (Function at bs e) = bare_bounds n bs || (not (binds bs n) && bare n e)
  bare n (FunctionSet at s e) = bare n s || bare n e
  bare n (Record at fs) = bare_fields n fs
  bare n (RecordSet at fs) = bare_fields n fs
  bare n (Except at e cs) = bare n e || bare_changes n cs
  bare n (Quantified at q bs e) = bare_bounds n bs || (not (binds bs n) && bare n e)
  bare n (Choose at m s e) = bare n s || (not (bytes_eq m n) && bare n e)
  bare n (If at p e f) = bare n p || bare n e || bare n f
  bare n (Case at arms) = bare_arms n arms
  bare n (CaseOther at arms e) = bare_arms n arms || bare n e
  bare n (Let at ds e) = bare_definitions n ds || (not (defines ds n) && bare n e)
  bare n (BoxAction at e v) = bare n e || bare n v
  bare n (AngleAction at e v) = bare n e || bare n v
  bare n (Fairness at v e) = bare n v || bare n e
  bare n _ = false

  pub bare_each : List ℕ → Trees → Bool
  bare_each n NoTrees = false
  bare_each n (MoreTrees es e) = bare_each n es || bare n e

  pub bare_operands : List ℕ → Operands → Bool
  bare_operands n (First e) = bare n e
  bare_operands n (Next os at e) = bare_operands n os || bare n e

  pub bare_step : List ℕ → Step → Bool
  bare_step n (Index es) = bare_each n es
  bare_step n _ = false

  pub bare_steps : List ℕ → Steps → Bool
  bare_steps n NoSteps = false
  bare_steps n (MoreSteps ss at s) = bare_steps n ss || bare_step n s

  pub bare_bounds : List ℕ → Bounds → Bool
  bare_bounds n NoBounds = false
  bare_bounds n (MoreBounds bs ns e) = bare_bounds n bs || bare n e

  pub bare_fields : List ℕ → Fields → Bool
  bare_fields n NoFields = false
  bare_fields n (MoreFields fs m e) = bare_fields n fs || bare n e

  pub bare_changes : List ℕ → Changes → Bool
  bare_changes n NoChanges = false
  bare_changes n (MoreChanges cs path e) = bare_changes n cs || bare_steps n path || (not (bytes_eq at_sign n) && bare n e)

  pub bare_arms : List ℕ → Arms → Bool
  bare_arms n NoArms = false
  bare_arms n (MoreArms arms p e) = bare_arms n arms || bare n p || bare n e

  -- a definition sees itself and those before it
  pub bare_definitions : List ℕ → Definitions → Bool
  bare_definitions n NoDefinitions = false
  bare_definitions n (MoreDefinitions ds m at ps form e) =
      bare_definitions n ds || (not (defines ds n || bytes_eq m n || is_one_of n ps) && bare n e)

-- a function whose sets do not use the name, and whose body uses it in no other way than by applying it
abbrev pub applies : List ℕ → Tree → Bool
applies n (Function at bs e) = not (mentions_bounds n bs) && (binds bs n || not (bare n e))
applies n e = false
