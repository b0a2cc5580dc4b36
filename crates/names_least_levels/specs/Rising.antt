-- Which trees are above level 0, where it is told which names are. Variables are; `e'`, UNCHANGED, ENABLED, the temporal operators, `[A]_v`,
-- `<<A>>_v` and fairness are, whatever stands in them; bound names and parameters are not. All else is where a part of it is, and a use of a name
-- where the name is or an argument; `@` is a name that a change binds. Of a LET only the definitions that are used count.
use Rattle.std.specs.Prelude.{ℕ, Bool, true, false, ◌||◌, if◌then◌else◌, List, [], ◌∷◌}
use Rattle.std.specs.Str.{bytes_eq}
use Rattle.reading_trees.specs.declared.operators.PrefixOperator.{PrefixOperator}
use Rattle.reading_trees.specs.declared.operators.PrefixOperator.TheVariants as prefixes
use Rattle.reading_trees.specs.declared.operators.InfixOperator.{InfixOperator}
use Rattle.reading_trees.specs.declared.operators.InfixOperator.TheVariants as infixes
use Rattle.names_scopes.specs.Scopes.{at_sign}
use Rattle.reading_trees.specs.Trees.{Tree, Number, Str, Truth, Builtin, Name, Call, Qualified, At, Parenthesized, Junction, Prefix, Infix, Postfix, SetOf, Filter, Map, Tuple, Function, FunctionSet, Record, RecordSet, Except, Quantified, Choose, If, Case, CaseOther, Let, BoxAction, AngleAction, Fairness, Trees, NoTrees, MoreTrees, Operands, First, Next, Step, Prime, Index, Field, Steps, NoSteps, MoreSteps, Bounds, NoBounds, MoreBounds, Fields, NoFields, MoreFields, Changes, NoChanges, MoreChanges, Arms, NoArms, MoreArms, Definitions, NoDefinitions, MoreDefinitions}

-- whether what a name means is above level 0
abbrev pub Rising : Type 0
Rising = List ℕ → Bool

abbrev pub with_name : Rising → List ℕ → Bool → Rising
with_name g n b m = if bytes_eq n m then b else g m

-- where these names are bound
abbrev pub without : Rising → List (List ℕ) → Rising
without g [] = g
without g (n ∷ ns) = without (with_name g n false) ns

abbrev pub without_bounds : Rising → Bounds → Rising
without_bounds g NoBounds = g
without_bounds g (MoreBounds bs ns e) = without (without_bounds g bs) ns

-- in the body of a definition of a LET its own name has level 0: what it must have where it is used there, or the definition is refused
abbrev pub with_own : Rising → List ℕ → Rising
with_own g n = with_name g n false

abbrev pub prefix_rises : PrefixOperator → Bool
prefix_rises prefixes.Unchanged = true
prefix_rises prefixes.Enabled = true
prefix_rises prefixes.Always = true
prefix_rises prefixes.Eventually = true
prefix_rises _ = false

abbrev pub infix_rises : InfixOperator → Bool
infix_rises infixes.LeadsTo = true
infix_rises _ = false

abbrev mutual
  pub rises : Rising → Tree → Bool
  rises g (Number at z) = false
  rises g (Str at s) = false
  rises g (Truth at b) = false
  rises g (Builtin at b) = false
  rises g (Name at n) = g n
  rises g (Call at n es) = g n || rises_each g es
  rises g (Qualified at n es) = g n || rises_each g es
  rises g (At at) = g at_sign
  rises g (Parenthesized at e) = rises g e
  rises g (Junction at b es) = rises_each g es
  rises g (Prefix at o e) = prefix_rises o || rises g e
  rises g (Infix at o os e) = infix_rises o || rises_operands g os || rises g e
  rises g (Postfix at e ss s) = rises g e || rises_steps g ss || rises_step g s
  rises g (SetOf at es) = rises_each g es
  rises g (Filter at n s e) = rises g s || rises (with_name g n false) e
  rises g (Map at e bs) = rises_bounds g bs || rises (without_bounds g bs) e
  rises g (Tuple at es) = rises_each g es
  rises g (Function at bs e) = rises_bounds g bs || rises (without_bounds g bs) e
  rises g (FunctionSet at s e) = rises g s || rises g e
  rises g (Record at fs) = rises_fields g fs
  rises g (RecordSet at fs) = rises_fields g fs
  rises g (Except at e cs) = rises g e || rises_changes g cs
  rises g (Quantified at q bs e) = rises_bounds g bs || rises (without_bounds g bs) e
  rises g (Choose at n s e) = rises g s || rises (with_name g n false) e
  rises g (If at p e f) = rises g p || rises g e || rises g f
  rises g (Case at arms) = rises_arms g arms
  rises g (CaseOther at arms e) = rises_arms g arms || rises g e
  rises g (Let at ds e) = rises (with_definitions g ds) e
  rises g (BoxAction at e v) = true
  rises g (AngleAction at e v) = true
  rises g (Fairness at v e) = true

  pub rises_each : Rising → Trees → Bool
  rises_each g NoTrees = false
  rises_each g (MoreTrees es e) = rises_each g es || rises g e

  pub rises_operands : Rising → Operands → Bool
  rises_operands g (First e) = rises g e
  rises_operands g (Next os at e) = rises_operands g os || rises g e

  pub rises_step : Rising → Step → Bool
  rises_step g Prime = true
  rises_step g (Index es) = rises_each g es
  rises_step g (Field h) = false

  pub rises_steps : Rising → Steps → Bool
  rises_steps g NoSteps = false
  rises_steps g (MoreSteps ss at s) = rises_steps g ss || rises_step g s

  pub rises_bounds : Rising → Bounds → Bool
  rises_bounds g NoBounds = false
  rises_bounds g (MoreBounds bs ns e) = rises_bounds g bs || rises g e

  pub rises_fields : Rising → Fields → Bool
  rises_fields g NoFields = false
  rises_fields g (MoreFields fs n e) = rises_fields g fs || rises g e

  pub rises_changes : Rising → Changes → Bool
  rises_changes g NoChanges = false
  rises_changes g (MoreChanges cs path e) = rises_changes g cs || rises_steps g path || rises (with_name g at_sign false) e

  pub rises_arms : Rising → Arms → Bool
  rises_arms g NoArms = false
  rises_arms g (MoreArms arms p e) = rises_arms g arms || rises g p || rises g e

  -- behind definitions; each sees those before it
  pub with_definitions : Rising → Definitions → Rising
  with_definitions g NoDefinitions = g
  with_definitions g (MoreDefinitions ds n at ps form e) =
      with_name (with_definitions g ds) n (rises (without (with_own (with_definitions g ds) n) ps) e)
