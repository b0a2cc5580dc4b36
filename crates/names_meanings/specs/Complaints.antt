-- The first name of a tree, in the order of the text, that means nothing or has another number of arguments than it takes. A definition of a LET
-- that uses itself wrongly is told at its name, before all names of its body.
use Rattle.std.specs.Prelude.{ℕ, suc, Bool, false, not, ◌==◌, ◌&&◌, if◌then◌else◌, List, [], ◌∷◌, length, Option, Some, None}
use Rattle.std.specs.Str.{bytes_eq}
use Rattle.base_core.specs.declared.place.Place.{Place}
use Rattle.reading_trees.specs.Trees.{Tree, Number, Str, Truth, Builtin, Name, Call, Qualified, At, Parenthesized, Junction, Prefix, Infix, Postfix, SetOf, Filter, Map, Tuple, Function, FunctionSet, Record, RecordSet, Except, Quantified, Choose, If, Case, CaseOther, Let, BoxAction, AngleAction, Fairness, Trees, NoTrees, MoreTrees, Operands, First, Next, Step, Prime, Index, Field, Steps, NoSteps, MoreSteps, Bounds, NoBounds, MoreBounds, Fields, NoFields, MoreFields, Changes, NoChanges, MoreChanges, Arms, NoArms, MoreArms, Definitions, NoDefinitions, MoreDefinitions}
use Rattle.reading_trees.specs.declared.form.DefinitionForm.{DefinitionForm}
use Rattle.reading_trees.specs.declared.form.DefinitionForm.TheVariants as forms
use Rattle.names_least_levels.specs.Rising.{Rising, rises, with_own, without}
use Rattle.names_terms.specs.declared.operator.Own.{Own}
use Rattle.names_terms.specs.declared.operator.Own.TheVariants as owns
use Rattle.names_meanings.specs.Owning.{own_of}
use Rattle.names_meanings.specs.declared.fault.NameFault.{NameFault}
use Rattle.names_meanings.specs.declared.fault.NameFault.TheVariants.{UnknownName, WrongArity, Recursion}
use Rattle.names_scopes.specs.Scopes.{at_sign}
use Rattle.names_scopes.specs.Applied.{applies}
use Rattle.names_scopes.specs.Mentions.{mentions, is_one_of}

-- what is known of a name that means something: how many arguments it takes, and whether it is above level 0
pub record Taken : Type 0 where
  pub needed : ℕ
  pub is_above : Bool

-- the same of each name, if it has a meaning
abbrev pub Takes : Type 0
Takes = List ℕ → Option Taken

-- a bound name
abbrev pub bound_name : Taken
bound_name = record { needed = 0; is_above = false }

-- an inner name hides an outer one
abbrev pub with_name : Takes → List ℕ → Taken → Takes
with_name g n w m = if bytes_eq n m then Some w else g m

-- the earlier of two, if it is there
abbrev pub or_else : {A : Type 0} → Option A → Option A → Option A
or_else (Some x) b = Some x
or_else None b = b

-- what is wrong with a name that stands there with so many arguments, and takes as many as are given, if it means something
abbrev pub counted : List ℕ → Place → ℕ → Option Taken → Option NameFault
counted n at found None = Some (UnknownName n at)
counted n at found (Some w) = if found == w.needed then None else Some (WrongArity n found w.needed at)

abbrev pub with_names : Takes → List (List ℕ) → Takes
with_names g [] = g
with_names g (n ∷ ns) = with_names (with_name g n bound_name) ns

-- how many trees there are
abbrev pub number_of : Trees → ℕ
number_of NoTrees = 0
number_of (MoreTrees es e) = suc (number_of es)

abbrev pub with_bounds : Takes → Bounds → Takes
with_bounds g NoBounds = g
with_bounds g (MoreBounds bs ns e) = with_names (with_bounds g bs) ns

abbrev pub taken_rises : Option Taken → Bool
taken_rises None = false
taken_rises (Some w) = w.is_above

-- which names are above level 0
abbrev pub told : Takes → Rising
told g n = taken_rises (g n)

-- what is known of the name of a definition: it is above level 0 where its body is
abbrev pub defined : Takes → List ℕ → List (List ℕ) → Tree → Taken
defined g n ps e = record { needed = length ps; is_above = rises (without (with_own (told g) n) ps) e }

abbrev pub with_definitions : Takes → Definitions → Takes
with_definitions g NoDefinitions = g
with_definitions g (MoreDefinitions ds n at ps form e) = with_name (with_definitions g ds) n (defined (with_definitions g ds) n ps e)

-- only a function may use itself, whose body applies it and does nothing else with it, and whose level is 0
abbrev pub may_use_itself : Takes → DefinitionForm → List ℕ → List (List ℕ) → Tree → Bool
may_use_itself g forms.Operator n ps e = false
may_use_itself g forms.Constant n ps e = false
may_use_itself g forms.Function n ps e = applies n e && not (rises (without (with_own (told g) n) ps) e)

-- what is wrong with a definition that uses itself; a parameter of its name hides it
abbrev pub itself : Takes → DefinitionForm → List ℕ → Place → List (List ℕ) → Tree → Option NameFault
itself g form n at ps e = if is_one_of n ps then None else (if mentions n e then (if may_use_itself g form n ps e then None else Some (Recursion n at)) else None)

-- one that uses itself sees its own name, which takes so many arguments
abbrev pub with_itself : Own → Takes → List ℕ → ℕ → Takes
with_itself owns.Apart g n k = g
with_itself own g n k = with_name g n (record { needed = k; is_above = false })

abbrev mutual
  pub complaint : Takes → Tree → Option NameFault
  complaint g (Number at z) = None
  complaint g (Str at s) = None
  complaint g (Truth at b) = None
  complaint g (Builtin at b) = None
  complaint g (Name at n) = counted n at 0 (g n)
  complaint g (Call at n es) = or_else (counted n at (number_of es) (g n)) (complaints g es)
  complaint g (Qualified at n es) = or_else (counted n at (number_of es) (g n)) (complaints g es)
  complaint g (At at) = counted at_sign at 0 (g at_sign)
  complaint g (Parenthesized at e) = complaint g e
  complaint g (Junction at b es) = complaints g es
  complaint g (Prefix at o e) = complaint g e
  complaint g (Infix at o os e) = or_else (operands_complaint g os) (complaint g e)
  complaint g (Postfix at e ss s) = or_else (complaint g e) (or_else (steps_complaint g ss) (step_complaint g s))
  complaint g (SetOf at es) = complaints g es
  complaint g (Filter at n s e) = or_else (complaint g s) (complaint (with_name g n bound_name) e)
  complaint g (Map at e bs) = or_else (complaint (with_bounds g bs) e) (bounds_complaint g bs)
  complaint g (Tuple at es) = complaints g es
  complaint g (Function at bs e) = or_else (bounds_complaint g bs) (complaint (with_bounds g bs) e)
  complaint g (FunctionSet at s e) = or_else (complaint g s) (complaint g e)
  complaint g (Record at fs) = fields_complaint g fs
  complaint g (RecordSet at fs) = fields_complaint g fs
  complaint g (Except at e cs) = or_else (complaint g e) (changes_complaint g cs)
  complaint g (Quantified at q bs e) = or_else (bounds_complaint g bs) (complaint (with_bounds g bs) e)
  complaint g (Choose at n s e) = or_else (complaint g s) (complaint (with_name g n bound_name) e)
  complaint g (If at p e f) = or_else (complaint g p) (or_else (complaint g e) (complaint g f))
  complaint g (Case at arms) = arms_complaint g arms
  complaint g (CaseOther at arms e) = or_else (arms_complaint g arms) (complaint g e)
  complaint g (Let at ds e) = or_else (definitions_complaint g ds) (complaint (with_definitions g ds) e)
  complaint g (BoxAction at e v) = or_else (complaint g e) (complaint g v)
  complaint g (AngleAction at e v) = or_else (complaint g e) (complaint g v)
  complaint g (Fairness at v e) = or_else (complaint g v) (complaint g e)

  pub complaints : Takes → Trees → Option NameFault
  complaints g NoTrees = None
  complaints g (MoreTrees es e) = or_else (complaints g es) (complaint g e)

  pub operands_complaint : Takes → Operands → Option NameFault
  operands_complaint g (First e) = complaint g e
  operands_complaint g (Next os at e) = or_else (operands_complaint g os) (complaint g e)

  pub step_complaint : Takes → Step → Option NameFault
  step_complaint g Prime = None
  step_complaint g (Index es) = complaints g es
  step_complaint g (Field h) = None

  pub steps_complaint : Takes → Steps → Option NameFault
  steps_complaint g NoSteps = None
  steps_complaint g (MoreSteps ss at s) = or_else (steps_complaint g ss) (step_complaint g s)

  -- a set of bounds does not see the names that they bind
  pub bounds_complaint : Takes → Bounds → Option NameFault
  bounds_complaint g NoBounds = None
  bounds_complaint g (MoreBounds bs ns e) = or_else (bounds_complaint g bs) (complaint g e)

  pub fields_complaint : Takes → Fields → Option NameFault
  fields_complaint g NoFields = None
  fields_complaint g (MoreFields fs n e) = or_else (fields_complaint g fs) (complaint g e)

  -- `@` is bound in the new value, and not in the path
  pub changes_complaint : Takes → Changes → Option NameFault
  changes_complaint g NoChanges = None
  changes_complaint g (MoreChanges cs path e) =
      or_else (changes_complaint g cs) (or_else (steps_complaint g path) (complaint (with_name g at_sign bound_name) e))

  pub arms_complaint : Takes → Arms → Option NameFault
  arms_complaint g NoArms = None
  arms_complaint g (MoreArms arms p e) = or_else (arms_complaint g arms) (or_else (complaint g p) (complaint g e))

  -- A definition sees those before it, and itself where it uses itself.
  pub definitions_complaint : Takes → Definitions → Option NameFault
  definitions_complaint g NoDefinitions = None
  definitions_complaint g (MoreDefinitions ds n at ps form e) =
      or_else (definitions_complaint g ds) (or_else (itself (with_definitions g ds) form n at ps e) (complaint (with_names (with_itself (own_of form n ps e) (with_definitions g ds) n (length ps)) ps) e))
