-- The trees of an instance have as many parts as the grammar asks for, where those of its module do.
use Rattle.std.proofs.Common.{◌≢◌, ℕ, List, [], ◌∷◌, ◌++◌, Option, Some, None, refl}
use Rattle.base_core.specs.declared.place.Place.{Place}
use Rattle.reading_trees.specs.declared.operators.InfixOperator.{InfixOperator}
use Rattle.reading_trees.specs.Grammar.{AreOnce, IsNew, IsPath, IsKey}
use Rattle.reading_trees.specs.Trees.{Tree, Number, Str, Truth, Builtin, Name, Call, Qualified, At, Parenthesized, Junction, Prefix, Infix, Postfix, SetOf, Filter, Map, Tuple, Function, FunctionSet, Record, RecordSet, Except, Quantified, Choose, If, Case, CaseOther, Let, BoxAction, AngleAction, Fairness, Trees, NoTrees, MoreTrees, Operands, First, Next, Step, Prime, Index, Field, Steps, NoSteps, MoreSteps, Bounds, NoBounds, MoreBounds, Fields, NoFields, MoreFields, Changes, NoChanges, MoreChanges, Arms, NoArms, MoreArms, Definitions, NoDefinitions, MoreDefinitions}
use Rattle.names_specification_laws.specs.Formed.{IsFormed, AreFormed, ChainIsFormed, StepIsFormed, StepsAreFormed, BoundsAreFormed, FieldsAreFormed, ChangesAreFormed, ArmsAreFormed, DefinitionsAreFormed}
use Rattle.names_instances.specs.Made.{StandIns, name_by, call_by, qualified_by, bound_by, defined_by, unless_bound, made, made_each, made_operands, made_step, made_steps, made_bounds, made_fields, made_changes, made_arms, made_definitions}

-- ---- names

name_formed : (o : Option (List ℕ)) (at : Place) (n : List ℕ) → IsFormed (name_by o at n)
name_formed None at n = tt
name_formed (Some q) at n = tt

call_formed : (o : Option (List ℕ)) (at : Place) (n : List ℕ) (es : Trees) → es ≢ NoTrees → AreFormed es → IsFormed (call_by o at n es)
call_formed None at n es some h = (some, h)
call_formed (Some q) at n es some h = h

qualified_formed : (o : Option (List ℕ)) (at : Place) (n : List ℕ) (es : Trees) → AreFormed es → IsFormed (qualified_by o at n es)
qualified_formed None at n es h = h
qualified_formed (Some q) at n es h = h

module _ (by : StandIns) where
  -- ---- lists stay as long

  some_trees : (bs : List (List ℕ)) (es : Trees) → es ≢ NoTrees → made_each by bs es ≢ NoTrees
  some_trees bs NoTrees some = absurd (some refl)
  some_trees bs (MoreTrees es e) some = λ q. cc

  some_bounds : (bs : List (List ℕ)) (ds : Bounds) → ds ≢ NoBounds → made_bounds by bs ds ≢ NoBounds
  some_bounds bs NoBounds some = absurd (some refl)
  some_bounds bs (MoreBounds ds ns e) some = λ q. cc

  some_fields : (bs : List (List ℕ)) (fs : Fields) → fs ≢ NoFields → made_fields by bs fs ≢ NoFields
  some_fields bs NoFields some = absurd (some refl)
  some_fields bs (MoreFields fs n e) some = λ q. cc

  some_changes : (bs : List (List ℕ)) (cs : Changes) → cs ≢ NoChanges → made_changes by bs cs ≢ NoChanges
  some_changes bs NoChanges some = absurd (some refl)
  some_changes bs (MoreChanges cs path e) some = λ q. cc

  some_arms : (bs : List (List ℕ)) (arms : Arms) → arms ≢ NoArms → made_arms by bs arms ≢ NoArms
  some_arms bs NoArms some = absurd (some refl)
  some_arms bs (MoreArms arms p e) some = λ q. cc

  some_definitions : (bs : List (List ℕ)) (ds : Definitions) → ds ≢ NoDefinitions → made_definitions by bs ds ≢ NoDefinitions
  some_definitions bs NoDefinitions some = absurd (some refl)
  some_definitions bs (MoreDefinitions ds m at ps form e) some = λ q. cc

  -- ---- fields and paths

  new_field : (bs : List (List ℕ)) (n : List ℕ) (fs : Fields) → IsNew n fs → IsNew n (made_fields by bs fs)
  new_field bs n NoFields h = tt
  new_field bs n (MoreFields fs m e) h = (new_field bs n fs h.0, h.1)

  once : (bs : List (List ℕ)) (fs : Fields) → AreOnce fs → AreOnce (made_fields by bs fs)
  once bs NoFields h = tt
  once bs (MoreFields fs n e) h = (once bs fs h.0, new_field bs n fs h.1)

  key : (bs : List (List ℕ)) (s : Step) → IsKey s → IsKey (made_step by bs s)
  key bs Prime h = h
  key bs (Index es) h = h
  key bs (Field n) h = h

  path : (bs : List (List ℕ)) (ss : Steps) → IsPath ss → IsPath (made_steps by bs ss)
  path bs NoSteps h = absurd h
  path bs (MoreSteps NoSteps at s) h = key bs s h
  path bs (MoreSteps (MoreSteps ss p s) at t) h = (path bs (MoreSteps ss p s) h.0, key bs t h.1)

  -- ---- rows

  mutual
    pub formed : (bs : List (List ℕ)) (t : Tree) → IsFormed t → IsFormed (made by bs t)
    formed bs (Number at z) h = tt
    formed bs (Str at s) h = tt
    formed bs (Truth at b) h = tt
    formed bs (Builtin at b) h = tt
    formed bs (Name at n) h = name_formed (unless_bound bs by n) at n
    formed bs (Call at n es) h = call_formed (unless_bound bs by n) at n (made_each by bs es) (some_trees bs es h.0) (each_formed bs es h.1)
    formed bs (Qualified at n es) h = qualified_formed (by n) at n (made_each by bs es) (each_formed bs es h)
    formed bs (At at) h = tt
    formed bs (Parenthesized at e) h = formed bs e h
    formed bs (Junction at b es) h = (some_trees bs es h.0, each_formed bs es h.1)
    formed bs (Prefix at o e) h = formed bs e h
    formed bs (Infix at o os e) h = (chain bs o os h.0, formed bs e h.1)
    formed bs (Postfix at e ss s) h = (formed bs e h.0, steps bs ss h.1, step bs s h.2)
    formed bs (SetOf at es) h = each_formed bs es h
    formed bs (Filter at n s e) h = (formed bs s h.0, formed (bs ++ n ∷ []) e h.1)
    formed bs (Map at e ds) h = (some_bounds bs ds h.0, bounds bs ds h.1, formed (bs ++ bound_by ds) e h.2)
    formed bs (Tuple at es) h = each_formed bs es h
    formed bs (Function at ds e) h = (some_bounds bs ds h.0, bounds bs ds h.1, formed (bs ++ bound_by ds) e h.2)
    formed bs (FunctionSet at s e) h = (formed bs s h.0, formed bs e h.1)
    formed bs (Record at fs) h = (some_fields bs fs h.0, once bs fs h.1, fields bs fs h.2)
    formed bs (RecordSet at fs) h = (some_fields bs fs h.0, once bs fs h.1, fields bs fs h.2)
    formed bs (Except at e cs) h = (some_changes bs cs h.0, changes bs cs h.1, formed bs e h.2)
    formed bs (Quantified at q ds e) h = (some_bounds bs ds h.0, bounds bs ds h.1, formed (bs ++ bound_by ds) e h.2)
    formed bs (Choose at n s e) h = (formed bs s h.0, formed (bs ++ n ∷ []) e h.1)
    formed bs (If at p e f) h = (formed bs p h.0, formed bs e h.1, formed bs f h.2)
    formed bs (Case at rows) h = (some_arms bs rows h.0, arms bs rows h.1)
    formed bs (CaseOther at rows e) h = (some_arms bs rows h.0, arms bs rows h.1, formed bs e h.2)
    formed bs (Let at ds e) h = (some_definitions bs ds h.0, definitions bs ds h.1, formed (bs ++ defined_by ds) e h.2)
    formed bs (BoxAction at e v) h = (formed bs e h.0, formed bs v h.1)
    formed bs (AngleAction at e v) h = (formed bs e h.0, formed bs v h.1)
    formed bs (Fairness at v e) h = (formed bs v h.0, formed bs e h.1)

    each_formed : (bs : List (List ℕ)) (es : Trees) → AreFormed es → AreFormed (made_each by bs es)
    each_formed bs NoTrees h = tt
    each_formed bs (MoreTrees es e) h = (each_formed bs es h.0, formed bs e h.1)

    chain : (bs : List (List ℕ)) (o : InfixOperator) (os : Operands) → ChainIsFormed o os → ChainIsFormed o (made_operands by bs os)
    chain bs o (First e) h = formed bs e h
    chain bs o (Next os at e) h = (chain bs o os h.0, formed bs e h.1, h.2)

    step : (bs : List (List ℕ)) (s : Step) → StepIsFormed s → StepIsFormed (made_step by bs s)
    step bs Prime h = tt
    step bs (Index es) h = (some_trees bs es h.0, each_formed bs es h.1)
    step bs (Field n) h = tt

    steps : (bs : List (List ℕ)) (ss : Steps) → StepsAreFormed ss → StepsAreFormed (made_steps by bs ss)
    steps bs NoSteps h = tt
    steps bs (MoreSteps ss at s) h = (steps bs ss h.0, step bs s h.1)

    bounds : (bs : List (List ℕ)) (ds : Bounds) → BoundsAreFormed ds → BoundsAreFormed (made_bounds by bs ds)
    bounds bs NoBounds h = tt
    bounds bs (MoreBounds ds ns e) h = (bounds bs ds h.0, h.1, formed bs e h.2)

    fields : (bs : List (List ℕ)) (fs : Fields) → FieldsAreFormed fs → FieldsAreFormed (made_fields by bs fs)
    fields bs NoFields h = tt
    fields bs (MoreFields fs n e) h = (fields bs fs h.0, formed bs e h.1)

    changes : (bs : List (List ℕ)) (cs : Changes) → ChangesAreFormed cs → ChangesAreFormed (made_changes by bs cs)
    changes bs NoChanges h = tt
    changes bs (MoreChanges cs ss e) h = (changes bs cs h.0, path bs ss h.1, steps bs ss h.2, formed bs e h.3)

    arms : (bs : List (List ℕ)) (rows : Arms) → ArmsAreFormed rows → ArmsAreFormed (made_arms by bs rows)
    arms bs NoArms h = tt
    arms bs (MoreArms rows p e) h = (arms bs rows h.0, formed bs p h.1, formed bs e h.2)

    definitions : (bs : List (List ℕ)) (ds : Definitions) → DefinitionsAreFormed ds → DefinitionsAreFormed (made_definitions by bs ds)
    definitions bs NoDefinitions h = tt
    definitions bs (MoreDefinitions ds m at ps form e) h = (definitions bs ds h.0, formed (bs ++ defined_by ds ++ m ∷ [] ++ ps) e h.1)
