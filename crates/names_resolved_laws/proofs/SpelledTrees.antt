-- Trees in which calls of TLC's operators are spelled out have as many parts as the grammar asks for, where they had them before.
use Rattle.std.proofs.Common.{◌≢◌, ℕ, List, [], ◌∷◌, ◌++◌, refl}
use Rattle.std.specs.Prelude.{Bool, true, false, codes, if◌then◌else◌}
use Rattle.std.specs.Str.{bytes_eq}
use Rattle.base_core.specs.declared.place.Place.{Place}
use Rattle.reading_trees.specs.declared.operators.InfixOperator.{InfixOperator}
use Rattle.reading_trees.specs.Grammar.{AreOnce, IsNew, IsPath, IsKey}
use Rattle.reading_trees.specs.Trees.{Tree, Number, Str, Truth, Builtin, Name, Call, Qualified, At, Parenthesized, Junction, Prefix, Infix, Postfix, SetOf, Filter, Map, Tuple, Function, FunctionSet, Record, RecordSet, Except, Quantified, Choose, If, Case, CaseOther, Let, BoxAction, AngleAction, Fairness, Trees, NoTrees, MoreTrees, Operands, First, Next, Step, Prime, Index, Field, Steps, NoSteps, MoreSteps, Bounds, NoBounds, MoreBounds, Fields, NoFields, MoreFields, Changes, NoChanges, MoreChanges, Arms, NoArms, MoreArms, Definitions, NoDefinitions, MoreDefinitions}
use Rattle.names_specification_laws.specs.Formed.{IsFormed, AreFormed, ChainIsFormed, StepIsFormed, StepsAreFormed, BoundsAreFormed, FieldsAreFormed, ChangesAreFormed, ArmsAreFormed, DefinitionsAreFormed}
use Rattle.names_scopes.specs.Mentions.{is_one_of}
use Rattle.names_tlc_calls.specs.Spelled.{bound_by, called, defined_by, spelled, spelled_each, spelled_operands, spelled_step, spelled_steps, spelled_bounds, spelled_fields, spelled_changes, spelled_arms, spelled_definitions}

-- ---- calls

by_one : (a b : Bool) (at : Place) (n : List ℕ) (e : Tree) → IsFormed e
    → IsFormed (if a then Truth at true else (if b then Parenthesized at e else Call at n (MoreTrees NoTrees e)))
by_one true b at n e h = tt
by_one false true at n e h = h
by_one false false at n e h = ((λ q. cc), (tt, h))

by_two : (a b : Bool) (at : Place) (n : List ℕ) (e f : Tree) → IsFormed e → IsFormed f
    → IsFormed (if a then Case at (MoreArms NoArms e (Truth at true)) else (if b then Parenthesized at f else Call at n (MoreTrees (MoreTrees NoTrees e) f)))
by_two true b at n e f h k = ((λ q. cc), (tt, h, tt))
by_two false true at n e f h k = k
by_two false false at n e f h k = ((λ q. cc), ((tt, h), k))

call_formed : (own : Bool) (at : Place) (n : List ℕ) (es : Trees) → es ≢ NoTrees → AreFormed es → IsFormed (called own at n es)
call_formed true at n es some h = (some, h)
call_formed false at n NoTrees some h = (some, h)
call_formed false at n (MoreTrees NoTrees e) some h = by_one (bytes_eq n (codes "PrintT")) (bytes_eq n (codes "TLCEval")) at n e h.1
call_formed false at n (MoreTrees (MoreTrees NoTrees e) f) some h = by_two (bytes_eq n (codes "Assert")) (bytes_eq n (codes "Print")) at n e f h.0.1 h.1
call_formed false at n (MoreTrees (MoreTrees (MoreTrees es d) e) f) some h = (some, h)

-- ---- lists stay as long

some_trees : (bs : List (List ℕ)) (es : Trees) → es ≢ NoTrees → spelled_each bs es ≢ NoTrees
some_trees bs NoTrees some = absurd (some refl)
some_trees bs (MoreTrees es e) some = λ q. cc

some_bounds : (bs : List (List ℕ)) (ds : Bounds) → ds ≢ NoBounds → spelled_bounds bs ds ≢ NoBounds
some_bounds bs NoBounds some = absurd (some refl)
some_bounds bs (MoreBounds ds ns e) some = λ q. cc

some_fields : (bs : List (List ℕ)) (fs : Fields) → fs ≢ NoFields → spelled_fields bs fs ≢ NoFields
some_fields bs NoFields some = absurd (some refl)
some_fields bs (MoreFields fs n e) some = λ q. cc

some_changes : (bs : List (List ℕ)) (cs : Changes) → cs ≢ NoChanges → spelled_changes bs cs ≢ NoChanges
some_changes bs NoChanges some = absurd (some refl)
some_changes bs (MoreChanges cs path e) some = λ q. cc

some_arms : (bs : List (List ℕ)) (arms : Arms) → arms ≢ NoArms → spelled_arms bs arms ≢ NoArms
some_arms bs NoArms some = absurd (some refl)
some_arms bs (MoreArms arms p e) some = λ q. cc

some_definitions : (bs : List (List ℕ)) (ds : Definitions) → ds ≢ NoDefinitions → spelled_definitions bs ds ≢ NoDefinitions
some_definitions bs NoDefinitions some = absurd (some refl)
some_definitions bs (MoreDefinitions ds m at ps form e) some = λ q. cc

-- ---- fields and paths

new_field : (bs : List (List ℕ)) (n : List ℕ) (fs : Fields) → IsNew n fs → IsNew n (spelled_fields bs fs)
new_field bs n NoFields h = tt
new_field bs n (MoreFields fs m e) h = (new_field bs n fs h.0, h.1)

once : (bs : List (List ℕ)) (fs : Fields) → AreOnce fs → AreOnce (spelled_fields bs fs)
once bs NoFields h = tt
once bs (MoreFields fs n e) h = (once bs fs h.0, new_field bs n fs h.1)

key : (bs : List (List ℕ)) (s : Step) → IsKey s → IsKey (spelled_step bs s)
key bs Prime h = h
key bs (Index es) h = h
key bs (Field n) h = h

path : (bs : List (List ℕ)) (ss : Steps) → IsPath ss → IsPath (spelled_steps bs ss)
path bs NoSteps h = absurd h
path bs (MoreSteps NoSteps at s) h = key bs s h
path bs (MoreSteps (MoreSteps ss p s) at t) h = (path bs (MoreSteps ss p s) h.0, key bs t h.1)

-- ---- rows

mutual
  pub formed : (bs : List (List ℕ)) (t : Tree) → IsFormed t → IsFormed (spelled bs t)
  formed bs (Number at z) h = tt
  formed bs (Str at s) h = tt
  formed bs (Truth at b) h = tt
  formed bs (Builtin at b) h = tt
  formed bs (Name at n) h = tt
  formed bs (Call at n es) h = call_formed (is_one_of n bs) at n (spelled_each bs es) (some_trees bs es h.0) (each_formed bs es h.1)
  formed bs (Qualified at n es) h = each_formed bs es h
  formed bs (At at) h = tt
  formed bs (Parenthesized at e) h = formed bs e h
  formed bs (Junction at b es) h = (some_trees bs es h.0, each_formed bs es h.1)
  formed bs (Prefix at o e) h = formed bs e h
  formed bs (Infix at o os e) h = (chain bs o os h.0, formed bs e h.1)
  formed bs (Postfix at e ss s) h = (formed bs e h.0, steps bs ss h.1, step bs s h.2)
  formed bs (SetOf at es) h = each_formed bs es h
  formed bs (Filter at n s e) h = (formed bs s h.0, formed (bs ++ n ∷ []) e h.1)
  formed bs (Map at e ds) h = (some_bounds bs ds h.0, bounds bs ds h.1, formed (bs ++ bound_by ds) e h.2)
  formed bs (Tuple at es) h = each_formed bs es h
  formed bs (Function at ds e) h = (some_bounds bs ds h.0, bounds bs ds h.1, formed (bs ++ bound_by ds) e h.2)
  formed bs (FunctionSet at s e) h = (formed bs s h.0, formed bs e h.1)
  formed bs (Record at fs) h = (some_fields bs fs h.0, once bs fs h.1, fields bs fs h.2)
  formed bs (RecordSet at fs) h = (some_fields bs fs h.0, once bs fs h.1, fields bs fs h.2)
  formed bs (Except at e cs) h = (some_changes bs cs h.0, changes bs cs h.1, formed bs e h.2)
  formed bs (Quantified at q ds e) h = (some_bounds bs ds h.0, bounds bs ds h.1, formed (bs ++ bound_by ds) e h.2)
  formed bs (Choose at n s e) h = (formed bs s h.0, formed (bs ++ n ∷ []) e h.1)
  formed bs (If at p e f) h = (formed bs p h.0, formed bs e h.1, formed bs f h.2)
  formed bs (Case at rows) h = (some_arms bs rows h.0, arms bs rows h.1)
  formed bs (CaseOther at rows e) h = (some_arms bs rows h.0, arms bs rows h.1, formed bs e h.2)
  formed bs (Let at ds e) h = (some_definitions bs ds h.0, definitions bs ds h.1, formed (bs ++ defined_by ds) e h.2)
  formed bs (BoxAction at e v) h = (formed bs e h.0, formed bs v h.1)
  formed bs (AngleAction at e v) h = (formed bs e h.0, formed bs v h.1)
  formed bs (Fairness at v e) h = (formed bs v h.0, formed bs e h.1)

  each_formed : (bs : List (List ℕ)) (es : Trees) → AreFormed es → AreFormed (spelled_each bs es)
  each_formed bs NoTrees h = tt
  each_formed bs (MoreTrees es e) h = (each_formed bs es h.0, formed bs e h.1)

  chain : (bs : List (List ℕ)) (o : InfixOperator) (os : Operands) → ChainIsFormed o os → ChainIsFormed o (spelled_operands bs os)
  chain bs o (First e) h = formed bs e h
  chain bs o (Next os at e) h = (chain bs o os h.0, formed bs e h.1, h.2)

  step : (bs : List (List ℕ)) (s : Step) → StepIsFormed s → StepIsFormed (spelled_step bs s)
  step bs Prime h = tt
  step bs (Index es) h = (some_trees bs es h.0, each_formed bs es h.1)
  step bs (Field n) h = tt

  steps : (bs : List (List ℕ)) (ss : Steps) → StepsAreFormed ss → StepsAreFormed (spelled_steps bs ss)
  steps bs NoSteps h = tt
  steps bs (MoreSteps ss at s) h = (steps bs ss h.0, step bs s h.1)

  bounds : (bs : List (List ℕ)) (ds : Bounds) → BoundsAreFormed ds → BoundsAreFormed (spelled_bounds bs ds)
  bounds bs NoBounds h = tt
  bounds bs (MoreBounds ds ns e) h = (bounds bs ds h.0, h.1, formed bs e h.2)

  fields : (bs : List (List ℕ)) (fs : Fields) → FieldsAreFormed fs → FieldsAreFormed (spelled_fields bs fs)
  fields bs NoFields h = tt
  fields bs (MoreFields fs n e) h = (fields bs fs h.0, formed bs e h.1)

  changes : (bs : List (List ℕ)) (cs : Changes) → ChangesAreFormed cs → ChangesAreFormed (spelled_changes bs cs)
  changes bs NoChanges h = tt
  changes bs (MoreChanges cs ss e) h = (changes bs cs h.0, path bs ss h.1, steps bs ss h.2, formed bs e h.3)

  arms : (bs : List (List ℕ)) (rows : Arms) → ArmsAreFormed rows → ArmsAreFormed (spelled_arms bs rows)
  arms bs NoArms h = tt
  arms bs (MoreArms rows p e) h = (arms bs rows h.0, formed bs p h.1, formed bs e h.2)

  definitions : (bs : List (List ℕ)) (ds : Definitions) → DefinitionsAreFormed ds → DefinitionsAreFormed (spelled_definitions bs ds)
  definitions bs NoDefinitions h = tt
  definitions bs (MoreDefinitions ds m at ps form e) h = (definitions bs ds h.0, formed (bs ++ defined_by ds ++ m ∷ [] ++ ps) e h.1)
