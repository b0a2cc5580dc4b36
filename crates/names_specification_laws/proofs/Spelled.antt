-- What a text spells has as many parts as the grammar asks for.
use Rattle.std.proofs.Common.{List, [], ◌∷◌, ◌++◌}
use Rattle.std.specs.Prelude.{◌≢◌, ℕ}
use Rattle.base_core.specs.declared.place.Place.{Place}
use Rattle.reading_trees.specs.declared.form.DefinitionForm.{DefinitionForm}
use Rattle.reading_trees.specs.declared.form.DefinitionForm.TheVariants as forms
use Rattle.reading_trees.specs.declared.laid.Bullet.{Bullet}
use Rattle.reading_trees.specs.declared.laid.Laid.{Laid}
use Rattle.reading_trees.specs.declared.module.Unit.{Unit as ModuleUnit}
use Rattle.reading_trees.specs.declared.module.With.{With}
use Rattle.reading_trees.specs.declared.module.Unit.TheVariants.{Variables, Constants, Recursive, Define, Instance, Assume, Passed}
use Rattle.reading_trees.specs.declared.operators.InfixOperator.{InfixOperator}
use Rattle.reading_tokens.specs.declared.token.Symbol.{Symbol}
use Rattle.reading_tokens.specs.declared.token.Symbol.TheVariants as symbols
use Rattle.reading_trees.specs.Trees.{Tree, Number, Str, Truth, Builtin, Name, Call, Qualified, At, Parenthesized, Junction, Prefix, Infix, Postfix, SetOf, Filter, Map, Tuple, Function, FunctionSet, Record, RecordSet, Except, Quantified, Choose, If, Case, CaseOther, Let, BoxAction, AngleAction, Fairness, Trees, NoTrees, MoreTrees, Operands, First, Next, Step, Prime, Index, Field, Steps, NoSteps, MoreSteps, Bounds, NoBounds, MoreBounds, Fields, NoFields, MoreFields, Changes, NoChanges, MoreChanges, Arms, NoArms, MoreArms, Definitions, NoDefinitions, MoreDefinitions}
use Rattle.reading_trees.specs.Grammar.{by_form, Span, IsPath, AreOnce, Text, ArgumentsText, CommasBefore, Commas, MaybeCommas, Items, ItemsBefore, Chain, StepText, StepsText, BoundsBefore, BoundsText, FieldsBefore, FieldsText, ChangesBefore, ChangesText, ArmsBefore, SomeArmsBefore, ArmsText, FunctionRest, DefinitionsText, SomeDefinitions, DefinitionRest, NamesText}
use Rattle.reading_trees.specs.Fits.{Fits, AllFit, ChainFits, StepFits, StepsFit, BoundsFit, FieldsFit, ChangesFit, ArmsBeforeFit, ArmsFit, DefinitionsFit}
use Rattle.reading_trees.specs.Modules.{UnitText, UnitsText, UnitFits, UnitsFit, WithText, MoreWithsText, WithsText, WithsFit}
use Rattle.names_specification_laws.specs.Formed.{IsFormed, AreFormed, ChainIsFormed, StepIsFormed, StepsAreFormed, BoundsAreFormed, FieldsAreFormed, ChangesAreFormed, ArmsAreFormed, DefinitionsAreFormed, UnitIsFormed, UnitsAreFormed, WithsAreFormed}
use Rattle.names_specification_laws.specs.FormLaws.{SpelledAreFormed, ModulesAreFormed}

some_names : (ns : List (List ℕ)) (xs ys : List Laid) → NamesText ns xs ys → ns ≢ []
some_names [] xs ys h = absurd h
some_names (n ∷ ns) xs ys h = λ e. cc

-- rows with lists that may not be empty

with_bounds : (bs : Bounds) (e : Tree) → (bs ≢ NoBounds) × BoundsAreFormed bs → IsFormed e → (bs ≢ NoBounds) × BoundsAreFormed bs × IsFormed e
with_bounds bs e h k = (h.0, h.1, k)

with_fields : (fs : Fields) → AreOnce fs → (fs ≢ NoFields) × FieldsAreFormed fs → (fs ≢ NoFields) × AreOnce fs × FieldsAreFormed fs
with_fields fs once h = (h.0, once, h.1)

with_changes : (cs : Changes) (e : Tree) → (cs ≢ NoChanges) × ChangesAreFormed cs → IsFormed e → (cs ≢ NoChanges) × ChangesAreFormed cs × IsFormed e
with_changes cs e h k = (h.0, h.1, k)

with_arms : (arms : Arms) (e : Tree) → (arms ≢ NoArms) × ArmsAreFormed arms → IsFormed e → (arms ≢ NoArms) × ArmsAreFormed arms × IsFormed e
with_arms arms e h k = (h.0, h.1, k)

with_definitions : (ds : Definitions) (e : Tree) → (ds ≢ NoDefinitions) × DefinitionsAreFormed ds → IsFormed e → (ds ≢ NoDefinitions) × DefinitionsAreFormed ds × IsFormed e
with_definitions ds e h k = (h.0, h.1, k)

some_trees : (es : Trees) (e : Tree) → AreFormed es → IsFormed e → (MoreTrees es e ≢ NoTrees) × AreFormed (MoreTrees es e)
some_trees es e h k = (λ q. cc, (h, k))

some_bounds : (bs : Bounds) (ns : List (List ℕ)) (e : Tree) → BoundsAreFormed bs → ns ≢ [] → IsFormed e → (MoreBounds bs ns e ≢ NoBounds) × BoundsAreFormed (MoreBounds bs ns e)
some_bounds bs ns e h n k = (λ q. cc, (h, n, k))

some_fields : (fs : Fields) (n : List ℕ) (e : Tree) → FieldsAreFormed fs → IsFormed e → (MoreFields fs n e ≢ NoFields) × FieldsAreFormed (MoreFields fs n e)
some_fields fs n e h k = (λ q. cc, (h, k))

more_changes : (cs : Changes) (ss : Steps) (e : Tree) → ChangesAreFormed cs → IsPath ss × StepsAreFormed ss × IsFormed e → ChangesAreFormed (MoreChanges cs ss e)
more_changes cs ss e h k = (h, k.0, k.1, k.2)

some_changes : (cs : Changes) (ss : Steps) (e : Tree) → ChangesAreFormed (MoreChanges cs ss e) → (MoreChanges cs ss e ≢ NoChanges) × ChangesAreFormed (MoreChanges cs ss e)
some_changes cs ss e h = (λ q. cc, h)

arms_there : (arms : Arms) (p e : Tree) → ArmsAreFormed arms → IsFormed p → IsFormed e → (MoreArms arms p e ≢ NoArms) × ArmsAreFormed (MoreArms arms p e)
arms_there arms p e h j k = (λ q. cc, (h, j, k))

definitions_there : (ds : Definitions) (n : List ℕ) (at : Place) (ns : List (List ℕ)) (form : DefinitionForm) (e : Tree) → DefinitionsAreFormed ds → IsFormed e → (MoreDefinitions ds n at ns form e ≢ NoDefinitions) × DefinitionsAreFormed (MoreDefinitions ds n at ns form e)
definitions_there ds n at ns form e h k = (λ q. cc, (h, k))

-- whichever form a definition has
either_form : {A : Type 0} (form : DefinitionForm) (R S : Span) (xs ys : List Laid) → by_form form R S xs ys → (R xs ys → A) → (S xs ys → A) → A
either_form forms.Operator R S xs ys h f g = f h
either_form forms.Function R S xs ys h f g = g h
either_form forms.Constant R S xs ys h f g = absurd h

mutual
  formed : (t : Tree) (xs ys : List Laid) → Text t xs ys → Fits t → IsFormed t
  formed (Number at z) xs ys h f = tt
  formed (Str at s) xs ys h f = tt
  formed (Truth at b) xs ys h f = tt
  formed (Builtin at b) xs ys h f = tt
  formed (Name at n) xs ys h f = tt
  formed (Call at n es) xs ys h f = commas es h.2.0 h.2.2.0 h.2.2.1 f
  formed (Qualified at n es) xs ys h f = arguments es h.0 ys h.2 f
  formed (At at) xs ys h f = tt
  formed (Parenthesized at e) xs ys h f = formed e h.0 h.2.0 h.2.1 f
  formed (Junction at b es) xs ys h f = items b es h.0 h.2.0 h.2.1 f
  formed (Prefix at o e) xs ys h f = formed e h.0 ys h.2 f.0
  formed (Infix at o es e) xs ys h f = (chain o es xs h.0 h.1 f.0, formed e h.2.0 ys h.2.2 f.1)
  formed (Postfix at e ss s) xs ys h f = (formed e xs h.1.0 h.1.1 f.0, steps ss h.1.0 h.1.2.0 h.1.2.1 f.1, step at s h.1.2.0 ys h.1.2.2 f.2)
  formed (SetOf at es) xs ys h f = maybe_commas es h.0 h.2.0 h.2.1 f
  formed (Filter at n s e) xs ys h f = (formed s h.2.2.0 h.2.2.2.0 h.2.2.2.1 f.0, formed e h.2.2.2.2.0 h.2.2.2.2.2.0 h.2.2.2.2.2.1 f.1)
  formed (Map at e bs) xs ys h f = with_bounds bs e (bounds bs h.1.2.2.0 h.1.2.2.2.0 h.1.2.2.2.1 f.1) (formed e h.1.0 h.1.2.0 h.1.2.1 f.0)
  formed (Tuple at es) xs ys h f = maybe_commas es h.0 h.2.0 h.2.1 f
  formed (Function at bs e) xs ys h f = with_bounds bs e (bounds bs h.0 h.2.0 h.2.1 f.0) (formed e h.2.2.0 h.2.2.2.0 h.2.2.2.1 f.1)
  formed (FunctionSet at s e) xs ys h f = (formed s h.0 h.2.0 h.2.1 f.0, formed e h.2.2.0 h.2.2.2.0 h.2.2.2.1 f.1)
  formed (Record at fs) xs ys h f = with_fields fs h.0 (fields symbols.MapsTo fs h.1.0 h.1.2.0 h.1.2.1 f)
  formed (RecordSet at fs) xs ys h f = with_fields fs h.0 (fields symbols.Colon fs h.1.0 h.1.2.0 h.1.2.1 f)
  formed (Except at e cs) xs ys h f = with_changes cs e (changes cs h.2.2.0 h.2.2.2.0 h.2.2.2.1 f.1) (formed e h.0 h.2.0 h.2.1 f.0)
  formed (Quantified at q bs e) xs ys h f = with_bounds bs e (bounds bs h.0 h.2.0 h.2.1 f.0) (formed e h.2.2.0 ys h.2.2.2 f.1)
  formed (Choose at n s e) xs ys h f = (formed s h.2.2.0 h.2.2.2.0 h.2.2.2.1 f.0, formed e h.2.2.2.2.0 ys h.2.2.2.2.2 f.1)
  formed (If at p e g) xs ys h f = (formed p h.0 h.2.0 h.2.1 f.0, formed e h.2.2.0 h.2.2.2.0 h.2.2.2.1 f.1, formed g h.2.2.2.2.0 ys h.2.2.2.2.2 f.2)
  formed (Case at arms) xs ys h f = last_arms arms h.0 ys h.2 f
  formed (CaseOther at arms e) xs ys h f = with_arms arms e (some_arms arms h.0 h.2.0 h.2.1 f.0) (formed e h.2.2.2.0 ys h.2.2.2.2 f.1)
  formed (Let at ds e) xs ys h f = with_definitions ds e (some_definitions ds h.0 h.2.0 h.2.1 f.0) (formed e h.2.2.0 ys h.2.2.2 f.1)
  formed (BoxAction at e v) xs ys h f = (formed e h.1.0 h.1.2.0 h.1.2.1 f.0, formed v h.1.2.2.0 ys h.1.2.2.2 f.1)
  formed (AngleAction at e v) xs ys h f = (formed e h.1.0 h.1.2.0 h.1.2.1 f.0, formed v h.1.2.2.0 ys h.1.2.2.2 f.1)
  formed (Fairness at v e) xs ys h f = (formed v h.1.0 h.1.2.0 h.1.2.1 f.0, formed e h.1.2.2.0 h.1.2.2.2.0 h.1.2.2.2.1 f.1)

  commas_before : (es : Trees) (xs ys : List Laid) → CommasBefore es xs ys → AllFit es → AreFormed es
  commas_before NoTrees xs ys h f = tt
  commas_before (MoreTrees es e) xs ys h f = (commas_before es xs h.0 h.1 f.0, formed e h.0 h.2.0 h.2.1 f.1)

  arguments : (es : Trees) (xs ys : List Laid) → ArgumentsText es xs ys → AllFit es → AreFormed es
  arguments NoTrees xs ys h f = tt
  arguments (MoreTrees es e) xs ys h f = (commas_before es h.0 h.2.1.0 h.2.1.1 f.0, formed e h.2.1.0 h.2.0 h.2.1.2 f.1)

  commas : (es : Trees) (xs ys : List Laid) → Commas es xs ys → AllFit es → (es ≢ NoTrees) × AreFormed es
  commas NoTrees xs ys h f = absurd h
  commas (MoreTrees es e) xs ys h f = some_trees es e (commas_before es xs h.0 h.1 f.0) (formed e h.0 ys h.2 f.1)

  maybe_commas : (es : Trees) (xs ys : List Laid) → MaybeCommas es xs ys → AllFit es → AreFormed es
  maybe_commas NoTrees xs ys h f = tt
  maybe_commas (MoreTrees es e) xs ys h f = (commas_before es xs h.0 h.1 f.0, formed e h.0 ys h.2 f.1)

  items_before : (b : Bullet) (es : Trees) (xs ys : List Laid) → ItemsBefore b es xs ys → AllFit es → AreFormed es
  items_before b NoTrees xs ys h f = tt
  items_before b (MoreTrees es e) xs ys h f = (items_before b es xs h.0 h.1 f.0, formed e h.2.0 ys h.2.2 f.1)

  items : (b : Bullet) (es : Trees) (xs ys : List Laid) → Items b es xs ys → AllFit es → (es ≢ NoTrees) × AreFormed es
  items b NoTrees xs ys h f = absurd h
  items b (MoreTrees es e) xs ys h f = some_trees es e (items_before b es xs h.0 h.1 f.0) (formed e h.2.0 ys h.2.2 f.1)

  chain : (o : InfixOperator) (es : Operands) (xs ys : List Laid) → Chain o es xs ys → ChainFits o es → ChainIsFormed o es
  chain o (First e) xs ys h f = formed e xs ys h f.0
  chain o (Next es at e) xs ys h f = (chain o es xs h.0 h.1 f.0, formed e h.2.0 ys h.2.2 f.1, f.4)

  step : (at : Place) (s : Step) (xs ys : List Laid) → StepText at s xs ys → StepFits s → StepIsFormed s
  step at Prime xs ys h f = tt
  step at (Index es) xs ys h f = commas es h.0 h.2.0 h.2.1 f
  step at (Field k) xs ys h f = tt

  steps : (ss : Steps) (xs ys : List Laid) → StepsText ss xs ys → StepsFit ss → StepsAreFormed ss
  steps NoSteps xs ys h f = tt
  steps (MoreSteps ss at s) xs ys h f = (steps ss xs h.0 h.1 f.0, step at s h.0 ys h.2 f.1)

  bounds_before : (bs : Bounds) (xs ys : List Laid) → BoundsBefore bs xs ys → BoundsFit bs → BoundsAreFormed bs
  bounds_before NoBounds xs ys h f = tt
  bounds_before (MoreBounds bs ns s) xs ys h f = (bounds_before bs xs h.0 h.1 f.0, some_names ns h.0 h.2.0 h.2.1, formed s h.2.2.0 h.2.2.2.0 h.2.2.2.1 f.1)

  bounds : (bs : Bounds) (xs ys : List Laid) → BoundsText bs xs ys → BoundsFit bs → (bs ≢ NoBounds) × BoundsAreFormed bs
  bounds NoBounds xs ys h f = absurd h
  bounds (MoreBounds bs ns s) xs ys h f = some_bounds bs ns s (bounds_before bs xs h.0 h.1 f.0) (some_names ns h.0 h.2.0 h.2.1) (formed s h.2.2.0 ys h.2.2.2 f.1)

  fields_before : (m : Symbol) (fs : Fields) (xs ys : List Laid) → FieldsBefore m fs xs ys → FieldsFit fs → FieldsAreFormed fs
  fields_before m NoFields xs ys h f = tt
  fields_before m (MoreFields fs k e) xs ys h f = (fields_before m fs xs h.0 h.1 f.0, formed e h.2.2.0 h.2.2.2.0 h.2.2.2.1 f.1)

  fields : (m : Symbol) (fs : Fields) (xs ys : List Laid) → FieldsText m fs xs ys → FieldsFit fs → (fs ≢ NoFields) × FieldsAreFormed fs
  fields m NoFields xs ys h f = absurd h
  fields m (MoreFields fs k e) xs ys h f = some_fields fs k e (fields_before m fs xs h.0 h.1 f.0) (formed e h.2.2.0 ys h.2.2.2 f.1)

  changes_before : (cs : Changes) (xs ys : List Laid) → ChangesBefore cs xs ys → ChangesFit cs → ChangesAreFormed cs
  changes_before NoChanges xs ys h f = tt
  changes_before (MoreChanges cs ss e) xs ys h f = more_changes cs ss e (changes_before cs xs h.0 h.1 f.0) (h.2.1.0, steps ss h.2.1.1.0 h.2.1.1.2.0 h.2.1.1.2.1 f.1, formed e h.2.1.1.2.2.0 h.2.0 h.2.1.1.2.2.2 f.2)

  changes : (cs : Changes) (xs ys : List Laid) → ChangesText cs xs ys → ChangesFit cs → (cs ≢ NoChanges) × ChangesAreFormed cs
  changes NoChanges xs ys h f = absurd h
  changes (MoreChanges cs ss e) xs ys h f = some_changes cs ss e (more_changes cs ss e (changes_before cs xs h.0 h.1 f.0) (h.2.0, steps ss h.2.1.0 h.2.1.2.0 h.2.1.2.1 f.1, formed e h.2.1.2.2.0 ys h.2.1.2.2.2 f.2))

  arms_before : (arms : Arms) (xs ys : List Laid) → ArmsBefore arms xs ys → ArmsBeforeFit arms → ArmsAreFormed arms
  arms_before NoArms xs ys h f = tt
  arms_before (MoreArms arms p e) xs ys h f = (arms_before arms xs h.0 h.1 f.0, formed p h.0 h.2.0 h.2.1 f.1, formed e h.2.2.0 h.2.2.2.0 h.2.2.2.1 f.2)

  some_arms : (arms : Arms) (xs ys : List Laid) → SomeArmsBefore arms xs ys → ArmsBeforeFit arms → (arms ≢ NoArms) × ArmsAreFormed arms
  some_arms NoArms xs ys h f = absurd h
  some_arms (MoreArms arms p e) xs ys h f = arms_there arms p e (arms_before arms xs h.0 h.1 f.0) (formed p h.0 h.2.0 h.2.1 f.1) (formed e h.2.2.0 h.2.2.2.0 h.2.2.2.1 f.2)

  last_arms : (arms : Arms) (xs ys : List Laid) → ArmsText arms xs ys → ArmsFit arms → (arms ≢ NoArms) × ArmsAreFormed arms
  last_arms NoArms xs ys h f = absurd h
  last_arms (MoreArms arms p e) xs ys h f = arms_there arms p e (arms_before arms xs h.0 h.1 f.0) (formed p h.0 h.2.0 h.2.1 f.1) (formed e h.2.2.0 ys h.2.2.2 f.2)

  function_rest : (t : Tree) (xs ys : List Laid) → FunctionRest t xs ys → Fits t → IsFormed t
  function_rest (Function at bs e) xs ys h f = with_bounds bs e (bounds bs h.0 h.2.0 h.2.1 f.0) (formed e h.2.2.2.0 ys h.2.2.2.2 f.1)
  function_rest t xs ys h f = absurd h

  definitions : (ds : Definitions) (xs ys : List Laid) → DefinitionsText ds xs ys → DefinitionsFit ds → DefinitionsAreFormed ds
  definitions NoDefinitions xs ys h f = tt
  definitions (MoreDefinitions ds n at ns form e) xs ys h f = (definitions ds xs h.0 h.1 f.0, either_form form _ _ h.2.0 ys h.2.2 (λ a. formed e a.2.0 ys a.2.2 f.1) (λ b. function_rest e h.2.0 ys b.1 f.1))

  some_definitions : (ds : Definitions) (xs ys : List Laid) → SomeDefinitions ds xs ys → DefinitionsFit ds → (ds ≢ NoDefinitions) × DefinitionsAreFormed ds
  some_definitions NoDefinitions xs ys h f = absurd h
  some_definitions (MoreDefinitions ds n at ns form e) xs ys h f = definitions_there ds n at ns form e (definitions ds xs h.0 h.1 f.0) (either_form form _ _ h.2.0 ys h.2.2 (λ a. formed e a.2.0 ys a.2.2 f.1) (λ b. function_rest e h.2.0 ys b.1 f.1))

rest : (ns : List (List ℕ)) (form : DefinitionForm) (t : Tree) (xs ys : List Laid) → DefinitionRest ns form t xs ys → Fits t → IsFormed t
rest ns forms.Operator t xs ys h f = formed t h.2.0 ys h.2.2 f
rest ns forms.Function t xs ys h f = function_rest t xs ys h.1 f
rest ns forms.Constant t xs ys h f = absurd h

-- what WITH gives
with_formed : (before : List (List ℕ)) (w : With) (xs ys : List Laid) → WithText before w xs ys → Fits w.by → IsFormed w.by
with_formed before w xs ys h f = formed w.by h.1.2.0 ys h.1.2.2 f

more_withs_formed : (before : List (List ℕ)) (ws : List With) (xs ys : List Laid) → MoreWithsText before ws xs ys → WithsFit ws → WithsAreFormed ws
more_withs_formed before [] xs ys h f = tt
more_withs_formed before (w ∷ ws) xs ys h f = (with_formed before w h.0 h.2.0 h.2.1 f.0, more_withs_formed (before ++ w.name ∷ []) ws h.2.0 ys h.2.2 f.1)

withs_formed : (ws : List With) (xs ys : List Laid) → WithsText ws xs ys → WithsFit ws → WithsAreFormed ws
withs_formed [] xs ys h f = tt
withs_formed (w ∷ ws) xs ys h f = (with_formed [] w h.0 h.2.0 h.2.1 f.0, more_withs_formed (w.name ∷ []) ws h.2.0 ys h.2.2 f.1)

unit_formed : (u : ModuleUnit) (xs ys : List Laid) → UnitText u xs ys → UnitFits u → UnitIsFormed u
unit_formed (Variables ds) xs ys h f = tt
unit_formed (Constants ds) xs ys h f = tt
unit_formed (Recursive ds) xs ys h f = tt
unit_formed (Define d) xs ys h f = rest d.params d.form d.body h.0 ys h.2 f
unit_formed (Assume e) xs ys h f = formed e h.2.0 ys h.2.2 f
unit_formed (Instance m) xs ys h f = withs_formed m.withs h.2.2.2.0 ys h.2.2.2.2 f
unit_formed Passed xs ys h f = tt

units_formed : (us : List ModuleUnit) (xs ys : List Laid) → UnitsText us xs ys → UnitsFit us → UnitsAreFormed us
units_formed [] xs ys h f = tt
units_formed (u ∷ us) xs ys h f = (unit_formed u xs h.0 h.1 f.0, units_formed us h.0 ys h.2 f.1)

pub spelled_are_formed : SpelledAreFormed
spelled_are_formed t from behind h = formed t from behind h.text h.fits

pub modules_are_formed : ModulesAreFormed
modules_are_formed m laid h = units_formed m.units h.text.2.2.2.2.0 h.text.2.2.2.2.2.0 h.text.2.2.2.2.2.1 h.fits
