-- The reader goes over the text of each tree that fits.
use Rattle.std.proofs.Common.{◌≡◌, true, false, refl, sym, ◌∙◌}
use Rattle.base_core.specs.declared.place.Place.{Place}
use Rattle.reading_trees.specs.declared.operators.InfixOperator.{InfixOperator}
use Rattle.reading_trees.specs.Precedence.{infix_range}
use Rattle.reading_trees.specs.Fits.{LeftAbove, Fits, AllFit, ChainFits, StepFits, StepsFit, BoundsFit, FieldsFit, ChangesFit, ArmsBeforeFit, ArmsFit, DefinitionsFit}
use Rattle.reading_trees.specs.Grammar.{IsSubscript, begins_member}
use Rattle.reading_trees.specs.Trees as tree
use Rattle.reading_trees.specs.Trees.{Tree, Trees, NoTrees, MoreTrees, Operands, First, Next, Step, Steps, NoSteps, MoreSteps, Bounds, NoBounds, MoreBounds, Fields, NoFields, MoreFields, Changes, NoChanges, MoreChanges, Arms, NoArms, MoreArms, Definitions, NoDefinitions, MoreDefinitions}
use Rattle.reading_machine.proofs.RunsParts.{Runs, Delivers, Good, AllGood, ChainGood, StepGood, StepsGood, BoundsGood, FieldsGood, ChangesGood, ArmsGood, FunctionGood, DefinitionsGood}
use Rattle.reading_machine.proofs.RunsPlain.{number_runs, str_runs, truth_runs, builtin_runs, name_runs, qualified_runs, at_runs, prefix_runs, ChainRuns, chain_meets, infix_runs, parenthesized_runs, call_runs, if_runs, junction_runs}
use Rattle.reading_machine.proofs.RunsSteps.{postfix_runs}
use Rattle.reading_machine.proofs.RunsBounds.{quantified_runs, choose_runs}
use Rattle.reading_machine.proofs.RunsJoin.{rest_runs}
use Rattle.reading_machine.proofs.RunsBraces.{set_runs, filter_runs, map_runs}
use Rattle.reading_machine.proofs.RunsTuples.{tuple_runs, tuple_delivers, name_delivers, parenthesized_delivers, angle_runs, fairness_runs}
use Rattle.reading_machine.proofs.RunsBrackets.{function_set_runs, except_runs, box_runs, function_runs, record_runs, record_set_runs}
use Rattle.reading_machine.proofs.RunsCases.{case_runs, case_other_runs}
use Rattle.reading_machine.proofs.RunsDefinitions.{let_runs}
use Rattle.reading_machine.proofs.Runner.{Runner}

module _ (reader : Runner) where
  -- a row that does not begin with a name and `\in`
  other : (e : Tree) → begins_member e ≡ false → Delivers reader e → Runs reader e → Good reader e
  other e m d r = record { runs = r; rest = λ q. absurd (let k : false ≡ true = sym m ∙ q in cc); delivers = d }

  -- such a row that is no subscript
  row : (e : Tree) → begins_member e ≡ false → ¬ (IsSubscript e) → Runs reader e → Good reader e
  row e m n r = other e m (λ s. absurd (n s)) r

  pub all_run : (es : Operands) → ChainGood reader es → ChainRuns reader es
  all_run (First e) g = g.runs
  all_run (Next es at e) g = (all_run es g.0, g.1.runs)

  infix_good : (at : Place) (o : InfixOperator) (es : Operands) (e : Tree) → ChainFits o es → LeftAbove (infix_range o) e → ChainGood reader es → Good reader e → Good reader (tree.Infix at o es e)
  infix_good at o es e f l gs g =
      record {
        runs = infix_runs reader at o es e (all_run es gs) (chain_meets o es f) g.runs l;
        rest = λ m. rest_runs reader at o es e m gs (chain_meets o es f) g.runs l;
        delivers = λ s. absurd s;
      }

  mutual
    pub good : (e : Tree) → Fits e → Good reader e
    good (tree.Number at n) f = row (tree.Number at n) refl (λ s. s) (number_runs reader at n)
    good (tree.Str at s) f = row (tree.Str at s) refl (λ s. s) (str_runs reader at s)
    good (tree.Truth at b) f = row (tree.Truth at b) refl (λ s. s) (truth_runs reader at b)
    good (tree.Builtin at b) f = row (tree.Builtin at b) refl (λ s. s) (builtin_runs reader at b)
    good (tree.Name at n) f = other (tree.Name at n) refl (name_delivers reader at n) (name_runs reader at n)
    good (tree.Call at n es) f = row (tree.Call at n es) refl (λ s. s) (call_runs reader at n es (all_good es f))
    good (tree.Qualified at n es) f = row (tree.Qualified at n es) refl (λ s. s) (qualified_runs reader at n es (all_good es f))
    good (tree.At at) f = row (tree.At at) refl (λ s. s) (at_runs reader at)
    good (tree.Parenthesized at e) f =
        let r : Runs reader e = (good e f).runs in other (tree.Parenthesized at e) refl (parenthesized_delivers reader at e r) (parenthesized_runs reader at e r)
    good (tree.Junction at b es) f = row (tree.Junction at b es) refl (λ s. s) (junction_runs reader at b es (all_good es f))
    good (tree.Prefix at o e) f = row (tree.Prefix at o e) refl (λ s. s) (prefix_runs reader at o e (good e f.0).runs f.1)
    good (tree.Infix at o es e) f = infix_good at o es e f.0 f.2 (chain_good o es f.0) (good e f.1)
    good (tree.Postfix at e ss s) f = row (tree.Postfix at e ss s) refl (λ s. s) (postfix_runs reader at e ss s (good e f.0).runs (steps_good ss f.1) (step_good s f.2))
    good (tree.SetOf at es) f = row (tree.SetOf at es) refl (λ s. s) (set_runs reader at es (all_good es f) f)
    good (tree.Filter at n s e) f = row (tree.Filter at n s e) refl (λ s. s) (filter_runs reader at n s e (good s f.0).runs (good e f.1).runs)
    good (tree.Map at e bs) f = row (tree.Map at e bs) refl (λ s. s) (map_runs reader at e bs (good e f.0).runs (bounds_good bs f.1))
    good (tree.Tuple at es) f = let g : AllGood reader es = all_good es f in other (tree.Tuple at es) refl (tuple_delivers reader at es g) (tuple_runs reader at es g)
    good (tree.Function at bs e) f = row (tree.Function at bs e) refl (λ s. s) (function_runs reader at bs e (bounds_good bs f.0) (good e f.1).runs)
    good (tree.FunctionSet at s e) f = row (tree.FunctionSet at s e) refl (λ s. s) (function_set_runs reader at s e (good s f.0) f.0 (good e f.1).runs)
    good (tree.Record at hs) f = row (tree.Record at hs) refl (λ s. s) (record_runs reader at hs (fields_good hs f))
    good (tree.RecordSet at hs) f = row (tree.RecordSet at hs) refl (λ s. s) (record_set_runs reader at hs (fields_good hs f))
    good (tree.Except at e cs) f = row (tree.Except at e cs) refl (λ s. s) (except_runs reader at e cs (good e f.0) f.0 (changes_good cs f.1))
    good (tree.Quantified at q bs e) f = row (tree.Quantified at q bs e) refl (λ s. s) (quantified_runs reader at q bs e (bounds_good bs f.0) (good e f.1).runs)
    good (tree.Choose at n s e) f = row (tree.Choose at n s e) refl (λ s. s) (choose_runs reader at n s e (good s f.0).runs (good e f.1).runs)
    good (tree.If at p a b) f = row (tree.If at p a b) refl (λ s. s) (if_runs reader at p a b (good p f.0).runs (good a f.1).runs (good b f.2).runs)
    good (tree.Case at arms) f = row (tree.Case at arms) refl (λ s. s) (case_runs reader at arms (arms_good arms f) f)
    good (tree.CaseOther at arms e) f = row (tree.CaseOther at arms e) refl (λ s. s) (case_other_runs reader at arms e (arms_before_good arms f.0) f.0 (good e f.1).runs)
    good (tree.Let at ds e) f = row (tree.Let at ds e) refl (λ s. s) (let_runs reader at ds e (definitions_good ds f.0) (good e f.1).runs)
    good (tree.BoxAction at e v) f = row (tree.BoxAction at e v) refl (λ s. s) (box_runs reader at e v (good e f.0) f.0 (good v f.1).delivers)
    good (tree.AngleAction at e v) f = row (tree.AngleAction at e v) refl (λ s. s) (angle_runs reader at e v (good e f.0).runs (good v f.1).delivers)
    good (tree.Fairness at v e) f = row (tree.Fairness at v e) refl (λ s. s) (fairness_runs reader at v e (good v f.0).delivers (good e f.1).runs)

    pub all_good : (es : Trees) → AllFit es → AllGood reader es
    all_good NoTrees f = tt
    all_good (MoreTrees es e) f = (all_good es f.0, good e f.1)

    pub chain_good : (o : InfixOperator) (es : Operands) → ChainFits o es → ChainGood reader es
    chain_good o (First e) f = good e f.0
    chain_good o (Next es at e) f = (chain_good o es f.0, good e f.1)

    step_good : (s : Step) → StepFits s → StepGood reader s
    step_good tree.Prime f = tt
    step_good (tree.Index es) f = all_good es f
    step_good (tree.Field h) f = tt

    pub steps_good : (ss : Steps) → StepsFit ss → StepsGood reader ss
    steps_good NoSteps f = tt
    steps_good (MoreSteps ss at s) f = (steps_good ss f.0, step_good s f.1)

    pub bounds_good : (bs : Bounds) → BoundsFit bs → BoundsGood reader bs
    bounds_good NoBounds f = tt
    bounds_good (MoreBounds bs ns s) f = (bounds_good bs f.0, good s f.1)

    pub fields_good : (hs : Fields) → FieldsFit hs → FieldsGood reader hs
    fields_good NoFields f = tt
    fields_good (MoreFields hs h e) f = (fields_good hs f.0, good e f.1)

    pub changes_good : (cs : Changes) → ChangesFit cs → ChangesGood reader cs
    changes_good NoChanges f = tt
    changes_good (MoreChanges cs ss e) f = (changes_good cs f.0, steps_good ss f.1, good e f.2)

    pub arms_before_good : (arms : Arms) → ArmsBeforeFit arms → ArmsGood reader arms
    arms_before_good NoArms f = tt
    arms_before_good (MoreArms arms p e) f = (arms_before_good arms f.0, good p f.1, good e f.2)

    arms_good : (arms : Arms) → ArmsFit arms → ArmsGood reader arms
    arms_good NoArms f = tt
    arms_good (MoreArms arms p e) f = (arms_before_good arms f.0, good p f.1, good e f.2)

    pub definitions_good : (ds : Definitions) → DefinitionsFit ds → DefinitionsGood reader ds
    definitions_good NoDefinitions f = tt
    definitions_good (MoreDefinitions ds n at ns form e) f = (definitions_good ds f.0, good e f.1, function_good e f.1)

    pub function_good : (e : Tree) → Fits e → FunctionGood reader e
    function_good (tree.Function at bs e) f = (bounds_good bs f.0, good e f.1)
    function_good _ f = tt
