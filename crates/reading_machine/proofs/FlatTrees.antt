-- The flat reader goes over the text of each tree, whatever the ranges of its operators.
use Rattle.std.proofs.Common.{◌≡◌, true, false, refl, sym, ◌∙◌}
use Rattle.reading_trees.specs.Grammar.{IsSubscript, begins_member}
use Rattle.reading_trees.specs.Trees as tree
use Rattle.reading_trees.specs.Trees.{Tree, Trees, NoTrees, MoreTrees, Operands, First, Next, Step, Steps, NoSteps, MoreSteps, Bounds, NoBounds, MoreBounds, Fields, NoFields, MoreFields, Changes, NoChanges, MoreChanges, Arms, NoArms, MoreArms, Definitions, NoDefinitions, MoreDefinitions}
use Rattle.base_core.specs.declared.place.Place.{Place}
use Rattle.reading_trees.specs.declared.operators.InfixOperator.{InfixOperator}
use Rattle.reading_machine.proofs.FlatGoes.{Goes, Delivers, Good, AllGood, ChainGood, StepGood, StepsGood, BoundsGood, FieldsGood, ChangesGood, ArmsGood, FunctionGood, DefinitionsGood}
use Rattle.reading_machine.proofs.FlatPlain.{number_goes, str_goes, truth_goes, builtin_goes, name_goes, qualified_goes, at_goes, prefix_goes, infix_goes, infix_member, parenthesized_goes, call_goes, if_goes, junction_goes, postfix_goes}
use Rattle.reading_machine.proofs.FlatBounds.{quantified_goes, choose_goes, case_goes, case_other_goes, let_goes}
use Rattle.reading_machine.proofs.FlatBraces.{set_goes, filter_goes, map_goes, tuple_goes, tuple_delivers, name_delivers, parenthesized_delivers, angle_goes, fairness_goes}
use Rattle.reading_machine.proofs.FlatBrackets.{function_set_goes, except_goes, box_goes, function_goes, record_goes, record_set_goes}

-- a row that does not begin with a name and `\in`
other : (e : Tree) → begins_member e ≡ false → Delivers e → Goes e → Good e
other e m d g = record { goes = g; member = λ q xs ys h. absurd (let k : false ≡ true = sym m ∙ q in cc); delivers = d }

-- such a row that is no subscript
row : (e : Tree) → begins_member e ≡ false → ¬ (IsSubscript e) → Goes e → Good e
row e m n g = other e m (λ s. absurd (n s)) g

infix_good : (at : Place) (o : InfixOperator) (es : Operands) (e : Tree) → ChainGood es → Good e → Good (tree.Infix at o es e)
infix_good at o es e gs g = record { goes = infix_goes at o es e gs g.goes; member = λ m xs ys h. infix_member at o es e gs g.goes m xs ys h; delivers = λ s. absurd s }

mutual
  pub good : (e : Tree) → Good e
  good (tree.Number at n) = row (tree.Number at n) refl (λ s. s) (number_goes at n)
  good (tree.Str at s) = row (tree.Str at s) refl (λ s. s) (str_goes at s)
  good (tree.Truth at b) = row (tree.Truth at b) refl (λ s. s) (truth_goes at b)
  good (tree.Builtin at b) = row (tree.Builtin at b) refl (λ s. s) (builtin_goes at b)
  good (tree.Name at n) = other (tree.Name at n) refl (name_delivers at n) (name_goes at n)
  good (tree.Call at n es) = row (tree.Call at n es) refl (λ s. s) (call_goes at n es (all_good es))
  good (tree.Qualified at n es) = row (tree.Qualified at n es) refl (λ s. s) (qualified_goes at n es (all_good es))
  good (tree.At at) = row (tree.At at) refl (λ s. s) (at_goes at)
  good (tree.Parenthesized at e) = let g : Goes e = (good e).goes in other (tree.Parenthesized at e) refl (parenthesized_delivers at e g) (parenthesized_goes at e g)
  good (tree.Junction at b es) = row (tree.Junction at b es) refl (λ s. s) (junction_goes at b es (all_good es))
  good (tree.Prefix at o e) = row (tree.Prefix at o e) refl (λ s. s) (prefix_goes at o e (good e).goes)
  good (tree.Infix at o es e) = infix_good at o es e (chain_good es) (good e)
  good (tree.Postfix at e ss s) = row (tree.Postfix at e ss s) refl (λ s. s) (postfix_goes at e ss s (good e).goes (steps_good ss) (step_good s))
  good (tree.SetOf at es) = row (tree.SetOf at es) refl (λ s. s) (set_goes at es (all_good es))
  good (tree.Filter at n s e) = row (tree.Filter at n s e) refl (λ s. s) (filter_goes at n s e (good s).goes (good e).goes)
  good (tree.Map at e bs) = row (tree.Map at e bs) refl (λ s. s) (map_goes at e bs (good e).goes (bounds_good bs))
  good (tree.Tuple at es) = let g : AllGood es = all_good es in other (tree.Tuple at es) refl (tuple_delivers at es g) (tuple_goes at es g)
  good (tree.Function at bs e) = row (tree.Function at bs e) refl (λ s. s) (function_goes at bs e (bounds_good bs) (good e).goes)
  good (tree.FunctionSet at s e) = row (tree.FunctionSet at s e) refl (λ s. s) (function_set_goes at s e (good s) (good e).goes)
  good (tree.Record at hs) = row (tree.Record at hs) refl (λ s. s) (record_goes at hs (fields_good hs))
  good (tree.RecordSet at hs) = row (tree.RecordSet at hs) refl (λ s. s) (record_set_goes at hs (fields_good hs))
  good (tree.Except at e cs) = row (tree.Except at e cs) refl (λ s. s) (except_goes at e cs (good e) (changes_good cs))
  good (tree.Quantified at q bs e) = row (tree.Quantified at q bs e) refl (λ s. s) (quantified_goes at q bs e (bounds_good bs) (good e).goes)
  good (tree.Choose at n s e) = row (tree.Choose at n s e) refl (λ s. s) (choose_goes at n s e (good s).goes (good e).goes)
  good (tree.If at p a b) = row (tree.If at p a b) refl (λ s. s) (if_goes at p a b (good p).goes (good a).goes (good b).goes)
  good (tree.Case at arms) = row (tree.Case at arms) refl (λ s. s) (case_goes at arms (arms_good arms))
  good (tree.CaseOther at arms e) = row (tree.CaseOther at arms e) refl (λ s. s) (case_other_goes at arms e (arms_good arms) (good e).goes)
  good (tree.Let at ds e) = row (tree.Let at ds e) refl (λ s. s) (let_goes at ds e (definitions_good ds) (good e).goes)
  good (tree.BoxAction at e v) = row (tree.BoxAction at e v) refl (λ s. s) (box_goes at e v (good e) (good v).delivers)
  good (tree.AngleAction at e v) = row (tree.AngleAction at e v) refl (λ s. s) (angle_goes at e v (good e).goes (good v).delivers)
  good (tree.Fairness at v e) = row (tree.Fairness at v e) refl (λ s. s) (fairness_goes at v e (good v).delivers (good e).goes)

  all_good : (es : Trees) → AllGood es
  all_good NoTrees = tt
  all_good (MoreTrees es e) = (all_good es, good e)

  chain_good : (es : Operands) → ChainGood es
  chain_good (First e) = good e
  chain_good (Next es at e) = (chain_good es, good e)

  step_good : (s : Step) → StepGood s
  step_good tree.Prime = tt
  step_good (tree.Index es) = all_good es
  step_good (tree.Field h) = tt

  steps_good : (ss : Steps) → StepsGood ss
  steps_good NoSteps = tt
  steps_good (MoreSteps ss at s) = (steps_good ss, step_good s)

  bounds_good : (bs : Bounds) → BoundsGood bs
  bounds_good NoBounds = tt
  bounds_good (MoreBounds bs ns s) = (bounds_good bs, good s)

  fields_good : (hs : Fields) → FieldsGood hs
  fields_good NoFields = tt
  fields_good (MoreFields hs h e) = (fields_good hs, good e)

  changes_good : (cs : Changes) → ChangesGood cs
  changes_good NoChanges = tt
  changes_good (MoreChanges cs ss e) = (changes_good cs, steps_good ss, good e)

  arms_good : (arms : Arms) → ArmsGood arms
  arms_good NoArms = tt
  arms_good (MoreArms arms p e) = (arms_good arms, good p, good e)

  definitions_good : (ds : Definitions) → DefinitionsGood ds
  definitions_good NoDefinitions = tt
  definitions_good (MoreDefinitions ds n at ns form e) = (definitions_good ds, good e, function_good e)

  function_good : (e : Tree) → FunctionGood e
  function_good (tree.Function at bs e) = (bounds_good bs, good e)
  function_good _ = tt
