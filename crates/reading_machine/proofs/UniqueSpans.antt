-- What spells a tree has its tokens in front of those behind it, whatever these are.
use Rattle.std.proofs.Common.{◌≡◌, ℕ, List, [], ◌∷◌, ◌++◌, append_assoc, inl, inr, refl, sym, ap, subst, ◌∙◌}
use Rattle.base_core.specs.declared.place.Place.{Place}
use Rattle.reading_trees.specs.declared.form.DefinitionForm.{DefinitionForm}
use Rattle.reading_trees.specs.declared.form.DefinitionForm.TheVariants as forms
use Rattle.reading_trees.specs.declared.laid.Bullet.{Bullet}
use Rattle.reading_trees.specs.declared.laid.Laid.{Laid}
use Rattle.reading_trees.specs.declared.laid.Laid.TheVariants.{Plain, ListOpen, ListItem, ListClose}
use Rattle.reading_tokens.specs.declared.token.Kind.{Kind}
use Rattle.reading_tokens.specs.declared.token.Kind.TheVariants as kinds
use Rattle.reading_tokens.specs.declared.token.Word.TheVariants as words
use Rattle.reading_tokens.specs.declared.token.Symbol.{Symbol}
use Rattle.reading_tokens.specs.declared.token.Symbol.TheVariants as symbols
use Rattle.reading_trees.specs.declared.operators.InfixOperator.{InfixOperator}
use Rattle.reading_trees.specs.Precedence.{prefix_kind, infix_symbol, quantifier_symbol, truth_kind, builtin_kind}
use Rattle.reading_trees.specs.Grammar.{Span, by_form, ◌⨟◌, nothing, never, either, only, token, some_token, sign_at, sign, name, list_open, list_item, list_close, NamesText, ParametersText, QualifiedName, Text, ArgumentsText, CommasBefore, Commas, MaybeCommas, Items, ItemsBefore, Chain, StepText, StepsText, BoundsBefore, BoundsText, FieldsBefore, FieldsText, ChangesBefore, ChangesText, ArmsBefore, SomeArmsBefore, ArmsText, FunctionRest, DefinitionsText, SomeDefinitions}
use Rattle.reading_trees.specs.Trees as tree
use Rattle.reading_trees.specs.Trees.{Tree, Trees, NoTrees, MoreTrees, Operands, First, Next, Step, Steps, NoSteps, MoreSteps, Bounds, NoBounds, MoreBounds, Fields, NoFields, MoreFields, Changes, NoChanges, MoreChanges, Arms, NoArms, MoreArms, Definitions, NoDefinitions, MoreDefinitions}

pub record Front (R : Span) (xs ys : List Laid) : Type 0 where
  pub front : List Laid
  pub here : xs ≡ front ++ ys
  pub anywhere : (zs : List Laid) → R (front ++ zs) zs

-- a part whose tokens do not hang on those behind it
abbrev pub Local : Span → Type 0
Local R = (xs ys : List Laid) → R xs ys → Front R xs ys

pub nothing_local : Local nothing
nothing_local xs ys h = record { front = []; here = h; anywhere = λ zs. refl }

never_local : Local never
never_local xs ys h = absurd h

pub token_local : (at : Place) (k : Kind) → Local (token at k)
token_local at k xs ys h = record { front = Plain (record { kind = k; place = at }) ∷ []; here = h; anywhere = λ zs. refl }

pub some_local : (k : Kind) → Local (some_token k)
some_local k xs ys h = record { front = Plain (record { kind = k; place = h.0 }) ∷ []; here = h.1; anywhere = λ zs. (h.0, refl) }

pub open_local : (at : Place) (b : Bullet) → Local (list_open at b)
open_local at b xs ys h = record { front = ListOpen b at ∷ []; here = h; anywhere = λ zs. refl }

pub item_local : (b : Bullet) → Local (list_item b)
item_local b xs ys h = record { front = ListItem b h.0 ∷ []; here = h.1; anywhere = λ zs. (h.0, refl) }

close_local : Local list_close
close_local xs ys h = record { front = ListClose h.0 ∷ []; here = h.1; anywhere = λ zs. (h.0, refl) }

pub then_local : (R S : Span) → Local R → Local S → Local (R ⨟ S)
then_local R S r s xs zs h =
    let a : Front R xs h.0 = r xs h.0 h.1 in
    let b : Front S h.0 zs = s h.0 zs h.2 in
    record {
      front = a.front ++ b.front;
      here = a.here ∙ ap (λ v. a.front ++ v) b.here ∙ sym (append_assoc a.front b.front zs);
      anywhere = λ ws. (b.front ++ ws, subst (λ v. R v (b.front ++ ws)) (sym (append_assoc a.front b.front ws)) (a.anywhere (b.front ++ ws)), b.anywhere ws);
    }

pub only_local : (P : Type 0) (R : Span) → Local R → Local (only P R)
only_local P R r xs ys h =
    let a : Front R xs ys = r xs ys h.1 in
    record { front = a.front; here = a.here; anywhere = λ zs. (h.0, a.anywhere zs) }

either_left : (R S : Span) (xs ys : List Laid) → Front R xs ys → Front (either R S) xs ys
either_left R S xs ys a = record { front = a.front; here = a.here; anywhere = λ zs. inl (a.anywhere zs) }

either_right : (R S : Span) (xs ys : List Laid) → Front S xs ys → Front (either R S) xs ys
either_right R S xs ys a = record { front = a.front; here = a.here; anywhere = λ zs. inr (a.anywhere zs) }

pub either_local : (R S : Span) → Local R → Local S → Local (either R S)
either_local R S r s xs ys (inl h) = either_left R S xs ys (r xs ys h)
either_local R S r s xs ys (inr h) = either_right R S xs ys (s xs ys h)

pub symbol : (s : Symbol) → Local (sign s)
symbol s = some_local (kinds.Symbol s)

pub symbol_at : (at : Place) (s : Symbol) → Local (sign_at at s)
symbol_at at s = token_local at (kinds.Symbol s)

pub names_local : (ns : List (List ℕ)) → Local (NamesText ns)
names_local [] = never_local
names_local (n ∷ []) = some_local (kinds.Name n)
names_local (n ∷ m ∷ ns) = then_local _ _ (some_local (kinds.Name n)) (then_local _ _ (symbol symbols.Comma) (names_local (m ∷ ns)))

pub parameters_local : (ns : List (List ℕ)) → Local (ParametersText ns)
parameters_local [] = nothing_local
parameters_local (n ∷ ns) = then_local _ _ (symbol symbols.OpenParenthesis) (then_local _ _ (names_local (n ∷ ns)) (symbol symbols.CloseParenthesis))

pub qualified_local : (at : Place) (q : List ℕ) → Local (QualifiedName at q)
qualified_local at q xs ys h =
    let a : Front (token at (kinds.Name h.0) ⨟ sign symbols.Exclamation ⨟ name h.1) xs ys =
    then_local _ _ (token_local at (kinds.Name h.0)) (then_local _ _ (symbol symbols.Exclamation) (some_local (kinds.Name h.1))) xs ys h.3 in
    record { front = a.front; here = a.here; anywhere = λ zs. (h.0, h.1, h.2, a.anywhere zs) }

pub either_form_local : (form : DefinitionForm) (R S : Span) → Local R → Local S → Local (by_form form R S)
either_form_local forms.Operator R S f g = f
either_form_local forms.Function R S f g = g
either_form_local forms.Constant R S f g = never_local

mutual
  pub tree_local : (e : Tree) → Local (Text e)
  tree_local (tree.Number at n) = token_local at (kinds.Number n)
  tree_local (tree.Str at s) = token_local at (kinds.Str s)
  tree_local (tree.Truth at b) = token_local at (truth_kind b)
  tree_local (tree.Builtin at b) = token_local at (builtin_kind b)
  tree_local (tree.Name at n) = token_local at (kinds.Name n)
  tree_local (tree.Call at n es) = then_local _ _ (token_local at (kinds.Name n)) (then_local _ _ (symbol symbols.OpenParenthesis) (then_local _ _ (commas_local es) (symbol symbols.CloseParenthesis)))
  tree_local (tree.Qualified at q es) = then_local _ _ (qualified_local at q) (arguments_local es)
  tree_local (tree.At at) = symbol_at at symbols.At
  tree_local (tree.Parenthesized at e) = then_local _ _ (symbol_at at symbols.OpenParenthesis) (then_local _ _ (tree_local e) (symbol symbols.CloseParenthesis))
  tree_local (tree.Junction at b es) = then_local _ _ (open_local at b) (then_local _ _ (items_local b es) close_local)
  tree_local (tree.Prefix at o e) = then_local _ _ (token_local at (prefix_kind o)) (tree_local e)
  tree_local (tree.Infix at o es e) = then_local _ _ (chain_local o es) (then_local _ _ (symbol_at at (infix_symbol o)) (tree_local e))
  tree_local (tree.Postfix at e ss s) = only_local _ _ (then_local _ _ (tree_local e) (then_local _ _ (steps_local ss) (step_local at s)))
  tree_local (tree.SetOf at es) = then_local _ _ (symbol_at at symbols.OpenBrace) (then_local _ _ (maybe_local es) (symbol symbols.CloseBrace))
  tree_local (tree.Filter at n s e) =
      then_local _ _ (symbol_at at symbols.OpenBrace) (then_local _ _ (some_local (kinds.Name n)) (then_local _ _ (symbol symbols.Member)
      (then_local _ _ (tree_local s) (then_local _ _ (symbol symbols.Colon) (then_local _ _ (tree_local e) (symbol symbols.CloseBrace))))))
  tree_local (tree.Map at e bs) =
      only_local _ _ (then_local _ _ (symbol_at at symbols.OpenBrace) (then_local _ _ (tree_local e) (then_local _ _ (symbol symbols.Colon) (then_local _ _ (bounds_local bs) (symbol symbols.CloseBrace)))))
  tree_local (tree.Tuple at es) = then_local _ _ (symbol_at at symbols.OpenTuple) (then_local _ _ (maybe_local es) (symbol symbols.CloseTuple))
  tree_local (tree.Function at bs e) =
      then_local _ _ (symbol_at at symbols.OpenBracket) (then_local _ _ (bounds_local bs) (then_local _ _ (symbol symbols.MapsTo) (then_local _ _ (tree_local e) (symbol symbols.CloseBracket))))
  tree_local (tree.FunctionSet at s e) =
      then_local _ _ (symbol_at at symbols.OpenBracket) (then_local _ _ (tree_local s) (then_local _ _ (symbol symbols.Arrow) (then_local _ _ (tree_local e) (symbol symbols.CloseBracket))))
  tree_local (tree.Record at hs) = only_local _ _ (then_local _ _ (symbol_at at symbols.OpenBracket) (then_local _ _ (fields_local symbols.MapsTo hs) (symbol symbols.CloseBracket)))
  tree_local (tree.RecordSet at hs) = only_local _ _ (then_local _ _ (symbol_at at symbols.OpenBracket) (then_local _ _ (fields_local symbols.Colon hs) (symbol symbols.CloseBracket)))
  tree_local (tree.Except at e cs) =
      then_local _ _ (symbol_at at symbols.OpenBracket) (then_local _ _ (tree_local e) (then_local _ _ (some_local (kinds.Word words.Except)) (then_local _ _ (changes_local cs) (symbol symbols.CloseBracket))))
  tree_local (tree.Quantified at q bs e) = then_local _ _ (symbol_at at (quantifier_symbol q)) (then_local _ _ (bounds_local bs) (then_local _ _ (symbol symbols.Colon) (tree_local e)))
  tree_local (tree.Choose at n s e) =
      then_local _ _ (token_local at (kinds.Word words.Choose)) (then_local _ _ (some_local (kinds.Name n)) (then_local _ _ (symbol symbols.Member)
      (then_local _ _ (tree_local s) (then_local _ _ (symbol symbols.Colon) (tree_local e)))))
  tree_local (tree.If at p a b) =
      then_local _ _ (token_local at (kinds.Word words.If)) (then_local _ _ (tree_local p) (then_local _ _ (some_local (kinds.Word words.Then))
      (then_local _ _ (tree_local a) (then_local _ _ (some_local (kinds.Word words.Else)) (tree_local b)))))
  tree_local (tree.Case at arms) = then_local _ _ (token_local at (kinds.Word words.Case)) (arms_local arms)
  tree_local (tree.CaseOther at arms e) =
      then_local _ _ (token_local at (kinds.Word words.Case)) (then_local _ _ (some_arms_local arms) (then_local _ _ (some_local (kinds.Word words.Other)) (then_local _ _ (symbol symbols.Arrow) (tree_local e))))
  tree_local (tree.Let at ds e) = then_local _ _ (token_local at (kinds.Word words.Let)) (then_local _ _ (some_definitions_local ds) (then_local _ _ (some_local (kinds.Word words.In)) (tree_local e)))
  tree_local (tree.BoxAction at e v) =
      only_local _ _ (then_local _ _ (symbol_at at symbols.OpenBracket) (then_local _ _ (tree_local e) (then_local _ _ (symbol symbols.CloseBracketSubscript) (tree_local v))))
  tree_local (tree.AngleAction at e v) =
      only_local _ _ (then_local _ _ (symbol_at at symbols.OpenTuple) (then_local _ _ (tree_local e) (then_local _ _ (symbol symbols.CloseTupleSubscript) (tree_local v))))
  tree_local (tree.Fairness at v e) =
      only_local _ _ (then_local _ _ (token_local at kinds.Fair) (then_local _ _ (tree_local v) (then_local _ _ (symbol symbols.OpenParenthesis) (then_local _ _ (tree_local e) (symbol symbols.CloseParenthesis)))))

  arguments_local : (es : Trees) → Local (ArgumentsText es)
  arguments_local NoTrees = nothing_local
  arguments_local (MoreTrees es e) = then_local _ _ (symbol symbols.OpenParenthesis) (then_local _ _ (then_local _ _ (commas_before_local es) (tree_local e)) (symbol symbols.CloseParenthesis))

  pub commas_before_local : (es : Trees) → Local (CommasBefore es)
  commas_before_local NoTrees = nothing_local
  commas_before_local (MoreTrees es e) = then_local _ _ (commas_before_local es) (then_local _ _ (tree_local e) (symbol symbols.Comma))

  commas_local : (es : Trees) → Local (Commas es)
  commas_local NoTrees = never_local
  commas_local (MoreTrees es e) = then_local _ _ (commas_before_local es) (tree_local e)

  maybe_local : (es : Trees) → Local (MaybeCommas es)
  maybe_local NoTrees = nothing_local
  maybe_local (MoreTrees es e) = then_local _ _ (commas_before_local es) (tree_local e)

  items_local : (b : Bullet) (es : Trees) → Local (Items b es)
  items_local b NoTrees = never_local
  items_local b (MoreTrees es e) = then_local _ _ (items_before_local b es) (then_local _ _ (item_local b) (tree_local e))

  pub items_before_local : (b : Bullet) (es : Trees) → Local (ItemsBefore b es)
  items_before_local b NoTrees = nothing_local
  items_before_local b (MoreTrees es e) = then_local _ _ (items_before_local b es) (then_local _ _ (item_local b) (tree_local e))

  pub chain_local : (o : InfixOperator) (es : Operands) → Local (Chain o es)
  chain_local o (First e) = tree_local e
  chain_local o (Next es at e) = then_local _ _ (chain_local o es) (then_local _ _ (symbol_at at (infix_symbol o)) (tree_local e))

  step_local : (at : Place) (s : Step) → Local (StepText at s)
  step_local at tree.Prime = symbol_at at symbols.Prime
  step_local at (tree.Index es) = then_local _ _ (symbol_at at symbols.OpenBracket) (then_local _ _ (commas_local es) (symbol symbols.CloseBracket))
  step_local at (tree.Field h) = then_local _ _ (symbol_at at symbols.Dot) (some_local (kinds.Name h))

  pub steps_local : (ss : Steps) → Local (StepsText ss)
  steps_local NoSteps = nothing_local
  steps_local (MoreSteps ss at s) = then_local _ _ (steps_local ss) (step_local at s)

  pub bounds_before_local : (bs : Bounds) → Local (BoundsBefore bs)
  bounds_before_local NoBounds = nothing_local
  bounds_before_local (MoreBounds bs ns s) =
      then_local _ _ (bounds_before_local bs) (then_local _ _ (names_local ns) (then_local _ _ (symbol symbols.Member) (then_local _ _ (tree_local s) (symbol symbols.Comma))))

  pub bounds_local : (bs : Bounds) → Local (BoundsText bs)
  bounds_local NoBounds = never_local
  bounds_local (MoreBounds bs ns s) = then_local _ _ (bounds_before_local bs) (then_local _ _ (names_local ns) (then_local _ _ (symbol symbols.Member) (tree_local s)))

  pub fields_before_local : (m : Symbol) (hs : Fields) → Local (FieldsBefore m hs)
  fields_before_local m NoFields = nothing_local
  fields_before_local m (MoreFields hs h e) =
      then_local _ _ (fields_before_local m hs) (then_local _ _ (some_local (kinds.Name h)) (then_local _ _ (symbol m) (then_local _ _ (tree_local e) (symbol symbols.Comma))))

  fields_local : (m : Symbol) (hs : Fields) → Local (FieldsText m hs)
  fields_local m NoFields = never_local
  fields_local m (MoreFields hs h e) = then_local _ _ (fields_before_local m hs) (then_local _ _ (some_local (kinds.Name h)) (then_local _ _ (symbol m) (tree_local e)))

  pub changes_before_local : (cs : Changes) → Local (ChangesBefore cs)
  changes_before_local NoChanges = nothing_local
  changes_before_local (MoreChanges cs ss e) =
      then_local _ _ (changes_before_local cs) (then_local _ _ (only_local _ _ (then_local _ _ (symbol symbols.Exclamation) (then_local _ _ (steps_local ss) (then_local _ _ (symbol symbols.Equal) (tree_local e)))))
      (symbol symbols.Comma))

  changes_local : (cs : Changes) → Local (ChangesText cs)
  changes_local NoChanges = never_local
  changes_local (MoreChanges cs ss e) =
      then_local _ _ (changes_before_local cs) (only_local _ _ (then_local _ _ (symbol symbols.Exclamation) (then_local _ _ (steps_local ss) (then_local _ _ (symbol symbols.Equal) (tree_local e)))))

  pub arms_before_local : (arms : Arms) → Local (ArmsBefore arms)
  arms_before_local NoArms = nothing_local
  arms_before_local (MoreArms arms p e) =
      then_local _ _ (arms_before_local arms) (then_local _ _ (tree_local p) (then_local _ _ (symbol symbols.Arrow) (then_local _ _ (tree_local e) (symbol symbols.Always))))

  pub some_arms_local : (arms : Arms) → Local (SomeArmsBefore arms)
  some_arms_local NoArms = never_local
  some_arms_local (MoreArms arms p e) =
      then_local _ _ (arms_before_local arms) (then_local _ _ (tree_local p) (then_local _ _ (symbol symbols.Arrow) (then_local _ _ (tree_local e) (symbol symbols.Always))))

  arms_local : (arms : Arms) → Local (ArmsText arms)
  arms_local NoArms = never_local
  arms_local (MoreArms arms p e) = then_local _ _ (arms_before_local arms) (then_local _ _ (tree_local p) (then_local _ _ (symbol symbols.Arrow) (tree_local e)))

  pub function_local : (e : Tree) → Local (FunctionRest e)
  function_local (tree.Function at bs e) =
      then_local _ _ (symbol_at at symbols.OpenBracket) (then_local _ _ (bounds_local bs) (then_local _ _ (symbol symbols.CloseBracket) (then_local _ _ (symbol symbols.Defined) (tree_local e))))
  function_local _ = never_local

  pub definitions_local : (ds : Definitions) → Local (DefinitionsText ds)
  definitions_local NoDefinitions = nothing_local
  definitions_local (MoreDefinitions ds n at ns form e) = then_local _ _ (definitions_local ds) (then_local _ _ (token_local at (kinds.Name n))
      (either_form_local form _ _ (then_local _ _ (parameters_local ns) (then_local _ _ (symbol symbols.Defined) (tree_local e))) (only_local _ _ (function_local e))))

  pub some_definitions_local : (ds : Definitions) → Local (SomeDefinitions ds)
  some_definitions_local NoDefinitions = never_local
  some_definitions_local (MoreDefinitions ds n at ns form e) = then_local _ _ (definitions_local ds) (then_local _ _ (token_local at (kinds.Name n))
      (either_form_local form _ _ (then_local _ _ (parameters_local ns) (then_local _ _ (symbol symbols.Defined) (tree_local e))) (only_local _ _ (function_local e))))
