-- What spells frames has its tokens in front of those behind them, whatever these are.
use Rattle.std.proofs.Common.{ℕ, List, [], ◌∷◌}
use Rattle.base_core.specs.declared.place.Place.{Place}
use Rattle.reading_tokens.specs.declared.token.Kind.TheVariants as kinds
use Rattle.reading_tokens.specs.declared.token.Word.TheVariants as words
use Rattle.reading_tokens.specs.declared.token.Symbol.TheVariants as symbols
use Rattle.reading_trees.specs.declared.form.DefinitionForm.{DefinitionForm}
use Rattle.reading_trees.specs.Precedence.{prefix_kind, infix_symbol, quantifier_symbol}
use Rattle.reading_trees.specs.Grammar.{◌⨟◌, token, DefinitionRest}
use Rattle.reading_trees.specs.Trees as tree
use Rattle.reading_trees.specs.Trees.{Tree, Steps}
use Rattle.reading_machine.specs.declared.frame.Action.{Action}
use Rattle.reading_machine.specs.declared.frame.Action.TheVariants as actions
use Rattle.reading_machine.specs.declared.frame.Scope.{Scope}
use Rattle.reading_machine.specs.declared.frame.Scope.TheVariants as scopes
use Rattle.reading_machine.specs.declared.frame.Binder.{Binder}
use Rattle.reading_machine.specs.declared.frame.Binder.TheVariants as binders
use Rattle.reading_machine.specs.declared.frame.Binding.{Binding}
use Rattle.reading_machine.specs.declared.frame.Form.{Form}
use Rattle.reading_machine.specs.declared.frame.Form.TheVariants as forms
use Rattle.reading_machine.specs.declared.frame.Frame.{Frame}
use Rattle.reading_machine.specs.declared.frame.Frame.TheVariants as frame
use Rattle.reading_machine.specs.OpenRows.{field_mark}
use Rattle.reading_machine.specs.OpenRows.{ScopeText, FormText, BinderText, BindingText, ActionText, ExceptText, PathText, FrameText, FramesText}
use Rattle.reading_machine.proofs.UniqueSpans.{Local, nothing_local, token_local, some_local, open_local, item_local, then_local, only_local, symbol, symbol_at, names_local, parameters_local, qualified_local, tree_local, commas_before_local, items_before_local, chain_local, steps_local, bounds_before_local, bounds_local, fields_before_local, changes_before_local, arms_before_local, some_arms_local, function_local, definitions_local, some_definitions_local, either_form_local}

scope_local : (c : Scope) → Local (ScopeText c)
scope_local (scopes.Let at ds) = then_local _ _ (token_local at (kinds.Word words.Let)) (definitions_local ds)
scope_local scopes.Unit = nothing_local

form_local : (form : Form) → Local (FormText form)
form_local (forms.Operator ns) = parameters_local ns
form_local (forms.Function at bs) = then_local _ _ (symbol_at at symbols.OpenBracket) (then_local _ _ (bounds_local bs) (symbol symbols.CloseBracket))

binder_local : (b : Binder) → Local (BinderText b)
binder_local (binders.Quantifier q at) = symbol_at at (quantifier_symbol q)
binder_local (binders.Function at) = symbol_at at symbols.OpenBracket
binder_local (binders.Map at e) = then_local _ _ (symbol_at at symbols.OpenBrace) (then_local _ _ (tree_local e) (symbol symbols.Colon))
binder_local (binders.Defined s n p q) = then_local _ _ (scope_local s) (then_local _ _ (token_local p (kinds.Name n)) (symbol_at q symbols.OpenBracket))

binding_local : (b : Binding) → Local (BindingText b)
binding_local b = then_local _ _ (binder_local b.binder) (bounds_before_local b.bounds)

action_local : (k : Action) (at : Place) (e : Tree) → Local (ActionText k at e)
action_local actions.Box at e = then_local _ _ (symbol_at at symbols.OpenBracket) (then_local _ _ (tree_local e) (symbol symbols.CloseBracketSubscript))
action_local actions.Angle at e = then_local _ _ (symbol_at at symbols.OpenTuple) (then_local _ _ (tree_local e) (symbol symbols.CloseTupleSubscript))

except_local : (at : Place) (e : Tree) (cs : tree.Changes) → Local (ExceptText at e cs)
except_local at e cs = then_local _ _ (symbol_at at symbols.OpenBracket) (then_local _ _ (tree_local e) (then_local _ _ (some_local (kinds.Word words.Except)) (changes_before_local cs)))

path_local : (at : Place) (e : Tree) (cs : tree.Changes) (ss : Steps) → Local (PathText at e cs ss)
path_local at e cs ss = then_local _ _ (except_local at e cs) (then_local _ _ (symbol symbols.Exclamation) (steps_local ss))

frame_local : (f : Frame) → Local (FrameText f)
frame_local (frame.Parenthesis at) = symbol_at at symbols.OpenParenthesis
frame_local (frame.Call n at es) = then_local _ _ (token_local at (kinds.Name n)) (then_local _ _ (symbol symbols.OpenParenthesis) (commas_before_local es))
frame_local (frame.QualifiedCall n at es) = then_local _ _ (qualified_local at n) (then_local _ _ (symbol symbols.OpenParenthesis) (commas_before_local es))
frame_local (frame.Junction b at es) = then_local _ _ (open_local at b) (then_local _ _ (items_before_local b es) (item_local b))
frame_local (frame.Prefix o p) = token_local p (prefix_kind o)
frame_local (frame.Infix o es p) = then_local _ _ (chain_local o es) (symbol_at p (infix_symbol o))
frame_local (frame.Index e at es) = then_local _ _ (tree_local e) (then_local _ _ (symbol_at at symbols.OpenBracket) (commas_before_local es))
frame_local (frame.Braces at es) = then_local _ _ (symbol_at at symbols.OpenBrace) (commas_before_local es)
frame_local (frame.MaybeFilter at n p q) = then_local _ _ (symbol_at at symbols.OpenBrace) (then_local _ _ (token_local p (kinds.Name n)) (symbol_at q symbols.Member))
frame_local (frame.FilterTest at n s) =
    then_local _ _ (symbol_at at symbols.OpenBrace) (then_local _ _ (some_local (kinds.Name n)) (then_local _ _ (symbol symbols.Member) (then_local _ _ (tree_local s) (symbol symbols.Colon))))
frame_local (frame.Tuple at es) = then_local _ _ (symbol_at at symbols.OpenTuple) (commas_before_local es)
frame_local (frame.Bracket at) = symbol_at at symbols.OpenBracket
frame_local (frame.MaybeFunction at n p q) = then_local _ _ (symbol_at at symbols.OpenBracket) (then_local _ _ (token_local p (kinds.Name n)) (symbol_at q symbols.Member))
frame_local (frame.FunctionBody at bs) = then_local _ _ (symbol_at at symbols.OpenBracket) (then_local _ _ (bounds_local bs) (symbol symbols.MapsTo))
frame_local (frame.FunctionRange at s) = then_local _ _ (symbol_at at symbols.OpenBracket) (then_local _ _ (tree_local s) (symbol symbols.Arrow))
frame_local (frame.Record k at hs n) =
    then_local _ _ (symbol_at at symbols.OpenBracket) (then_local _ _ (fields_before_local (field_mark k) hs) (then_local _ _ (some_local (kinds.Name n)) (symbol (field_mark k))))
frame_local (frame.BoundSet b ns) = then_local _ _ (binding_local b) (then_local _ _ (names_local ns) (symbol symbols.Member))
frame_local (frame.ExceptIndex at e cs ss q es) = then_local _ _ (path_local at e cs ss) (then_local _ _ (symbol_at q symbols.OpenBracket) (commas_before_local es))
frame_local (frame.ExceptValue at e cs ss) = then_local _ _ (path_local at e cs ss) (symbol symbols.Equal)
frame_local (frame.QuantifierBody q p bs) = then_local _ _ (symbol_at p (quantifier_symbol q)) (then_local _ _ (bounds_local bs) (symbol symbols.Colon))
frame_local (frame.ChooseSet p n) = then_local _ _ (token_local p (kinds.Word words.Choose)) (then_local _ _ (some_local (kinds.Name n)) (symbol symbols.Member))
frame_local (frame.ChooseBody p n s) =
    then_local _ _ (token_local p (kinds.Word words.Choose)) (then_local _ _ (some_local (kinds.Name n)) (then_local _ _ (symbol symbols.Member) (then_local _ _ (tree_local s) (symbol symbols.Colon))))
frame_local (frame.IfTest p) = token_local p (kinds.Word words.If)
frame_local (frame.IfThen p a) = then_local _ _ (token_local p (kinds.Word words.If)) (then_local _ _ (tree_local a) (some_local (kinds.Word words.Then)))
frame_local (frame.IfElse p a b) =
    then_local _ _ (token_local p (kinds.Word words.If)) (then_local _ _ (tree_local a) (then_local _ _ (some_local (kinds.Word words.Then)) (then_local _ _ (tree_local b) (some_local (kinds.Word words.Else)))))
frame_local (frame.CaseTest p arms) = then_local _ _ (token_local p (kinds.Word words.Case)) (arms_before_local arms)
frame_local (frame.CaseValue p arms a) = then_local _ _ (token_local p (kinds.Word words.Case)) (then_local _ _ (arms_before_local arms) (then_local _ _ (tree_local a) (symbol symbols.Arrow)))
frame_local (frame.CaseOther p arms) =
    then_local _ _ (token_local p (kinds.Word words.Case)) (then_local _ _ (some_arms_local arms) (then_local _ _ (some_local (kinds.Word words.Other)) (symbol symbols.Arrow)))
frame_local (frame.DefinitionBody s n p form) = then_local _ _ (scope_local s) (then_local _ _ (token_local p (kinds.Name n)) (then_local _ _ (form_local form) (symbol symbols.Defined)))
frame_local (frame.LetBody p ds) = then_local _ _ (token_local p (kinds.Word words.Let)) (then_local _ _ (some_definitions_local ds) (some_local (kinds.Word words.In)))
frame_local (frame.Subscript k at a) = action_local k at a
frame_local (frame.FairSubscript at) = token_local at kinds.Fair
frame_local (frame.FairBody at v) = then_local _ _ (token_local at kinds.Fair) (then_local _ _ (tree_local v) (symbol symbols.OpenParenthesis))

pub frames_local : (fs : List Frame) → Local (FramesText fs)
frames_local [] = nothing_local
frames_local (f ∷ fs) = then_local _ _ (frames_local fs) (frame_local f)

-- the same of a unit's definition
pub definition_local : (n : List ℕ) (p : Place) (ns : List (List ℕ)) (form : DefinitionForm) (e : Tree) → Local (token p (kinds.Name n) ⨟ DefinitionRest ns form e)
definition_local n p ns form e = then_local _ _ (token_local p (kinds.Name n))
    (either_form_local form _ _ (then_local _ _ (parameters_local ns) (then_local _ _ (symbol symbols.Defined) (tree_local e))) (only_local _ _ (function_local e)))
