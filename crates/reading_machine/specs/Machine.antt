-- What one laid token does to what was read before it: the frames, the innermost first, and what is expected.
use Rattle.std.specs.Prelude.{ℕ, Bool, true, false, ◌&&◌, ◌||◌, nat_lt, if◌then◌else◌, List, [], ◌∷◌, ◌++◌, Option, Some, None, nat_eq}
use Rattle.std.specs.Cmp.Lexicographic.{pointwise}
use Rattle.base_core.specs.declared.place.Place.{Place}
use Rattle.reading_trees.specs.declared.form.DefinitionForm.{DefinitionForm}
use Rattle.reading_trees.specs.declared.form.DefinitionForm.TheVariants as definition_forms
use Rattle.reading_trees.specs.declared.laid.Bullet.{Bullet}
use Rattle.reading_trees.specs.declared.laid.Bullet.TheVariants as bullets
use Rattle.reading_trees.specs.declared.laid.Laid.{Laid}
use Rattle.reading_trees.specs.declared.laid.Laid.TheVariants.{Plain, ListOpen, ListItem, ListClose}
use Rattle.reading_tokens.specs.declared.token.Kind.{Kind}
use Rattle.reading_tokens.specs.declared.token.Kind.TheVariants as kinds
use Rattle.reading_tokens.specs.declared.token.Word.{Word}
use Rattle.reading_tokens.specs.declared.token.Word.TheVariants as words
use Rattle.reading_tokens.specs.declared.token.Symbol.{Symbol}
use Rattle.reading_tokens.specs.declared.token.Symbol.TheVariants as symbols
use Rattle.reading_trees.specs.declared.operators.PrefixOperator.{PrefixOperator}
use Rattle.reading_trees.specs.declared.operators.PrefixOperator.TheVariants as prefixes
use Rattle.reading_trees.specs.declared.operators.InfixOperator.{InfixOperator}
use Rattle.reading_trees.specs.declared.operators.InfixOperator.TheVariants as infixes
use Rattle.reading_trees.specs.declared.operators.Quantifier.TheVariants as quantifiers
use Rattle.reading_trees.specs.declared.operators.BuiltinSet.TheVariants as builtins
use Rattle.reading_trees.specs.Precedence.{Range, prefix_range, infix_range, chains}
use Rattle.reading_trees.specs.Grammar.{begins_member, qualified}
use Rattle.reading_trees.specs.Trees as tree
use Rattle.reading_trees.specs.Trees.{Tree, Trees, NoTrees, MoreTrees, Operands, First, Next, Step, Steps, NoSteps, MoreSteps, Bounds, NoBounds, MoreBounds, Fields, NoFields, MoreFields, Changes, NoChanges, MoreChanges, Arms, NoArms, MoreArms, NoDefinitions, MoreDefinitions}
use Rattle.reading_machine.specs.declared.frame.Action.{Action}
use Rattle.reading_machine.specs.declared.frame.Action.TheVariants as actions
use Rattle.reading_machine.specs.declared.frame.RecordKind.{RecordKind}
use Rattle.reading_machine.specs.declared.frame.RecordKind.TheVariants as records
use Rattle.reading_machine.specs.declared.frame.Scope.{Scope}
use Rattle.reading_machine.specs.declared.frame.Scope.TheVariants as scopes
use Rattle.reading_machine.specs.declared.frame.Binder.{Binder}
use Rattle.reading_machine.specs.declared.frame.Binder.TheVariants as binders
use Rattle.reading_machine.specs.declared.frame.Binding.{Binding}
use Rattle.reading_machine.specs.declared.frame.Form.{Form}
use Rattle.reading_machine.specs.declared.frame.Form.TheVariants as forms
use Rattle.reading_machine.specs.declared.frame.Frame.{Frame}
use Rattle.reading_machine.specs.declared.frame.Frame.TheVariants as frame
use Rattle.reading_machine.specs.declared.frame.Mode.{Mode}
use Rattle.reading_machine.specs.declared.frame.Mode.TheVariants as mode

-- What comes of a token: it is read; it can not follow; it is an operator whose range meets that of an earlier one, at these two
-- places; or the expression, or the unit's definition, ended before it.
pub data Stepped : Type 0 where
  Reads : List Frame → Mode → Stepped
  Stops : Stepped
  Clashes : Place → Place → Stepped
  Ends : Tree → Stepped
  EndsDefinition : List ℕ → Place → List (List ℕ) → DefinitionForm → Tree → Stepped

abbrev pub want : List Frame → Stepped
want fs = Reads fs mode.Want

-- ---- operators

abbrev pub infix_of_symbol : Symbol → Option InfixOperator
infix_of_symbol symbols.Implies = Some infixes.Implies
infix_of_symbol symbols.Equivalent = Some infixes.Equivalent
infix_of_symbol symbols.LeadsTo = Some infixes.LeadsTo
infix_of_symbol symbols.And = Some infixes.And
infix_of_symbol symbols.Or = Some infixes.Or
infix_of_symbol symbols.Equal = Some infixes.Equal
infix_of_symbol symbols.NotEqual = Some infixes.NotEqual
infix_of_symbol symbols.Less = Some infixes.Less
infix_of_symbol symbols.Greater = Some infixes.Greater
infix_of_symbol symbols.LessOrEqual = Some infixes.LessOrEqual
infix_of_symbol symbols.GreaterOrEqual = Some infixes.GreaterOrEqual
infix_of_symbol symbols.Member = Some infixes.Member
infix_of_symbol symbols.NotMember = Some infixes.NotMember
infix_of_symbol symbols.SubsetOrEqual = Some infixes.SubsetOrEqual
infix_of_symbol symbols.MergedFunctions = Some infixes.MergedFunctions
infix_of_symbol symbols.SingleFunction = Some infixes.SingleFunction
infix_of_symbol symbols.Union = Some infixes.Union
infix_of_symbol symbols.Intersection = Some infixes.Intersection
infix_of_symbol symbols.Difference = Some infixes.Difference
infix_of_symbol symbols.Interval = Some infixes.Interval
infix_of_symbol symbols.Plus = Some infixes.Plus
infix_of_symbol symbols.Remainder = Some infixes.Remainder
infix_of_symbol symbols.Minus = Some infixes.Minus
infix_of_symbol symbols.CartesianProduct = Some infixes.CartesianProduct
infix_of_symbol symbols.Times = Some infixes.Times
infix_of_symbol symbols.Concatenation = Some infixes.Concatenation
infix_of_symbol symbols.Quotient = Some infixes.Quotient
infix_of_symbol symbols.Power = Some infixes.Power
infix_of_symbol _ = None

abbrev pub above : Range → Range → Bool
above a b = nat_lt b.high a.low

abbrev pub operator_number : InfixOperator → ℕ
operator_number infixes.Implies = 0
operator_number infixes.Equivalent = 1
operator_number infixes.LeadsTo = 2
operator_number infixes.And = 3
operator_number infixes.Or = 4
operator_number infixes.Equal = 5
operator_number infixes.NotEqual = 6
operator_number infixes.Less = 7
operator_number infixes.Greater = 8
operator_number infixes.LessOrEqual = 9
operator_number infixes.GreaterOrEqual = 10
operator_number infixes.Member = 11
operator_number infixes.NotMember = 12
operator_number infixes.SubsetOrEqual = 13
operator_number infixes.MergedFunctions = 14
operator_number infixes.SingleFunction = 15
operator_number infixes.Union = 16
operator_number infixes.Intersection = 17
operator_number infixes.Difference = 18
operator_number infixes.Interval = 19
operator_number infixes.Plus = 20
operator_number infixes.Remainder = 21
operator_number infixes.Minus = 22
operator_number infixes.CartesianProduct = 23
operator_number infixes.Times = 24
operator_number infixes.Concatenation = 25
operator_number infixes.Quotient = 26
operator_number infixes.Power = 27

-- whether one operator goes on with a chain of the other
abbrev pub goes_on : InfixOperator → InfixOperator → Bool
goes_on o q = nat_eq (operator_number o) (operator_number q) && chains o

-- an infix operator behind an operand: out along the right edge, over each operator that lies above it
abbrev pub infix_step : InfixOperator → Place → List Frame → Tree → Stepped
infix_step q at [] e = want (frame.Infix q (First e) at ∷ [])
infix_step q at (frame.Prefix o p ∷ fs) e =
    if above (prefix_range o) (infix_range q) then infix_step q at fs (tree.Prefix p o e)
    else if above (infix_range q) (prefix_range o) then want (frame.Infix q (First e) at ∷ frame.Prefix o p ∷ fs)
    else Clashes p at
infix_step q at (frame.Infix o es p ∷ fs) e =
    if above (infix_range o) (infix_range q) then infix_step q at fs (tree.Infix p o es e)
    else if above (infix_range q) (infix_range o) then want (frame.Infix q (First e) at ∷ frame.Infix o es p ∷ fs)
    else if goes_on o q then want (frame.Infix o (Next es p e) at ∷ fs)
    else Clashes p at
infix_step q at (f ∷ fs) e = want (frame.Infix q (First e) at ∷ f ∷ fs)

-- ---- `\in` behind a name at the beginning of braces or brackets, once it is known to be an operator

-- the place of the first operator of a chain, whose last operator has this place
abbrev pub first_place : Operands → Place → Place
first_place (First e) at = at
first_place (Next es p e) at = first_place es p

pub data Joined (A : Type 0) : Type 0 where
  Joins : A → Joined A
  Meets : Place → Joined A

abbrev pub joins_in : Place → InfixOperator → Tree → Joined Operands → Joined Tree
joins_in at o e (Joins es) = Joins (tree.Infix at o es e)
joins_in at o e (Meets p) = Meets p

abbrev pub joins_first : Joined Tree → Joined Operands
joins_first (Joins e) = Joins (First e)
joins_first (Meets p) = Meets p

abbrev pub joins_next : Joined Operands → Place → Tree → Joined Operands
joins_next (Joins es) p e = Joins (Next es p e)
joins_next (Meets q) p e = Meets q

-- a name and `\in` before an expression: on its left edge they are the first operand of the first operator that lies below `\in`
abbrev mutual
  pub join : Tree → Place → Tree → Joined Tree
  join x q (tree.Infix at o es e) =
      if above (infix_range o) (infix_range infixes.Member) then Joins (tree.Infix q infixes.Member (First x) (tree.Infix at o es e))
      else if above (infix_range infixes.Member) (infix_range o) then joins_in at o e (join_first x q es)
      else Meets (first_place es at)
  join x q e = Joins (tree.Infix q infixes.Member (First x) e)

  pub join_first : Tree → Place → Operands → Joined Operands
  join_first x q (First e) = joins_first (join x q e)
  join_first x q (Next es p e) = joins_next (join_first x q es) p e

-- ---- parts

-- a primary with one more step behind it
abbrev pub with_step : Tree → Place → Step → Tree
with_step (tree.Postfix p e ss s) at t = tree.Postfix at e (MoreSteps ss p s) t
with_step e at t = tree.Postfix at e NoSteps t

abbrev pub subscripted : Action → Place → Tree → Tree → Tree
subscripted actions.Box at e v = tree.BoxAction at e v
subscripted actions.Angle at e v = tree.AngleAction at e v

abbrev pub of_records : RecordKind → Place → Fields → Tree
of_records records.Record at hs = tree.Record at hs
of_records records.Set at hs = tree.RecordSet at hs

abbrev pub parameters_of : Form → List (List ℕ)
parameters_of (forms.Operator ns) = ns
parameters_of (forms.Function at bs) = []

abbrev pub form_of : Form → DefinitionForm
form_of (forms.Operator ns) = definition_forms.Operator
form_of (forms.Function at bs) = definition_forms.Function

abbrev pub body_of : Form → Tree → Tree
body_of (forms.Operator ns) e = e
body_of (forms.Function at bs) e = tree.Function at bs e

abbrev pub with_bound : Binding → List (List ℕ) → Tree → Binding
with_bound b ns s = record { binder = b.binder; bounds = MoreBounds b.bounds ns s }

abbrev pub begin_binding : Binder → Mode
begin_binding b = mode.BoundName (record { binder = b; bounds = NoBounds }) []

abbrev pub same_bullet : Bullet → Bullet → Bool
same_bullet bullets.And bullets.And = true
same_bullet bullets.Or bullets.Or = true
same_bullet _ _ = false

abbrev pub has_field : List ℕ → Fields → Bool
has_field n NoFields = false
has_field n (MoreFields hs m e) = has_field n hs || pointwise nat_eq n m

-- a name, a tuple or an expression in parentheses has ended; it may be the subscript that was expected
abbrev pub deliver : Tree → List Frame → Stepped
deliver e (frame.Subscript k at a ∷ fs) = Reads fs (mode.Have (subscripted k at a e))
deliver e (frame.FairSubscript at ∷ fs) = Reads fs (mode.FairOpen at e)
deliver e fs = Reads fs (mode.Have e)

-- ---- where an expression is expected

abbrev pub prefix_step : PrefixOperator → Place → List Frame → Stepped
prefix_step o at fs = want (frame.Prefix o at ∷ fs)

abbrev pub word_begins : Word → Place → List Frame → Stepped
word_begins words.True at fs = Reads fs (mode.Have (tree.Truth at true))
word_begins words.False at fs = Reads fs (mode.Have (tree.Truth at false))
word_begins words.Boolean at fs = Reads fs (mode.Have (tree.Builtin at builtins.Booleans))
word_begins words.String at fs = Reads fs (mode.Have (tree.Builtin at builtins.Strings))
word_begins words.Unchanged at fs = prefix_step prefixes.Unchanged at fs
word_begins words.Enabled at fs = prefix_step prefixes.Enabled at fs
word_begins words.Subset at fs = prefix_step prefixes.Powerset at fs
word_begins words.Union at fs = prefix_step prefixes.BigUnion at fs
word_begins words.Domain at fs = prefix_step prefixes.Domain at fs
word_begins words.Choose at fs = Reads fs (mode.ChooseName at)
word_begins words.If at fs = want (frame.IfTest at ∷ fs)
word_begins words.Case at fs = want (frame.CaseTest at NoArms ∷ fs)
word_begins words.Let at fs = Reads fs (mode.DefinitionName (scopes.Let at NoDefinitions))
word_begins _ at fs = Stops

abbrev pub symbol_begins : Symbol → Place → List Frame → Stepped
symbol_begins symbols.At at fs = Reads fs (mode.Have (tree.At at))
symbol_begins symbols.OpenParenthesis at fs = want (frame.Parenthesis at ∷ fs)
symbol_begins symbols.OpenBracket at fs = Reads fs (mode.BracketStart at)
symbol_begins symbols.OpenBrace at fs = Reads fs (mode.BraceStart at)
symbol_begins symbols.OpenTuple at fs = Reads fs (mode.TupleStart at)
symbol_begins symbols.Not at fs = prefix_step prefixes.Not at fs
symbol_begins symbols.Always at fs = prefix_step prefixes.Always at fs
symbol_begins symbols.Eventually at fs = prefix_step prefixes.Eventually at fs
symbol_begins symbols.Minus at fs = prefix_step prefixes.Negate at fs
symbol_begins symbols.ForAll at fs = Reads fs (begin_binding (binders.Quantifier quantifiers.ForAll at))
symbol_begins symbols.Exists at fs = Reads fs (begin_binding (binders.Quantifier quantifiers.Exists at))
symbol_begins _ at fs = Stops

abbrev pub token_begins : Kind → Place → List Frame → Stepped
token_begins (kinds.Name n) at fs = Reads fs (mode.Have (tree.Name at n))
token_begins (kinds.Number z) at fs = Reads fs (mode.Have (tree.Number at z))
token_begins (kinds.Str s) at fs = Reads fs (mode.Have (tree.Str at s))
token_begins kinds.Fair at fs = Reads fs (mode.FairStart at)
token_begins (kinds.Word w) at fs = word_begins w at fs
token_begins (kinds.Symbol s) at fs = symbol_begins s at fs
token_begins _ at fs = Stops

abbrev pub begins : Laid → List Frame → Stepped
begins (Plain t) fs = token_begins t.kind t.place fs
begins (ListOpen b at) fs = Reads fs (mode.ListStart b at)
begins (ListItem b at) fs = Stops
begins (ListClose at) fs = Stops

-- ---- behind a primary

-- Rows that end where their last expression does are put together, out to the innermost that waits for a token; a CASE waits
-- for a `[]` where there is one.
abbrev pub folds : Bool → Frame → Bool
folds case (frame.Prefix o p) = true
folds case (frame.Infix o es p) = true
folds case (frame.QuantifierBody q p bs) = true
folds case (frame.ChooseBody p n s) = true
folds case (frame.IfElse p a b) = true
folds case (frame.CaseValue p arms a) = if case then false else true
folds case (frame.CaseOther p arms) = true
folds case (frame.LetBody p ds) = true
folds case _ = false

abbrev pub folded : Frame → Tree → Tree
folded (frame.Prefix o p) e = tree.Prefix p o e
folded (frame.Infix o es p) e = tree.Infix p o es e
folded (frame.QuantifierBody q p bs) e = tree.Quantified p q bs e
folded (frame.ChooseBody p n s) e = tree.Choose p n s e
folded (frame.IfElse p a b) e = tree.If p a b e
folded (frame.CaseValue p arms a) e = tree.Case p (MoreArms arms a e)
folded (frame.CaseOther p arms) e = tree.CaseOther p arms e
folded (frame.LetBody p ds) e = tree.Let p ds e
folded _ e = e

-- the frames from the innermost that waits on, and the expression in it
pub record Settled : Type 0 where
  pub frames : List Frame
  pub tree : Tree

abbrev pub settle : Bool → List Frame → Tree → Settled
settle case [] e = record { frames = []; tree = e }
settle case (f ∷ fs) e = if folds case f then settle case fs (folded f e) else record { frames = f ∷ fs; tree = e }

-- `{E, E` before a token that is no infix operator and no step
abbrev pub braces_close : Symbol → Place → Trees → List Frame → Tree → Stepped
braces_close symbols.Comma at es fs e = want (frame.Braces at (MoreTrees es e) ∷ fs)
braces_close symbols.CloseBrace at es fs e = Reads fs (mode.Have (tree.SetOf at (MoreTrees es e)))
braces_close symbols.Colon at NoTrees fs e = if begins_member e then Stops else Reads fs (begin_binding (binders.Map at e))
braces_close _ at es fs e = Stops

-- `[E` before such a token that is no word
abbrev pub bracket_close : Symbol → Place → List Frame → Tree → Stepped
bracket_close symbols.Arrow at fs e = want (frame.FunctionRange at e ∷ fs)
bracket_close symbols.CloseBracketSubscript at fs e = Reads fs (mode.SubscriptStart actions.Box at e)
bracket_close _ at fs e = Stops

abbrev pub on_joined : Joined Tree → Place → (Tree → Stepped) → Stepped
on_joined (Joins e) q next = next e
on_joined (Meets p) q next = Clashes q p

-- `{x \in E`: before `:` a filter, else an element
abbrev pub filter_close : Symbol → Place → List ℕ → Place → Place → List Frame → Tree → Stepped
filter_close symbols.Colon at n p q fs e = want (frame.FilterTest at n e ∷ fs)
filter_close symbols.Comma at n p q fs e = on_joined (join (tree.Name p n) q e) q (λ x. braces_close symbols.Comma at NoTrees fs x)
filter_close symbols.CloseBrace at n p q fs e = on_joined (join (tree.Name p n) q e) q (λ x. braces_close symbols.CloseBrace at NoTrees fs x)
filter_close _ at n p q fs e = Stops

-- `[x \in E`: before `,` and `|->` a bound of a function, else an expression
abbrev pub function_close : Symbol → Place → List ℕ → Place → Place → List Frame → Tree → Stepped
function_close symbols.Comma at n p q fs e =
    Reads fs (mode.BoundName (record { binder = binders.Function at; bounds = MoreBounds NoBounds (n ∷ []) e }) [])
function_close symbols.MapsTo at n p q fs e = want (frame.FunctionBody at (MoreBounds NoBounds (n ∷ []) e) ∷ fs)
function_close symbols.Arrow at n p q fs e = on_joined (join (tree.Name p n) q e) q (λ x. bracket_close symbols.Arrow at fs x)
function_close symbols.CloseBracketSubscript at n p q fs e = on_joined (join (tree.Name p n) q e) q (λ x. bracket_close symbols.CloseBracketSubscript at fs x)
function_close _ at n p q fs e = Stops

abbrev pub is_subscript : List Frame → Bool
is_subscript (frame.Subscript k at a ∷ fs) = true
is_subscript (frame.FairSubscript at ∷ fs) = true
is_subscript _ = false

-- `<<E, E`
abbrev pub tuple_close : Symbol → Place → Trees → List Frame → Tree → Stepped
tuple_close symbols.Comma at es fs e = want (frame.Tuple at (MoreTrees es e) ∷ fs)
tuple_close symbols.CloseTuple at es fs e = deliver (tree.Tuple at (MoreTrees es e)) fs
tuple_close symbols.CloseTupleSubscript at NoTrees fs e = if is_subscript fs then Stops else Reads fs (mode.SubscriptStart actions.Angle at e)
tuple_close _ at es fs e = Stops

-- the bounds of a binder, all of them
abbrev pub binder_close : Symbol → Binder → Bounds → List Frame → Stepped
binder_close symbols.Colon (binders.Quantifier q at) bs fs = want (frame.QuantifierBody q at bs ∷ fs)
binder_close symbols.MapsTo (binders.Function at) bs fs = want (frame.FunctionBody at bs ∷ fs)
binder_close symbols.CloseBrace (binders.Map at e) bs fs = Reads fs (mode.Have (tree.Map at e bs))
binder_close symbols.CloseBracket (binders.Defined s n p q) bs fs = Reads fs (mode.DefinedAs s n p (forms.Function q bs))
binder_close _ b bs fs = Stops

abbrev pub bound_close : Symbol → Binding → List (List ℕ) → List Frame → Tree → Stepped
bound_close symbols.Comma b ns fs e = Reads fs (mode.BoundName (with_bound b ns e) [])
bound_close s b ns fs e = binder_close s b.binder (MoreBounds b.bounds ns e) fs

-- `,` and then another part, or a closing token
abbrev pub comma_or : Symbol → Symbol → Stepped → Stepped → Stepped
comma_or symbols.Comma symbols.CloseParenthesis more done = more
comma_or symbols.CloseParenthesis symbols.CloseParenthesis more done = done
comma_or symbols.Comma symbols.CloseBracket more done = more
comma_or symbols.CloseBracket symbols.CloseBracket more done = done
comma_or _ _ more done = Stops

abbrev pub only_at : Symbol → Symbol → Stepped → Stepped
only_at symbols.CloseParenthesis symbols.CloseParenthesis done = done
only_at symbols.CloseBracket symbols.CloseBracket done = done
only_at symbols.CloseBrace symbols.CloseBrace done = done
only_at symbols.Colon symbols.Colon done = done
only_at symbols.Arrow symbols.Arrow done = done
only_at symbols.Always symbols.Always done = done
only_at _ _ done = Stops

-- a symbol at the innermost frame that waits
abbrev pub symbol_closes : Symbol → Frame → List Frame → Tree → Stepped
symbol_closes s (frame.Parenthesis at) fs e = only_at s symbols.CloseParenthesis (deliver (tree.Parenthesized at e) fs)
symbol_closes s (frame.Call n at es) fs e =
    comma_or s symbols.CloseParenthesis (want (frame.Call n at (MoreTrees es e) ∷ fs)) (Reads fs (mode.Have (tree.Call at n (MoreTrees es e))))
symbol_closes s (frame.QualifiedCall n at es) fs e =
    comma_or s symbols.CloseParenthesis (want (frame.QualifiedCall n at (MoreTrees es e) ∷ fs)) (Reads fs (mode.Have (tree.Qualified at n (MoreTrees es e))))
symbol_closes s (frame.Index a at es) fs e =
    comma_or s symbols.CloseBracket (want (frame.Index a at (MoreTrees es e) ∷ fs)) (Reads fs (mode.Have (with_step a at (tree.Index (MoreTrees es e)))))
symbol_closes s (frame.Braces at es) fs e = braces_close s at es fs e
symbol_closes s (frame.MaybeFilter at n p q) fs e = filter_close s at n p q fs e
symbol_closes s (frame.FilterTest at n a) fs e = only_at s symbols.CloseBrace (Reads fs (mode.Have (tree.Filter at n a e)))
symbol_closes s (frame.Tuple at es) fs e = tuple_close s at es fs e
symbol_closes s (frame.Bracket at) fs e = bracket_close s at fs e
symbol_closes s (frame.MaybeFunction at n p q) fs e = function_close s at n p q fs e
symbol_closes s (frame.FunctionBody at bs) fs e = only_at s symbols.CloseBracket (Reads fs (mode.Have (tree.Function at bs e)))
symbol_closes s (frame.FunctionRange at a) fs e = only_at s symbols.CloseBracket (Reads fs (mode.Have (tree.FunctionSet at a e)))
symbol_closes s (frame.Record k at hs n) fs e =
    comma_or s symbols.CloseBracket (Reads fs (mode.RecordName k at (MoreFields hs n e))) (Reads fs (mode.Have (of_records k at (MoreFields hs n e))))
symbol_closes s (frame.BoundSet b ns) fs e = bound_close s b ns fs e
symbol_closes s (frame.ExceptIndex at a cs ss p es) fs e =
    comma_or s symbols.CloseBracket (want (frame.ExceptIndex at a cs ss p (MoreTrees es e) ∷ fs)) (Reads fs (mode.ExceptPath at a cs (MoreSteps ss p (tree.Index (MoreTrees es e)))))
symbol_closes s (frame.ExceptValue at a cs ss) fs e =
    comma_or s symbols.CloseBracket (Reads fs (mode.ExceptMark at a (MoreChanges cs ss e))) (Reads fs (mode.Have (tree.Except at a (MoreChanges cs ss e))))
symbol_closes s (frame.ChooseSet at n) fs e = only_at s symbols.Colon (want (frame.ChooseBody at n e ∷ fs))
symbol_closes s (frame.CaseTest at arms) fs e = only_at s symbols.Arrow (want (frame.CaseValue at arms e ∷ fs))
symbol_closes s (frame.CaseValue at arms a) fs e = only_at s symbols.Always (Reads fs (mode.CaseNext at (MoreArms arms a e)))
symbol_closes s (frame.FairBody at v) fs e = only_at s symbols.CloseParenthesis (Reads fs (mode.Have (tree.Fairness at v e)))
symbol_closes s f fs e = Stops

-- `[E EXCEPT`, where `[x \in E` is one of these too
abbrev pub word_closes : Word → Frame → List Frame → Tree → Stepped
word_closes words.Then (frame.IfTest at) fs e = want (frame.IfThen at e ∷ fs)
word_closes words.Else (frame.IfThen at a) fs e = want (frame.IfElse at a e ∷ fs)
word_closes words.Except (frame.Bracket at) fs e = Reads fs (mode.ExceptMark at e NoChanges)
word_closes words.Except (frame.MaybeFunction at n p q) fs e =
    on_joined (join (tree.Name p n) q e) q (λ x. Reads fs (mode.ExceptMark at x NoChanges))
word_closes words.In (frame.DefinitionBody (scopes.Let at ds) n p form) fs e =
    want (frame.LetBody at (MoreDefinitions ds n p (parameters_of form) (form_of form) (body_of form e)) ∷ fs)
word_closes w f fs e = Stops

-- a name at the innermost frame that waits begins another definition of a LET
abbrev pub name_closes : List ℕ → Place → Frame → List Frame → Tree → Stepped
name_closes m q (frame.DefinitionBody (scopes.Let at ds) n p form) fs e =
    Reads fs (mode.DefinitionNamed (scopes.Let at (MoreDefinitions ds n p (parameters_of form) (form_of form) (body_of form e))) m q)
name_closes m q f fs e = Stops

abbrev pub item_closes : Bullet → Frame → List Frame → Tree → Stepped
item_closes c (frame.Junction b at es) fs e = if same_bullet b c then want (frame.Junction b at (MoreTrees es e) ∷ fs) else Stops
item_closes c f fs e = Stops

abbrev pub list_closes : Frame → List Frame → Tree → Stepped
list_closes (frame.Junction b at es) fs e = Reads fs (mode.Have (tree.Junction at b (MoreTrees es e)))
list_closes f fs e = Stops

abbrev pub kind_closes : Kind → Place → Frame → List Frame → Tree → Stepped
kind_closes (kinds.Symbol s) q f fs e = symbol_closes s f fs e
kind_closes (kinds.Word w) q f fs e = word_closes w f fs e
kind_closes (kinds.Name m) q f fs e = name_closes m q f fs e
kind_closes _ q f fs e = Stops

abbrev pub laid_closes : Laid → Frame → List Frame → Tree → Stepped
laid_closes (Plain t) f fs e = kind_closes t.kind t.place f fs e
laid_closes (ListOpen b at) f fs e = Stops
laid_closes (ListItem b at) f fs e = item_closes b f fs e
laid_closes (ListClose at) f fs e = list_closes f fs e

-- where nothing waits, the expression ends before the token; a unit's definition ends with its body
abbrev pub closes : Laid → List Frame → Tree → Stepped
closes x [] e = Ends e
closes x (frame.DefinitionBody scopes.Unit n p form ∷ fs) e = EndsDefinition n p (parameters_of form) (form_of form) (body_of form e)
closes x (f ∷ fs) e = laid_closes x f fs e

abbrev pub is_always_symbol : Symbol → Bool
is_always_symbol symbols.Always = true
is_always_symbol _ = false

abbrev pub is_always : Kind → Bool
is_always (kinds.Symbol s) = is_always_symbol s
is_always _ = false

-- a `[]`, which goes on with a CASE
abbrev pub is_case_mark : Laid → Bool
is_case_mark (Plain t) = is_always t.kind
is_case_mark _ = false

abbrev pub settled_closes : Laid → Settled → Stepped
settled_closes x s = closes x s.frames s.tree

abbrev pub behind : Laid → List Frame → Tree → Stepped
behind x fs e = settled_closes x (settle (is_case_mark x) fs e)

-- `!` behind a name, which names an instance of a module, comes before a name of that module
abbrev pub instance_step : Tree → List Frame → Stepped
instance_step (tree.Name at i) fs = Reads fs (mode.InstanceName at i)
instance_step e fs = Stops

-- `(` behind a name begins its arguments
abbrev pub call_step : Tree → List Frame → Stepped
call_step (tree.Name at n) fs = want (frame.Call n at NoTrees ∷ fs)
call_step (tree.Qualified at n NoTrees) fs = want (frame.QualifiedCall n at NoTrees ∷ fs)
call_step e fs = Stops

abbrev pub infix_or : Option InfixOperator → Place → List Frame → Tree → Stepped → Stepped
infix_or (Some q) at fs e other = infix_step q at fs e
infix_or None at fs e other = other

abbrev pub symbol_follows : Symbol → Place → List Frame → Tree → Stepped → Stepped
symbol_follows symbols.Prime at fs e other = Reads fs (mode.Have (with_step e at tree.Prime))
symbol_follows symbols.OpenBracket at fs e other = want (frame.Index e at NoTrees ∷ fs)
symbol_follows symbols.Dot at fs e other = Reads fs (mode.FieldName e at)
symbol_follows symbols.OpenParenthesis at fs e other = call_step e fs
symbol_follows symbols.Exclamation at fs e other = instance_step e fs
symbol_follows s at fs e other = infix_or (infix_of_symbol s) at fs e other

abbrev pub kind_follows : Kind → Place → List Frame → Tree → Stepped → Stepped
kind_follows (kinds.Symbol s) at fs e other = symbol_follows s at fs e other
kind_follows k at fs e other = other

-- behind a primary: a step, an infix operator, or a token for a row that waits
abbrev pub follows : Laid → List Frame → Tree → Stepped
follows (Plain t) fs e = kind_follows t.kind t.place fs e (behind (Plain t) fs e)
follows x fs e = behind x fs e

-- ---- all

abbrev pub name_or : Kind → (List ℕ → Stepped) → Stepped → Stepped
name_or (kinds.Name n) next other = next n
name_or _ next other = other

abbrev pub on_name : Laid → (List ℕ → Place → Stepped) → Stepped → Stepped
on_name (Plain t) next other = name_or t.kind (λ n. next n t.place) other
on_name _ next other = other

abbrev pub symbol_or : Kind → (Symbol → Stepped) → Stepped → Stepped
symbol_or (kinds.Symbol s) next other = next s
symbol_or _ next other = other

abbrev pub on_symbol : Laid → (Symbol → Place → Stepped) → Stepped → Stepped
on_symbol (Plain t) next other = symbol_or t.kind (λ s. next s t.place) other
on_symbol _ next other = other

abbrev pub bound_named : Binding → List (List ℕ) → List Frame → Symbol → Stepped
bound_named b ns fs symbols.Comma = Reads fs (mode.BoundName b ns)
bound_named b ns fs symbols.Member = want (frame.BoundSet b ns ∷ fs)
bound_named b ns fs _ = Stops

abbrev pub bracket_named : Laid → Place → List ℕ → Place → List Frame → Symbol → Place → Stepped
bracket_named x at n p fs symbols.MapsTo q = want (frame.Record records.Record at NoFields n ∷ fs)
bracket_named x at n p fs symbols.Colon q = want (frame.Record records.Set at NoFields n ∷ fs)
bracket_named x at n p fs symbols.Comma q = Reads fs (mode.BoundName (record { binder = binders.Function at; bounds = NoBounds }) (n ∷ []))
bracket_named x at n p fs symbols.Member q = want (frame.MaybeFunction at n p q ∷ fs)
bracket_named x at n p fs s q = follows x (frame.Bracket at ∷ fs) (tree.Name p n)

abbrev pub brace_started : Laid → Place → List Frame → Symbol → Place → Stepped
brace_started x at fs symbols.CloseBrace q = Reads fs (mode.Have (tree.SetOf at NoTrees))
brace_started x at fs s q = begins x (frame.Braces at NoTrees ∷ fs)

abbrev pub brace_named : Laid → Place → List ℕ → Place → List Frame → Symbol → Place → Stepped
brace_named x at n p fs symbols.Member q = want (frame.MaybeFilter at n p q ∷ fs)
brace_named x at n p fs s q = follows x (frame.Braces at NoTrees ∷ fs) (tree.Name p n)

abbrev pub tuple_started : Laid → Place → List Frame → Symbol → Place → Stepped
tuple_started x at fs symbols.CloseTuple q = deliver (tree.Tuple at NoTrees) fs
tuple_started x at fs s q = begins x (frame.Tuple at NoTrees ∷ fs)

abbrev pub list_started : Laid → Bullet → Place → List Frame → Stepped
list_started (ListItem c p) b at fs = if same_bullet b c then want (frame.Junction b at NoTrees ∷ fs) else Stops
list_started _ b at fs = Stops

abbrev pub choose_named : Place → List ℕ → List Frame → Symbol → Stepped
choose_named at n fs symbols.Member = want (frame.ChooseSet at n ∷ fs)
choose_named at n fs _ = Stops

abbrev pub definition_named : Scope → List ℕ → Place → List Frame → Symbol → Place → Stepped
definition_named s n p fs symbols.Defined q = want (frame.DefinitionBody s n p (forms.Operator []) ∷ fs)
definition_named s n p fs symbols.OpenParenthesis q = Reads fs (mode.Parameter s n p [])
definition_named s n p fs symbols.OpenBracket q = Reads fs (begin_binding (binders.Defined s n p q))
definition_named s n p fs _ q = Stops

abbrev pub parameter_named : Scope → List ℕ → Place → List (List ℕ) → List Frame → Symbol → Stepped
parameter_named s n p ns fs symbols.Comma = Reads fs (mode.Parameter s n p ns)
parameter_named s n p ns fs symbols.CloseParenthesis = Reads fs (mode.DefinedAs s n p (forms.Operator ns))
parameter_named s n p ns fs _ = Stops

abbrev pub defined_as : Scope → List ℕ → Place → Form → List Frame → Symbol → Stepped
defined_as s n p form fs symbols.Defined = want (frame.DefinitionBody s n p form ∷ fs)
defined_as s n p form fs _ = Stops

abbrev pub except_mark : Place → Tree → Changes → List Frame → Symbol → Stepped
except_mark at e cs fs symbols.Exclamation = Reads fs (mode.ExceptPath at e cs NoSteps)
except_mark at e cs fs _ = Stops

-- a value stands behind a path that has a step
abbrev pub path_ends : Place → Tree → Changes → Steps → List Frame → Stepped
path_ends at e cs NoSteps fs = Stops
path_ends at e cs (MoreSteps ss p s) fs = want (frame.ExceptValue at e cs (MoreSteps ss p s) ∷ fs)

abbrev pub except_path : Place → Tree → Changes → Steps → List Frame → Symbol → Place → Stepped
except_path at e cs ss fs symbols.OpenBracket q = want (frame.ExceptIndex at e cs ss q NoTrees ∷ fs)
except_path at e cs ss fs symbols.Dot q = Reads fs (mode.ExceptField at e cs ss q)
except_path at e cs ss fs symbols.Equal q = path_ends at e cs ss fs
except_path at e cs ss fs _ q = Stops

-- a field stands once in a record
abbrev pub record_name : RecordKind → Place → Fields → List Frame → List ℕ → Stepped
record_name k at hs fs n = if has_field n hs then Stops else Reads fs (mode.RecordNamed k at hs n)

abbrev pub record_named : RecordKind → Place → Fields → List ℕ → List Frame → Symbol → Stepped
record_named records.Record at hs n fs symbols.MapsTo = want (frame.Record records.Record at hs n ∷ fs)
record_named records.Set at hs n fs symbols.Colon = want (frame.Record records.Set at hs n ∷ fs)
record_named k at hs n fs _ = Stops

abbrev pub subscript_symbol : List Frame → Symbol → Place → Stepped
subscript_symbol fs symbols.OpenParenthesis q = want (frame.Parenthesis q ∷ fs)
subscript_symbol fs symbols.OpenTuple q = Reads fs (mode.TupleStart q)
subscript_symbol fs _ q = Stops

-- a name, a tuple or an expression in parentheses begins
abbrev pub subscript_started : Laid → List Frame → Stepped
subscript_started x fs = on_name x (λ n p. deliver (tree.Name p n) fs) (on_symbol x (λ s q. subscript_symbol fs s q) Stops)

abbrev pub fair_opened : Place → Tree → List Frame → Symbol → Stepped
fair_opened at v fs symbols.OpenParenthesis = want (frame.FairBody at v ∷ fs)
fair_opened at v fs _ = Stops

abbrev pub is_other_word : Word → Bool
is_other_word words.Other = true
is_other_word _ = false

abbrev pub is_other : Kind → Bool
is_other (kinds.Word w) = is_other_word w
is_other _ = false

abbrev pub case_next : Laid → Place → Arms → List Frame → Stepped
case_next (Plain t) at arms fs = if is_other t.kind then Reads fs (mode.OtherArrow at arms) else begins (Plain t) (frame.CaseTest at arms ∷ fs)
case_next x at arms fs = begins x (frame.CaseTest at arms ∷ fs)

abbrev pub other_arrow : Place → Arms → List Frame → Symbol → Stepped
other_arrow at arms fs symbols.Arrow = want (frame.CaseOther at arms ∷ fs)
other_arrow at arms fs _ = Stops

-- what a laid token does
abbrev pub step : Laid → List Frame → Mode → Stepped
step x fs mode.Want = begins x fs
step x fs (mode.Have e) = follows x fs e
step x fs (mode.BoundName b ns) = on_name x (λ n p. Reads fs (mode.BoundNamed b (ns ++ n ∷ []))) Stops
step x fs (mode.BoundNamed b ns) = on_symbol x (λ s p. bound_named b ns fs s) Stops
step x fs (mode.BracketStart at) = on_name x (λ n p. Reads fs (mode.BracketName at n p)) (begins x (frame.Bracket at ∷ fs))
step x fs (mode.BracketName at n p) = on_symbol x (λ s q. bracket_named x at n p fs s q) (follows x (frame.Bracket at ∷ fs) (tree.Name p n))
step x fs (mode.BraceStart at) =
    on_name x (λ n p. Reads fs (mode.BraceName at n p)) (on_symbol x (λ s q. brace_started x at fs s q) (begins x (frame.Braces at NoTrees ∷ fs)))
step x fs (mode.BraceName at n p) = on_symbol x (λ s q. brace_named x at n p fs s q) (follows x (frame.Braces at NoTrees ∷ fs) (tree.Name p n))
step x fs (mode.TupleStart at) = on_symbol x (λ s q. tuple_started x at fs s q) (begins x (frame.Tuple at NoTrees ∷ fs))
step x fs (mode.ListStart b at) = list_started x b at fs
step x fs (mode.ChooseName at) = on_name x (λ n p. Reads fs (mode.ChooseNamed at n)) Stops
step x fs (mode.ChooseNamed at n) = on_symbol x (λ s p. choose_named at n fs s) Stops
step x fs (mode.DefinitionName s) = on_name x (λ n p. Reads fs (mode.DefinitionNamed s n p)) Stops
step x fs (mode.DefinitionNamed s n p) = on_symbol x (λ t q. definition_named s n p fs t q) Stops
step x fs (mode.Parameter s n p ns) = on_name x (λ m q. Reads fs (mode.ParameterNamed s n p (ns ++ m ∷ []))) Stops
step x fs (mode.ParameterNamed s n p ns) = on_symbol x (λ t q. parameter_named s n p ns fs t) Stops
step x fs (mode.DefinedAs s n p form) = on_symbol x (λ t q. defined_as s n p form fs t) Stops
step x fs (mode.ExceptMark at e cs) = on_symbol x (λ s q. except_mark at e cs fs s) Stops
step x fs (mode.ExceptPath at e cs ss) = on_symbol x (λ s q. except_path at e cs ss fs s q) Stops
step x fs (mode.ExceptField at e cs ss q) = on_name x (λ h p. Reads fs (mode.ExceptPath at e cs (MoreSteps ss q (tree.Field h)))) Stops
step x fs (mode.FieldName e q) = on_name x (λ h p. Reads fs (mode.Have (with_step e q (tree.Field h)))) Stops
step x fs (mode.InstanceName at i) = on_name x (λ n p. Reads fs (mode.Have (tree.Qualified at (qualified i n) NoTrees))) Stops
step x fs (mode.RecordName k at hs) = on_name x (λ n p. record_name k at hs fs n) Stops
step x fs (mode.RecordNamed k at hs n) = on_symbol x (λ s q. record_named k at hs n fs s) Stops
step x fs (mode.SubscriptStart k at e) = subscript_started x (frame.Subscript k at e ∷ fs)
step x fs (mode.FairStart at) = subscript_started x (frame.FairSubscript at ∷ fs)
step x fs (mode.FairOpen at v) = on_symbol x (λ s q. fair_opened at v fs s) Stops
step x fs (mode.CaseNext at arms) = case_next x at arms fs
step x fs (mode.OtherArrow at arms) = on_symbol x (λ s q. other_arrow at arms fs s) Stops

-- what all the tokens do, one after another; a list that ends too early stops at its end
pub data Outcome : Type 0 where
  StopsAt : List Laid → Outcome
  ClashesAt : Place → Place → List Laid → Outcome
  EndsAt : Tree → List Laid → Outcome
  EndsDefinitionAt : List ℕ → Place → List (List ℕ) → DefinitionForm → Tree → List Laid → Outcome

abbrev pub after : Stepped → List Laid → (List Frame → Mode → Outcome) → Outcome
after (Reads fs m) here next = next fs m
after Stops here next = StopsAt here
after (Clashes p q) here next = ClashesAt p q here
after (Ends e) here next = EndsAt e here
after (EndsDefinition n p ns form e) here next = EndsDefinitionAt n p ns form e here

abbrev pub run : List Laid → List Frame → Mode → Outcome
run [] fs m = StopsAt []
run (x ∷ xs) fs m = after (step x fs m) (x ∷ xs) (run xs)
