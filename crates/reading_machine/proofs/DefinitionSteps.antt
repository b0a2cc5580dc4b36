-- What a token does over one more row at the bottom: the same, up to where the expression over that row ends.
use Rattle.std.proofs.Common.{◌≡◌, ℕ, Bool, true, false, List, [], ◌∷◌, ◌++◌, Option, Some, None, refl, ap, ◌∙◌}
use Rattle.std.specs.Prelude.{if◌then◌else◌}
use Rattle.base_core.specs.declared.place.Place.{Place}
use Rattle.reading_trees.specs.declared.laid.Bullet.{Bullet}
use Rattle.reading_trees.specs.declared.laid.Laid.{Laid}
use Rattle.reading_trees.specs.declared.laid.Laid.TheVariants.{Plain, ListOpen, ListItem, ListClose}
use Rattle.reading_tokens.specs.declared.token.Kind.{Kind}
use Rattle.reading_tokens.specs.declared.token.Kind.TheVariants as kinds
use Rattle.reading_tokens.specs.declared.token.Word.{Word}
use Rattle.reading_tokens.specs.declared.token.Word.TheVariants as words
use Rattle.reading_tokens.specs.declared.token.Symbol.{Symbol}
use Rattle.reading_tokens.specs.declared.token.Symbol.TheVariants as symbols
use Rattle.reading_trees.specs.declared.operators.InfixOperator.{InfixOperator}
use Rattle.reading_trees.specs.Precedence.{prefix_range, infix_range}
use Rattle.reading_trees.specs.Grammar.{begins_member}
use Rattle.reading_trees.specs.Trees as tree
use Rattle.reading_trees.specs.Trees.{Tree, Trees, NoTrees, MoreTrees, First, Steps, NoSteps, MoreSteps, Bounds, MoreBounds, Fields, Changes, Arms, MoreArms}
use Rattle.reading_machine.specs.declared.frame.Action.TheVariants as actions
use Rattle.reading_machine.specs.declared.frame.RecordKind.{RecordKind}
use Rattle.reading_machine.specs.declared.frame.RecordKind.TheVariants as records
use Rattle.reading_machine.specs.declared.frame.Scope.{Scope}
use Rattle.reading_machine.specs.declared.frame.Scope.TheVariants as scopes
use Rattle.reading_machine.specs.declared.frame.Binder.{Binder}
use Rattle.reading_machine.specs.declared.frame.Binder.TheVariants as binders
use Rattle.reading_machine.specs.declared.frame.Binding.{Binding}
use Rattle.reading_machine.specs.declared.frame.Form.{Form}
use Rattle.reading_machine.specs.declared.frame.Frame.{Frame}
use Rattle.reading_machine.specs.declared.frame.Frame.TheVariants as frame
use Rattle.reading_machine.specs.declared.frame.Mode.{Mode}
use Rattle.reading_machine.specs.declared.frame.Mode.TheVariants as mode
use Rattle.reading_machine.specs.Machine.{Stepped, Reads, Stops, Clashes, Ends, EndsDefinition, Joined, Joins, Meets, Settled, want, above, goes_on, infix_step, join, deliver, same_bullet, has_field, word_begins, symbol_begins, token_begins, begins, settle, braces_close, bracket_close, on_joined, filter_close, function_close, is_subscript, tuple_close, binder_close, bound_close, comma_or, only_at, symbol_closes, word_closes, name_closes, item_closes, list_closes, kind_closes, laid_closes, closes, is_case_mark, settled_closes, behind, instance_step, call_step, infix_or, infix_of_symbol, symbol_follows, kind_follows, follows, name_or, on_name, symbol_or, on_symbol, bound_named, bracket_named, brace_started, brace_named, tuple_started, list_started, choose_named, definition_named, parameter_named, defined_as, except_mark, path_ends, except_path, record_named, subscript_symbol, subscript_started, fair_opened, is_other, case_next, other_arrow, step}

-- a row that waits for a token of its own: no operator, no subscript is expected in it, and it does not end with its expression
pub record Waits (b : Frame) : Type 0 where
  pub delivers : (e : Tree) → deliver e (b ∷ []) ≡ Reads (b ∷ []) (mode.Have e)
  pub operator : (q : InfixOperator) (at : Place) (e : Tree) → infix_step q at (b ∷ []) e ≡ want (frame.Infix q (First e) at ∷ b ∷ [])
  pub settles : (case : Bool) (e : Tree) → settle case (b ∷ []) e ≡ record { frames = b ∷ []; tree = e }
  pub free : is_subscript (b ∷ []) ≡ false

-- what comes of a token over the row, where next comes of it when the expression has ended
abbrev pub over : Frame → (Tree → Stepped) → Stepped → Stepped
over b next (Reads fs m) = Reads (fs ++ b ∷ []) m
over b next Stops = Stops
over b next (Clashes p q) = Clashes p q
over b next (Ends e) = next e
over b next (EndsDefinition n p ns form e) = EndsDefinition n p ns form e

module _ (b : Frame) (w : Waits b) where
  -- rows over it
  abbrev on : List Frame → List Frame
  on fs = fs ++ b ∷ []

  settle_case : (case : Bool) (p : Place) (arms : Arms) (a : Tree) (fs : List Frame) (e : Tree) → (settle case (on fs) (tree.Case p (MoreArms arms a e)) ≡ record { frames = on (settle case fs (tree.Case p (MoreArms arms a e))).frames; tree = (settle case fs (tree.Case p (MoreArms arms a e))).tree })
      → settle case (on (frame.CaseValue p arms a ∷ fs)) e ≡ record { frames = on (settle case (frame.CaseValue p arms a ∷ fs) e).frames; tree = (settle case (frame.CaseValue p arms a ∷ fs) e).tree }
  settle_case true p arms a fs e go = refl
  settle_case false p arms a fs e go = go

  settle_over : (case : Bool) (fs : List Frame) (e : Tree) → settle case (on fs) e ≡ record { frames = on (settle case fs e).frames; tree = (settle case fs e).tree }
  settle_over case [] e = w.settles case e
  settle_over case (frame.Prefix o p ∷ fs) e = settle_over case fs (tree.Prefix p o e)
  settle_over case (frame.Infix o es p ∷ fs) e = settle_over case fs (tree.Infix p o es e)
  settle_over case (frame.QuantifierBody q p bs ∷ fs) e = settle_over case fs (tree.Quantified p q bs e)
  settle_over case (frame.ChooseBody p n s ∷ fs) e = settle_over case fs (tree.Choose p n s e)
  settle_over case (frame.IfElse p a c ∷ fs) e = settle_over case fs (tree.If p a c e)
  settle_over case (frame.CaseValue p arms a ∷ fs) e = settle_case case p arms a fs e (settle_over case fs (tree.Case p (MoreArms arms a e)))
  settle_over case (frame.CaseOther p arms ∷ fs) e = settle_over case fs (tree.CaseOther p arms e)
  settle_over case (frame.LetBody p ds ∷ fs) e = settle_over case fs (tree.Let p ds e)
  settle_over case (f ∷ fs) e = refl

  free_over : (fs : List Frame) → is_subscript (on fs) ≡ is_subscript fs
  free_over [] = w.free
  free_over (frame.Subscript k at a ∷ fs) = refl
  free_over (frame.FairSubscript at ∷ fs) = refl
  free_over (f ∷ fs) = refl

  module _ (next : Tree → Stepped) where
    abbrev to : Stepped → Stepped
    to s = over b next s

    if_over : (c : Bool) (s t y z : Stepped) → y ≡ to s → z ≡ to t → (if c then y else z) ≡ to (if c then s else t)
    if_over true s t y z p q = p
    if_over false s t y z p q = q

    name_or_over : (c : Kind) (f g : List ℕ → Stepped) (s y : Stepped) → ((n : List ℕ) → g n ≡ to (f n)) → y ≡ to s → name_or c g y ≡ to (name_or c f s)
    name_or_over (kinds.Name n) f g s y p q = p n
    name_or_over _ f g s y p q = q

    on_name_over : (x : Laid) (f g : List ℕ → Place → Stepped) (s y : Stepped) → ((n : List ℕ) (p : Place) → g n p ≡ to (f n p)) → y ≡ to s → on_name x g y ≡ to (on_name x f s)
    on_name_over (Plain t) f g s y p q = name_or_over t.kind (λ n. f n t.place) (λ n. g n t.place) s y (λ n. p n t.place) q
    on_name_over _ f g s y p q = q

    symbol_or_over : (c : Kind) (f g : Symbol → Stepped) (s y : Stepped) → ((n : Symbol) → g n ≡ to (f n)) → y ≡ to s → symbol_or c g y ≡ to (symbol_or c f s)
    symbol_or_over (kinds.Symbol n) f g s y p q = p n
    symbol_or_over _ f g s y p q = q

    on_symbol_over : (x : Laid) (f g : Symbol → Place → Stepped) (s y : Stepped) → ((n : Symbol) (p : Place) → g n p ≡ to (f n p)) → y ≡ to s → on_symbol x g y ≡ to (on_symbol x f s)
    on_symbol_over (Plain t) f g s y p q = symbol_or_over t.kind (λ n. f n t.place) (λ n. g n t.place) s y (λ n. p n t.place) q
    on_symbol_over _ f g s y p q = q

    joined_over : (j : Joined Tree) (q : Place) (f g : Tree → Stepped) → ((e : Tree) → g e ≡ to (f e)) → on_joined j q g ≡ to (on_joined j q f)
    joined_over (Joins e) q f g p = p e
    joined_over (Meets r) q f g p = refl

    -- ---- operators, and where an expression begins

    infix_over : (q : InfixOperator) (at : Place) (fs : List Frame) (e : Tree) → infix_step q at (on fs) e ≡ to (infix_step q at fs e)
    infix_over q at [] e = w.operator q at e
    infix_over q at (frame.Prefix o p ∷ fs) e =
        if_over (above (prefix_range o) (infix_range q)) _ _ _ _ (infix_over q at fs (tree.Prefix p o e)) (if_over (above (infix_range q) (prefix_range o)) _ _ _ _ refl refl)
    infix_over q at (frame.Infix o es p ∷ fs) e =
        if_over (above (infix_range o) (infix_range q)) _ _ _ _ (infix_over q at fs (tree.Infix p o es e))
        (if_over (above (infix_range q) (infix_range o)) _ _ _ _ refl (if_over (goes_on o q) _ _ _ _ refl refl))
    infix_over q at (f ∷ fs) e = refl

    deliver_over : (e : Tree) (fs : List Frame) → deliver e (on fs) ≡ to (deliver e fs)
    deliver_over e [] = w.delivers e
    deliver_over e (frame.Subscript k at a ∷ fs) = refl
    deliver_over e (frame.FairSubscript at ∷ fs) = refl
    deliver_over e (f ∷ fs) = refl

    word_begins_over : (v : Word) (at : Place) (fs : List Frame) → word_begins v at (on fs) ≡ to (word_begins v at fs)
    word_begins_over words.True at fs = refl
    word_begins_over words.False at fs = refl
    word_begins_over words.Boolean at fs = refl
    word_begins_over words.String at fs = refl
    word_begins_over words.Unchanged at fs = refl
    word_begins_over words.Enabled at fs = refl
    word_begins_over words.Subset at fs = refl
    word_begins_over words.Union at fs = refl
    word_begins_over words.Domain at fs = refl
    word_begins_over words.Choose at fs = refl
    word_begins_over words.If at fs = refl
    word_begins_over words.Case at fs = refl
    word_begins_over words.Let at fs = refl
    word_begins_over _ at fs = refl

    symbol_begins_over : (s : Symbol) (at : Place) (fs : List Frame) → symbol_begins s at (on fs) ≡ to (symbol_begins s at fs)
    symbol_begins_over symbols.At at fs = refl
    symbol_begins_over symbols.OpenParenthesis at fs = refl
    symbol_begins_over symbols.OpenBracket at fs = refl
    symbol_begins_over symbols.OpenBrace at fs = refl
    symbol_begins_over symbols.OpenTuple at fs = refl
    symbol_begins_over symbols.Not at fs = refl
    symbol_begins_over symbols.Always at fs = refl
    symbol_begins_over symbols.Eventually at fs = refl
    symbol_begins_over symbols.Minus at fs = refl
    symbol_begins_over symbols.ForAll at fs = refl
    symbol_begins_over symbols.Exists at fs = refl
    symbol_begins_over _ at fs = refl

    token_begins_over : (k : Kind) (at : Place) (fs : List Frame) → token_begins k at (on fs) ≡ to (token_begins k at fs)
    token_begins_over (kinds.Name n) at fs = refl
    token_begins_over (kinds.Number z) at fs = refl
    token_begins_over (kinds.Str s) at fs = refl
    token_begins_over kinds.Fair at fs = refl
    token_begins_over (kinds.Word v) at fs = word_begins_over v at fs
    token_begins_over (kinds.Symbol s) at fs = symbol_begins_over s at fs
    token_begins_over _ at fs = refl

    begins_over : (x : Laid) (fs : List Frame) → begins x (on fs) ≡ to (begins x fs)
    begins_over (Plain t) fs = token_begins_over t.kind t.place fs
    begins_over (ListOpen c at) fs = refl
    begins_over (ListItem c at) fs = refl
    begins_over (ListClose at) fs = refl

    -- ---- a token at the innermost frame that waits

    braces_over : (s : Symbol) (at : Place) (es : Trees) (fs : List Frame) (e : Tree) → braces_close s at es (on fs) e ≡ to (braces_close s at es fs e)
    braces_over symbols.Comma at es fs e = refl
    braces_over symbols.CloseBrace at es fs e = refl
    braces_over symbols.Colon at NoTrees fs e = if_over (begins_member e) _ _ _ _ refl refl
    braces_over symbols.Colon at (MoreTrees es d) fs e = refl
    braces_over _ at es fs e = refl

    bracket_over : (s : Symbol) (at : Place) (fs : List Frame) (e : Tree) → bracket_close s at (on fs) e ≡ to (bracket_close s at fs e)
    bracket_over symbols.Arrow at fs e = refl
    bracket_over symbols.CloseBracketSubscript at fs e = refl
    bracket_over _ at fs e = refl

    filter_over : (s : Symbol) (at : Place) (n : List ℕ) (p q : Place) (fs : List Frame) (e : Tree) → filter_close s at n p q (on fs) e ≡ to (filter_close s at n p q fs e)
    filter_over symbols.Colon at n p q fs e = refl
    filter_over symbols.Comma at n p q fs e = joined_over (join (tree.Name p n) q e) q _ _ (λ x. braces_over symbols.Comma at NoTrees fs x)
    filter_over symbols.CloseBrace at n p q fs e = joined_over (join (tree.Name p n) q e) q _ _ (λ x. braces_over symbols.CloseBrace at NoTrees fs x)
    filter_over _ at n p q fs e = refl

    function_over : (s : Symbol) (at : Place) (n : List ℕ) (p q : Place) (fs : List Frame) (e : Tree) → function_close s at n p q (on fs) e ≡ to (function_close s at n p q fs e)
    function_over symbols.Comma at n p q fs e = refl
    function_over symbols.MapsTo at n p q fs e = refl
    function_over symbols.Arrow at n p q fs e = joined_over (join (tree.Name p n) q e) q _ _ (λ x. bracket_over symbols.Arrow at fs x)
    function_over symbols.CloseBracketSubscript at n p q fs e = joined_over (join (tree.Name p n) q e) q _ _ (λ x. bracket_over symbols.CloseBracketSubscript at fs x)
    function_over _ at n p q fs e = refl

    tuple_over : (s : Symbol) (at : Place) (es : Trees) (fs : List Frame) (e : Tree) → tuple_close s at es (on fs) e ≡ to (tuple_close s at es fs e)
    tuple_over symbols.Comma at es fs e = refl
    tuple_over symbols.CloseTuple at es fs e = deliver_over (tree.Tuple at (MoreTrees es e)) fs
    tuple_over symbols.CloseTupleSubscript at NoTrees fs e =
        ap (λ c. if c then Stops else Reads (on fs) (mode.SubscriptStart actions.Angle at e)) (free_over fs) ∙ if_over (is_subscript fs) _ _ _ _ refl refl
    tuple_over symbols.CloseTupleSubscript at (MoreTrees es d) fs e = refl
    tuple_over _ at es fs e = refl

    binder_over : (s : Symbol) (c : Binder) (bs : Bounds) (fs : List Frame) → binder_close s c bs (on fs) ≡ to (binder_close s c bs fs)
    binder_over symbols.Colon (binders.Quantifier q at) bs fs = refl
    binder_over symbols.MapsTo (binders.Function at) bs fs = refl
    binder_over symbols.CloseBrace (binders.Map at e) bs fs = refl
    binder_over symbols.CloseBracket (binders.Defined s n p q) bs fs = refl
    binder_over _ c bs fs = refl

    bound_over : (s : Symbol) (c : Binding) (ns : List (List ℕ)) (fs : List Frame) (e : Tree) → bound_close s c ns (on fs) e ≡ to (bound_close s c ns fs e)
    bound_over symbols.Comma c ns fs e = refl
    bound_over s c ns fs e = binder_over s c.binder (MoreBounds c.bounds ns e) fs

    parenthesis_over : (s : Symbol) (d y : Stepped) → y ≡ to d → only_at s symbols.CloseParenthesis y ≡ to (only_at s symbols.CloseParenthesis d)
    parenthesis_over symbols.CloseParenthesis d y p = p
    parenthesis_over _ d y p = refl

    comma_parenthesis_over : (s : Symbol) (more done y z : Stepped) → y ≡ to more → z ≡ to done → comma_or s symbols.CloseParenthesis y z ≡ to (comma_or s symbols.CloseParenthesis more done)
    comma_parenthesis_over symbols.Comma more done y z p q = p
    comma_parenthesis_over symbols.CloseParenthesis more done y z p q = q
    comma_parenthesis_over _ more done y z p q = refl

    comma_bracket_over : (s : Symbol) (more done y z : Stepped) → y ≡ to more → z ≡ to done → comma_or s symbols.CloseBracket y z ≡ to (comma_or s symbols.CloseBracket more done)
    comma_bracket_over symbols.Comma more done y z p q = p
    comma_bracket_over symbols.CloseBracket more done y z p q = q
    comma_bracket_over _ more done y z p q = refl

    only_bracket_over : (s : Symbol) (d y : Stepped) → y ≡ to d → only_at s symbols.CloseBracket y ≡ to (only_at s symbols.CloseBracket d)
    only_bracket_over symbols.CloseBracket d y p = p
    only_bracket_over _ d y p = refl

    only_brace_over : (s : Symbol) (d y : Stepped) → y ≡ to d → only_at s symbols.CloseBrace y ≡ to (only_at s symbols.CloseBrace d)
    only_brace_over symbols.CloseBrace d y p = p
    only_brace_over _ d y p = refl

    only_colon_over : (s : Symbol) (d y : Stepped) → y ≡ to d → only_at s symbols.Colon y ≡ to (only_at s symbols.Colon d)
    only_colon_over symbols.Colon d y p = p
    only_colon_over _ d y p = refl

    only_arrow_over : (s : Symbol) (d y : Stepped) → y ≡ to d → only_at s symbols.Arrow y ≡ to (only_at s symbols.Arrow d)
    only_arrow_over symbols.Arrow d y p = p
    only_arrow_over _ d y p = refl

    only_always_over : (s : Symbol) (d y : Stepped) → y ≡ to d → only_at s symbols.Always y ≡ to (only_at s symbols.Always d)
    only_always_over symbols.Always d y p = p
    only_always_over _ d y p = refl

    symbol_over : (s : Symbol) (f : Frame) (fs : List Frame) (e : Tree) → symbol_closes s f (on fs) e ≡ to (symbol_closes s f fs e)
    symbol_over s (frame.Parenthesis at) fs e = parenthesis_over s _ _ (deliver_over (tree.Parenthesized at e) fs)
    symbol_over s (frame.Call n at es) fs e = comma_parenthesis_over s _ _ _ _ refl refl
    symbol_over s (frame.QualifiedCall n at es) fs e = comma_parenthesis_over s _ _ _ _ refl refl
    symbol_over s (frame.Index a at es) fs e = comma_bracket_over s _ _ _ _ refl refl
    symbol_over s (frame.Braces at es) fs e = braces_over s at es fs e
    symbol_over s (frame.MaybeFilter at n p q) fs e = filter_over s at n p q fs e
    symbol_over s (frame.FilterTest at n a) fs e = only_brace_over s _ _ refl
    symbol_over s (frame.Tuple at es) fs e = tuple_over s at es fs e
    symbol_over s (frame.Bracket at) fs e = bracket_over s at fs e
    symbol_over s (frame.MaybeFunction at n p q) fs e = function_over s at n p q fs e
    symbol_over s (frame.FunctionBody at bs) fs e = only_bracket_over s _ _ refl
    symbol_over s (frame.FunctionRange at a) fs e = only_bracket_over s _ _ refl
    symbol_over s (frame.Record k at hs n) fs e = comma_bracket_over s _ _ _ _ refl refl
    symbol_over s (frame.BoundSet c ns) fs e = bound_over s c ns fs e
    symbol_over s (frame.ExceptIndex at a cs ss p es) fs e = comma_bracket_over s _ _ _ _ refl refl
    symbol_over s (frame.ExceptValue at a cs ss) fs e = comma_bracket_over s _ _ _ _ refl refl
    symbol_over s (frame.ChooseSet at n) fs e = only_colon_over s _ _ refl
    symbol_over s (frame.CaseTest at arms) fs e = only_arrow_over s _ _ refl
    symbol_over s (frame.CaseValue at arms a) fs e = only_always_over s _ _ refl
    symbol_over s (frame.FairBody at v) fs e = parenthesis_over s _ _ refl
    symbol_over s f fs e = refl

    word_over : (v : Word) (f : Frame) (fs : List Frame) (e : Tree) → word_closes v f (on fs) e ≡ to (word_closes v f fs e)
    word_over words.Then (frame.IfTest at) fs e = refl
    word_over words.Else (frame.IfThen at a) fs e = refl
    word_over words.Except (frame.Bracket at) fs e = refl
    word_over words.Except (frame.MaybeFunction at n p q) fs e = joined_over (join (tree.Name p n) q e) q _ _ (λ x. refl)
    word_over words.In (frame.DefinitionBody (scopes.Let at ds) n p form) fs e = refl
    word_over v f fs e = refl

    name_over : (m : List ℕ) (q : Place) (f : Frame) (fs : List Frame) (e : Tree) → name_closes m q f (on fs) e ≡ to (name_closes m q f fs e)
    name_over m q (frame.DefinitionBody (scopes.Let at ds) n p form) fs e = refl
    name_over m q f fs e = refl

    item_over : (c : Bullet) (f : Frame) (fs : List Frame) (e : Tree) → item_closes c f (on fs) e ≡ to (item_closes c f fs e)
    item_over c (frame.Junction d at es) fs e = if_over (same_bullet d c) _ _ _ _ refl refl
    item_over c f fs e = refl

    list_over : (f : Frame) (fs : List Frame) (e : Tree) → list_closes f (on fs) e ≡ to (list_closes f fs e)
    list_over (frame.Junction d at es) fs e = refl
    list_over f fs e = refl

    kind_over : (k : Kind) (q : Place) (f : Frame) (fs : List Frame) (e : Tree) → kind_closes k q f (on fs) e ≡ to (kind_closes k q f fs e)
    kind_over (kinds.Symbol s) q f fs e = symbol_over s f fs e
    kind_over (kinds.Word v) q f fs e = word_over v f fs e
    kind_over (kinds.Name m) q f fs e = name_over m q f fs e
    kind_over _ q f fs e = refl

    laid_over : (x : Laid) (f : Frame) (fs : List Frame) (e : Tree) → laid_closes x f (on fs) e ≡ to (laid_closes x f fs e)
    laid_over (Plain t) f fs e = kind_over t.kind t.place f fs e
    laid_over (ListOpen c at) f fs e = refl
    laid_over (ListItem c at) f fs e = item_over c f fs e
    laid_over (ListClose at) f fs e = list_over f fs e

    -- ---- a token behind a primary

    call_over : (e : Tree) (fs : List Frame) → call_step e (on fs) ≡ to (call_step e fs)
    call_over (tree.Name at n) fs = refl
    call_over (tree.Qualified at n NoTrees) fs = refl
    call_over e fs = refl

    instance_over : (e : Tree) (fs : List Frame) → instance_step e (on fs) ≡ to (instance_step e fs)
    instance_over (tree.Name at i) fs = refl
    instance_over e fs = refl

    operator_over : (o : Option InfixOperator) (at : Place) (fs : List Frame) (e : Tree) (s y : Stepped) → y ≡ to s → infix_or o at (on fs) e y ≡ to (infix_or o at fs e s)
    operator_over (Some q) at fs e s y p = infix_over q at fs e
    operator_over None at fs e s y p = p

    symbol_follows_over : (c : Symbol) (at : Place) (fs : List Frame) (e : Tree) (s y : Stepped) → y ≡ to s → symbol_follows c at (on fs) e y ≡ to (symbol_follows c at fs e s)
    symbol_follows_over symbols.Prime at fs e s y p = refl
    symbol_follows_over symbols.OpenBracket at fs e s y p = refl
    symbol_follows_over symbols.Dot at fs e s y p = refl
    symbol_follows_over symbols.OpenParenthesis at fs e s y p = call_over e fs
    symbol_follows_over symbols.Exclamation at fs e s y p = instance_over e fs
    symbol_follows_over c at fs e s y p = operator_over (infix_of_symbol c) at fs e s y p

    kind_follows_over : (k : Kind) (at : Place) (fs : List Frame) (e : Tree) (s y : Stepped) → y ≡ to s → kind_follows k at (on fs) e y ≡ to (kind_follows k at fs e s)
    kind_follows_over (kinds.Symbol c) at fs e s y p = symbol_follows_over c at fs e s y p
    kind_follows_over k at fs e s y p = p

    -- ---- a token where another is expected

    bound_named_over : (c : Binding) (ns : List (List ℕ)) (fs : List Frame) (s : Symbol) → bound_named c ns (on fs) s ≡ to (bound_named c ns fs s)
    bound_named_over c ns fs symbols.Comma = refl
    bound_named_over c ns fs symbols.Member = refl
    bound_named_over c ns fs _ = refl

    list_started_over : (x : Laid) (c : Bullet) (at : Place) (fs : List Frame) → list_started x c at (on fs) ≡ to (list_started x c at fs)
    list_started_over (ListItem d p) c at fs = if_over (same_bullet c d) _ _ _ _ refl refl
    list_started_over _ c at fs = refl

    choose_named_over : (at : Place) (n : List ℕ) (fs : List Frame) (s : Symbol) → choose_named at n (on fs) s ≡ to (choose_named at n fs s)
    choose_named_over at n fs symbols.Member = refl
    choose_named_over at n fs _ = refl

    definition_named_over : (c : Scope) (n : List ℕ) (p : Place) (fs : List Frame) (s : Symbol) (q : Place) → definition_named c n p (on fs) s q ≡ to (definition_named c n p fs s q)
    definition_named_over c n p fs symbols.Defined q = refl
    definition_named_over c n p fs symbols.OpenParenthesis q = refl
    definition_named_over c n p fs symbols.OpenBracket q = refl
    definition_named_over c n p fs _ q = refl

    parameter_named_over : (c : Scope) (n : List ℕ) (p : Place) (ns : List (List ℕ)) (fs : List Frame) (s : Symbol) → parameter_named c n p ns (on fs) s ≡ to (parameter_named c n p ns fs s)
    parameter_named_over c n p ns fs symbols.Comma = refl
    parameter_named_over c n p ns fs symbols.CloseParenthesis = refl
    parameter_named_over c n p ns fs _ = refl

    defined_as_over : (c : Scope) (n : List ℕ) (p : Place) (form : Form) (fs : List Frame) (s : Symbol) → defined_as c n p form (on fs) s ≡ to (defined_as c n p form fs s)
    defined_as_over c n p form fs symbols.Defined = refl
    defined_as_over c n p form fs _ = refl

    except_mark_over : (at : Place) (e : Tree) (cs : Changes) (fs : List Frame) (s : Symbol) → except_mark at e cs (on fs) s ≡ to (except_mark at e cs fs s)
    except_mark_over at e cs fs symbols.Exclamation = refl
    except_mark_over at e cs fs _ = refl

    path_ends_over : (at : Place) (e : Tree) (cs : Changes) (ss : Steps) (fs : List Frame) → path_ends at e cs ss (on fs) ≡ to (path_ends at e cs ss fs)
    path_ends_over at e cs NoSteps fs = refl
    path_ends_over at e cs (MoreSteps ss p s) fs = refl

    except_path_over : (at : Place) (e : Tree) (cs : Changes) (ss : Steps) (fs : List Frame) (s : Symbol) (q : Place) → except_path at e cs ss (on fs) s q ≡ to (except_path at e cs ss fs s q)
    except_path_over at e cs ss fs symbols.OpenBracket q = refl
    except_path_over at e cs ss fs symbols.Dot q = refl
    except_path_over at e cs ss fs symbols.Equal q = path_ends_over at e cs ss fs
    except_path_over at e cs ss fs _ q = refl

    record_named_over : (k : RecordKind) (at : Place) (hs : Fields) (n : List ℕ) (fs : List Frame) (s : Symbol) → record_named k at hs n (on fs) s ≡ to (record_named k at hs n fs s)
    record_named_over records.Record at hs n fs symbols.MapsTo = refl
    record_named_over records.Set at hs n fs symbols.Colon = refl
    record_named_over k at hs n fs _ = refl

    subscript_symbol_over : (fs : List Frame) (s : Symbol) (q : Place) → subscript_symbol (on fs) s q ≡ to (subscript_symbol fs s q)
    subscript_symbol_over fs symbols.OpenParenthesis q = refl
    subscript_symbol_over fs symbols.OpenTuple q = refl
    subscript_symbol_over fs _ q = refl

    subscript_over : (x : Laid) (fs : List Frame) → subscript_started x (on fs) ≡ to (subscript_started x fs)
    subscript_over x fs = on_name_over x _ _ _ _ (λ n p. deliver_over (tree.Name p n) fs) (on_symbol_over x _ _ _ _ (λ s q. subscript_symbol_over fs s q) refl)

    fair_opened_over : (at : Place) (v : Tree) (fs : List Frame) (s : Symbol) → fair_opened at v (on fs) s ≡ to (fair_opened at v fs s)
    fair_opened_over at v fs symbols.OpenParenthesis = refl
    fair_opened_over at v fs _ = refl

    case_next_over : (x : Laid) (at : Place) (arms : Arms) (fs : List Frame) → case_next x at arms (on fs) ≡ to (case_next x at arms fs)
    case_next_over (Plain t) at arms fs = if_over (is_other t.kind) _ _ _ _ refl (begins_over (Plain t) (frame.CaseTest at arms ∷ fs))
    case_next_over (ListOpen c q) at arms fs = refl
    case_next_over (ListItem c q) at arms fs = refl
    case_next_over (ListClose q) at arms fs = refl

    other_arrow_over : (at : Place) (arms : Arms) (fs : List Frame) (s : Symbol) → other_arrow at arms (on fs) s ≡ to (other_arrow at arms fs s)
    other_arrow_over at arms fs symbols.Arrow = refl
    other_arrow_over at arms fs _ = refl

    brace_started_over : (x : Laid) (at : Place) (fs : List Frame) (s : Symbol) (q : Place) → brace_started x at (on fs) s q ≡ to (brace_started x at fs s q)
    brace_started_over x at fs symbols.CloseBrace q = refl
    brace_started_over x at fs s q = begins_over x (frame.Braces at NoTrees ∷ fs)

    tuple_started_over : (x : Laid) (at : Place) (fs : List Frame) (s : Symbol) (q : Place) → tuple_started x at (on fs) s q ≡ to (tuple_started x at fs s q)
    tuple_started_over x at fs symbols.CloseTuple q = deliver_over (tree.Tuple at NoTrees) fs
    tuple_started_over x at fs s q = begins_over x (frame.Tuple at NoTrees ∷ fs)

  -- ---- where the expression can end

  -- what the token does to the row, where the expression over it has ended
  abbrev ending : Laid → Tree → Stepped
  ending x e = closes x (b ∷ []) e

  closes_over : (x : Laid) (fs : List Frame) (e : Tree) → closes x (on fs) e ≡ over b (ending x) (closes x fs e)
  closes_over x [] e = refl
  closes_over x (frame.DefinitionBody scopes.Unit n p form ∷ fs) e = refl
  closes_over x (f ∷ fs) e = laid_over (ending x) x f fs e

  behind_over : (x : Laid) (fs : List Frame) (e : Tree) → behind x (on fs) e ≡ over b (ending x) (behind x fs e)
  behind_over x fs e =
      let s : Settled = settle (is_case_mark x) fs e in
      ap (λ v. settled_closes x v) (settle_over (is_case_mark x) fs e) ∙ closes_over x s.frames s.tree

  follows_over : (x : Laid) (fs : List Frame) (e : Tree) → follows x (on fs) e ≡ over b (ending x) (follows x fs e)
  follows_over (Plain t) fs e = kind_follows_over (ending (Plain t)) t.kind t.place fs e _ _ (behind_over (Plain t) fs e)
  follows_over (ListOpen c q) fs e = behind_over (ListOpen c q) fs e
  follows_over (ListItem c q) fs e = behind_over (ListItem c q) fs e
  follows_over (ListClose q) fs e = behind_over (ListClose q) fs e

  bracket_named_over : (x : Laid) (at : Place) (n : List ℕ) (p : Place) (fs : List Frame) (s : Symbol) (q : Place) → bracket_named x at n p (on fs) s q ≡ over b (ending x) (bracket_named x at n p fs s q)
  bracket_named_over x at n p fs symbols.MapsTo q = refl
  bracket_named_over x at n p fs symbols.Colon q = refl
  bracket_named_over x at n p fs symbols.Comma q = refl
  bracket_named_over x at n p fs symbols.Member q = refl
  bracket_named_over x at n p fs s q = follows_over x (frame.Bracket at ∷ fs) (tree.Name p n)

  brace_named_over : (x : Laid) (at : Place) (n : List ℕ) (p : Place) (fs : List Frame) (s : Symbol) (q : Place) → brace_named x at n p (on fs) s q ≡ over b (ending x) (brace_named x at n p fs s q)
  brace_named_over x at n p fs symbols.Member q = refl
  brace_named_over x at n p fs s q = follows_over x (frame.Braces at NoTrees ∷ fs) (tree.Name p n)

  pub step_over : (x : Laid) (fs : List Frame) (m : Mode) → step x (fs ++ b ∷ []) m ≡ over b (λ e. closes x (b ∷ []) e) (step x fs m)
  step_over x fs mode.Want = begins_over (ending x) x fs
  step_over x fs (mode.Have e) = follows_over x fs e
  step_over x fs (mode.BoundName c ns) = on_name_over (ending x) x _ _ _ _ (λ n p. refl) refl
  step_over x fs (mode.BoundNamed c ns) = on_symbol_over (ending x) x _ _ _ _ (λ s p. bound_named_over (ending x) c ns fs s) refl
  step_over x fs (mode.BracketStart at) = on_name_over (ending x) x _ _ _ _ (λ n p. refl) (begins_over (ending x) x (frame.Bracket at ∷ fs))
  step_over x fs (mode.BracketName at n p) = on_symbol_over (ending x) x _ _ _ _ (λ s q. bracket_named_over x at n p fs s q) (follows_over x (frame.Bracket at ∷ fs) (tree.Name p n))
  step_over x fs (mode.BraceStart at) =
      on_name_over (ending x) x _ _ _ _ (λ n p. refl) (on_symbol_over (ending x) x _ _ _ _ (λ s q. brace_started_over (ending x) x at fs s q) (begins_over (ending x) x (frame.Braces at NoTrees ∷ fs)))
  step_over x fs (mode.BraceName at n p) = on_symbol_over (ending x) x _ _ _ _ (λ s q. brace_named_over x at n p fs s q) (follows_over x (frame.Braces at NoTrees ∷ fs) (tree.Name p n))
  step_over x fs (mode.TupleStart at) = on_symbol_over (ending x) x _ _ _ _ (λ s q. tuple_started_over (ending x) x at fs s q) (begins_over (ending x) x (frame.Tuple at NoTrees ∷ fs))
  step_over x fs (mode.ListStart c at) = list_started_over (ending x) x c at fs
  step_over x fs (mode.ChooseName at) = on_name_over (ending x) x _ _ _ _ (λ n p. refl) refl
  step_over x fs (mode.ChooseNamed at n) = on_symbol_over (ending x) x _ _ _ _ (λ s p. choose_named_over (ending x) at n fs s) refl
  step_over x fs (mode.DefinitionName c) = on_name_over (ending x) x _ _ _ _ (λ n p. refl) refl
  step_over x fs (mode.DefinitionNamed c n p) = on_symbol_over (ending x) x _ _ _ _ (λ s q. definition_named_over (ending x) c n p fs s q) refl
  step_over x fs (mode.Parameter c n p ns) = on_name_over (ending x) x _ _ _ _ (λ m q. refl) refl
  step_over x fs (mode.ParameterNamed c n p ns) = on_symbol_over (ending x) x _ _ _ _ (λ s q. parameter_named_over (ending x) c n p ns fs s) refl
  step_over x fs (mode.DefinedAs c n p form) = on_symbol_over (ending x) x _ _ _ _ (λ s q. defined_as_over (ending x) c n p form fs s) refl
  step_over x fs (mode.ExceptMark at d cs) = on_symbol_over (ending x) x _ _ _ _ (λ s q. except_mark_over (ending x) at d cs fs s) refl
  step_over x fs (mode.ExceptPath at d cs ss) = on_symbol_over (ending x) x _ _ _ _ (λ s q. except_path_over (ending x) at d cs ss fs s q) refl
  step_over x fs (mode.ExceptField at d cs ss o) = on_name_over (ending x) x _ _ _ _ (λ n p. refl) refl
  step_over x fs (mode.FieldName d o) = on_name_over (ending x) x _ _ _ _ (λ n p. refl) refl
  step_over x fs (mode.InstanceName at i) = on_name_over (ending x) x _ _ _ _ (λ n p. refl) refl
  step_over x fs (mode.RecordName k at hs) = on_name_over (ending x) x _ _ _ _ (λ n p. if_over (ending x) (has_field n hs) _ _ _ _ refl refl) refl
  step_over x fs (mode.RecordNamed k at hs n) = on_symbol_over (ending x) x _ _ _ _ (λ s q. record_named_over (ending x) k at hs n fs s) refl
  step_over x fs (mode.SubscriptStart k at d) = subscript_over (ending x) x (frame.Subscript k at d ∷ fs)
  step_over x fs (mode.FairStart at) = subscript_over (ending x) x (frame.FairSubscript at ∷ fs)
  step_over x fs (mode.FairOpen at v) = on_symbol_over (ending x) x _ _ _ _ (λ s q. fair_opened_over (ending x) at v fs s) refl
  step_over x fs (mode.CaseNext at arms) = case_next_over (ending x) x at arms fs
  step_over x fs (mode.OtherArrow at arms) = on_symbol_over (ending x) x _ _ _ _ (λ s q. other_arrow_over (ending x) at arms fs s) refl
