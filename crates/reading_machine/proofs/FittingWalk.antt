-- What each token keeps: a subscript is a name, a tuple or an expression in parentheses, and nothing else is read where one is expected.
-- Where a token is a clash, it is one of an infix operator behind an operand, or of the late `\in` in braces or brackets.
use Rattle.std.proofs.Common.{◌≡◌, ◌⊎◌, inl, inr, ℕ, Bool, true, false, List, [], ◌∷◌, Option, Some, None, refl, sym, ap, subst, ◌∙◌}
use Rattle.base_core.specs.declared.place.Place.{Place}
use Rattle.reading_trees.specs.declared.laid.Bullet.{Bullet}
use Rattle.reading_trees.specs.declared.laid.Laid.{Laid}
use Rattle.reading_trees.specs.declared.laid.Laid.TheVariants.{Plain, ListOpen, ListItem, ListClose}
use Rattle.reading_tokens.specs.declared.token.Kind.{Kind}
use Rattle.reading_tokens.specs.declared.token.Kind.TheVariants as kinds
use Rattle.reading_tokens.specs.declared.token.Word.{Word}
use Rattle.reading_tokens.specs.declared.token.Word.TheVariants as words
use Rattle.reading_tokens.specs.declared.token.Symbol.{Symbol}
use Rattle.reading_tokens.specs.declared.token.Symbol.TheVariants as symbols
use Rattle.reading_trees.specs.declared.operators.InfixOperator.{InfixOperator}
use Rattle.reading_trees.specs.Precedence.{infix_symbol, prefix_range, infix_range}
use Rattle.reading_trees.specs.Grammar.{begins_member}
use Rattle.reading_trees.specs.Trees as tree
use Rattle.reading_trees.specs.Trees.{Tree, Trees, NoTrees, MoreTrees, Steps, NoSteps, MoreSteps, Bounds, MoreBounds, Fields, Changes, Arms, MoreArms}
use Rattle.reading_machine.specs.declared.frame.RecordKind.{RecordKind}
use Rattle.reading_machine.specs.declared.frame.RecordKind.TheVariants as records
use Rattle.reading_machine.specs.declared.frame.Scope.{Scope}
use Rattle.reading_machine.specs.declared.frame.Scope.TheVariants as scopes
use Rattle.reading_machine.specs.declared.frame.Binder.{Binder}
use Rattle.reading_machine.specs.declared.frame.Binder.TheVariants as binders
use Rattle.reading_machine.specs.declared.frame.Binding.{Binding}
use Rattle.reading_machine.specs.declared.frame.Form.{Form}
use Rattle.reading_machine.specs.declared.frame.Frame.{Frame}
use Rattle.reading_machine.specs.declared.frame.Frame.TheVariants as frame
use Rattle.reading_machine.specs.declared.frame.Mode.{Mode}
use Rattle.reading_machine.specs.declared.frame.Mode.TheVariants as mode
use Rattle.reading_machine.specs.Machine.{Stepped, Reads, Stops, Clashes, Ends, EndsDefinition, Joined, Joins, Meets, Settled, above, goes_on, infix_step, join, deliver, same_bullet, has_field, word_begins, symbol_begins, token_begins, begins, settle, braces_close, bracket_close, on_joined, filter_close, function_close, is_subscript, tuple_close, binder_close, bound_close, symbol_closes, word_closes, name_closes, item_closes, list_closes, kind_closes, laid_closes, closes, is_case_mark, settled_closes, behind, instance_step, call_step, infix_or, infix_of_symbol, symbol_follows, kind_follows, follows, bound_named, bracket_named, brace_started, brace_named, tuple_started, list_started, choose_named, definition_named, parameter_named, defined_as, except_mark, path_ends, except_path, record_named, subscript_symbol, subscript_started, fair_opened, is_other, case_next, other_arrow, step}
use Rattle.reading_machine.specs.OpenFits.{Open, FramesStand, ModeStands}
use Rattle.reading_machine.proofs.Edges.{one_of_two}
use Rattle.reading_machine.proofs.Rows.{only_parenthesis, only_bracket, only_brace, only_colon, only_arrow, only_always, comma_parenthesis, comma_bracket}
use Rattle.reading_machine.proofs.Beginning.{on_name_good, on_symbol_good}
use Rattle.reading_machine.proofs.Opened.{laid_symbol}
use Rattle.reading_machine.proofs.Closing.{SymbolOf, symbol_of, laid}

-- ---- what is kept

-- where no subscript is expected
abbrev pub Held : List Frame → Type 0
Held fs = Open fs × FramesStand fs

-- a fact of the two places of a clash
abbrev Fact : Type 1
Fact = Place → Place → Type 0

abbrev Good : Fact → Stepped → Type 0
Good C (Reads fs m) = ModeStands m fs × FramesStand fs
Good C (Clashes p q) = C p q
Good C _ = Unit {0}

-- no fact
abbrev Nothing : Fact
Nothing p q = Unit {0}

with_clash : (C : Fact) (s : Stepped) → Good Nothing s → ((p q : Place) → s ≡ Clashes p q → C p q) → Good C s
with_clash C (Reads fs m) h c = h
with_clash C Stops h c = tt
with_clash C (Clashes p q) h c = c p q refl
with_clash C (Ends e) h c = tt
with_clash C (EndsDefinition n p ns form e) h c = tt

-- tokens at which a late `\in` can only be an operator
abbrev pub EndsElement : Kind → Type 0
EndsElement k = (k ≡ kinds.Symbol symbols.Comma) ⊎ (k ≡ kinds.Symbol symbols.CloseBrace)

abbrev pub EndsOperand : Kind → Type 0
EndsOperand k = (k ≡ kinds.Symbol symbols.Arrow) ⊎ (k ≡ kinds.Symbol symbols.CloseBracketSubscript) ⊎ (k ≡ kinds.Word words.Except)

-- a row of a late `\in` tells the fact where that clashes
abbrev pub FrameMeets : Fact → Kind → Frame → Tree → Type 0
FrameMeets C k (frame.MaybeFilter at n p q) e = (m : Place) → join (tree.Name p n) q e ≡ Meets m → EndsElement k → C q m
FrameMeets C k (frame.MaybeFunction at n p q) e = (m : Place) → join (tree.Name p n) q e ≡ Meets m → EndsOperand k → C q m
FrameMeets C k _ e = Unit {0}

abbrev pub LaidMeets : Fact → Laid → Frame → Tree → Type 0
LaidMeets C (Plain t) f e = FrameMeets C t.kind f e
LaidMeets C _ f e = Unit {0}

abbrev pub FramesMeet : Fact → Laid → List Frame → Tree → Type 0
FramesMeet C x [] e = Unit {0}
FramesMeet C x (f ∷ fs) e = LaidMeets C x f e

-- a token behind an operand tells the fact where it clashes
abbrev pub FollowMeets : Fact → Laid → List Frame → Tree → Type 0
FollowMeets C x fs e =
    ((o : InfixOperator) (at : Place) → x ≡ laid_symbol (infix_symbol o) at → (p q : Place) → infix_step o at fs e ≡ Clashes p q → C p q)
    × FramesMeet C x (settle (is_case_mark x) fs e).frames (settle (is_case_mark x) fs e).tree

abbrev pub ModeMeets : Fact → Laid → Mode → List Frame → Type 0
ModeMeets C x (mode.Have e) fs = FollowMeets C x fs e
ModeMeets C x (mode.BracketName at n p) fs = FollowMeets C x (frame.Bracket at ∷ fs) (tree.Name p n)
ModeMeets C x (mode.BraceName at n p) fs = FollowMeets C x (frame.Braces at NoTrees ∷ fs) (tree.Name p n)
ModeMeets C x _ fs = Unit {0}

not_subscript : (fs : List Frame) → is_subscript fs ≡ false → Open fs
not_subscript [] i = tt
not_subscript (frame.Subscript k at a ∷ fs) i = cc
not_subscript (frame.FairSubscript at ∷ fs) i = cc
not_subscript (f ∷ fs) i = tt

-- ---- what one token does keeps it so

infix_kept : (q : InfixOperator) (at : Place) (fs : List Frame) (e : Tree) → Held fs → Good Nothing (infix_step q at fs e)
infix_kept q at [] e h = (tt, h)
infix_kept q at (frame.Prefix o p ∷ fs) e h =
    one_of_two (Good Nothing) (above (prefix_range o) (infix_range q)) _ _ (λ a. infix_kept q at fs (tree.Prefix p o e) h.1)
    (λ a. one_of_two (Good Nothing) (above (infix_range q) (prefix_range o)) _ _ (λ b. (tt, h)) (λ b. tt))
infix_kept q at (frame.Infix o es p ∷ fs) e h =
    one_of_two (Good Nothing) (above (infix_range o) (infix_range q)) _ _ (λ a. infix_kept q at fs (tree.Infix p o es e) h.1)
    (λ a. one_of_two (Good Nothing) (above (infix_range q) (infix_range o)) _ _ (λ b. (tt, h))
    (λ b. one_of_two (Good Nothing) (goes_on o q) _ _ (λ c. (tt, h.1)) (λ c. tt)))
infix_kept q at (f ∷ fs) e h = (tt, h)

module _ (C : Fact) where
  abbrev Keeps : Stepped → Type 0
  Keeps = Good C

  deliver_kept : (e : Tree) (fs : List Frame) → FramesStand fs → Keeps (deliver e fs)
  deliver_kept e (frame.Subscript k at a ∷ fs) h = h
  deliver_kept e (frame.FairSubscript at ∷ fs) h = h
  deliver_kept e [] h = (tt, h)
  deliver_kept e (f ∷ fs) h = (tt, h)

  word_begins_kept : (w : Word) (at : Place) (fs : List Frame) → Held fs → Keeps (word_begins w at fs)
  word_begins_kept words.True at fs h = h
  word_begins_kept words.False at fs h = h
  word_begins_kept words.Boolean at fs h = h
  word_begins_kept words.String at fs h = h
  word_begins_kept words.Unchanged at fs h = (tt, h)
  word_begins_kept words.Enabled at fs h = (tt, h)
  word_begins_kept words.Subset at fs h = (tt, h)
  word_begins_kept words.Union at fs h = (tt, h)
  word_begins_kept words.Domain at fs h = (tt, h)
  word_begins_kept words.Choose at fs h = h
  word_begins_kept words.If at fs h = (tt, h)
  word_begins_kept words.Case at fs h = (tt, h)
  word_begins_kept words.Let at fs h = h
  word_begins_kept _ at fs h = tt

  symbol_begins_kept : (s : Symbol) (at : Place) (fs : List Frame) → Held fs → Keeps (symbol_begins s at fs)
  symbol_begins_kept symbols.At at fs h = h
  symbol_begins_kept symbols.OpenParenthesis at fs h = (tt, (tt, h.1))
  symbol_begins_kept symbols.OpenBracket at fs h = h
  symbol_begins_kept symbols.OpenBrace at fs h = h
  symbol_begins_kept symbols.OpenTuple at fs h = (tt, h.1)
  symbol_begins_kept symbols.Not at fs h = (tt, h)
  symbol_begins_kept symbols.Always at fs h = (tt, h)
  symbol_begins_kept symbols.Eventually at fs h = (tt, h)
  symbol_begins_kept symbols.Minus at fs h = (tt, h)
  symbol_begins_kept symbols.ForAll at fs h = h
  symbol_begins_kept symbols.Exists at fs h = h
  symbol_begins_kept _ at fs h = tt

  token_begins_kept : (k : Kind) (at : Place) (fs : List Frame) → Held fs → Keeps (token_begins k at fs)
  token_begins_kept (kinds.Name n) at fs h = h
  token_begins_kept (kinds.Number z) at fs h = h
  token_begins_kept (kinds.Str s) at fs h = h
  token_begins_kept kinds.Fair at fs h = h
  token_begins_kept (kinds.Word w) at fs h = word_begins_kept w at fs h
  token_begins_kept (kinds.Symbol s) at fs h = symbol_begins_kept s at fs h
  token_begins_kept _ at fs h = tt

  begins_kept : (x : Laid) (fs : List Frame) → Held fs → Keeps (begins x fs)
  begins_kept (Plain t) fs h = token_begins_kept t.kind t.place fs h
  begins_kept (ListOpen b at) fs h = h
  begins_kept (ListItem b at) fs h = tt
  begins_kept (ListClose at) fs h = tt

  -- ---- rows that end with their last expression

  case_settles : (case : Bool) (p : Place) (arms : Arms) (a : Tree) (fs : List Frame) (e : Tree) → (Held fs → Held (settle case fs (tree.Case p (MoreArms arms a e))).frames) → Held (frame.CaseValue p arms a ∷ fs) → Held (settle case (frame.CaseValue p arms a ∷ fs) e).frames
  case_settles true p arms a fs e go h = h
  case_settles false p arms a fs e go h = go h.1

  settle_kept : (case : Bool) (fs : List Frame) (e : Tree) → Held fs → Held (settle case fs e).frames
  settle_kept case [] e h = h
  settle_kept case (frame.Prefix o p ∷ fs) e h = settle_kept case fs (tree.Prefix p o e) h.1
  settle_kept case (frame.Infix o es p ∷ fs) e h = settle_kept case fs (tree.Infix p o es e) h.1
  settle_kept case (frame.QuantifierBody q p bs ∷ fs) e h = settle_kept case fs (tree.Quantified p q bs e) h.1
  settle_kept case (frame.ChooseBody p n s ∷ fs) e h = settle_kept case fs (tree.Choose p n s e) h.1
  settle_kept case (frame.IfElse p a b ∷ fs) e h = settle_kept case fs (tree.If p a b e) h.1
  settle_kept case (frame.CaseValue p arms a ∷ fs) e h = case_settles case p arms a fs e (settle_kept case fs (tree.Case p (MoreArms arms a e))) h
  settle_kept case (frame.CaseOther p arms ∷ fs) e h = settle_kept case fs (tree.CaseOther p arms e) h.1
  settle_kept case (frame.LetBody p ds ∷ fs) e h = settle_kept case fs (tree.Let p ds e) h.1
  settle_kept case (f ∷ fs) e h = h

  -- ---- a token at the innermost frame that waits

  braces_kept : (s : Symbol) (at : Place) (es : Trees) (fs : List Frame) (e : Tree) → Held fs → Keeps (braces_close s at es fs e)
  braces_kept symbols.Comma at es fs e h = (tt, h)
  braces_kept symbols.CloseBrace at es fs e h = h
  braces_kept symbols.Colon at NoTrees fs e h = one_of_two Keeps (begins_member e) _ _ (λ a. tt) (λ a. h)
  braces_kept symbols.Colon at (MoreTrees es d) fs e h = tt
  braces_kept _ at es fs e h = tt

  bracket_kept : (s : Symbol) (at : Place) (fs : List Frame) (e : Tree) → Held fs → Keeps (bracket_close s at fs e)
  bracket_kept symbols.Arrow at fs e h = (tt, h)
  bracket_kept symbols.CloseBracketSubscript at fs e h = h
  bracket_kept _ at fs e h = tt

  joined_kept : (x : Joined Tree) (q : Place) (next : Tree → Stepped) → ((e : Tree) → Keeps (next e)) → ((m : Place) → x ≡ Meets m → C q m) → Keeps (on_joined x q next)
  joined_kept (Joins e) q next g j = g e
  joined_kept (Meets m) q next g j = j m refl

  filter_kept : (s : Symbol) (at : Place) (n : List ℕ) (p q : Place) (fs : List Frame) (e : Tree) → Held fs → FrameMeets C (kinds.Symbol s) (frame.MaybeFilter at n p q) e → Keeps (filter_close s at n p q fs e)
  filter_kept symbols.Colon at n p q fs e h j = (tt, h)
  filter_kept symbols.Comma at n p q fs e h j = joined_kept (join (tree.Name p n) q e) q _ (λ x. braces_kept symbols.Comma at NoTrees fs x h) (λ m i. j m i (inl refl))
  filter_kept symbols.CloseBrace at n p q fs e h j = joined_kept (join (tree.Name p n) q e) q _ (λ x. braces_kept symbols.CloseBrace at NoTrees fs x h) (λ m i. j m i (inr refl))
  filter_kept _ at n p q fs e h j = tt

  function_kept : (s : Symbol) (at : Place) (n : List ℕ) (p q : Place) (fs : List Frame) (e : Tree) → Held fs → FrameMeets C (kinds.Symbol s) (frame.MaybeFunction at n p q) e → Keeps (function_close s at n p q fs e)
  function_kept symbols.Comma at n p q fs e h j = h
  function_kept symbols.MapsTo at n p q fs e h j = (tt, h)
  function_kept symbols.Arrow at n p q fs e h j = joined_kept (join (tree.Name p n) q e) q _ (λ x. bracket_kept symbols.Arrow at fs x h) (λ m i. j m i (inl refl))
  function_kept symbols.CloseBracketSubscript at n p q fs e h j = joined_kept (join (tree.Name p n) q e) q _ (λ x. bracket_kept symbols.CloseBracketSubscript at fs x h) (λ m i. j m i (inr (inl refl)))
  function_kept _ at n p q fs e h j = tt

  tuple_kept : (s : Symbol) (at : Place) (es : Trees) (fs : List Frame) (e : Tree) → FramesStand fs → Keeps (tuple_close s at es fs e)
  tuple_kept symbols.Comma at es fs e h = (tt, (tt, h))
  tuple_kept symbols.CloseTuple at es fs e h = deliver_kept (tree.Tuple at (MoreTrees es e)) fs h
  tuple_kept symbols.CloseTupleSubscript at NoTrees fs e h = one_of_two Keeps (is_subscript fs) _ _ (λ a. tt) (λ a. (not_subscript fs a, h))
  tuple_kept symbols.CloseTupleSubscript at (MoreTrees es d) fs e h = tt
  tuple_kept _ at es fs e h = tt

  binder_kept : (s : Symbol) (b : Binder) (bs : Bounds) (fs : List Frame) → Held fs → Keeps (binder_close s b bs fs)
  binder_kept symbols.Colon (binders.Quantifier q at) bs fs h = (tt, h)
  binder_kept symbols.MapsTo (binders.Function at) bs fs h = (tt, h)
  binder_kept symbols.CloseBrace (binders.Map at e) bs fs h = h
  binder_kept symbols.CloseBracket (binders.Defined s n p q) bs fs h = h
  binder_kept _ b bs fs h = tt

  bound_kept : (s : Symbol) (b : Binding) (ns : List (List ℕ)) (fs : List Frame) (e : Tree) → Held fs → Keeps (bound_close s b ns fs e)
  bound_kept symbols.Comma b ns fs e h = h
  bound_kept s b ns fs e h = binder_kept s b.binder (MoreBounds b.bounds ns e) fs h

  symbol_kept : (s : Symbol) (f : Frame) (fs : List Frame) (e : Tree) → FramesStand (f ∷ fs) → FrameMeets C (kinds.Symbol s) f e → Keeps (symbol_closes s f fs e)
  symbol_kept s (frame.Parenthesis at) fs e h j = only_parenthesis Keeps tt s _ (λ i. deliver_kept (tree.Parenthesized at e) fs h.1)
  symbol_kept s (frame.Call n at es) fs e h j = comma_parenthesis Keeps tt s _ _ (λ i. (tt, h)) (λ i. h)
  symbol_kept s (frame.QualifiedCall n at es) fs e h j = comma_parenthesis Keeps tt s _ _ (λ i. (tt, h)) (λ i. h)
  symbol_kept s (frame.Index a at es) fs e h j = comma_bracket Keeps tt s _ _ (λ i. (tt, h)) (λ i. h)
  symbol_kept s (frame.Braces at es) fs e h j = braces_kept s at es fs e h
  symbol_kept s (frame.MaybeFilter at n p q) fs e h j = filter_kept s at n p q fs e h j
  symbol_kept s (frame.FilterTest at n a) fs e h j = only_brace Keeps tt s _ (λ i. h)
  symbol_kept s (frame.Tuple at es) fs e h j = tuple_kept s at es fs e h.1
  symbol_kept s (frame.Bracket at) fs e h j = bracket_kept s at fs e h
  symbol_kept s (frame.MaybeFunction at n p q) fs e h j = function_kept s at n p q fs e h j
  symbol_kept s (frame.FunctionBody at bs) fs e h j = only_bracket Keeps tt s _ (λ i. h)
  symbol_kept s (frame.FunctionRange at a) fs e h j = only_bracket Keeps tt s _ (λ i. h)
  symbol_kept s (frame.Record k at hs n) fs e h j = comma_bracket Keeps tt s _ _ (λ i. h) (λ i. h)
  symbol_kept s (frame.BoundSet b ns) fs e h j = bound_kept s b ns fs e h
  symbol_kept s (frame.ExceptIndex at a cs ss p es) fs e h j = comma_bracket Keeps tt s _ _ (λ i. (tt, h)) (λ i. h)
  symbol_kept s (frame.ExceptValue at a cs ss) fs e h j = comma_bracket Keeps tt s _ _ (λ i. h) (λ i. h)
  symbol_kept s (frame.ChooseSet at n) fs e h j = only_colon Keeps tt s _ (λ i. (tt, h))
  symbol_kept s (frame.CaseTest at arms) fs e h j = only_arrow Keeps tt s _ (λ i. (tt, h))
  symbol_kept s (frame.CaseValue at arms a) fs e h j = only_always Keeps tt s _ (λ i. h)
  symbol_kept s (frame.FairBody at v) fs e h j = only_parenthesis Keeps tt s _ (λ i. h)
  symbol_kept s f fs e h j = tt

  word_kept : (w : Word) (f : Frame) (fs : List Frame) (e : Tree) → FramesStand (f ∷ fs) → FrameMeets C (kinds.Word w) f e → Keeps (word_closes w f fs e)
  word_kept words.Then (frame.IfTest at) fs e h j = (tt, h)
  word_kept words.Else (frame.IfThen at a) fs e h j = (tt, h)
  word_kept words.Except (frame.Bracket at) fs e h j = h
  word_kept words.Except (frame.MaybeFunction at n p q) fs e h j = joined_kept (join (tree.Name p n) q e) q _ (λ x. h) (λ m i. j m i (inr (inr refl)))
  word_kept words.In (frame.DefinitionBody (scopes.Let at ds) n p form) fs e h j = (tt, h)
  word_kept w f fs e h j = tt

  name_kept : (m : List ℕ) (q : Place) (f : Frame) (fs : List Frame) (e : Tree) → FramesStand (f ∷ fs) → Keeps (name_closes m q f fs e)
  name_kept m q (frame.DefinitionBody (scopes.Let at ds) n p form) fs e h = h
  name_kept m q f fs e h = tt

  item_kept : (c : Bullet) (f : Frame) (fs : List Frame) (e : Tree) → FramesStand (f ∷ fs) → Keeps (item_closes c f fs e)
  item_kept c (frame.Junction b at es) fs e h = one_of_two Keeps (same_bullet b c) _ _ (λ a. (tt, h)) (λ a. tt)
  item_kept c f fs e h = tt

  list_kept : (f : Frame) (fs : List Frame) (e : Tree) → FramesStand (f ∷ fs) → Keeps (list_closes f fs e)
  list_kept (frame.Junction b at es) fs e h = h
  list_kept f fs e h = tt

  kind_kept : (k : Kind) (q : Place) (f : Frame) (fs : List Frame) (e : Tree) → FramesStand (f ∷ fs) → FrameMeets C k f e → Keeps (kind_closes k q f fs e)
  kind_kept (kinds.Symbol s) q f fs e h j = symbol_kept s f fs e h j
  kind_kept (kinds.Word w) q f fs e h j = word_kept w f fs e h j
  kind_kept (kinds.Name m) q f fs e h j = name_kept m q f fs e h
  kind_kept _ q f fs e h j = tt

  laid_kept : (x : Laid) (f : Frame) (fs : List Frame) (e : Tree) → FramesStand (f ∷ fs) → LaidMeets C x f e → Keeps (laid_closes x f fs e)
  laid_kept (Plain t) f fs e h j = kind_kept t.kind t.place f fs e h j
  laid_kept (ListOpen b at) f fs e h j = tt
  laid_kept (ListItem b at) f fs e h j = item_kept b f fs e h
  laid_kept (ListClose at) f fs e h j = list_kept f fs e h

  closes_kept : (x : Laid) (fs : List Frame) (e : Tree) → Held fs → FramesMeet C x fs e → Keeps (closes x fs e)
  closes_kept x [] e h j = tt
  closes_kept x (frame.DefinitionBody scopes.Unit n p form ∷ fs) e h j = tt
  closes_kept x (f ∷ fs) e h j = laid_kept x f fs e h.1 j

  settled_kept : (x : Laid) (s : Settled) → Held s.frames → FramesMeet C x s.frames s.tree → Keeps (settled_closes x s)
  settled_kept x s h j = closes_kept x s.frames s.tree h j

  behind_kept : (x : Laid) (fs : List Frame) (e : Tree) → Held fs → FollowMeets C x fs e → Keeps (behind x fs e)
  behind_kept x fs e h j = settled_kept x (settle (is_case_mark x) fs e) (settle_kept (is_case_mark x) fs e h) j.1

  -- ---- a token behind a primary

  call_kept : (e : Tree) (fs : List Frame) → Held fs → Keeps (call_step e fs)
  call_kept (tree.Name at n) fs h = (tt, h)
  call_kept (tree.Qualified at n NoTrees) fs h = (tt, h)
  call_kept e fs h = tt

  instance_kept : (e : Tree) (fs : List Frame) → Held fs → Keeps (instance_step e fs)
  instance_kept (tree.Name at i) fs h = h
  instance_kept e fs h = tt

  -- an operator that has this symbol tells the fact where it clashes
  abbrev SymbolMeets : Symbol → Place → List Frame → Tree → Type 0
  SymbolMeets s at fs e = (o : InfixOperator) → infix_symbol o ≡ s → (p q : Place) → infix_step o at fs e ≡ Clashes p q → C p q

  operator_kept : (s : Symbol) (o : Option InfixOperator) (at : Place) (fs : List Frame) (e : Tree) (other : Stepped) → SymbolOf s o → Held fs → Keeps other → SymbolMeets s at fs e → Keeps (infix_or o at fs e other)
  operator_kept s (Some q) at fs e other i h k j = with_clash C (infix_step q at fs e) (infix_kept q at fs e h) (j q i)
  operator_kept s None at fs e other i h k j = k

  symbol_follows_kept : (s : Symbol) (at : Place) (fs : List Frame) (e : Tree) (other : Stepped) → Held fs → Keeps other → SymbolMeets s at fs e → Keeps (symbol_follows s at fs e other)
  symbol_follows_kept symbols.Prime at fs e other h k j = h
  symbol_follows_kept symbols.OpenBracket at fs e other h k j = (tt, h)
  symbol_follows_kept symbols.Dot at fs e other h k j = h
  symbol_follows_kept symbols.OpenParenthesis at fs e other h k j = call_kept e fs h
  symbol_follows_kept symbols.Exclamation at fs e other h k j = instance_kept e fs h
  symbol_follows_kept s at fs e other h k j = operator_kept s (infix_of_symbol s) at fs e other (symbol_of s) h k j

  kind_follows_kept : (c : Kind) (at : Place) (fs : List Frame) (e : Tree) (other : Stepped) → Held fs → Keeps other → ((s : Symbol) → c ≡ kinds.Symbol s → SymbolMeets s at fs e) → Keeps (kind_follows c at fs e other)
  kind_follows_kept (kinds.Symbol s) at fs e other h k j = symbol_follows_kept s at fs e other h k (j s refl)
  kind_follows_kept c at fs e other h k j = k

  follows_kept : (x : Laid) (fs : List Frame) (e : Tree) → Held fs → FollowMeets C x fs e → Keeps (follows x fs e)
  follows_kept (Plain t) fs e h j =
      kind_follows_kept t.kind t.place fs e (behind (Plain t) fs e) h (behind_kept (Plain t) fs e h j)
      (λ s i o k. j.0 o t.place (ap (λ c. laid c t.place) (i ∙ ap (λ (v : Symbol). kinds.Symbol v) (sym k))))
  follows_kept x fs e h j = behind_kept x fs e h j

  -- ---- a token where another is expected

  bound_named_kept : (b : Binding) (ns : List (List ℕ)) (fs : List Frame) (s : Symbol) → Held fs → Keeps (bound_named b ns fs s)
  bound_named_kept b ns fs symbols.Comma h = h
  bound_named_kept b ns fs symbols.Member h = (tt, h)
  bound_named_kept b ns fs _ h = tt

  bracket_named_kept : (x : Laid) (at : Place) (n : List ℕ) (p : Place) (fs : List Frame) (s : Symbol) (q : Place) → Held fs → ModeMeets C x (mode.BracketName at n p) fs → Keeps (bracket_named x at n p fs s q)
  bracket_named_kept x at n p fs symbols.MapsTo q h j = (tt, h)
  bracket_named_kept x at n p fs symbols.Colon q h j = (tt, h)
  bracket_named_kept x at n p fs symbols.Comma q h j = h
  bracket_named_kept x at n p fs symbols.Member q h j = (tt, h)
  bracket_named_kept x at n p fs s q h j = follows_kept x (frame.Bracket at ∷ fs) (tree.Name p n) (tt, h) j

  brace_started_kept : (x : Laid) (at : Place) (fs : List Frame) (s : Symbol) (q : Place) → Held fs → Keeps (brace_started x at fs s q)
  brace_started_kept x at fs symbols.CloseBrace q h = h
  brace_started_kept x at fs s q h = begins_kept x (frame.Braces at NoTrees ∷ fs) (tt, h)

  brace_named_kept : (x : Laid) (at : Place) (n : List ℕ) (p : Place) (fs : List Frame) (s : Symbol) (q : Place) → Held fs → ModeMeets C x (mode.BraceName at n p) fs → Keeps (brace_named x at n p fs s q)
  brace_named_kept x at n p fs symbols.Member q h j = (tt, h)
  brace_named_kept x at n p fs s q h j = follows_kept x (frame.Braces at NoTrees ∷ fs) (tree.Name p n) (tt, h) j

  tuple_started_kept : (x : Laid) (at : Place) (fs : List Frame) (s : Symbol) (q : Place) → FramesStand fs → Keeps (tuple_started x at fs s q)
  tuple_started_kept x at fs symbols.CloseTuple q h = deliver_kept (tree.Tuple at NoTrees) fs h
  tuple_started_kept x at fs s q h = begins_kept x (frame.Tuple at NoTrees ∷ fs) (tt, (tt, h))

  list_started_kept : (x : Laid) (b : Bullet) (at : Place) (fs : List Frame) → Held fs → Keeps (list_started x b at fs)
  list_started_kept (ListItem c p) b at fs h = one_of_two Keeps (same_bullet b c) _ _ (λ a. (tt, h)) (λ a. tt)
  list_started_kept _ b at fs h = tt

  choose_named_kept : (at : Place) (n : List ℕ) (fs : List Frame) (s : Symbol) → Held fs → Keeps (choose_named at n fs s)
  choose_named_kept at n fs symbols.Member h = (tt, h)
  choose_named_kept at n fs _ h = tt

  definition_named_kept : (c : Scope) (n : List ℕ) (p : Place) (fs : List Frame) (s : Symbol) (q : Place) → Held fs → Keeps (definition_named c n p fs s q)
  definition_named_kept c n p fs symbols.Defined q h = (tt, h)
  definition_named_kept c n p fs symbols.OpenParenthesis q h = h
  definition_named_kept c n p fs symbols.OpenBracket q h = h
  definition_named_kept c n p fs _ q h = tt

  parameter_named_kept : (c : Scope) (n : List ℕ) (p : Place) (ns : List (List ℕ)) (fs : List Frame) (s : Symbol) → Held fs → Keeps (parameter_named c n p ns fs s)
  parameter_named_kept c n p ns fs symbols.Comma h = h
  parameter_named_kept c n p ns fs symbols.CloseParenthesis h = h
  parameter_named_kept c n p ns fs _ h = tt

  defined_as_kept : (c : Scope) (n : List ℕ) (p : Place) (form : Form) (fs : List Frame) (s : Symbol) → Held fs → Keeps (defined_as c n p form fs s)
  defined_as_kept c n p form fs symbols.Defined h = (tt, h)
  defined_as_kept c n p form fs _ h = tt

  except_mark_kept : (at : Place) (e : Tree) (cs : Changes) (fs : List Frame) (s : Symbol) → Held fs → Keeps (except_mark at e cs fs s)
  except_mark_kept at e cs fs symbols.Exclamation h = h
  except_mark_kept at e cs fs _ h = tt

  path_ends_kept : (at : Place) (e : Tree) (cs : Changes) (ss : Steps) (fs : List Frame) → Held fs → Keeps (path_ends at e cs ss fs)
  path_ends_kept at e cs NoSteps fs h = tt
  path_ends_kept at e cs (MoreSteps ss p s) fs h = (tt, h)

  except_path_kept : (at : Place) (e : Tree) (cs : Changes) (ss : Steps) (fs : List Frame) (s : Symbol) (q : Place) → Held fs → Keeps (except_path at e cs ss fs s q)
  except_path_kept at e cs ss fs symbols.OpenBracket q h = (tt, h)
  except_path_kept at e cs ss fs symbols.Dot q h = h
  except_path_kept at e cs ss fs symbols.Equal q h = path_ends_kept at e cs ss fs h
  except_path_kept at e cs ss fs _ q h = tt

  record_named_kept : (k : RecordKind) (at : Place) (hs : Fields) (n : List ℕ) (fs : List Frame) (s : Symbol) → Held fs → Keeps (record_named k at hs n fs s)
  record_named_kept records.Record at hs n fs symbols.MapsTo h = (tt, h)
  record_named_kept records.Set at hs n fs symbols.Colon h = (tt, h)
  record_named_kept k at hs n fs _ h = tt

  parenthesis_kept : (fs : List Frame) (s : Symbol) (q : Place) → FramesStand fs → Keeps (subscript_symbol fs s q)
  parenthesis_kept fs symbols.OpenParenthesis q h = (tt, (tt, h))
  parenthesis_kept fs symbols.OpenTuple q h = (tt, h)
  parenthesis_kept fs _ q h = tt

  subscript_kept : (x : Laid) (fs : List Frame) → FramesStand fs → Keeps (subscript_started x fs)
  subscript_kept x fs h =
      on_name_good Keeps x _ _ (λ n p e. deliver_kept (tree.Name p n) fs h) (on_symbol_good Keeps x _ _ (λ s q e. parenthesis_kept fs s q h) tt)

  fair_opened_kept : (at : Place) (v : Tree) (fs : List Frame) (s : Symbol) → Held fs → Keeps (fair_opened at v fs s)
  fair_opened_kept at v fs symbols.OpenParenthesis h = (tt, h)
  fair_opened_kept at v fs _ h = tt

  case_next_kept : (x : Laid) (at : Place) (arms : Arms) (fs : List Frame) → Held fs → Keeps (case_next x at arms fs)
  case_next_kept (Plain t) at arms fs h =
      one_of_two Keeps (is_other t.kind) _ _ (λ a. h) (λ a. begins_kept (Plain t) (frame.CaseTest at arms ∷ fs) (tt, h))
  case_next_kept x at arms fs h = begins_kept x (frame.CaseTest at arms ∷ fs) (tt, h)

  other_arrow_kept : (at : Place) (arms : Arms) (fs : List Frame) (s : Symbol) → Held fs → Keeps (other_arrow at arms fs s)
  other_arrow_kept at arms fs symbols.Arrow h = (tt, h)
  other_arrow_kept at arms fs _ h = tt

  pub step_kept : (x : Laid) (fs : List Frame) (m : Mode) → ModeStands m fs × FramesStand fs → ModeMeets C x m fs → Keeps (step x fs m)
  step_kept x fs mode.Want h j = begins_kept x fs h
  step_kept x fs (mode.Have e) h j = follows_kept x fs e h j
  step_kept x fs (mode.BoundName b ns) h j = on_name_good Keeps x _ _ (λ n p e. h) tt
  step_kept x fs (mode.BoundNamed b ns) h j = on_symbol_good Keeps x _ _ (λ s p e. bound_named_kept b ns fs s h) tt
  step_kept x fs (mode.BracketStart at) h j = on_name_good Keeps x _ _ (λ n p e. h) (begins_kept x (frame.Bracket at ∷ fs) (tt, h))
  step_kept x fs (mode.BracketName at n p) h j =
      on_symbol_good Keeps x _ _ (λ s q e. bracket_named_kept x at n p fs s q h j) (follows_kept x (frame.Bracket at ∷ fs) (tree.Name p n) (tt, h) j)
  step_kept x fs (mode.BraceStart at) h j =
      on_name_good Keeps x _ _ (λ n p e. h) (on_symbol_good Keeps x _ _ (λ s q e. brace_started_kept x at fs s q h) (begins_kept x (frame.Braces at NoTrees ∷ fs) (tt, h)))
  step_kept x fs (mode.BraceName at n p) h j =
      on_symbol_good Keeps x _ _ (λ s q e. brace_named_kept x at n p fs s q h j) (follows_kept x (frame.Braces at NoTrees ∷ fs) (tree.Name p n) (tt, h) j)
  step_kept x fs (mode.TupleStart at) h j =
      on_symbol_good Keeps x _ _ (λ s q e. tuple_started_kept x at fs s q h.1) (begins_kept x (frame.Tuple at NoTrees ∷ fs) (tt, (tt, h.1)))
  step_kept x fs (mode.ListStart b at) h j = list_started_kept x b at fs h
  step_kept x fs (mode.ChooseName at) h j = on_name_good Keeps x _ _ (λ n p e. h) tt
  step_kept x fs (mode.ChooseNamed at n) h j = on_symbol_good Keeps x _ _ (λ s p e. choose_named_kept at n fs s h) tt
  step_kept x fs (mode.DefinitionName c) h j = on_name_good Keeps x _ _ (λ n p e. h) tt
  step_kept x fs (mode.DefinitionNamed c n p) h j = on_symbol_good Keeps x _ _ (λ s q e. definition_named_kept c n p fs s q h) tt
  step_kept x fs (mode.Parameter c n p ns) h j = on_name_good Keeps x _ _ (λ m q e. h) tt
  step_kept x fs (mode.ParameterNamed c n p ns) h j = on_symbol_good Keeps x _ _ (λ s q e. parameter_named_kept c n p ns fs s h) tt
  step_kept x fs (mode.DefinedAs c n p form) h j = on_symbol_good Keeps x _ _ (λ s q e. defined_as_kept c n p form fs s h) tt
  step_kept x fs (mode.ExceptMark at d cs) h j = on_symbol_good Keeps x _ _ (λ s q e. except_mark_kept at d cs fs s h) tt
  step_kept x fs (mode.ExceptPath at d cs ss) h j = on_symbol_good Keeps x _ _ (λ s q e. except_path_kept at d cs ss fs s q h) tt
  step_kept x fs (mode.ExceptField at d cs ss o) h j = on_name_good Keeps x _ _ (λ n p e. h) tt
  step_kept x fs (mode.FieldName d o) h j = on_name_good Keeps x _ _ (λ n p e. h) tt
  step_kept x fs (mode.InstanceName at i) h j = on_name_good Keeps x _ _ (λ n p e. h) tt
  step_kept x fs (mode.RecordName k at hs) h j = on_name_good Keeps x _ _ (λ n p e. one_of_two Keeps (has_field n hs) _ _ (λ a. tt) (λ a. h)) tt
  step_kept x fs (mode.RecordNamed k at hs n) h j = on_symbol_good Keeps x _ _ (λ s q e. record_named_kept k at hs n fs s h) tt
  step_kept x fs (mode.SubscriptStart k at d) h j = subscript_kept x (frame.Subscript k at d ∷ fs) h
  step_kept x fs (mode.FairStart at) h j = subscript_kept x (frame.FairSubscript at ∷ fs) h
  step_kept x fs (mode.FairOpen at v) h j = on_symbol_good Keeps x _ _ (λ s q e. fair_opened_kept at v fs s h) tt
  step_kept x fs (mode.CaseNext at arms) h j = case_next_kept x at arms fs h
  step_kept x fs (mode.OtherArrow at arms) h j = on_symbol_good Keeps x _ _ (λ s q e. other_arrow_kept at arms fs s h) tt

-- ---- from one state to the next, and at a clash

frame_none : (k : Kind) (f : Frame) (e : Tree) → FrameMeets Nothing k f e
frame_none k (frame.MaybeFilter at n p q) e = λ m i l. tt
frame_none k (frame.MaybeFunction at n p q) e = λ m i l. tt
frame_none k _ e = tt

laid_none : (x : Laid) (f : Frame) (e : Tree) → LaidMeets Nothing x f e
laid_none (Plain t) f e = frame_none t.kind f e
laid_none (ListOpen b at) f e = tt
laid_none (ListItem b at) f e = tt
laid_none (ListClose at) f e = tt

frames_none : (x : Laid) (fs : List Frame) (e : Tree) → FramesMeet Nothing x fs e
frames_none x [] e = tt
frames_none x (f ∷ fs) e = laid_none x f e

follow_none : (x : Laid) (fs : List Frame) (e : Tree) → FollowMeets Nothing x fs e
follow_none x fs e = (λ o at i p q k. tt, frames_none x (settle (is_case_mark x) fs e).frames (settle (is_case_mark x) fs e).tree)

mode_none : (x : Laid) (m : Mode) (fs : List Frame) → ModeMeets Nothing x m fs
mode_none x (mode.Have e) fs = follow_none x fs e
mode_none x (mode.BracketName at n p) fs = follow_none x (frame.Bracket at ∷ fs) (tree.Name p n)
mode_none x (mode.BraceName at n p) fs = follow_none x (frame.Braces at NoTrees ∷ fs) (tree.Name p n)
mode_none x _ fs = tt

pub next_held : (x : Laid) (fs : List Frame) (m : Mode) (gs : List Frame) (n : Mode) → step x fs m ≡ Reads gs n → ModeStands m fs × FramesStand fs → ModeStands n gs × FramesStand gs
next_held x fs m gs n q h = subst (λ v. Good Nothing v) q (step_kept Nothing x fs m h (mode_none x m fs))

-- the rows that are left when those are put together that end with their expression
pub settle_held : (case : Bool) (fs : List Frame) (e : Tree) → Held fs → Held (settle case fs e).frames
settle_held case fs e h = settle_kept Nothing case fs e h

pub clash_held : (C : Place → Place → Type 0) (x : Laid) (fs : List Frame) (m : Mode) (p q : Place) → step x fs m ≡ Clashes p q → ModeStands m fs × FramesStand fs → ModeMeets C x m fs → C p q
clash_held C x fs m p q i h j = subst (λ v. Good C v) i (step_kept C x fs m h j)
