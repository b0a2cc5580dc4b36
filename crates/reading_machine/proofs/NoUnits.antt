-- An expression's run ends with no unit's definition, and the run of a unit's definition with no expression.
use Rattle.std.proofs.Common.{◌≡◌, ℕ, Bool, true, false, List, [], ◌∷◌, Option, Some, None, refl, sym, subst}
use Rattle.base_core.specs.declared.place.Place.{Place}
use Rattle.reading_trees.specs.declared.form.DefinitionForm.{DefinitionForm}
use Rattle.reading_trees.specs.declared.laid.Bullet.{Bullet}
use Rattle.reading_trees.specs.declared.laid.Laid.{Laid}
use Rattle.reading_trees.specs.declared.laid.Laid.TheVariants.{Plain, ListOpen, ListItem, ListClose}
use Rattle.reading_tokens.specs.declared.token.Kind.{Kind}
use Rattle.reading_tokens.specs.declared.token.Kind.TheVariants as kinds
use Rattle.reading_tokens.specs.declared.token.Word.{Word}
use Rattle.reading_tokens.specs.declared.token.Word.TheVariants as words
use Rattle.reading_tokens.specs.declared.token.Symbol.{Symbol}
use Rattle.reading_tokens.specs.declared.token.Symbol.TheVariants as symbols
use Rattle.reading_trees.specs.declared.operators.InfixOperator.{InfixOperator}
use Rattle.reading_trees.specs.Precedence.{prefix_range, infix_range}
use Rattle.reading_trees.specs.Grammar.{begins_member}
use Rattle.reading_trees.specs.Trees as tree
use Rattle.reading_trees.specs.Trees.{Tree, Trees, NoTrees, MoreTrees, Steps, NoSteps, MoreSteps, Bounds, MoreBounds, Fields, Changes, Arms, MoreArms}
use Rattle.reading_machine.specs.declared.frame.RecordKind.{RecordKind}
use Rattle.reading_machine.specs.declared.frame.RecordKind.TheVariants as records
use Rattle.reading_machine.specs.declared.frame.Scope.{Scope}
use Rattle.reading_machine.specs.declared.frame.Scope.TheVariants as scopes
use Rattle.reading_machine.specs.declared.frame.Binder.{Binder}
use Rattle.reading_machine.specs.declared.frame.Binder.TheVariants as binders
use Rattle.reading_machine.specs.declared.frame.Binding.{Binding}
use Rattle.reading_machine.specs.declared.frame.Form.{Form}
use Rattle.reading_machine.specs.declared.frame.Frame.{Frame}
use Rattle.reading_machine.specs.declared.frame.Frame.TheVariants as frame
use Rattle.reading_machine.specs.declared.frame.Mode.{Mode}
use Rattle.reading_machine.specs.declared.frame.Mode.TheVariants as mode
use Rattle.reading_machine.specs.Machine.{Stepped, Reads, Stops, Clashes, Ends, EndsDefinition, Outcome, StopsAt, ClashesAt, EndsAt, EndsDefinitionAt, Joined, Joins, Meets, Settled, above, goes_on, infix_step, join, deliver, same_bullet, has_field, word_begins, symbol_begins, token_begins, begins, settle, braces_close, bracket_close, on_joined, filter_close, function_close, is_subscript, tuple_close, binder_close, bound_close, symbol_closes, word_closes, name_closes, item_closes, list_closes, kind_closes, laid_closes, closes, is_case_mark, settled_closes, behind, instance_step, call_step, infix_or, infix_of_symbol, symbol_follows, kind_follows, follows, bound_named, bracket_named, brace_started, brace_named, tuple_started, list_started, choose_named, definition_named, parameter_named, defined_as, except_mark, path_ends, except_path, record_named, subscript_symbol, subscript_started, fair_opened, is_other, case_next, other_arrow, step, after, run}
use Rattle.reading_machine.specs.OpenFits.{in_scope, in_binder, in_frame, in_mode, Outermost}
use Rattle.reading_machine.proofs.Edges.{one_of_two}
use Rattle.reading_machine.proofs.Rows.{only_parenthesis, only_bracket, only_brace, only_colon, only_arrow, only_always, comma_parenthesis, comma_bracket}
use Rattle.reading_machine.proofs.Beginning.{on_name_good, on_symbol_good}

-- ---- where a unit's definition is open

abbrev pub Good : Bool → Stepped → Type 0
Good unit (Reads fs m) = Outermost unit fs (in_mode m)
Good unit Stops = Unit {0}
Good unit (Clashes p q) = Unit {0}
Good unit (Ends e) = unit ≡ false
Good unit (EndsDefinition n p ns form e) = unit ≡ true

pub different : true ≡ false → ⊥
different e = cc

-- ---- what one token does keeps it so

module _ (unit : Bool) where
  abbrev Keeps : Stepped → Type 0
  Keeps = Good unit

  infix_kept : (q : InfixOperator) (at : Place) (fs : List Frame) (e : Tree) → Outermost unit fs false → Keeps (infix_step q at fs e)
  infix_kept q at [] e h = (refl, h)
  infix_kept q at (frame.Prefix o p ∷ fs) e h =
      one_of_two Keeps (above (prefix_range o) (infix_range q)) _ _ (λ a. infix_kept q at fs (tree.Prefix p o e) h.1)
      (λ a. one_of_two Keeps (above (infix_range q) (prefix_range o)) _ _ (λ b. (refl, h)) (λ b. tt))
  infix_kept q at (frame.Infix o es p ∷ fs) e h =
      one_of_two Keeps (above (infix_range o) (infix_range q)) _ _ (λ a. infix_kept q at fs (tree.Infix p o es e) h.1)
      (λ a. one_of_two Keeps (above (infix_range q) (infix_range o)) _ _ (λ b. (refl, h))
      (λ b. one_of_two Keeps (goes_on o q) _ _ (λ c. (refl, h.1)) (λ c. tt)))
  infix_kept q at (f ∷ fs) e h = (refl, h)

  deliver_kept : (e : Tree) (fs : List Frame) → Outermost unit fs false → Keeps (deliver e fs)
  deliver_kept e (frame.Subscript k at a ∷ fs) h = h.1
  deliver_kept e (frame.FairSubscript at ∷ fs) h = h.1
  deliver_kept e fs h = h

  word_begins_kept : (w : Word) (at : Place) (fs : List Frame) → Outermost unit fs false → Keeps (word_begins w at fs)
  word_begins_kept words.True at fs h = h
  word_begins_kept words.False at fs h = h
  word_begins_kept words.Boolean at fs h = h
  word_begins_kept words.String at fs h = h
  word_begins_kept words.Unchanged at fs h = (refl, h)
  word_begins_kept words.Enabled at fs h = (refl, h)
  word_begins_kept words.Subset at fs h = (refl, h)
  word_begins_kept words.Union at fs h = (refl, h)
  word_begins_kept words.Domain at fs h = (refl, h)
  word_begins_kept words.Choose at fs h = h
  word_begins_kept words.If at fs h = (refl, h)
  word_begins_kept words.Case at fs h = (refl, h)
  word_begins_kept words.Let at fs h = h
  word_begins_kept _ at fs h = tt

  symbol_begins_kept : (s : Symbol) (at : Place) (fs : List Frame) → Outermost unit fs false → Keeps (symbol_begins s at fs)
  symbol_begins_kept symbols.At at fs h = h
  symbol_begins_kept symbols.OpenParenthesis at fs h = (refl, h)
  symbol_begins_kept symbols.OpenBracket at fs h = h
  symbol_begins_kept symbols.OpenBrace at fs h = h
  symbol_begins_kept symbols.OpenTuple at fs h = h
  symbol_begins_kept symbols.Not at fs h = (refl, h)
  symbol_begins_kept symbols.Always at fs h = (refl, h)
  symbol_begins_kept symbols.Eventually at fs h = (refl, h)
  symbol_begins_kept symbols.Minus at fs h = (refl, h)
  symbol_begins_kept symbols.ForAll at fs h = h
  symbol_begins_kept symbols.Exists at fs h = h
  symbol_begins_kept _ at fs h = tt

  token_begins_kept : (k : Kind) (at : Place) (fs : List Frame) → Outermost unit fs false → Keeps (token_begins k at fs)
  token_begins_kept (kinds.Name n) at fs h = h
  token_begins_kept (kinds.Number z) at fs h = h
  token_begins_kept (kinds.Str s) at fs h = h
  token_begins_kept kinds.Fair at fs h = h
  token_begins_kept (kinds.Word w) at fs h = word_begins_kept w at fs h
  token_begins_kept (kinds.Symbol s) at fs h = symbol_begins_kept s at fs h
  token_begins_kept _ at fs h = tt

  begins_kept : (x : Laid) (fs : List Frame) → Outermost unit fs false → Keeps (begins x fs)
  begins_kept (Plain t) fs h = token_begins_kept t.kind t.place fs h
  begins_kept (ListOpen b at) fs h = h
  begins_kept (ListItem b at) fs h = tt
  begins_kept (ListClose at) fs h = tt

  -- ---- rows that end with their last expression

  case_settles : (case : Bool) (p : Place) (arms : Arms) (a : Tree) (fs : List Frame) (e : Tree) → (Outermost unit fs false → Outermost unit (settle case fs (tree.Case p (MoreArms arms a e))).frames false) → Outermost unit (frame.CaseValue p arms a ∷ fs) false → Outermost unit (settle case (frame.CaseValue p arms a ∷ fs) e).frames false
  case_settles true p arms a fs e go h = h
  case_settles false p arms a fs e go h = go h.1

  pub settle_kept : (case : Bool) (fs : List Frame) (e : Tree) → Outermost unit fs false → Outermost unit (settle case fs e).frames false
  settle_kept case [] e h = h
  settle_kept case (frame.Prefix o p ∷ fs) e h = settle_kept case fs (tree.Prefix p o e) h.1
  settle_kept case (frame.Infix o es p ∷ fs) e h = settle_kept case fs (tree.Infix p o es e) h.1
  settle_kept case (frame.QuantifierBody q p bs ∷ fs) e h = settle_kept case fs (tree.Quantified p q bs e) h.1
  settle_kept case (frame.ChooseBody p n s ∷ fs) e h = settle_kept case fs (tree.Choose p n s e) h.1
  settle_kept case (frame.IfElse p a b ∷ fs) e h = settle_kept case fs (tree.If p a b e) h.1
  settle_kept case (frame.CaseValue p arms a ∷ fs) e h = case_settles case p arms a fs e (settle_kept case fs (tree.Case p (MoreArms arms a e))) h
  settle_kept case (frame.CaseOther p arms ∷ fs) e h = settle_kept case fs (tree.CaseOther p arms e) h.1
  settle_kept case (frame.LetBody p ds ∷ fs) e h = settle_kept case fs (tree.Let p ds e) h.1
  settle_kept case (f ∷ fs) e h = h

  -- ---- a token at the innermost frame that waits

  braces_kept : (s : Symbol) (at : Place) (es : Trees) (fs : List Frame) (e : Tree) → Outermost unit fs false → Keeps (braces_close s at es fs e)
  braces_kept symbols.Comma at es fs e h = (refl, h)
  braces_kept symbols.CloseBrace at es fs e h = h
  braces_kept symbols.Colon at NoTrees fs e h = one_of_two Keeps (begins_member e) _ _ (λ a. tt) (λ a. h)
  braces_kept symbols.Colon at (MoreTrees es d) fs e h = tt
  braces_kept _ at es fs e h = tt

  bracket_kept : (s : Symbol) (at : Place) (fs : List Frame) (e : Tree) → Outermost unit fs false → Keeps (bracket_close s at fs e)
  bracket_kept symbols.Arrow at fs e h = (refl, h)
  bracket_kept symbols.CloseBracketSubscript at fs e h = h
  bracket_kept _ at fs e h = tt

  joined_kept : (x : Joined Tree) (q : Place) (next : Tree → Stepped) → ((e : Tree) → Keeps (next e)) → Keeps (on_joined x q next)
  joined_kept (Joins e) q next g = g e
  joined_kept (Meets p) q next g = tt

  filter_kept : (s : Symbol) (at : Place) (n : List ℕ) (p q : Place) (fs : List Frame) (e : Tree) → Outermost unit fs false → Keeps (filter_close s at n p q fs e)
  filter_kept symbols.Colon at n p q fs e h = (refl, h)
  filter_kept symbols.Comma at n p q fs e h = joined_kept (join (tree.Name p n) q e) q _ (λ x. braces_kept symbols.Comma at NoTrees fs x h)
  filter_kept symbols.CloseBrace at n p q fs e h = joined_kept (join (tree.Name p n) q e) q _ (λ x. braces_kept symbols.CloseBrace at NoTrees fs x h)
  filter_kept _ at n p q fs e h = tt

  function_kept : (s : Symbol) (at : Place) (n : List ℕ) (p q : Place) (fs : List Frame) (e : Tree) → Outermost unit fs false → Keeps (function_close s at n p q fs e)
  function_kept symbols.Comma at n p q fs e h = h
  function_kept symbols.MapsTo at n p q fs e h = (refl, h)
  function_kept symbols.Arrow at n p q fs e h = joined_kept (join (tree.Name p n) q e) q _ (λ x. bracket_kept symbols.Arrow at fs x h)
  function_kept symbols.CloseBracketSubscript at n p q fs e h = joined_kept (join (tree.Name p n) q e) q _ (λ x. bracket_kept symbols.CloseBracketSubscript at fs x h)
  function_kept _ at n p q fs e h = tt

  tuple_kept : (s : Symbol) (at : Place) (es : Trees) (fs : List Frame) (e : Tree) → Outermost unit fs false → Keeps (tuple_close s at es fs e)
  tuple_kept symbols.Comma at es fs e h = (refl, h)
  tuple_kept symbols.CloseTuple at es fs e h = deliver_kept (tree.Tuple at (MoreTrees es e)) fs h
  tuple_kept symbols.CloseTupleSubscript at NoTrees fs e h = one_of_two Keeps (is_subscript fs) _ _ (λ a. tt) (λ a. h)
  tuple_kept symbols.CloseTupleSubscript at (MoreTrees es d) fs e h = tt
  tuple_kept _ at es fs e h = tt

  binder_kept : (s : Symbol) (b : Binder) (bs : Bounds) (fs : List Frame) → Outermost unit fs (in_binder b) → Keeps (binder_close s b bs fs)
  binder_kept symbols.Colon (binders.Quantifier q at) bs fs h = (refl, h)
  binder_kept symbols.MapsTo (binders.Function at) bs fs h = (refl, h)
  binder_kept symbols.CloseBrace (binders.Map at e) bs fs h = h
  binder_kept symbols.CloseBracket (binders.Defined s n p q) bs fs h = h
  binder_kept _ b bs fs h = tt

  bound_kept : (s : Symbol) (b : Binding) (ns : List (List ℕ)) (fs : List Frame) (e : Tree) → Outermost unit fs (in_binder b.binder) → Keeps (bound_close s b ns fs e)
  bound_kept symbols.Comma b ns fs e h = h
  bound_kept s b ns fs e h = binder_kept s b.binder (MoreBounds b.bounds ns e) fs h

  symbol_kept : (s : Symbol) (f : Frame) (fs : List Frame) (e : Tree) → Outermost unit fs (in_frame f) → Keeps (symbol_closes s f fs e)
  symbol_kept s (frame.Parenthesis at) fs e h = only_parenthesis Keeps tt s _ (λ i. deliver_kept (tree.Parenthesized at e) fs h)
  symbol_kept s (frame.Call n at es) fs e h = comma_parenthesis Keeps tt s _ _ (λ i. (refl, h)) (λ i. h)
  symbol_kept s (frame.QualifiedCall n at es) fs e h = comma_parenthesis Keeps tt s _ _ (λ i. (refl, h)) (λ i. h)
  symbol_kept s (frame.Index a at es) fs e h = comma_bracket Keeps tt s _ _ (λ i. (refl, h)) (λ i. h)
  symbol_kept s (frame.Braces at es) fs e h = braces_kept s at es fs e h
  symbol_kept s (frame.MaybeFilter at n p q) fs e h = filter_kept s at n p q fs e h
  symbol_kept s (frame.FilterTest at n a) fs e h = only_brace Keeps tt s _ (λ i. h)
  symbol_kept s (frame.Tuple at es) fs e h = tuple_kept s at es fs e h
  symbol_kept s (frame.Bracket at) fs e h = bracket_kept s at fs e h
  symbol_kept s (frame.MaybeFunction at n p q) fs e h = function_kept s at n p q fs e h
  symbol_kept s (frame.FunctionBody at bs) fs e h = only_bracket Keeps tt s _ (λ i. h)
  symbol_kept s (frame.FunctionRange at a) fs e h = only_bracket Keeps tt s _ (λ i. h)
  symbol_kept s (frame.Record k at hs n) fs e h = comma_bracket Keeps tt s _ _ (λ i. h) (λ i. h)
  symbol_kept s (frame.BoundSet b ns) fs e h = bound_kept s b ns fs e h
  symbol_kept s (frame.ExceptIndex at a cs ss p es) fs e h = comma_bracket Keeps tt s _ _ (λ i. (refl, h)) (λ i. h)
  symbol_kept s (frame.ExceptValue at a cs ss) fs e h = comma_bracket Keeps tt s _ _ (λ i. h) (λ i. h)
  symbol_kept s (frame.ChooseSet at n) fs e h = only_colon Keeps tt s _ (λ i. (refl, h))
  symbol_kept s (frame.CaseTest at arms) fs e h = only_arrow Keeps tt s _ (λ i. (refl, h))
  symbol_kept s (frame.CaseValue at arms a) fs e h = only_always Keeps tt s _ (λ i. h)
  symbol_kept s (frame.FairBody at v) fs e h = only_parenthesis Keeps tt s _ (λ i. h)
  symbol_kept s f fs e h = tt

  word_kept : (w : Word) (f : Frame) (fs : List Frame) (e : Tree) → Outermost unit fs (in_frame f) → Keeps (word_closes w f fs e)
  word_kept words.Then (frame.IfTest at) fs e h = (refl, h)
  word_kept words.Else (frame.IfThen at a) fs e h = (refl, h)
  word_kept words.Except (frame.Bracket at) fs e h = h
  word_kept words.Except (frame.MaybeFunction at n p q) fs e h = joined_kept (join (tree.Name p n) q e) q _ (λ x. h)
  word_kept words.In (frame.DefinitionBody (scopes.Let at ds) n p form) fs e h = (refl, h)
  word_kept w f fs e h = tt

  name_kept : (m : List ℕ) (q : Place) (f : Frame) (fs : List Frame) (e : Tree) → Outermost unit fs (in_frame f) → Keeps (name_closes m q f fs e)
  name_kept m q (frame.DefinitionBody (scopes.Let at ds) n p form) fs e h = h
  name_kept m q f fs e h = tt

  item_kept : (c : Bullet) (f : Frame) (fs : List Frame) (e : Tree) → Outermost unit fs (in_frame f) → Keeps (item_closes c f fs e)
  item_kept c (frame.Junction b at es) fs e h = one_of_two Keeps (same_bullet b c) _ _ (λ a. (refl, h)) (λ a. tt)
  item_kept c f fs e h = tt

  list_kept : (f : Frame) (fs : List Frame) (e : Tree) → Outermost unit fs (in_frame f) → Keeps (list_closes f fs e)
  list_kept (frame.Junction b at es) fs e h = h
  list_kept f fs e h = tt

  kind_kept : (k : Kind) (q : Place) (f : Frame) (fs : List Frame) (e : Tree) → Outermost unit fs (in_frame f) → Keeps (kind_closes k q f fs e)
  kind_kept (kinds.Symbol s) q f fs e h = symbol_kept s f fs e h
  kind_kept (kinds.Word w) q f fs e h = word_kept w f fs e h
  kind_kept (kinds.Name m) q f fs e h = name_kept m q f fs e h
  kind_kept _ q f fs e h = tt

  laid_kept : (x : Laid) (f : Frame) (fs : List Frame) (e : Tree) → Outermost unit fs (in_frame f) → Keeps (laid_closes x f fs e)
  laid_kept (Plain t) f fs e h = kind_kept t.kind t.place f fs e h
  laid_kept (ListOpen b at) f fs e h = tt
  laid_kept (ListItem b at) f fs e h = item_kept b f fs e h
  laid_kept (ListClose at) f fs e h = list_kept f fs e h

  -- a unit's definition stands within no other row
  is_unit : (fs : List Frame) → Outermost unit fs true → unit ≡ true
  is_unit [] h = sym h
  is_unit (f ∷ fs) h = absurd (different h.0)

  closes_kept : (x : Laid) (fs : List Frame) (e : Tree) → Outermost unit fs false → Keeps (closes x fs e)
  closes_kept x [] e h = sym h
  closes_kept x (frame.DefinitionBody scopes.Unit n p form ∷ fs) e h = is_unit fs h.1
  closes_kept x (f ∷ fs) e h = laid_kept x f fs e h.1

  settled_kept : (x : Laid) (s : Settled) → Outermost unit s.frames false → Keeps (settled_closes x s)
  settled_kept x s h = closes_kept x s.frames s.tree h

  behind_kept : (x : Laid) (fs : List Frame) (e : Tree) → Outermost unit fs false → Keeps (behind x fs e)
  behind_kept x fs e h = settled_kept x (settle (is_case_mark x) fs e) (settle_kept (is_case_mark x) fs e h)

  -- ---- a token behind a primary

  call_kept : (e : Tree) (fs : List Frame) → Outermost unit fs false → Keeps (call_step e fs)
  call_kept (tree.Name at n) fs h = (refl, h)
  call_kept (tree.Qualified at n NoTrees) fs h = (refl, h)
  call_kept e fs h = tt

  instance_kept : (e : Tree) (fs : List Frame) → Outermost unit fs false → Keeps (instance_step e fs)
  instance_kept (tree.Name at i) fs h = h
  instance_kept e fs h = tt

  operator_kept : (o : Option InfixOperator) (at : Place) (fs : List Frame) (e : Tree) (other : Stepped) → Outermost unit fs false → Keeps other → Keeps (infix_or o at fs e other)
  operator_kept (Some q) at fs e other h k = infix_kept q at fs e h
  operator_kept None at fs e other h k = k

  symbol_follows_kept : (s : Symbol) (at : Place) (fs : List Frame) (e : Tree) (other : Stepped) → Outermost unit fs false → Keeps other → Keeps (symbol_follows s at fs e other)
  symbol_follows_kept symbols.Prime at fs e other h k = h
  symbol_follows_kept symbols.OpenBracket at fs e other h k = (refl, h)
  symbol_follows_kept symbols.Dot at fs e other h k = h
  symbol_follows_kept symbols.OpenParenthesis at fs e other h k = call_kept e fs h
  symbol_follows_kept symbols.Exclamation at fs e other h k = instance_kept e fs h
  symbol_follows_kept s at fs e other h k = operator_kept (infix_of_symbol s) at fs e other h k

  kind_follows_kept : (c : Kind) (at : Place) (fs : List Frame) (e : Tree) (other : Stepped) → Outermost unit fs false → Keeps other → Keeps (kind_follows c at fs e other)
  kind_follows_kept (kinds.Symbol s) at fs e other h k = symbol_follows_kept s at fs e other h k
  kind_follows_kept c at fs e other h k = k

  follows_kept : (x : Laid) (fs : List Frame) (e : Tree) → Outermost unit fs false → Keeps (follows x fs e)
  follows_kept (Plain t) fs e h = kind_follows_kept t.kind t.place fs e (behind (Plain t) fs e) h (behind_kept (Plain t) fs e h)
  follows_kept x fs e h = behind_kept x fs e h

  -- ---- a token where another is expected

  bound_named_kept : (b : Binding) (ns : List (List ℕ)) (fs : List Frame) (s : Symbol) → Outermost unit fs (in_binder b.binder) → Keeps (bound_named b ns fs s)
  bound_named_kept b ns fs symbols.Comma h = h
  bound_named_kept b ns fs symbols.Member h = (refl, h)
  bound_named_kept b ns fs _ h = tt

  bracket_named_kept : (x : Laid) (at : Place) (n : List ℕ) (p : Place) (fs : List Frame) (s : Symbol) (q : Place) → Outermost unit fs false → Keeps (bracket_named x at n p fs s q)
  bracket_named_kept x at n p fs symbols.MapsTo q h = (refl, h)
  bracket_named_kept x at n p fs symbols.Colon q h = (refl, h)
  bracket_named_kept x at n p fs symbols.Comma q h = h
  bracket_named_kept x at n p fs symbols.Member q h = (refl, h)
  bracket_named_kept x at n p fs s q h = follows_kept x (frame.Bracket at ∷ fs) (tree.Name p n) (refl, h)

  brace_started_kept : (x : Laid) (at : Place) (fs : List Frame) (s : Symbol) (q : Place) → Outermost unit fs false → Keeps (brace_started x at fs s q)
  brace_started_kept x at fs symbols.CloseBrace q h = h
  brace_started_kept x at fs s q h = begins_kept x (frame.Braces at NoTrees ∷ fs) (refl, h)

  brace_named_kept : (x : Laid) (at : Place) (n : List ℕ) (p : Place) (fs : List Frame) (s : Symbol) (q : Place) → Outermost unit fs false → Keeps (brace_named x at n p fs s q)
  brace_named_kept x at n p fs symbols.Member q h = (refl, h)
  brace_named_kept x at n p fs s q h = follows_kept x (frame.Braces at NoTrees ∷ fs) (tree.Name p n) (refl, h)

  tuple_started_kept : (x : Laid) (at : Place) (fs : List Frame) (s : Symbol) (q : Place) → Outermost unit fs false → Keeps (tuple_started x at fs s q)
  tuple_started_kept x at fs symbols.CloseTuple q h = deliver_kept (tree.Tuple at NoTrees) fs h
  tuple_started_kept x at fs s q h = begins_kept x (frame.Tuple at NoTrees ∷ fs) (refl, h)

  list_started_kept : (x : Laid) (b : Bullet) (at : Place) (fs : List Frame) → Outermost unit fs false → Keeps (list_started x b at fs)
  list_started_kept (ListItem c p) b at fs h = one_of_two Keeps (same_bullet b c) _ _ (λ a. (refl, h)) (λ a. tt)
  list_started_kept _ b at fs h = tt

  choose_named_kept : (at : Place) (n : List ℕ) (fs : List Frame) (s : Symbol) → Outermost unit fs false → Keeps (choose_named at n fs s)
  choose_named_kept at n fs symbols.Member h = (refl, h)
  choose_named_kept at n fs _ h = tt

  definition_named_kept : (c : Scope) (n : List ℕ) (p : Place) (fs : List Frame) (s : Symbol) (q : Place) → Outermost unit fs (in_scope c) → Keeps (definition_named c n p fs s q)
  definition_named_kept c n p fs symbols.Defined q h = (refl, h)
  definition_named_kept c n p fs symbols.OpenParenthesis q h = h
  definition_named_kept c n p fs symbols.OpenBracket q h = h
  definition_named_kept c n p fs _ q h = tt

  parameter_named_kept : (c : Scope) (n : List ℕ) (p : Place) (ns : List (List ℕ)) (fs : List Frame) (s : Symbol) → Outermost unit fs (in_scope c) → Keeps (parameter_named c n p ns fs s)
  parameter_named_kept c n p ns fs symbols.Comma h = h
  parameter_named_kept c n p ns fs symbols.CloseParenthesis h = h
  parameter_named_kept c n p ns fs _ h = tt

  defined_as_kept : (c : Scope) (n : List ℕ) (p : Place) (form : Form) (fs : List Frame) (s : Symbol) → Outermost unit fs (in_scope c) → Keeps (defined_as c n p form fs s)
  defined_as_kept c n p form fs symbols.Defined h = (refl, h)
  defined_as_kept c n p form fs _ h = tt

  except_mark_kept : (at : Place) (e : Tree) (cs : Changes) (fs : List Frame) (s : Symbol) → Outermost unit fs false → Keeps (except_mark at e cs fs s)
  except_mark_kept at e cs fs symbols.Exclamation h = h
  except_mark_kept at e cs fs _ h = tt

  path_ends_kept : (at : Place) (e : Tree) (cs : Changes) (ss : Steps) (fs : List Frame) → Outermost unit fs false → Keeps (path_ends at e cs ss fs)
  path_ends_kept at e cs NoSteps fs h = tt
  path_ends_kept at e cs (MoreSteps ss p s) fs h = (refl, h)

  except_path_kept : (at : Place) (e : Tree) (cs : Changes) (ss : Steps) (fs : List Frame) (s : Symbol) (q : Place) → Outermost unit fs false → Keeps (except_path at e cs ss fs s q)
  except_path_kept at e cs ss fs symbols.OpenBracket q h = (refl, h)
  except_path_kept at e cs ss fs symbols.Dot q h = h
  except_path_kept at e cs ss fs symbols.Equal q h = path_ends_kept at e cs ss fs h
  except_path_kept at e cs ss fs _ q h = tt

  record_named_kept : (k : RecordKind) (at : Place) (hs : Fields) (n : List ℕ) (fs : List Frame) (s : Symbol) → Outermost unit fs false → Keeps (record_named k at hs n fs s)
  record_named_kept records.Record at hs n fs symbols.MapsTo h = (refl, h)
  record_named_kept records.Set at hs n fs symbols.Colon h = (refl, h)
  record_named_kept k at hs n fs _ h = tt

  parenthesis_kept : (fs : List Frame) (s : Symbol) (q : Place) → Outermost unit fs false → Keeps (subscript_symbol fs s q)
  parenthesis_kept fs symbols.OpenParenthesis q h = (refl, h)
  parenthesis_kept fs symbols.OpenTuple q h = h
  parenthesis_kept fs _ q h = tt

  subscript_kept : (x : Laid) (fs : List Frame) → Outermost unit fs false → Keeps (subscript_started x fs)
  subscript_kept x fs h =
      on_name_good Keeps x _ _ (λ n p e. deliver_kept (tree.Name p n) fs h) (on_symbol_good Keeps x _ _ (λ s q e. parenthesis_kept fs s q h) tt)

  fair_opened_kept : (at : Place) (v : Tree) (fs : List Frame) (s : Symbol) → Outermost unit fs false → Keeps (fair_opened at v fs s)
  fair_opened_kept at v fs symbols.OpenParenthesis h = (refl, h)
  fair_opened_kept at v fs _ h = tt

  case_next_kept : (x : Laid) (at : Place) (arms : Arms) (fs : List Frame) → Outermost unit fs false → Keeps (case_next x at arms fs)
  case_next_kept (Plain t) at arms fs h =
      one_of_two Keeps (is_other t.kind) _ _ (λ a. h) (λ a. begins_kept (Plain t) (frame.CaseTest at arms ∷ fs) (refl, h))
  case_next_kept x at arms fs h = begins_kept x (frame.CaseTest at arms ∷ fs) (refl, h)

  other_arrow_kept : (at : Place) (arms : Arms) (fs : List Frame) (s : Symbol) → Outermost unit fs false → Keeps (other_arrow at arms fs s)
  other_arrow_kept at arms fs symbols.Arrow h = (refl, h)
  other_arrow_kept at arms fs _ h = tt

  pub step_kept : (x : Laid) (fs : List Frame) (m : Mode) → Outermost unit fs (in_mode m) → Keeps (step x fs m)
  step_kept x fs mode.Want h = begins_kept x fs h
  step_kept x fs (mode.Have e) h = follows_kept x fs e h
  step_kept x fs (mode.BoundName b ns) h = on_name_good Keeps x _ _ (λ n p e. h) tt
  step_kept x fs (mode.BoundNamed b ns) h = on_symbol_good Keeps x _ _ (λ s p e. bound_named_kept b ns fs s h) tt
  step_kept x fs (mode.BracketStart at) h = on_name_good Keeps x _ _ (λ n p e. h) (begins_kept x (frame.Bracket at ∷ fs) (refl, h))
  step_kept x fs (mode.BracketName at n p) h =
      on_symbol_good Keeps x _ _ (λ s q e. bracket_named_kept x at n p fs s q h) (follows_kept x (frame.Bracket at ∷ fs) (tree.Name p n) (refl, h))
  step_kept x fs (mode.BraceStart at) h =
      on_name_good Keeps x _ _ (λ n p e. h) (on_symbol_good Keeps x _ _ (λ s q e. brace_started_kept x at fs s q h) (begins_kept x (frame.Braces at NoTrees ∷ fs) (refl, h)))
  step_kept x fs (mode.BraceName at n p) h =
      on_symbol_good Keeps x _ _ (λ s q e. brace_named_kept x at n p fs s q h) (follows_kept x (frame.Braces at NoTrees ∷ fs) (tree.Name p n) (refl, h))
  step_kept x fs (mode.TupleStart at) h =
      on_symbol_good Keeps x _ _ (λ s q e. tuple_started_kept x at fs s q h) (begins_kept x (frame.Tuple at NoTrees ∷ fs) (refl, h))
  step_kept x fs (mode.ListStart b at) h = list_started_kept x b at fs h
  step_kept x fs (mode.ChooseName at) h = on_name_good Keeps x _ _ (λ n p e. h) tt
  step_kept x fs (mode.ChooseNamed at n) h = on_symbol_good Keeps x _ _ (λ s p e. choose_named_kept at n fs s h) tt
  step_kept x fs (mode.DefinitionName c) h = on_name_good Keeps x _ _ (λ n p e. h) tt
  step_kept x fs (mode.DefinitionNamed c n p) h = on_symbol_good Keeps x _ _ (λ s q e. definition_named_kept c n p fs s q h) tt
  step_kept x fs (mode.Parameter c n p ns) h = on_name_good Keeps x _ _ (λ m q e. h) tt
  step_kept x fs (mode.ParameterNamed c n p ns) h = on_symbol_good Keeps x _ _ (λ s q e. parameter_named_kept c n p ns fs s h) tt
  step_kept x fs (mode.DefinedAs c n p form) h = on_symbol_good Keeps x _ _ (λ s q e. defined_as_kept c n p form fs s h) tt
  step_kept x fs (mode.ExceptMark at d cs) h = on_symbol_good Keeps x _ _ (λ s q e. except_mark_kept at d cs fs s h) tt
  step_kept x fs (mode.ExceptPath at d cs ss) h = on_symbol_good Keeps x _ _ (λ s q e. except_path_kept at d cs ss fs s q h) tt
  step_kept x fs (mode.ExceptField at d cs ss o) h = on_name_good Keeps x _ _ (λ n p e. h) tt
  step_kept x fs (mode.FieldName d o) h = on_name_good Keeps x _ _ (λ n p e. h) tt
  step_kept x fs (mode.InstanceName at i) h = on_name_good Keeps x _ _ (λ n p e. h) tt
  step_kept x fs (mode.RecordName k at hs) h = on_name_good Keeps x _ _ (λ n p e. one_of_two Keeps (has_field n hs) _ _ (λ a. tt) (λ a. h)) tt
  step_kept x fs (mode.RecordNamed k at hs n) h = on_symbol_good Keeps x _ _ (λ s q e. record_named_kept k at hs n fs s h) tt
  step_kept x fs (mode.SubscriptStart k at d) h = subscript_kept x (frame.Subscript k at d ∷ fs) (refl, h)
  step_kept x fs (mode.FairStart at) h = subscript_kept x (frame.FairSubscript at ∷ fs) (refl, h)
  step_kept x fs (mode.FairOpen at v) h = on_symbol_good Keeps x _ _ (λ s q e. fair_opened_kept at v fs s h) tt
  step_kept x fs (mode.CaseNext at arms) h = case_next_kept x at arms fs h
  step_kept x fs (mode.OtherArrow at arms) h = on_symbol_good Keeps x _ _ (λ s q e. other_arrow_kept at arms fs s h) tt

-- ---- what all tokens do

abbrev EndsSo : Bool → Outcome → Type 0
EndsSo unit (StopsAt rest) = Unit {0}
EndsSo unit (ClashesAt p q rest) = Unit {0}
EndsSo unit (EndsAt e rest) = unit ≡ false
EndsSo unit (EndsDefinitionAt n p ns form e rest) = unit ≡ true

after_kept : (unit : Bool) (s : Stepped) (here : List Laid) (next : List Frame → Mode → Outcome) → Good unit s → ((fs : List Frame) (m : Mode) → Outermost unit fs (in_mode m) → EndsSo unit (next fs m)) → EndsSo unit (after s here next)
after_kept unit (Reads fs m) here next a g = g fs m a
after_kept unit Stops here next a g = tt
after_kept unit (Clashes p q) here next a g = tt
after_kept unit (Ends e) here next a g = a
after_kept unit (EndsDefinition n p ns form e) here next a g = a

run_kept : (unit : Bool) (xs : List Laid) (fs : List Frame) (m : Mode) → Outermost unit fs (in_mode m) → EndsSo unit (run xs fs m)
run_kept unit [] fs m h = tt
run_kept unit (x ∷ xs) fs m h = after_kept unit (step x fs m) (x ∷ xs) (run xs) (step_kept unit x fs m h) (λ gs n k. run_kept unit xs gs n k)

-- an expression's run ends with no unit's definition
pub no_definition : (xs rest : List Laid) (n : List ℕ) (p : Place) (ns : List (List ℕ)) (form : DefinitionForm) (e : Tree) → run xs [] mode.Want ≡ EndsDefinitionAt n p ns form e rest → ⊥
no_definition xs rest n p ns form e i = different (sym (subst (λ o. EndsSo false o) i (run_kept false xs [] mode.Want refl)))

-- the run of a unit's definition ends with no expression
pub no_expression : (xs rest : List Laid) (e : Tree) → run xs [] (mode.DefinitionName scopes.Unit) ≡ EndsAt e rest → ⊥
no_expression xs rest e i = different (subst (λ o. EndsSo true o) i (run_kept true xs [] (mode.DefinitionName scopes.Unit) refl))
