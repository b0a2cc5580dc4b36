-- What a token does to the innermost frame that waits, flat; and how the text goes on where there is a clash.
use Rattle.std.proofs.Common.{◌≡◌, ℕ, Bool, true, false, List, [], ◌∷◌, refl, sym, ap, subst}
use Rattle.std.specs.Prelude.{if◌then◌else◌}
use Rattle.base_core.specs.declared.place.Place.{Place}
use Rattle.reading_trees.specs.declared.laid.Bullet.{Bullet}
use Rattle.reading_trees.specs.declared.laid.Laid.{Laid}
use Rattle.reading_trees.specs.declared.laid.Laid.TheVariants.{Plain, ListOpen, ListItem, ListClose}
use Rattle.reading_tokens.specs.declared.token.Kind.{Kind}
use Rattle.reading_tokens.specs.declared.token.Kind.TheVariants as kinds
use Rattle.reading_tokens.specs.declared.token.Word.{Word}
use Rattle.reading_tokens.specs.declared.token.Word.TheVariants as words
use Rattle.reading_tokens.specs.declared.token.Symbol.{Symbol}
use Rattle.reading_tokens.specs.declared.token.Symbol.TheVariants as symbols
use Rattle.reading_trees.specs.declared.operators.InfixOperator.TheVariants as infixes
use Rattle.reading_trees.specs.Grammar.{◌⨟◌, token, sign_at, Text, begins_member, is_name}
use Rattle.reading_trees.specs.Trees as tree
use Rattle.reading_trees.specs.Trees.{Tree, Trees, NoTrees, MoreTrees, First, NoSteps, MoreSteps, NoChanges, Bounds, MoreFields}
use Rattle.reading_machine.specs.declared.frame.RecordKind.{RecordKind}
use Rattle.reading_machine.specs.declared.frame.RecordKind.TheVariants as records
use Rattle.reading_machine.specs.declared.frame.Scope.TheVariants as scopes
use Rattle.reading_machine.specs.declared.frame.Binder.{Binder}
use Rattle.reading_machine.specs.declared.frame.Binder.TheVariants as binders
use Rattle.reading_machine.specs.declared.frame.Binding.{Binding}
use Rattle.reading_machine.specs.declared.frame.Frame.{Frame}
use Rattle.reading_machine.specs.declared.frame.Frame.TheVariants as frame
use Rattle.reading_machine.specs.declared.frame.Mode.TheVariants as mode
use Rattle.reading_machine.specs.Machine.{Stepped, Reads, Stops, Joined, Joins, Meets, with_step, of_records, same_bullet, on_joined, is_subscript, braces_close, bracket_close, tuple_close, binder_close, bound_close, comma_or, only_at, symbol_closes, word_closes, name_closes, item_closes, list_closes, kind_closes, laid_closes, closes}
use Rattle.reading_machine.specs.OpenFits.{FramesFit, Open}
use Rattle.reading_machine.specs.OpenRows.{FramesText}
use Rattle.reading_machine.proofs.Opened.{laid_symbol}
use Rattle.reading_machine.proofs.Closing.{laid, laid_word}
use Rattle.reading_machine.proofs.Flat as flat
use Rattle.reading_machine.proofs.FlatStates.{binds, row, rows, primary, Settles, BinderInLet, FrameKept, FramesKept, Same, sits}
use Rattle.reading_machine.proofs.FlatBegins.{open_rows, flat_no_subscript, deliver_same}
use Rattle.reading_machine.proofs.FlatFolds.{Waits}
use Rattle.reading_machine.proofs.OpenEnds.{start, one, one_tree, a_sign, a_kind, ends, suits, sound, close, Ending}

-- ---- a token that is looked for

module _ (A : Type 0) where
  same_parenthesis : (s : Symbol) (d : Stepped) (y : flat.Done) → Same A d y → Same A (only_at s symbols.CloseParenthesis d) (flat.at_parenthesis s y)
  same_parenthesis symbols.CloseParenthesis d y h = h
  same_parenthesis _ d y h = refl

  same_bracket : (s : Symbol) (d : Stepped) (y : flat.Done) → Same A d y → Same A (only_at s symbols.CloseBracket d) (flat.at_bracket s y)
  same_bracket symbols.CloseBracket d y h = h
  same_bracket _ d y h = refl

  same_brace : (s : Symbol) (d : Stepped) (y : flat.Done) → Same A d y → Same A (only_at s symbols.CloseBrace d) (flat.at_brace s y)
  same_brace symbols.CloseBrace d y h = h
  same_brace _ d y h = refl

  same_colon : (s : Symbol) (d : Stepped) (y : flat.Done) → Same A d y → Same A (only_at s symbols.Colon d) (flat.at_colon s y)
  same_colon symbols.Colon d y h = h
  same_colon _ d y h = refl

  same_arrow : (s : Symbol) (d : Stepped) (y : flat.Done) → Same A d y → Same A (only_at s symbols.Arrow d) (flat.at_arrow s y)
  same_arrow symbols.Arrow d y h = h
  same_arrow _ d y h = refl

  same_always : (s : Symbol) (d : Stepped) (y : flat.Done) → Same A d y → Same A (only_at s symbols.Always d) (flat.at_always s y)
  same_always symbols.Always d y h = h
  same_always _ d y h = refl

  comma_parenthesis : (s : Symbol) (c d : Stepped) (x y : flat.Done) → Same A c x → Same A d y → Same A (comma_or s symbols.CloseParenthesis c d) (flat.comma_parenthesis s x y)
  comma_parenthesis symbols.Comma c d x y g h = g
  comma_parenthesis symbols.CloseParenthesis c d x y g h = h
  comma_parenthesis _ c d x y g h = refl

  comma_bracket : (s : Symbol) (c d : Stepped) (x y : flat.Done) → Same A c x → Same A d y → Same A (comma_or s symbols.CloseBracket c d) (flat.comma_bracket s x y)
  comma_bracket symbols.Comma c d x y g h = g
  comma_bracket symbols.CloseBracket c d x y g h = h
  comma_bracket _ c d x y g h = refl

  if_not : (b : Bool) (d : Stepped) (y : flat.Done) → b ≡ false → Same A d y → Same A (if b then Stops else d) y
  if_not true d y e h = absurd (let q : false ≡ true = sym e in cc)
  if_not false d y e h = h

  -- an expression that begins with a name and `\in`, where it meets an operator
  joined_same : (j : Joined Tree) (q : Place) (next : Tree → Stepped) (y : flat.Done) → A → ((t : Tree) → Same A (next t) y) → Same A (on_joined j q next) y
  joined_same (Joins t) q next y a h = h t
  joined_same (Meets p) q next y a h = a

  have_same : (e : Tree) (fs : List Frame) → primary e ≡ flat.Other → is_name e ≡ false → begins_member e ≡ false → FramesKept fs → Open fs → Same A (Reads fs (mode.Have e)) (flat.Reads (rows fs) (flat.Have flat.Other))
  have_same e fs b a m k o = (ap (λ v. flat.Reads (rows fs) (flat.Have v)) (sym b), k, (o, sits e fs a m))

  pub step_same : (a : Tree) (at : Place) (t : tree.Step) (fs : List Frame) → FramesKept fs → Open fs → Same A (Reads fs (mode.Have (with_step a at t))) (flat.Reads (rows fs) (flat.Have flat.Other))
  step_same (tree.Postfix p e ss s) at t fs k o = have_same (with_step (tree.Postfix p e ss s) at t) fs refl refl refl k o
  step_same a at t fs k o = have_same (with_step a at t) fs refl refl refl k o

  -- ---- braces, brackets, tuples and bounds

  braces_same : (s : Symbol) (at : Place) (es : Trees) (fs : List Frame) (e : Tree) → FramesKept fs → Open fs → Settles e (frame.Braces at es ∷ fs) → Same A (braces_close s at es fs e) (flat.symbol_closes s (row (frame.Braces at es)) (rows fs))
  braces_same symbols.Comma at es fs e k o i = (refl, (o, k), (tt, tt))
  braces_same symbols.CloseBrace at es fs e k o i = have_same (tree.SetOf at (MoreTrees es e)) fs refl refl refl k o
  braces_same symbols.Colon at NoTrees fs e k o i = if_not (begins_member e) _ _ i (refl, k, (o, tt))
  braces_same symbols.Colon at (MoreTrees es d) fs e k o i = refl
  braces_same _ at es fs e k o i = refl

  bracket_same : (s : Symbol) (at : Place) (fs : List Frame) (e : Tree) → FramesKept fs → Open fs → Same A (bracket_close s at fs e) (flat.bracket_close s (rows fs))
  bracket_same symbols.Arrow at fs e k o = (refl, (o, k), (tt, tt))
  bracket_same symbols.CloseBracketSubscript at fs e k o = (refl, k, o)
  bracket_same _ at fs e k o = refl

  not_open : (fs : List Frame) → is_subscript fs ≡ false → Open fs
  not_open [] h = tt
  not_open (frame.Subscript c at a ∷ fs) h = absurd (let q : true ≡ false = h in cc)
  not_open (frame.FairSubscript at ∷ fs) h = absurd (let q : true ≡ false = h in cc)
  not_open (f ∷ fs) h = tt

  flat_subscript : (fs : List Frame) → is_subscript fs ≡ true → flat.symbol_closes symbols.CloseTupleSubscript (flat.Tuple false) (rows fs) ≡ flat.Stops
  flat_subscript [] h = absurd (let q : false ≡ true = h in cc)
  flat_subscript (frame.Subscript c at a ∷ fs) h = refl
  flat_subscript (frame.FairSubscript at ∷ fs) h = refl
  flat_subscript (f ∷ fs) h = absurd (let q : false ≡ true = h in cc)

  angle_same : (b : Bool) (fs : List Frame) (d : Stepped) → is_subscript fs ≡ b → FramesKept fs → (Open fs → Same A d (flat.Reads (rows fs) flat.SubscriptStart))
      → Same A (if b then Stops else d) (flat.symbol_closes symbols.CloseTupleSubscript (flat.Tuple false) (rows fs))
  angle_same true fs d q k h = flat_subscript fs q
  angle_same false fs d q k h =
      let o : Open fs = not_open fs q in
      subst (λ b. Same A d (if b then flat.Stops else flat.Reads (rows fs) flat.SubscriptStart)) (sym (flat_no_subscript (rows fs) (open_rows fs k o))) (h o)

  tuple_same : (s : Symbol) (at : Place) (es : Trees) (fs : List Frame) (e : Tree) → FramesKept fs → Same A (tuple_close s at es fs e) (flat.symbol_closes s (row (frame.Tuple at es)) (rows fs))
  tuple_same symbols.Comma at es fs e k = (refl, (tt, k), (tt, tt))
  tuple_same symbols.CloseTuple at es fs e k = deliver_same A (tree.Tuple at (MoreTrees es e)) fs refl refl refl k
  tuple_same symbols.CloseTupleSubscript at NoTrees fs e k = angle_same (is_subscript fs) fs _ refl k (λ o. (refl, k, o))
  tuple_same symbols.CloseTupleSubscript at (MoreTrees es d) fs e k = refl
  tuple_same _ at es fs e k = refl

  binder_same : (s : Symbol) (b : Binder) (bs : Bounds) (fs : List Frame) → BinderInLet b → FramesKept fs → Open fs → Same A (binder_close s b bs fs) (flat.binder_close s (binds b) (rows fs))
  binder_same symbols.Colon (binders.Quantifier q at) bs fs i k o = (refl, (o, k), (tt, tt))
  binder_same symbols.MapsTo (binders.Function at) bs fs i k o = (refl, (o, k), (tt, tt))
  binder_same symbols.CloseBrace (binders.Map at e) bs fs i k o = have_same (tree.Map at e bs) fs refl refl refl k o
  binder_same symbols.CloseBracket (binders.Defined s n p q) bs fs i k o = (refl, k, (o, i))
  binder_same _ b bs fs i k o = refl

  bound_same : (s : Symbol) (b : Binding) (ns : List (List ℕ)) (fs : List Frame) (e : Tree) → BinderInLet b.binder → FramesKept fs → Open fs → Same A (bound_close s b ns fs e) (flat.bound_close s (binds b.binder) (rows fs))
  bound_same symbols.Comma b ns fs e i k o = (refl, k, (o, i))
  bound_same s b ns fs e i k o = binder_same s b.binder (tree.MoreBounds b.bounds ns e) fs i k o

  record_same : (c : RecordKind) (at : Place) (hs : tree.Fields) (fs : List Frame) → FramesKept fs → Open fs → Same A (Reads fs (mode.Have (of_records c at hs))) (flat.Reads (rows fs) (flat.Have flat.Other))
  record_same records.Record at hs fs k o = have_same (tree.Record at hs) fs refl refl refl k o
  record_same records.Set at hs fs k o = have_same (tree.RecordSet at hs) fs refl refl refl k o

  item_same : (b : Bool) (c : Bullet) (at : Place) (es : Trees) (fs : List Frame) → FramesKept fs → Open fs
      → Same A (if b then Reads (frame.Junction c at es ∷ fs) mode.Want else Stops) (if b then flat.want (flat.Junction c ∷ rows fs) else flat.Stops)
  item_same true c at es fs k o = (refl, (o, k), (tt, tt))
  item_same false c at es fs k o = refl

-- ---- how the text goes on behind a clash

-- from behind the token x, which stands behind the frame and the expression
abbrev pub Meet : Laid → List Frame → Tree → Type 0
Meet x gs e = (c : List Laid) × ((xs : List Laid) → (FramesText gs ⨟ Text e) xs (x ∷ c) → FramesFit gs → FramesKept gs → Ending xs)

module _ (q : Place) (at : Place) (n : List ℕ) (p r : Place) (fs : List Frame) (e : Tree) where
  abbrev whole : Tree
  whole = tree.Infix r infixes.Member (First (tree.Name p n)) e

  -- the element of braces, or the expression in brackets, from its name on
  member_text : (xs ys zs : List Laid) → (token p (kinds.Name n) ⨟ sign_at r symbols.Member) xs ys → Text e ys zs → Text whole xs zs
  member_text xs ys zs a t = (a.0, a.1, (ys, a.2, t))

  comma_meet : Meet (laid_symbol symbols.Comma q) (frame.MaybeFilter at n p r ∷ fs) e
  comma_meet =
      let here = frame.Braces at (MoreTrees NoTrees whole) ∷ fs in let c : List Laid = one ∷ ends here in let x : List Laid = laid_symbol symbols.Comma q ∷ c in (
        c,
        λ xs t f k. let F = t.1.2 in
            close here k (tt, sound fs f.1) one_tree tt xs c (t.1.0, t.1.1, (F.0, F.1, (F.0, refl, (x, member_text F.0 t.0 x F.2 t.2, (q, refl))))) refl,
      )

  brace_meet : Meet (laid_symbol symbols.CloseBrace q) (frame.MaybeFilter at n p r ∷ fs) e
  brace_meet =
      let c : List Laid = ends fs in let x : List Laid = laid_symbol symbols.CloseBrace q ∷ c in let s = tree.SetOf at (MoreTrees NoTrees whole) in (
        c,
        λ xs t f k. let F = t.1.2 in
            close fs k.1 (sound fs f.1) s (suits s fs k.0) xs t.1.0 t.1.1 (F.0, F.1, (x, (F.0, refl, member_text F.0 t.0 x F.2 t.2), (q, refl))),
      )

  arrow_meet : Meet (laid_symbol symbols.Arrow q) (frame.MaybeFunction at n p r ∷ fs) e
  arrow_meet =
      let here = frame.FunctionRange at whole ∷ fs in let c : List Laid = one ∷ ends here in let x : List Laid = laid_symbol symbols.Arrow q ∷ c in (
        c,
        λ xs t f k. let F = t.1.2 in
            close here k (tt, sound fs f.1) one_tree tt xs c (t.1.0, t.1.1, (F.0, F.1, (x, member_text F.0 t.0 x F.2 t.2, (q, refl)))) refl,
      )

  box_meet : Meet (laid_symbol symbols.CloseBracketSubscript q) (frame.MaybeFunction at n p r ∷ fs) e
  box_meet =
      let c : List Laid = a_kind (kinds.Name []) ∷ ends fs in let x : List Laid = laid_symbol symbols.CloseBracketSubscript q ∷ c in let s = tree.BoxAction at whole (tree.Name start []) in (
        c,
        λ xs t f k. let F = t.1.2 in
            close fs k.1 (sound fs f.1) s (suits s fs k.0) xs t.1.0 t.1.1 (tt, (F.0, F.1, (x, member_text F.0 t.0 x F.2 t.2, (c, (q, refl), refl)))),
      )

  except_meet : Meet (laid_word words.Except q) (frame.MaybeFunction at n p r ∷ fs) e
  except_meet =
      let here = frame.ExceptValue at whole NoChanges (MoreSteps NoSteps start (tree.Field [])) ∷ fs in let last : List Laid = one ∷ ends here in
      let field : List Laid = a_kind (kinds.Name []) ∷ a_sign symbols.Equal ∷ last in let dot : List Laid = a_sign symbols.Dot ∷ field in
      let c : List Laid = a_sign symbols.Exclamation ∷ dot in let x : List Laid = laid_word words.Except q ∷ c in (
        c,
        λ xs t f k. let F = t.1.2 in
            close here k (tt, sound fs f.1) one_tree tt xs last
            (t.1.0, t.1.1, (a_sign symbols.Equal ∷ last, (c, (F.0, F.1, (x, member_text F.0 t.0 x F.2 t.2, (c, (q, refl), refl))), (dot, (start, refl), (dot, refl, (field, refl, (start, refl))))), (start, refl))) refl,
      )

-- ---- all frames

pub symbol_same : (s : Symbol) (q : Place) (f : Frame) (fs : List Frame) (e : Tree) → FrameKept f fs → FramesKept fs → Settles e (f ∷ fs)
    → Same (Meet (laid_symbol s q) (f ∷ fs) e) (symbol_closes s f fs e) (flat.symbol_closes s (row f) (rows fs))
symbol_same s q (frame.Parenthesis at) fs e h k i = same_parenthesis _ s _ _ (deliver_same _ (tree.Parenthesized at e) fs refl refl refl k)
symbol_same s q (frame.Call n at es) fs e h k i = comma_parenthesis _ s _ _ _ _ (refl, (h, k), (tt, tt)) (have_same ⊥ (tree.Call at n (MoreTrees es e)) fs refl refl refl k h)
symbol_same s q (frame.QualifiedCall n at es) fs e h k i = comma_parenthesis _ s _ _ _ _ (refl, (h, k), (tt, tt)) (have_same ⊥ (tree.Qualified at n (MoreTrees es e)) fs refl refl refl k h)
symbol_same s q (frame.Index a at es) fs e h k i = comma_bracket _ s _ _ _ _ (refl, (h, k), (tt, tt)) (step_same ⊥ a at (tree.Index (MoreTrees es e)) fs k h)
symbol_same s q (frame.Braces at es) fs e h k i = braces_same _ s at es fs e k h i
symbol_same s q (frame.FilterTest at n a) fs e h k i = same_brace _ s _ _ (have_same ⊥ (tree.Filter at n a e) fs refl refl refl k h)
symbol_same s q (frame.Tuple at es) fs e h k i = tuple_same _ s at es fs e k
symbol_same s q (frame.Bracket at) fs e h k i = bracket_same _ s at fs e k h
symbol_same s q (frame.FunctionBody at bs) fs e h k i = same_bracket _ s _ _ (have_same ⊥ (tree.Function at bs e) fs refl refl refl k h)
symbol_same s q (frame.FunctionRange at a) fs e h k i = same_bracket _ s _ _ (have_same ⊥ (tree.FunctionSet at a e) fs refl refl refl k h)
symbol_same s q (frame.Record c at hs n) fs e h k i = comma_bracket _ s _ _ _ _ (refl, k, h) (record_same ⊥ c at (MoreFields hs n e) fs k h)
symbol_same s q (frame.BoundSet b ns) fs e h k i = bound_same _ s b ns fs e h.1 k h.0
symbol_same s q (frame.ExceptIndex at a cs ss p es) fs e h k i = comma_bracket _ s _ _ _ _ (refl, (h, k), (tt, tt)) (refl, k, h)
symbol_same s q (frame.ExceptValue at a cs ss) fs e h k i = comma_bracket _ s _ _ _ _ (refl, k, h) (have_same ⊥ (tree.Except at a (tree.MoreChanges cs ss e)) fs refl refl refl k h)
symbol_same s q (frame.ChooseSet at n) fs e h k i = same_colon _ s _ _ (refl, (h, k), (tt, tt))
symbol_same s q (frame.CaseTest at arms) fs e h k i = same_arrow _ s _ _ (refl, (h, k), (tt, tt))
symbol_same s q (frame.CaseValue at arms a) fs e h k i = same_always _ s _ _ (refl, k, h)
symbol_same s q (frame.FairBody at v) fs e h k i = same_parenthesis _ s _ _ (have_same ⊥ (tree.Fairness at v e) fs refl refl refl k h)
symbol_same symbols.Colon q (frame.MaybeFilter at n p r) fs e h k i = (refl, (h, k), (tt, tt))
symbol_same symbols.Comma q (frame.MaybeFilter at n p r) fs e h k i = joined_same _ _ r (λ x. braces_close symbols.Comma at NoTrees fs x) _ (comma_meet q at n p r fs e) (λ t. (refl, (h, k), (tt, tt)))
symbol_same symbols.CloseBrace q (frame.MaybeFilter at n p r) fs e h k i = joined_same _ _ r (λ x. braces_close symbols.CloseBrace at NoTrees fs x) _ (brace_meet q at n p r fs e) (λ t. have_same ⊥ (tree.SetOf at (MoreTrees NoTrees t)) fs refl refl refl k h)
symbol_same symbols.Comma q (frame.MaybeFunction at n p r) fs e h k i = (refl, k, (h, tt))
symbol_same symbols.MapsTo q (frame.MaybeFunction at n p r) fs e h k i = (refl, (h, k), (tt, tt))
symbol_same symbols.Arrow q (frame.MaybeFunction at n p r) fs e h k i = joined_same _ _ r (λ x. bracket_close symbols.Arrow at fs x) _ (arrow_meet q at n p r fs e) (λ t. (refl, (h, k), (tt, tt)))
symbol_same symbols.CloseBracketSubscript q (frame.MaybeFunction at n p r) fs e h k i = joined_same _ _ r (λ x. bracket_close symbols.CloseBracketSubscript at fs x) _ (box_meet q at n p r fs e) (λ t. (refl, k, h))
symbol_same s q f fs e h k i = refl

word_same : (w : Word) (q : Place) (f : Frame) (fs : List Frame) (e : Tree) → FrameKept f fs → FramesKept fs → Same (Meet (laid_word w q) (f ∷ fs) e) (word_closes w f fs e) (flat.word_closes w (row f) (rows fs))
word_same words.Then q (frame.IfTest at) fs e h k = (refl, (h, k), (tt, tt))
word_same words.Else q (frame.IfThen at a) fs e h k = (refl, (h, k), (tt, tt))
word_same words.Except q (frame.Bracket at) fs e h k = (refl, k, h)
word_same words.Except q (frame.MaybeFunction at n p r) fs e h k = joined_same _ _ r (λ x. Reads fs (mode.ExceptMark at x NoChanges)) _ (except_meet q at n p r fs e) (λ t. (refl, k, h))
word_same words.In q (frame.DefinitionBody (scopes.Let at ds) n p form) fs e h k = (refl, (h.0, k), (tt, tt))
word_same words.In q (frame.DefinitionBody scopes.Unit n p form) fs e h k = absurd h.1
word_same w q f fs e h k = refl

module _ (A : Type 0) where
  name_same : (m : List ℕ) (q : Place) (f : Frame) (fs : List Frame) (e : Tree) → FrameKept f fs → FramesKept fs → Same A (name_closes m q f fs e) (flat.name_closes (row f) (rows fs))
  name_same m q (frame.DefinitionBody (scopes.Let at ds) n p form) fs e h k = (refl, k, h)
  name_same m q (frame.DefinitionBody scopes.Unit n p form) fs e h k = absurd h.1
  name_same m q f fs e h k = refl

  items_same : (c : Bullet) (f : Frame) (fs : List Frame) (e : Tree) → FrameKept f fs → FramesKept fs → Same A (item_closes c f fs e) (flat.item_closes c (row f) (rows fs))
  items_same c (frame.Junction b at es) fs e h k = item_same A (same_bullet b c) b at (MoreTrees es e) fs k h
  items_same c f fs e h k = refl

  list_same : (f : Frame) (fs : List Frame) (e : Tree) → FrameKept f fs → FramesKept fs → Same A (list_closes f fs e) (flat.list_closes (row f) (rows fs))
  list_same (frame.Junction b at es) fs e h k = have_same A (tree.Junction at b (MoreTrees es e)) fs refl refl refl k h
  list_same f fs e h k = refl

kind_same : (c : Kind) (q : Place) (f : Frame) (fs : List Frame) (e : Tree) → FrameKept f fs → FramesKept fs → Settles e (f ∷ fs) → Same (Meet (laid c q) (f ∷ fs) e) (kind_closes c q f fs e) (flat.kind_closes c (row f) (rows fs))
kind_same (kinds.Symbol s) q f fs e h k i = symbol_same s q f fs e h k i
kind_same (kinds.Word w) q f fs e h k i = word_same w q f fs e h k
kind_same (kinds.Name m) q f fs e h k i = name_same _ m q f fs e h k
kind_same _ q f fs e h k i = refl

laid_same : (x : Laid) (f : Frame) (fs : List Frame) (e : Tree) → FrameKept f fs → FramesKept fs → Settles e (f ∷ fs) → Same (Meet x (f ∷ fs) e) (laid_closes x f fs e) (flat.laid_closes x (row f) (rows fs))
laid_same (Plain t) f fs e h k i = kind_same t.kind t.place f fs e h k i
laid_same (ListOpen b q) f fs e h k i = refl
laid_same (ListItem b q) f fs e h k i = items_same _ b f fs e h k
laid_same (ListClose q) f fs e h k i = list_same _ f fs e h k

pub closes_same : (x : Laid) (gs : List Frame) (e : Tree) → FramesKept gs → Settles e gs → Waits gs → Same (Meet x gs e) (closes x gs e) (flat.closes x (rows gs))
closes_same x [] e k i w = refl
closes_same x (frame.Prefix o p ∷ fs) e k i w = absurd w
closes_same x (frame.Infix o es p ∷ fs) e k i w = absurd w
closes_same x (frame.DefinitionBody scopes.Unit n p form ∷ fs) e k i w = absurd k.0.1
closes_same x (f ∷ fs) e k i w = laid_same x f fs e k.0 k.1 i
