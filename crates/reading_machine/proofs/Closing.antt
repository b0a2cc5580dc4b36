-- What a token does behind an expression.
use Rattle.std.proofs.Common.{◌≡◌, ℕ, true, false, List, [], ◌∷◌, Option, Some, None, refl, sym, ap, subst, ◌∙◌}
use Rattle.base_core.specs.declared.place.Place.{Place}
use Rattle.reading_trees.specs.declared.laid.Bullet.{Bullet}
use Rattle.reading_trees.specs.declared.laid.Laid.{Laid}
use Rattle.reading_trees.specs.declared.laid.Laid.TheVariants.{Plain, ListOpen, ListItem, ListClose}
use Rattle.reading_tokens.specs.declared.token.Kind.{Kind}
use Rattle.reading_tokens.specs.declared.token.Word.{Word}
use Rattle.reading_tokens.specs.declared.token.Symbol.{Symbol}
use Rattle.reading_trees.specs.declared.operators.InfixOperator.{InfixOperator}
use Rattle.reading_trees.specs.Precedence.{infix_symbol, infix_range}
use Rattle.reading_trees.specs.Grammar.{◌⨟◌, token, sign, QualifiedName, Text, DefinitionRest}
use Rattle.reading_trees.specs.Fits.{LeftAbove, EndsNoCase, Fits}
use Rattle.reading_trees.specs.Trees.{Tree, NoTrees, MoreTrees, MoreDefinitions}
use Rattle.reading_machine.specs.declared.frame.Form.{Form}
use Rattle.reading_machine.specs.declared.frame.Frame.{Frame}
use Rattle.reading_machine.specs.Machine.{Stepped, Stops, infix_of_symbol, infix_step, with_step, parameters_of, form_of, body_of, same_bullet, Settled, settle, word_closes, name_closes, item_closes, list_closes, kind_closes, laid_closes, closes, is_always, is_case_mark, settled_closes, behind, instance_step, call_step, infix_or, symbol_follows, kind_follows, follows}
use Rattle.reading_machine.proofs.Opened.{Defines, Good, laid_symbol}
use Rattle.reading_machine.proofs.Edges.{operand_left, operand_right, operand_ends, top_all, one_of_two, infix_good}
use Rattle.reading_machine.proofs.Settling.{IsSettled, settles}
use Rattle.reading_machine.proofs.Rows.{step_good, want_good, have_good, stepped_good}
use Rattle.reading_machine.proofs.Enclosed.{member_good}
use Rattle.reading_machine.proofs.Symbols.{symbol_good}
use Rattle.reading_trees.specs.declared.laid.Bullet.TheVariants as bullets
use Rattle.reading_tokens.specs.declared.token.Kind.TheVariants as kinds
use Rattle.reading_tokens.specs.declared.token.Word.TheVariants as words
use Rattle.reading_tokens.specs.declared.token.Symbol.TheVariants as symbols
use Rattle.reading_trees.specs.Trees as tree
use Rattle.reading_machine.specs.declared.frame.Scope.TheVariants as scopes
use Rattle.reading_machine.specs.declared.frame.Form.TheVariants as forms
use Rattle.reading_machine.specs.declared.frame.Frame.TheVariants as frame
use Rattle.reading_machine.specs.OpenFits.{IsOperand, FormFits, FrameFits, FramesFit}
use Rattle.reading_machine.specs.OpenRows.{FormText, FrameText, FramesText}

abbrev pub laid : Kind → Place → Laid
laid c q = Plain (record { kind = c; place = q })

abbrev pub laid_word : Word → Place → Laid
laid_word w q = Plain (record { kind = kinds.Word w; place = q })

abbrev pub laid_name : List ℕ → Place → Laid
laid_name n q = Plain (record { kind = kinds.Name n; place = q })

pub no_bullet : false ≡ true → ⊥
no_bullet e = cc

-- an infix operator is the symbol of its name
abbrev pub SymbolOf : Symbol → Option InfixOperator → Type 0
SymbolOf s (Some o) = infix_symbol o ≡ s
SymbolOf s None = Unit {0}

pub symbol_of : (s : Symbol) → SymbolOf s (infix_of_symbol s)
symbol_of symbols.Implies = refl
symbol_of symbols.Equivalent = refl
symbol_of symbols.LeadsTo = refl
symbol_of symbols.And = refl
symbol_of symbols.Or = refl
symbol_of symbols.Equal = refl
symbol_of symbols.NotEqual = refl
symbol_of symbols.Less = refl
symbol_of symbols.Greater = refl
symbol_of symbols.LessOrEqual = refl
symbol_of symbols.GreaterOrEqual = refl
symbol_of symbols.Member = refl
symbol_of symbols.NotMember = refl
symbol_of symbols.SubsetOrEqual = refl
symbol_of symbols.MergedFunctions = refl
symbol_of symbols.SingleFunction = refl
symbol_of symbols.Union = refl
symbol_of symbols.Intersection = refl
symbol_of symbols.Difference = refl
symbol_of symbols.Interval = refl
symbol_of symbols.Plus = refl
symbol_of symbols.Remainder = refl
symbol_of symbols.Minus = refl
symbol_of symbols.CartesianProduct = refl
symbol_of symbols.Times = refl
symbol_of symbols.Concatenation = refl
symbol_of symbols.Quotient = refl
symbol_of symbols.Power = refl
symbol_of _ = tt

-- what stands behind the name of a definition, from its form
pub definition_rest : (form : Form) (e : Tree) (xs ys zs ws : List Laid) → FormText form xs ys → sign symbols.Defined ys zs → Text e zs ws → DefinitionRest (parameters_of form) (form_of form) (body_of form e) xs ws
definition_rest (forms.Operator ns) e xs ys zs ws a d t = (ys, a, (zs, d, t))
definition_rest (forms.Function at bs) e xs ys zs ws a d t = (refl, (a.0, a.1, (a.2.0, a.2.1, (ys, a.2.2, (zs, d, t)))))

pub definition_fits : (form : Form) (e : Tree) → FormFits form → Fits e → Fits (body_of form e)
definition_fits (forms.Operator ns) e f k = k
definition_fits (forms.Function at bs) e f k = (f, k)

pub same_bullets : (b c : Bullet) → same_bullet b c ≡ true → c ≡ b
same_bullets bullets.And bullets.And e = refl
same_bullets bullets.Or bullets.Or e = refl
same_bullets bullets.And bullets.Or e = absurd (no_bullet e)
same_bullets bullets.Or bullets.And e = absurd (no_bullet e)

module _ (xs r : List Laid) where
  word_good : (w : Word) (q : Place) (g : Frame) (fs : List Frame) (e : Tree) (ys zs : List Laid) → FramesText fs xs ys → FrameText g ys zs → Text e zs (laid_word w q ∷ r) → FrameFits g fs → FramesFit fs → Fits e → Good xs (laid_word w q ∷ r) r (word_closes w g fs e)
  word_good words.Then q (frame.IfTest at) fs e ys zs F a t f h k = want_good xs (laid_word words.Then q ∷ r) r (frame.IfThen at e) fs ys F (zs, a, (laid_word words.Then q ∷ r, t, (q, refl))) k h
  word_good words.Else q (frame.IfThen at d) fs e ys zs F a t f h k = want_good xs (laid_word words.Else q ∷ r) r (frame.IfElse at d e) fs ys F (a.0, a.1, (a.2.0, a.2.1, (zs, a.2.2, (laid_word words.Else q ∷ r, t, (q, refl))))) (f, k) h
  word_good words.Except q (frame.Bracket at) fs e ys zs F a t f h k = ((ys, F, (zs, a, (laid_word words.Except q ∷ r, t, (r, (q, refl), refl)))), h, (k, tt))
  word_good words.Except q (frame.MaybeFunction at n p o) fs e ys zs F a t f h k =
      member_good xs r q (laid_word words.Except q ∷ r) n p o e a.0 zs _ a.2 t k (λ u v w. ((ys, F, (a.0, a.1, (laid_word words.Except q ∷ r, v, (r, (q, refl), refl)))), h, (w, tt)))
  word_good words.In q (frame.DefinitionBody (scopes.Let at ds) n p form) fs e ys zs F a t f h k =
      want_good xs (laid_word words.In q ∷ r) r (frame.LetBody at (MoreDefinitions ds n p (parameters_of form) (form_of form) (body_of form e))) fs ys F
      (a.1.0, a.1.1, (laid_word words.In q ∷ r, (a.0, a.1.2, (a.2.0, a.2.1, definition_rest form e a.2.0 a.2.2.0 zs (laid_word words.In q ∷ r) a.2.2.1 a.2.2.2 t)), (q, refl)))
      (f.0, definition_fits form e f.1 k) h
  word_good w q g fs e ys zs F a t f h k = tt

  named_good : (m : List ℕ) (q : Place) (g : Frame) (fs : List Frame) (e : Tree) (ys zs : List Laid) → FramesText fs xs ys → FrameText g ys zs → Text e zs (laid_name m q ∷ r) → FrameFits g fs → FramesFit fs → Fits e → Good xs (laid_name m q ∷ r) r (name_closes m q g fs e)
  named_good m q (frame.DefinitionBody (scopes.Let at ds) n p form) fs e ys zs F a t f h k =
      ((ys, F, (laid_name m q ∷ r, (a.1.0, a.1.1, (a.0, a.1.2, (a.2.0, a.2.1, definition_rest form e a.2.0 a.2.2.0 zs (laid_name m q ∷ r) a.2.2.1 a.2.2.2 t))), refl)), h, (f.0, definition_fits form e f.1 k))
  named_good m q g fs e ys zs F a t f h k = tt

  item_good : (c : Bullet) (q : Place) (g : Frame) (fs : List Frame) (e : Tree) (ys zs : List Laid) → FramesText fs xs ys → FrameText g ys zs → Text e zs (ListItem c q ∷ r) → FrameFits g fs → FramesFit fs → Fits e → Good xs (ListItem c q ∷ r) r (item_closes c g fs e)
  item_good c q (frame.Junction b at es) fs e ys zs F a t f h k =
      one_of_two (Good xs (ListItem c q ∷ r) r) (same_bullet b c) _ Stops
      (λ i. want_good xs (ListItem c q ∷ r) r (frame.Junction b at (MoreTrees es e)) fs ys F (a.0, a.1, (ListItem c q ∷ r, (a.2.0, a.2.1, (zs, a.2.2, t)), (q, ap (λ x. ListItem x q ∷ r) (same_bullets b c i)))) (f, k) h)
      (λ i. tt)
  item_good c q g fs e ys zs F a t f h k = tt

  list_good : (q : Place) (g : Frame) (fs : List Frame) (e : Tree) (ys zs : List Laid) → FramesText fs xs ys → FrameText g ys zs → Text e zs (ListClose q ∷ r) → FrameFits g fs → FramesFit fs → Fits e → Good xs (ListClose q ∷ r) r (list_closes g fs e)
  list_good q (frame.Junction b at es) fs e ys zs F a t f h k =
      have_good xs (ListClose q ∷ r) r fs (tree.Junction at b (MoreTrees es e)) ys F (a.0, a.1, (ListClose q ∷ r, (a.2.0, a.2.1, (zs, a.2.2, t)), (q, refl))) h tt (f, k)
  list_good q g fs e ys zs F a t f h k = tt

  kind_good : (c : Kind) (q : Place) (g : Frame) (fs : List Frame) (e : Tree) (ys zs : List Laid) → FramesText fs xs ys → FrameText g ys zs → Text e zs (laid c q ∷ r) → FrameFits g fs → FramesFit fs → Fits e → (is_always c ≡ true → EndsNoCase e) → Good xs (laid c q ∷ r) r (kind_closes c q g fs e)
  kind_good (kinds.Symbol s) q g fs e ys zs F a t f h k n = symbol_good xs r s q g fs e ys zs F a t f h k n
  kind_good (kinds.Word w) q g fs e ys zs F a t f h k n = word_good w q g fs e ys zs F a t f h k
  kind_good (kinds.Name m) q g fs e ys zs F a t f h k n = named_good m q g fs e ys zs F a t f h k
  kind_good c q g fs e ys zs F a t f h k n = tt

  laid_good : (x : Laid) (g : Frame) (fs : List Frame) (e : Tree) (ys zs : List Laid) → FramesText fs xs ys → FrameText g ys zs → Text e zs (x ∷ r) → FrameFits g fs → FramesFit fs → Fits e → (is_case_mark x ≡ true → EndsNoCase e) → Good xs (x ∷ r) r (laid_closes x g fs e)
  laid_good (Plain t) g fs e ys zs F a u f h k n = kind_good t.kind t.place g fs e ys zs F a u f h k n
  laid_good (ListOpen b q) g fs e ys zs F a t f h k n = tt
  laid_good (ListItem b q) g fs e ys zs F a t f h k n = item_good b q g fs e ys zs F a t f h k
  laid_good (ListClose q) g fs e ys zs F a t f h k n = list_good q g fs e ys zs F a t f h k

  -- the definition of a unit, whose frame is the only one
  pub unit_good : (here : List Laid) (n : List ℕ) (p : Place) (form : Form) (fs : List Frame) (e : Tree) (ys zs : List Laid) → fs ≡ [] → FramesText fs xs ys → FrameText (frame.DefinitionBody scopes.Unit n p form) ys zs → Text e zs here → FormFits form → Fits e → Defines n p (parameters_of form) (form_of form) (body_of form e) xs here
  unit_good here n p form fs e ys zs i F a t f k =
      let j : xs ≡ ys = subst (λ x. FramesText x xs ys) i F in
      ((a.2.0, subst (λ x. token p (kinds.Name n) x a.2.0) (sym (j ∙ a.1)) a.2.1, definition_rest form e a.2.0 a.2.2.0 zs here a.2.2.1 a.2.2.2 t), definition_fits form e f k)

  closes_good : (x : Laid) (fs : List Frame) (e : Tree) → (FramesText fs ⨟ Text e) xs (x ∷ r) → FramesFit fs → Fits e → (is_case_mark x ≡ true → EndsNoCase e) → Good xs (x ∷ r) r (closes x fs e)
  closes_good x [] e t h k n = record { text = subst (λ w. Text e w (x ∷ r)) (sym t.1) t.2; fits = k }
  closes_good x (frame.DefinitionBody scopes.Unit m p form ∷ fs) e t h k n = unit_good (x ∷ r) m p form fs e t.1.0 t.0 h.0.0 t.1.1 t.1.2 t.2 h.0.1 k
  closes_good x (g ∷ fs) e t h k n = laid_good x g fs e t.1.0 t.0 t.1.1 t.1.2 t.2 h.0 h.1 k n

  settled_good : (x : Laid) (s : Settled) → IsSettled (is_case_mark x) xs (x ∷ r) s → Good xs (x ∷ r) r (settled_closes x s)
  settled_good x s h = closes_good x s.frames s.tree h.0 h.1 h.2 h.3

  -- a token that is neither a step nor an infix operator
  behind_good : (x : Laid) (fs : List Frame) (e : Tree) (ys : List Laid) → FramesText fs xs ys → Text e ys (x ∷ r) → FramesFit fs → IsOperand e → Fits e → Good xs (x ∷ r) r (behind x fs e)
  behind_good x fs e ys F t h o k =
      settled_good x (settle (is_case_mark x) fs e) (settles xs (x ∷ r) (is_case_mark x) fs e ys F t h k (top_all fs (λ s. LeftAbove s e) (λ s. operand_left s e o)) (λ i. operand_ends e o))

  call_good : (here : List Laid) (q : Place) (e : Tree) (fs : List Frame) (ys zs : List Laid) → FramesText fs xs ys → Text e ys zs → sign symbols.OpenParenthesis zs r → FramesFit fs → Good xs here r (call_step e fs)
  call_good here q (tree.Name at n) fs ys zs F t a h = want_good xs here r (frame.Call n at NoTrees) fs ys F (zs, t, (r, a, refl)) tt h
  call_good here q (tree.Qualified at n NoTrees) fs ys zs F t a h =
      want_good xs here r (frame.QualifiedCall n at NoTrees) fs ys F (zs, subst (λ w. QualifiedName at n ys w) t.2 t.1, (r, a, refl)) tt h
  call_good here q e fs ys zs F t a h = tt

  instance_good : (here : List Laid) (e : Tree) (fs : List Frame) (ys zs : List Laid) → FramesText fs xs ys → Text e ys zs → sign symbols.Exclamation zs r → FramesFit fs → Good xs here r (instance_step e fs)
  instance_good here (tree.Name at i) fs ys zs F t a h = ((ys, F, (zs, t, a)), h, tt)
  instance_good here e fs ys zs F t a h = tt

  operator_good : (s : Symbol) (o : Option InfixOperator) (q : Place) (fs : List Frame) (e : Tree) (ys : List Laid) (other : Stepped) → SymbolOf s o → FramesText fs xs ys → Text e ys (laid_symbol s q ∷ r) → FramesFit fs → IsOperand e → Fits e → Good xs (laid_symbol s q ∷ r) r other → Good xs (laid_symbol s q ∷ r) r (infix_or o q fs e other)
  operator_good s (Some c) q fs e ys other i F t h o k d =
      subst (λ z. Text e ys (laid_symbol z q ∷ r) → Good xs (laid_symbol z q ∷ r) r (infix_step c q fs e)) i
      (λ u. infix_good xs r c q fs e ys F u h k (top_all fs (λ z. LeftAbove z e) (λ z. operand_left z e o)) (operand_right (infix_range c) e o)) t
  operator_good s None q fs e ys other i F t h o k d = d

  symbol_follows_good : (s : Symbol) (q : Place) (fs : List Frame) (e : Tree) (ys : List Laid) (other : Stepped) → FramesText fs xs ys → Text e ys (laid_symbol s q ∷ r) → FramesFit fs → IsOperand e → Fits e → Good xs (laid_symbol s q ∷ r) r other → Good xs (laid_symbol s q ∷ r) r (symbol_follows s q fs e other)
  symbol_follows_good symbols.Prime q fs e ys other F t h o k d =
      stepped_good xs (laid_symbol symbols.Prime q ∷ r) r fs (with_step e q tree.Prime) ys F h (step_good e q tree.Prime ys (laid_symbol symbols.Prime q ∷ r) r o k tt t refl)
  symbol_follows_good symbols.OpenBracket q fs e ys other F t h o k d =
      want_good xs (laid_symbol symbols.OpenBracket q ∷ r) r (frame.Index e q NoTrees) fs ys F (laid_symbol symbols.OpenBracket q ∷ r, t, (r, refl, refl)) (o, k, tt) h
  symbol_follows_good symbols.Dot q fs e ys other F t h o k d = ((ys, F, (laid_symbol symbols.Dot q ∷ r, t, refl)), h, (o, k))
  symbol_follows_good symbols.OpenParenthesis q fs e ys other F t h o k d =
      call_good (laid_symbol symbols.OpenParenthesis q ∷ r) q e fs ys (laid_symbol symbols.OpenParenthesis q ∷ r) F t (q, refl) h
  symbol_follows_good symbols.Exclamation q fs e ys other F t h o k d =
      instance_good (laid_symbol symbols.Exclamation q ∷ r) e fs ys (laid_symbol symbols.Exclamation q ∷ r) F t (q, refl) h
  symbol_follows_good s q fs e ys other F t h o k d = operator_good s (infix_of_symbol s) q fs e ys other (symbol_of s) F t h o k d

  kind_follows_good : (c : Kind) (q : Place) (fs : List Frame) (e : Tree) (ys : List Laid) (other : Stepped) → FramesText fs xs ys → Text e ys (laid c q ∷ r) → FramesFit fs → IsOperand e → Fits e → Good xs (laid c q ∷ r) r other → Good xs (laid c q ∷ r) r (kind_follows c q fs e other)
  kind_follows_good (kinds.Symbol s) q fs e ys other F t h o k d = symbol_follows_good s q fs e ys other F t h o k d
  kind_follows_good c q fs e ys other F t h o k d = d

  pub follows_good : (x : Laid) (fs : List Frame) (e : Tree) (ys : List Laid) → FramesText fs xs ys → Text e ys (x ∷ r) → FramesFit fs → IsOperand e → Fits e → Good xs (x ∷ r) r (follows x fs e)
  follows_good (Plain t) fs e ys F u h o k = kind_follows_good t.kind t.place fs e ys (behind (Plain t) fs e) F u h o k (behind_good (Plain t) fs e ys F u h o k)
  follows_good x fs e ys F u h o k = behind_good x fs e ys F u h o k
