-- Each row that is open behind an expression, ended by tokens so that its operators fit their ranges.
use Rattle.std.proofs.Common.{◌≡◌, ℕ, true, false, List, [], ◌∷◌, refl, sym, subst}
use Rattle.base_core.specs.declared.place.Place.{Place}
use Rattle.reading_trees.specs.declared.form.DefinitionForm.{DefinitionForm}
use Rattle.reading_trees.specs.declared.form.DefinitionForm.TheVariants as definition_forms
use Rattle.reading_trees.specs.declared.laid.Laid.{Laid}
use Rattle.reading_trees.specs.declared.laid.Laid.TheVariants.{ListClose}
use Rattle.reading_tokens.specs.declared.token.Kind.TheVariants as kinds
use Rattle.reading_tokens.specs.declared.token.Word.TheVariants as words
use Rattle.reading_tokens.specs.declared.token.Symbol.TheVariants as symbols
use Rattle.reading_trees.specs.Grammar.{token, Text, BoundsText}
use Rattle.reading_trees.specs.Fits.{Fits, LeftAbove, BoundsFit}
use Rattle.reading_trees.specs.Trees as tree
use Rattle.reading_trees.specs.Trees.{Tree, MoreTrees, MoreSteps, Bounds, MoreBounds, Fields, MoreFields, MoreChanges, MoreArms, MoreDefinitions}
use Rattle.reading_machine.specs.declared.frame.Action.{Action}
use Rattle.reading_machine.specs.declared.frame.Action.TheVariants as actions
use Rattle.reading_machine.specs.declared.frame.RecordKind.{RecordKind}
use Rattle.reading_machine.specs.declared.frame.RecordKind.TheVariants as records
use Rattle.reading_machine.specs.declared.frame.Scope.TheVariants as scopes
use Rattle.reading_machine.specs.declared.frame.Binder.{Binder}
use Rattle.reading_machine.specs.declared.frame.Binder.TheVariants as binders
use Rattle.reading_machine.specs.declared.frame.Frame.{Frame}
use Rattle.reading_machine.specs.declared.frame.Frame.TheVariants as frame
use Rattle.reading_machine.specs.Machine.{with_step, subscripted, of_records, parameters_of, form_of, body_of}
use Rattle.reading_machine.specs.OpenFits.{Top, BinderFits, FrameFits, in_binder, in_frame, FrameStands}
use Rattle.reading_machine.specs.OpenRows.{BinderText, FrameText}
use Rattle.reading_machine.proofs.Opened.{Defines}
use Rattle.reading_machine.proofs.Edges.{top_all, operand_left}
use Rattle.reading_machine.proofs.Rows.{step_good}
use Rattle.reading_machine.proofs.Closing.{definition_rest, definition_fits, unit_good}
use Rattle.reading_machine.proofs.OpenEnds.{start, a_sign, a_word, one, one_tree, Suits, suits, subscript_suits, path_of}
use Rattle.reading_machine.proofs.NoUnits.{different}

-- ---- tokens and trees

abbrev pub binder_closer : Binder → List Laid → List Laid
binder_closer (binders.Quantifier q at) r = a_sign symbols.Colon ∷ one ∷ r
binder_closer (binders.Function at) r = a_sign symbols.MapsTo ∷ one ∷ a_sign symbols.CloseBracket ∷ r
binder_closer (binders.Map at e) r = a_sign symbols.CloseBrace ∷ r
binder_closer (binders.Defined (scopes.Let at ds) n p q) r = a_sign symbols.CloseBracket ∷ a_sign symbols.Defined ∷ one ∷ a_word words.In ∷ one ∷ r
binder_closer (binders.Defined scopes.Unit n p q) r = a_sign symbols.CloseBracket ∷ a_sign symbols.Defined ∷ one ∷ r

-- what ends a row behind an expression, before the tokens r
abbrev pub closer : Frame → List Laid → List Laid
closer (frame.Parenthesis at) r = a_sign symbols.CloseParenthesis ∷ r
closer (frame.Call n at es) r = a_sign symbols.CloseParenthesis ∷ r
closer (frame.QualifiedCall n at es) r = a_sign symbols.CloseParenthesis ∷ r
closer (frame.Junction b at es) r = ListClose start ∷ r
closer (frame.Prefix o p) r = r
closer (frame.Infix o es p) r = r
closer (frame.Index e at es) r = a_sign symbols.CloseBracket ∷ r
closer (frame.Braces at es) r = a_sign symbols.CloseBrace ∷ r
closer (frame.MaybeFilter at n p q) r = a_sign symbols.Colon ∷ one ∷ a_sign symbols.CloseBrace ∷ r
closer (frame.FilterTest at n s) r = a_sign symbols.CloseBrace ∷ r
closer (frame.Tuple at es) r = a_sign symbols.CloseTuple ∷ r
closer (frame.Bracket at) r = a_sign symbols.Arrow ∷ one ∷ a_sign symbols.CloseBracket ∷ r
closer (frame.MaybeFunction at n p q) r = a_sign symbols.MapsTo ∷ one ∷ a_sign symbols.CloseBracket ∷ r
closer (frame.FunctionBody at bs) r = a_sign symbols.CloseBracket ∷ r
closer (frame.FunctionRange at s) r = a_sign symbols.CloseBracket ∷ r
closer (frame.Record k at hs n) r = a_sign symbols.CloseBracket ∷ r
closer (frame.BoundSet b ns) r = binder_closer b.binder r
closer (frame.ExceptIndex at e cs ss q es) r = a_sign symbols.CloseBracket ∷ a_sign symbols.Equal ∷ one ∷ a_sign symbols.CloseBracket ∷ r
closer (frame.ExceptValue at e cs ss) r = a_sign symbols.CloseBracket ∷ r
closer (frame.QuantifierBody q p bs) r = r
closer (frame.ChooseSet p n) r = a_sign symbols.Colon ∷ one ∷ r
closer (frame.ChooseBody p n s) r = r
closer (frame.IfTest p) r = a_word words.Then ∷ one ∷ a_word words.Else ∷ one ∷ r
closer (frame.IfThen p a) r = a_word words.Else ∷ one ∷ r
closer (frame.IfElse p a b) r = r
closer (frame.CaseTest p arms) r = a_sign symbols.Arrow ∷ one ∷ r
closer (frame.CaseValue p arms a) r = r
closer (frame.CaseOther p arms) r = r
closer (frame.DefinitionBody (scopes.Let at ds) n p form) r = a_word words.In ∷ one ∷ r
closer (frame.DefinitionBody scopes.Unit n p form) r = r
closer (frame.LetBody p ds) r = r
closer (frame.Subscript k at a) r = r
closer (frame.FairSubscript at) r = a_sign symbols.OpenParenthesis ∷ one ∷ a_sign symbols.CloseParenthesis ∷ r
closer (frame.FairBody at v) r = a_sign symbols.CloseParenthesis ∷ r

abbrev pub binder_closed : Binder → Bounds → Tree
binder_closed (binders.Quantifier q at) bs = tree.Quantified at q bs one_tree
binder_closed (binders.Function at) bs = tree.Function at bs one_tree
binder_closed (binders.Map at e) bs = tree.Map at e bs
binder_closed (binders.Defined (scopes.Let at ds) n p q) bs = tree.Let at (MoreDefinitions ds n p [] definition_forms.Function (tree.Function q bs one_tree)) one_tree
binder_closed (binders.Defined scopes.Unit n p q) bs = one_tree

-- the tree of the row; a unit's definition is none
abbrev pub closed : Frame → Tree → Tree
closed (frame.Parenthesis at) e = tree.Parenthesized at e
closed (frame.Call n at es) e = tree.Call at n (MoreTrees es e)
closed (frame.QualifiedCall n at es) e = tree.Qualified at n (MoreTrees es e)
closed (frame.Junction b at es) e = tree.Junction at b (MoreTrees es e)
closed (frame.Prefix o p) e = tree.Prefix p o e
closed (frame.Infix o es p) e = tree.Infix p o es e
closed (frame.Index d at es) e = with_step d at (tree.Index (MoreTrees es e))
closed (frame.Braces at es) e = tree.SetOf at (MoreTrees es e)
closed (frame.MaybeFilter at n p q) e = tree.Filter at n e one_tree
closed (frame.FilterTest at n d) e = tree.Filter at n d e
closed (frame.Tuple at es) e = tree.Tuple at (MoreTrees es e)
closed (frame.Bracket at) e = tree.FunctionSet at e one_tree
closed (frame.MaybeFunction at n p q) e = tree.Function at (MoreBounds tree.NoBounds (n ∷ []) e) one_tree
closed (frame.FunctionBody at bs) e = tree.Function at bs e
closed (frame.FunctionRange at d) e = tree.FunctionSet at d e
closed (frame.Record k at hs n) e = of_records k at (MoreFields hs n e)
closed (frame.BoundSet b ns) e = binder_closed b.binder (MoreBounds b.bounds ns e)
closed (frame.ExceptIndex at d cs ss p es) e = tree.Except at d (MoreChanges cs (MoreSteps ss p (tree.Index (MoreTrees es e))) one_tree)
closed (frame.ExceptValue at d cs ss) e = tree.Except at d (MoreChanges cs ss e)
closed (frame.QuantifierBody q p bs) e = tree.Quantified p q bs e
closed (frame.ChooseSet p n) e = tree.Choose p n e one_tree
closed (frame.ChooseBody p n d) e = tree.Choose p n d e
closed (frame.IfTest p) e = tree.If p e one_tree one_tree
closed (frame.IfThen p d) e = tree.If p d e one_tree
closed (frame.IfElse p d b) e = tree.If p d b e
closed (frame.CaseTest p arms) e = tree.Case p (MoreArms arms e one_tree)
closed (frame.CaseValue p arms d) e = tree.Case p (MoreArms arms d e)
closed (frame.CaseOther p arms) e = tree.CaseOther p arms e
closed (frame.DefinitionBody (scopes.Let at ds) n p form) e = tree.Let at (MoreDefinitions ds n p (parameters_of form) (form_of form) (body_of form e)) one_tree
closed (frame.DefinitionBody scopes.Unit n p form) e = e
closed (frame.LetBody p ds) e = tree.Let p ds e
closed (frame.Subscript k at d) e = subscripted k at d e
closed (frame.FairSubscript at) e = tree.Fairness at e one_tree
closed (frame.FairBody at v) e = tree.Fairness at v e

-- ---- what is closed is spelled and fits

-- the tree t stands between two points, in these frames
abbrev pub IsClosed : Tree → List Frame → List Laid → List Laid → Type 0
IsClosed t fs xs r = Text t xs r × Fits t × Top fs (λ s. LeftAbove s t)

any : (fs : List Frame) → Top fs (λ s. Unit {0})
any fs = top_all fs (λ s. Unit {0}) (λ s. tt)

module _ (fs : List Frame) (xs ys r : List Laid) where
  record_spells : (k : RecordKind) (at : Place) (hs : Fields) (n : List ℕ) (e : Tree) → FrameFits (frame.Record k at hs n) fs → Fits e → FrameText (frame.Record k at hs n) xs ys → Text e ys (a_sign symbols.CloseBracket ∷ r) → IsClosed (of_records k at (MoreFields hs n e)) fs xs r
  record_spells records.Record at hs n e h k a t =
      (((h.1, h.2), (a.0, a.1, (a_sign symbols.CloseBracket ∷ r, (a.2.0, a.2.1, (a.2.2.0, a.2.2.1, (ys, a.2.2.2, t))), (start, refl)))), (h.0, k), any fs)
  record_spells records.Set at hs n e h k a t =
      (((h.1, h.2), (a.0, a.1, (a_sign symbols.CloseBracket ∷ r, (a.2.0, a.2.1, (a.2.2.0, a.2.2.1, (ys, a.2.2.2, t))), (start, refl)))), (h.0, k), any fs)

  action_spells : (k : Action) (at : Place) (d e : Tree) → Fits d → Fits e → Suits e (frame.Subscript k at d ∷ fs) → FrameText (frame.Subscript k at d) xs ys → Text e ys r → IsClosed (subscripted k at d e) fs xs r
  action_spells actions.Box at d e h k u a t = ((u, (a.0, a.1, (a.2.0, a.2.1, (ys, a.2.2, t)))), (h, k), any fs)
  action_spells actions.Angle at d e h k u a t = ((u, (a.0, a.1, (a.2.0, a.2.1, (ys, a.2.2, t)))), (h, k), any fs)

  -- the bounds of a binder have ended
  binder_spells : (b : Binder) (bs : Bounds) → in_binder b ≡ false → BinderFits b fs → BoundsFit bs → BinderText b xs ys → BoundsText bs ys (binder_closer b r) → IsClosed (binder_closed b bs) fs xs r
  binder_spells (binders.Quantifier q at) bs i h k a t = ((ys, a, (a_sign symbols.Colon ∷ one ∷ r, t, (one ∷ r, (start, refl), refl))), (k, tt), any fs)
  binder_spells (binders.Function at) bs i h k a t =
      ((ys, a, (a_sign symbols.MapsTo ∷ one ∷ a_sign symbols.CloseBracket ∷ r, t, (one ∷ a_sign symbols.CloseBracket ∷ r, (start, refl), (a_sign symbols.CloseBracket ∷ r, refl, (start, refl))))), (k, tt), any fs)
  binder_spells (binders.Map at e) bs i h k a t = ((h.1, (a.0, a.1, (a.2.0, a.2.1, (ys, a.2.2, (a_sign symbols.CloseBrace ∷ r, t, (start, refl)))))), (h.0, k), any fs)
  binder_spells (binders.Defined (scopes.Let at ds) n p q) bs i h k a t =
      let r1 : List Laid = a_word words.In ∷ one ∷ r in let r2 : List Laid = one ∷ r1 in let r3 : List Laid = a_sign symbols.Defined ∷ r2 in (
        (a.1.0, a.1.1, (r1, (a.0, a.1.2, (a.2.0, a.2.1, (refl, (ys, a.2.2, (a_sign symbols.CloseBracket ∷ r3, t, (r3, (start, refl), (r2, (start, refl), refl))))))), (one ∷ r, (start, refl), refl))),
        ((h, (k, tt)), tt),
        any fs,
      )
  binder_spells (binders.Defined scopes.Unit n p q) bs i h k a t = absurd (different i)

module _ (fs : List Frame) (xs ys r : List Laid) where
  pub closed_spells : (f : Frame) (e : Tree) → in_frame f ≡ false → FrameFits f fs → Fits e → Suits e (f ∷ fs) → Top (f ∷ fs) (λ s. LeftAbove s e) → FrameText f xs ys → Text e ys (closer f r) → IsClosed (closed f e) fs xs r
  closed_spells (frame.Parenthesis at) e i h k u l a t = ((ys, a, (a_sign symbols.CloseParenthesis ∷ r, t, (start, refl))), k, any fs)
  closed_spells (frame.Call n at es) e i h k u l a t = ((a.0, a.1, (a.2.0, a.2.1, (a_sign symbols.CloseParenthesis ∷ r, (ys, a.2.2, t), (start, refl)))), (h, k), any fs)
  closed_spells (frame.QualifiedCall n at es) e i h k u l a t = ((a.0, a.1, (a.2.0, a.2.1, (a_sign symbols.CloseParenthesis ∷ r, (ys, a.2.2, t), (start, refl)))), (h, k), any fs)
  closed_spells (frame.Junction b at es) e i h k u l a t = ((a.0, a.1, (ListClose start ∷ r, (a.2.0, a.2.1, (ys, a.2.2, t)), (start, refl))), (h, k), any fs)
  closed_spells (frame.Prefix o p) e i h k u l a t = ((ys, a, t), (k, l), any fs)
  closed_spells (frame.Infix o es p) e i h k u l a t = ((a.0, a.1, (ys, a.2, t)), (h.0, k, l), h.1)
  closed_spells (frame.Index d at es) e i h k u l a t =
      let g = step_good d at (tree.Index (MoreTrees es e)) xs a.0 r h.0 h.1 (h.2, k) a.1 (a.2.0, a.2.1, (a_sign symbols.CloseBracket ∷ r, (ys, a.2.2, t), (start, refl))) in
      let c = with_step d at (tree.Index (MoreTrees es e)) in
      (g.0, g.2, top_all fs (λ s. LeftAbove s c) (λ s. operand_left s c g.1))
  closed_spells (frame.Braces at es) e i h k u l a t = ((a.0, a.1, (a_sign symbols.CloseBrace ∷ r, (ys, a.2, t), (start, refl))), (h, k), any fs)
  closed_spells (frame.MaybeFilter at n p q) e i h k u l a t =
      let r1 : List Laid = a_sign symbols.CloseBrace ∷ r in
      ((a.0, a.1, (a.2.0, (p, a.2.1), (ys, (q, a.2.2), (a_sign symbols.Colon ∷ one ∷ r1, t, (one ∷ r1, (start, refl), (r1, refl, (start, refl))))))), (k, tt), any fs)
  closed_spells (frame.FilterTest at n d) e i h k u l a t =
      ((a.0, a.1, (a.2.0, a.2.1, (a.2.2.0, a.2.2.1, (a.2.2.2.0, a.2.2.2.1, (ys, a.2.2.2.2, (a_sign symbols.CloseBrace ∷ r, t, (start, refl))))))), (h, k), any fs)
  closed_spells (frame.Tuple at es) e i h k u l a t = ((a.0, a.1, (a_sign symbols.CloseTuple ∷ r, (ys, a.2, t), (start, refl))), (h, k), any fs)
  closed_spells (frame.Bracket at) e i h k u l a t =
      let r1 : List Laid = a_sign symbols.CloseBracket ∷ r in
      ((ys, a, (a_sign symbols.Arrow ∷ one ∷ r1, t, (one ∷ r1, (start, refl), (r1, refl, (start, refl))))), (k, tt), any fs)
  closed_spells (frame.MaybeFunction at n p q) e i h k u l a t =
      let r1 : List Laid = a_sign symbols.CloseBracket ∷ r in
      ((a.0, a.1, (a_sign symbols.MapsTo ∷ one ∷ r1, (a.0, refl, (a.2.0, (p, a.2.1), (ys, (q, a.2.2), t))), (one ∷ r1, (start, refl), (r1, refl, (start, refl))))), ((tt, k), tt), any fs)
  closed_spells (frame.FunctionBody at bs) e i h k u l a t = ((a.0, a.1, (a.2.0, a.2.1, (ys, a.2.2, (a_sign symbols.CloseBracket ∷ r, t, (start, refl))))), (h, k), any fs)
  closed_spells (frame.FunctionRange at d) e i h k u l a t = ((a.0, a.1, (a.2.0, a.2.1, (ys, a.2.2, (a_sign symbols.CloseBracket ∷ r, t, (start, refl))))), (h, k), any fs)
  closed_spells (frame.Record c at hs n) e i h k u l a t = record_spells fs xs ys r c at hs n e h k a t
  closed_spells (frame.BoundSet b ns) e i h k u l a t = binder_spells fs xs a.1.0 r b.binder (MoreBounds b.bounds ns e) i h.0 (h.1, k) a.1.1 (a.0, a.1.2, (a.2.0, a.2.1, (ys, a.2.2, t)))
  closed_spells (frame.ExceptIndex at d cs ss p es) e i h k u l a t =
      let n = tree.Index (MoreTrees es e) in let r1 : List Laid = a_sign symbols.CloseBracket ∷ r in let r2 : List Laid = one ∷ r1 in let r3 : List Laid = a_sign symbols.Equal ∷ r2 in (
        (
          a.1.1.0,
          a.1.1.1,
          (
            a.1.1.2.0,
            a.1.1.2.1,
            (
              a.1.1.2.2.0,
              a.1.1.2.2.1,
              (
                r1,
                (
                  a.1.0,
                  a.1.1.2.2.2,
                  (
                    path_of ss p n h.3 tt,
                    (a.1.2.0, a.1.2.1, (r3, (a.0, a.1.2.2, (a.2.0, a.2.1, (a_sign symbols.CloseBracket ∷ r3, (ys, a.2.2, t), (start, refl)))), (r2, (start, refl), refl))),
                  ),
                ),
                (start, refl),
              ),
            ),
          ),
        ),
        (h.0, (h.1, (h.2, (h.4, k)), tt)),
        any fs,
      )
  closed_spells (frame.ExceptValue at d cs ss) e i h k u l a t = (
    (
      a.1.1.0,
      a.1.1.1,
      (
        a.1.1.2.0,
        a.1.1.2.1,
        (
          a.1.1.2.2.0,
          a.1.1.2.2.1,
          (a_sign symbols.CloseBracket ∷ r, (a.1.0, a.1.1.2.2.2, (h.3, (a.1.2.0, a.1.2.1, (a.0, a.1.2.2, (ys, a.2, t))))), (start, refl)),
        ),
      ),
    ),
    (h.0, (h.1, h.2, k)),
    any fs,
  )
  closed_spells (frame.QuantifierBody q p bs) e i h k u l a t = ((a.0, a.1, (a.2.0, a.2.1, (ys, a.2.2, t))), (h, k), any fs)
  closed_spells (frame.ChooseSet p n) e i h k u l a t = ((a.0, a.1, (a.2.0, a.2.1, (ys, a.2.2, (a_sign symbols.Colon ∷ one ∷ r, t, (one ∷ r, (start, refl), refl))))), (k, tt), any fs)
  closed_spells (frame.ChooseBody p n d) e i h k u l a t = ((a.0, a.1, (a.2.0, a.2.1, (a.2.2.0, a.2.2.1, (a.2.2.2.0, a.2.2.2.1, (ys, a.2.2.2.2, t))))), (h, k), any fs)
  closed_spells (frame.IfTest p) e i h k u l a t =
      let r1 : List Laid = a_word words.Else ∷ one ∷ r in
      ((ys, a, (a_word words.Then ∷ one ∷ r1, t, (one ∷ r1, (start, refl), (r1, refl, (one ∷ r, (start, refl), refl))))), (k, tt, tt), any fs)
  closed_spells (frame.IfThen p d) e i h k u l a t = ((a.0, a.1, (a.2.0, a.2.1, (ys, a.2.2, (a_word words.Else ∷ one ∷ r, t, (one ∷ r, (start, refl), refl))))), (h, k, tt), any fs)
  closed_spells (frame.IfElse p d b) e i h k u l a t = ((a.0, a.1, (a.2.0, a.2.1, (a.2.2.0, a.2.2.1, (a.2.2.2.0, a.2.2.2.1, (ys, a.2.2.2.2, t))))), (h.0, h.1, k), any fs)
  closed_spells (frame.CaseTest p arms) e i h k u l a t = ((a.0, a.1, (ys, a.2, (a_sign symbols.Arrow ∷ one ∷ r, t, (one ∷ r, (start, refl), refl)))), (h, k, tt), any fs)
  closed_spells (frame.CaseValue p arms d) e i h k u l a t = ((a.0, a.1, (a.2.0, a.2.1, (a.2.2.0, a.2.2.1, (ys, a.2.2.2, t)))), (h.0, h.1, k), any fs)
  closed_spells (frame.CaseOther p arms) e i h k u l a t = ((a.0, a.1, (a.2.0, a.2.1, (a.2.2.0, a.2.2.1, (ys, a.2.2.2, t)))), (h, k), any fs)
  closed_spells (frame.DefinitionBody (scopes.Let at ds) n p form) e i h k u l a t =
      let r1 : List Laid = a_word words.In ∷ one ∷ r in (
        (a.1.0, a.1.1, (r1, (a.0, a.1.2, (a.2.0, a.2.1, definition_rest form e a.2.0 a.2.2.0 ys r1 a.2.2.1 a.2.2.2 t)), (one ∷ r, (start, refl), refl))),
        ((h.0, definition_fits form e h.1 k), tt),
        any fs,
      )
  closed_spells (frame.DefinitionBody scopes.Unit n p form) e i h k u l a t = absurd (different i)
  closed_spells (frame.LetBody p ds) e i h k u l a t = ((a.0, a.1, (a.2.0, a.2.1, (ys, a.2.2, t))), (h, k), any fs)
  closed_spells (frame.Subscript c at d) e i h k u l a t = action_spells fs xs ys r c at d e h k u a t
  closed_spells (frame.FairSubscript at) e i h k u l a t =
      let r1 : List Laid = a_sign symbols.CloseParenthesis ∷ r in
      ((u, (ys, a, (a_sign symbols.OpenParenthesis ∷ one ∷ r1, t, (one ∷ r1, (start, refl), (r1, refl, (start, refl)))))), (k, tt), any fs)
  closed_spells (frame.FairBody at v) e i h k u l a t = ((h.0, (a.0, a.1, (a.2.0, a.2.1, (ys, a.2.2, (a_sign symbols.CloseParenthesis ∷ r, t, (start, refl)))))), (h.1, k), any fs)

-- a tree that may stand in the frames
pub closed_suits : (f : Frame) (fs : List Frame) (e : Tree) → FrameStands f fs → Suits (closed f e) fs
closed_suits (frame.Parenthesis at) fs e h = subscript_suits (tree.Parenthesized at e) fs tt
closed_suits (frame.Tuple at es) fs e h = subscript_suits (tree.Tuple at (MoreTrees es e)) fs tt
closed_suits f fs e h = suits (closed f e) fs h

-- a unit's definition has ended
pub unit_spells : (f : Frame) (fs : List Frame) (e : Tree) (xs ys zs : List Laid) → fs ≡ [] → in_frame f ≡ true → FrameFits f fs → Fits e → xs ≡ ys → FrameText f ys zs → Text e zs (closer f [])
    → (n : List ℕ) × (p : Place) × (ns : List (List ℕ)) × (form : DefinitionForm) × (d : Tree) × Defines n p ns form d xs []
unit_spells (frame.DefinitionBody scopes.Unit n p form) fs e xs ys zs q i h k j a t =
    (n, p, parameters_of form, form_of form, body_of form e, unit_good xs [] [] n p form [] e ys zs refl j a t h.1 k)
unit_spells (frame.BoundSet b ns) fs e xs ys zs q i h k j a t =
    bounded b.binder (MoreBounds b.bounds ns e) xs a.1.0 i (h.1, k) (subst (λ v. BinderText b.binder v a.1.0) (sym j) a.1.1) (a.0, a.1.2, (a.2.0, a.2.1, (zs, a.2.2, t)))
  where
    bounded : (b : Binder) (bs : Bounds) (xs ys : List Laid) → in_binder b ≡ true → BoundsFit bs → BinderText b xs ys → BoundsText bs ys (binder_closer b []) → (n : List ℕ) × (p : Place) × (ns : List (List ℕ)) × (form : DefinitionForm) × (d : Tree) × Defines n p ns form d xs []
    bounded (binders.Defined scopes.Unit n p q) bs xs ys i k a t =
        let r1 : List Laid = one ∷ [] in let r2 : List Laid = a_sign symbols.Defined ∷ r1 in (
          n,
          p,
          [],
          definition_forms.Function,
          tree.Function q bs one_tree,
          ((a.2.0, subst (λ v. token p (kinds.Name n) v a.2.0) (sym a.1) a.2.1, (refl, (ys, a.2.2, (a_sign symbols.CloseBracket ∷ r2, t, (r2, (start, refl), (r1, (start, refl), refl)))))), (k, tt)),
        )
    bounded (binders.Defined (scopes.Let at ds) n p q) bs xs ys i k a t = cc
    bounded (binders.Quantifier q at) bs xs ys i k a t = cc
    bounded (binders.Function at) bs xs ys i k a t = cc
    bounded (binders.Map at e) bs xs ys i k a t = cc
unit_spells f fs e xs ys zs q i h k j a t = absurd (different (sym i))
