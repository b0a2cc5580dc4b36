-- Tokens that end what is open behind an expression. The ranges of operators play no part.
use Rattle.std.proofs.Common.{◌≡◌, ℕ, false, List, [], ◌∷◌, refl, sym, subst}
use Rattle.std.specs.Prelude.{pos}
use Rattle.base_core.specs.declared.place.Place.{Place}
use Rattle.reading_trees.specs.declared.form.DefinitionForm.TheVariants as definition_forms
use Rattle.reading_trees.specs.declared.laid.Laid.{Laid}
use Rattle.reading_trees.specs.declared.laid.Laid.TheVariants.{Plain, ListClose}
use Rattle.reading_tokens.specs.declared.token.Kind.{Kind}
use Rattle.reading_tokens.specs.declared.token.Kind.TheVariants as kinds
use Rattle.reading_tokens.specs.declared.token.Word.{Word}
use Rattle.reading_tokens.specs.declared.token.Word.TheVariants as words
use Rattle.reading_tokens.specs.declared.token.Symbol.{Symbol}
use Rattle.reading_tokens.specs.declared.token.Symbol.TheVariants as symbols
use Rattle.reading_trees.specs.Grammar.{Text, StepText, BoundsText, IsPrimary, IsSubscript, IsKey, IsPath, IsNew, AreOnce, begins_member}
use Rattle.reading_trees.specs.Trees as tree
use Rattle.reading_trees.specs.Trees.{Tree, MoreTrees, Step, Steps, NoSteps, MoreSteps, Bounds, MoreBounds, Fields, MoreFields, MoreChanges, MoreArms, MoreDefinitions}
use Rattle.reading_machine.specs.declared.frame.Action.TheVariants as actions
use Rattle.reading_machine.specs.declared.frame.RecordKind.{RecordKind}
use Rattle.reading_machine.specs.declared.frame.RecordKind.TheVariants as records
use Rattle.reading_machine.specs.declared.frame.Scope.TheVariants as scopes
use Rattle.reading_machine.specs.declared.frame.Binder.{Binder}
use Rattle.reading_machine.specs.declared.frame.Binder.TheVariants as binders
use Rattle.reading_machine.specs.declared.frame.Frame.{Frame}
use Rattle.reading_machine.specs.declared.frame.Frame.TheVariants as frame
use Rattle.reading_machine.specs.Machine.{with_step, parameters_of, form_of, body_of}
use Rattle.reading_machine.specs.OpenFits.{IsOperand, AreKeys, BinderFits, FramesFit, Open}
use Rattle.reading_machine.specs.OpenRows.{BinderText, FrameText, FramesText}
use Rattle.reading_machine.proofs.Closing.{definition_rest}
use Rattle.reading_machine.proofs.FlatStates.{BinderInLet, FramesKept}

-- ---- tokens

abbrev pub start : Place
start = record { file = 0; line = 0; col = 0 }

abbrev pub a_kind : Kind → Laid
a_kind k = Plain (record { kind = k; place = start })

abbrev pub a_sign : Symbol → Laid
a_sign s = a_kind (kinds.Symbol s)

abbrev pub a_word : Word → Laid
a_word w = a_kind (kinds.Word w)

-- a number, which is an expression
abbrev pub one : Laid
one = a_kind (kinds.Number (pos 1))

abbrev pub one_tree : Tree
one_tree = tree.Number start (pos 1)

abbrev pub binder_ends : Binder → List Laid → List Laid
binder_ends (binders.Quantifier q at) r = a_sign symbols.Colon ∷ one ∷ r
binder_ends (binders.Function at) r = a_sign symbols.MapsTo ∷ one ∷ a_sign symbols.CloseBracket ∷ r
binder_ends (binders.Map at e) r = a_sign symbols.CloseBrace ∷ r
binder_ends (binders.Defined s n p q) r = a_sign symbols.CloseBracket ∷ a_sign symbols.Defined ∷ one ∷ a_word words.In ∷ one ∷ r

-- what ends the frames behind an expression
abbrev pub ends : List Frame → List Laid
ends [] = []
ends (frame.Parenthesis at ∷ fs) = a_sign symbols.CloseParenthesis ∷ ends fs
ends (frame.Call n at es ∷ fs) = a_sign symbols.CloseParenthesis ∷ ends fs
ends (frame.QualifiedCall n at es ∷ fs) = a_sign symbols.CloseParenthesis ∷ ends fs
ends (frame.Junction b at es ∷ fs) = ListClose start ∷ ends fs
ends (frame.Prefix o p ∷ fs) = ends fs
ends (frame.Infix o es p ∷ fs) = ends fs
ends (frame.Index e at es ∷ fs) = a_sign symbols.CloseBracket ∷ ends fs
ends (frame.Braces at es ∷ fs) = a_sign symbols.CloseBrace ∷ ends fs
ends (frame.MaybeFilter at n p q ∷ fs) = a_sign symbols.Colon ∷ one ∷ a_sign symbols.CloseBrace ∷ ends fs
ends (frame.FilterTest at n s ∷ fs) = a_sign symbols.CloseBrace ∷ ends fs
ends (frame.Tuple at es ∷ fs) = a_sign symbols.CloseTuple ∷ ends fs
ends (frame.Bracket at ∷ fs) = a_sign symbols.Arrow ∷ one ∷ a_sign symbols.CloseBracket ∷ ends fs
ends (frame.MaybeFunction at n p q ∷ fs) = a_sign symbols.MapsTo ∷ one ∷ a_sign symbols.CloseBracket ∷ ends fs
ends (frame.FunctionBody at bs ∷ fs) = a_sign symbols.CloseBracket ∷ ends fs
ends (frame.FunctionRange at s ∷ fs) = a_sign symbols.CloseBracket ∷ ends fs
ends (frame.Record k at hs n ∷ fs) = a_sign symbols.CloseBracket ∷ ends fs
ends (frame.BoundSet b ns ∷ fs) = binder_ends b.binder (ends fs)
ends (frame.ExceptIndex at e cs ss q es ∷ fs) = a_sign symbols.CloseBracket ∷ a_sign symbols.Equal ∷ one ∷ a_sign symbols.CloseBracket ∷ ends fs
ends (frame.ExceptValue at e cs ss ∷ fs) = a_sign symbols.CloseBracket ∷ ends fs
ends (frame.QuantifierBody q p bs ∷ fs) = ends fs
ends (frame.ChooseSet p n ∷ fs) = a_sign symbols.Colon ∷ one ∷ ends fs
ends (frame.ChooseBody p n s ∷ fs) = ends fs
ends (frame.IfTest p ∷ fs) = a_word words.Then ∷ one ∷ a_word words.Else ∷ one ∷ ends fs
ends (frame.IfThen p a ∷ fs) = a_word words.Else ∷ one ∷ ends fs
ends (frame.IfElse p a b ∷ fs) = ends fs
ends (frame.CaseTest p arms ∷ fs) = a_sign symbols.Arrow ∷ one ∷ ends fs
ends (frame.CaseValue p arms a ∷ fs) = ends fs
ends (frame.CaseOther p arms ∷ fs) = ends fs
ends (frame.DefinitionBody s n p form ∷ fs) = a_word words.In ∷ one ∷ ends fs
ends (frame.LetBody p ds ∷ fs) = ends fs
ends (frame.Subscript k at a ∷ fs) = ends fs
ends (frame.FairSubscript at ∷ fs) = a_sign symbols.OpenParenthesis ∷ one ∷ a_sign symbols.CloseParenthesis ∷ ends fs
ends (frame.FairBody at v ∷ fs) = a_sign symbols.CloseParenthesis ∷ ends fs

-- ---- what the frames' rows ask for

abbrev pub BinderSound : Binder → Type 0
BinderSound (binders.Map at e) = begins_member e ≡ false
BinderSound _ = Unit {0}

abbrev pub FrameSound : Frame → Type 0
FrameSound (frame.Index e at es) = IsOperand e
FrameSound (frame.Record k at hs n) = AreOnce hs × IsNew n hs
FrameSound (frame.BoundSet b ns) = BinderSound b.binder
FrameSound (frame.ExceptIndex at e cs ss q es) = AreKeys ss
FrameSound (frame.ExceptValue at e cs ss) = IsPath ss
FrameSound (frame.FairBody at v) = IsSubscript v
FrameSound _ = Unit {0}

abbrev pub FramesSound : List Frame → Type 0
FramesSound [] = Unit {0}
FramesSound (f ∷ fs) = FrameSound f × FramesSound fs

-- an expression that may stand there
abbrev pub Suits : Tree → List Frame → Type 0
Suits e (frame.Subscript k at a ∷ fs) = IsSubscript e
Suits e (frame.FairSubscript at ∷ fs) = IsSubscript e
Suits e _ = Unit {0}

pub suits : (e : Tree) (fs : List Frame) → Open fs → Suits e fs
suits e [] o = tt
suits e (frame.Subscript k at a ∷ fs) o = absurd o
suits e (frame.FairSubscript at ∷ fs) o = absurd o
suits e (f ∷ fs) o = tt

pub subscript_suits : (e : Tree) (fs : List Frame) → IsSubscript e → Suits e fs
subscript_suits e [] i = tt
subscript_suits e (frame.Subscript k at a ∷ fs) i = i
subscript_suits e (frame.FairSubscript at ∷ fs) i = i
subscript_suits e (f ∷ fs) i = tt

-- ---- parts

pub path_of : (ss : Steps) (p : Place) (s : Step) → AreKeys ss → IsKey s → IsPath (MoreSteps ss p s)
path_of NoSteps p s a b = b
path_of (MoreSteps ss q t) p s a b = (path_of ss q t a.0 a.1, b)

stepped : (e : Tree) (at : Place) (t : Step) (xs ys zs : List Laid) → IsPrimary e → Text e xs ys → StepText at t ys zs → Text (tree.Postfix at e NoSteps t) xs zs
stepped e at t xs ys zs p a b = (p, (ys, a, (ys, refl, b)))

pub step_text : (e : Tree) (q : Place) (t : Step) (xs ys zs : List Laid) → IsOperand e → Text e xs ys → StepText q t ys zs → Text (with_step e q t) xs zs
step_text (tree.Postfix p e ss s) q t xs ys zs o a b = (a.0, (a.1.0, a.1.1, (ys, (a.1.2.0, a.1.2.1, a.1.2.2), b)))
step_text (tree.Prefix at o e) q t xs ys zs i a b = absurd i
step_text (tree.Infix at o es e) q t xs ys zs i a b = absurd i
step_text (tree.Quantified at c bs e) q t xs ys zs i a b = absurd i
step_text (tree.Choose at n s e) q t xs ys zs i a b = absurd i
step_text (tree.If at p e f) q t xs ys zs i a b = absurd i
step_text (tree.Case at arms) q t xs ys zs i a b = absurd i
step_text (tree.CaseOther at arms e) q t xs ys zs i a b = absurd i
step_text (tree.Let at ds e) q t xs ys zs i a b = absurd i
step_text e q t xs ys zs i a b = stepped e q t xs ys zs tt a b

-- ---- a tree from the beginning on

pub record Ending (xs : List Laid) : Type 0 where
  pub tree : Tree
  pub text : Text tree xs []

-- the text of a tree from one point up to another
record Between (xs ys : List Laid) : Type 0 where
  pub tree : Tree
  pub text : Text tree xs ys

record_ends : (k : RecordKind) (at : Place) (hs : Fields) (n : List ℕ) (e : Tree) (xs ys r : List Laid) → AreOnce hs × IsNew n hs → FrameText (frame.Record k at hs n) xs ys → Text e ys (a_sign symbols.CloseBracket ∷ r) → Between xs r
record_ends records.Record at hs n e xs ys r s a t =
    record { tree = tree.Record at (MoreFields hs n e); text = ((s.0, s.1), (a.0, a.1, (a_sign symbols.CloseBracket ∷ r, (a.2.0, a.2.1, (a.2.2.0, a.2.2.1, (ys, a.2.2.2, t))), (start, refl)))) }
record_ends records.Set at hs n e xs ys r s a t =
    record { tree = tree.RecordSet at (MoreFields hs n e); text = ((s.0, s.1), (a.0, a.1, (a_sign symbols.CloseBracket ∷ r, (a.2.0, a.2.1, (a.2.2.0, a.2.2.1, (ys, a.2.2.2, t))), (start, refl)))) }

-- the bounds of a binder have ended
binder_closed : (b : Binder) (bs : Bounds) (xs ys r : List Laid) → BinderSound b → BinderInLet b → BinderText b xs ys → BoundsText bs ys (binder_ends b r) → Between xs r
binder_closed (binders.Quantifier q at) bs xs ys r s k a t =
    record { tree = tree.Quantified at q bs one_tree; text = (ys, a, (binder_ends (binders.Quantifier q at) r, t, (one ∷ r, (start, refl), refl))) }
binder_closed (binders.Function at) bs xs ys r s k a t =
    record {
      tree = tree.Function at bs one_tree;
      text = (ys, a, (binder_ends (binders.Function at) r, t, (one ∷ a_sign symbols.CloseBracket ∷ r, (start, refl), (a_sign symbols.CloseBracket ∷ r, refl, (start, refl)))));
    }
binder_closed (binders.Map at e) bs xs ys r s k a t =
    record { tree = tree.Map at e bs; text = (s, (a.0, a.1, (a.2.0, a.2.1, (ys, a.2.2, (a_sign symbols.CloseBrace ∷ r, t, (start, refl)))))) }
binder_closed (binders.Defined (scopes.Let at ds) n p q) bs xs ys r s k a t =
    record {
      tree = tree.Let at (MoreDefinitions ds n p [] definition_forms.Function (tree.Function q bs one_tree)) one_tree;
      text = (
        a.1.0,
        a.1.1,
        (
          a_word words.In ∷ one ∷ r,
          (
            a.0,
            a.1.2,
            (
              a.2.0,
              a.2.1,
              (
                refl,
                (
                  ys,
                  a.2.2,
                  (
                    a_sign symbols.CloseBracket ∷ a_sign symbols.Defined ∷ one ∷ a_word words.In ∷ one ∷ r,
                    t,
                    (a_sign symbols.Defined ∷ one ∷ a_word words.In ∷ one ∷ r, (start, refl), (one ∷ a_word words.In ∷ one ∷ r, (start, refl), refl)),
                  ),
                ),
              ),
            ),
          ),
          (one ∷ r, (start, refl), refl),
        ),
      );
    }
binder_closed (binders.Defined scopes.Unit n p q) bs xs ys r s k a t = absurd k

-- an expression and what ends the frames are the text of a tree
pub close : (fs : List Frame) → FramesKept fs → FramesSound fs → (e : Tree) → Suits e fs → (xs ys : List Laid) → FramesText fs xs ys → Text e ys (ends fs) → Ending xs
close [] k s e u xs ys F t = record { tree = e; text = subst (λ w. Text e w []) (sym F) t }
close (frame.Parenthesis at ∷ fs) k s e u xs ys F t =
    close fs k.1 s.1 (tree.Parenthesized at e) (subscript_suits (tree.Parenthesized at e) fs tt) xs F.0 F.1 (ys, F.2, (a_sign symbols.CloseParenthesis ∷ ends fs, t, (start, refl)))
close (frame.Call n at es ∷ fs) k s e u xs ys F t =
    let a = F.2 in
    close fs k.1 s.1 (tree.Call at n (MoreTrees es e)) (suits (tree.Call at n (MoreTrees es e)) fs k.0) xs F.0 F.1
    (a.0, a.1, (a.2.0, a.2.1, (a_sign symbols.CloseParenthesis ∷ ends fs, (ys, a.2.2, t), (start, refl))))
close (frame.QualifiedCall n at es ∷ fs) k s e u xs ys F t =
    let a = F.2 in
    close fs k.1 s.1 (tree.Qualified at n (MoreTrees es e)) (suits (tree.Qualified at n (MoreTrees es e)) fs k.0) xs F.0 F.1
    (a.0, a.1, (a.2.0, a.2.1, (a_sign symbols.CloseParenthesis ∷ ends fs, (ys, a.2.2, t), (start, refl))))
close (frame.Junction b at es ∷ fs) k s e u xs ys F t =
    let a = F.2 in
    close fs k.1 s.1 (tree.Junction at b (MoreTrees es e)) (suits (tree.Junction at b (MoreTrees es e)) fs k.0) xs F.0 F.1
    (a.0, a.1, (ListClose start ∷ ends fs, (a.2.0, a.2.1, (ys, a.2.2, t)), (start, refl)))
close (frame.Prefix o p ∷ fs) k s e u xs ys F t = close fs k.1 s.1 (tree.Prefix p o e) (suits (tree.Prefix p o e) fs k.0) xs F.0 F.1 (ys, F.2, t)
close (frame.Infix o es p ∷ fs) k s e u xs ys F t = close fs k.1 s.1 (tree.Infix p o es e) (suits (tree.Infix p o es e) fs k.0.0) xs F.0 F.1 (F.2.0, F.2.1, (ys, F.2.2, t))
close (frame.Index d at es ∷ fs) k s e u xs ys F t =
    let a = F.2 in let i = tree.Index (MoreTrees es e) in
    close fs k.1 s.1 (with_step d at i) (suits (with_step d at i) fs k.0) xs F.0 F.1
    (step_text d at i F.0 a.0 (ends fs) s.0 a.1 (a.2.0, a.2.1, (a_sign symbols.CloseBracket ∷ ends fs, (ys, a.2.2, t), (start, refl))))
close (frame.Braces at es ∷ fs) k s e u xs ys F t =
    let a = F.2 in
    close fs k.1 s.1 (tree.SetOf at (MoreTrees es e)) (suits (tree.SetOf at (MoreTrees es e)) fs k.0) xs F.0 F.1
    (a.0, a.1, (a_sign symbols.CloseBrace ∷ ends fs, (ys, a.2, t), (start, refl)))
close (frame.MaybeFilter at n p q ∷ fs) k s e u xs ys F t =
    let a = F.2 in
    close fs k.1 s.1 (tree.Filter at n e one_tree) (suits (tree.Filter at n e one_tree) fs k.0) xs F.0 F.1
    (a.0, a.1, (a.2.0, (p, a.2.1), (ys, (q, a.2.2), (ends (frame.MaybeFilter at n p q ∷ fs), t, (one ∷ a_sign symbols.CloseBrace ∷ ends fs, (start, refl), (a_sign symbols.CloseBrace ∷ ends fs, refl, (start, refl)))))))
close (frame.FilterTest at n d ∷ fs) k s e u xs ys F t =
    let a = F.2 in
    close fs k.1 s.1 (tree.Filter at n d e) (suits (tree.Filter at n d e) fs k.0) xs F.0 F.1
    (a.0, a.1, (a.2.0, a.2.1, (a.2.2.0, a.2.2.1, (a.2.2.2.0, a.2.2.2.1, (ys, a.2.2.2.2, (a_sign symbols.CloseBrace ∷ ends fs, t, (start, refl)))))))
close (frame.Tuple at es ∷ fs) k s e u xs ys F t =
    let a = F.2 in
    close fs k.1 s.1 (tree.Tuple at (MoreTrees es e)) (subscript_suits (tree.Tuple at (MoreTrees es e)) fs tt) xs F.0 F.1
    (a.0, a.1, (a_sign symbols.CloseTuple ∷ ends fs, (ys, a.2, t), (start, refl)))
close (frame.Bracket at ∷ fs) k s e u xs ys F t =
    close fs k.1 s.1 (tree.FunctionSet at e one_tree) (suits (tree.FunctionSet at e one_tree) fs k.0) xs F.0 F.1
    (ys, F.2, (ends (frame.Bracket at ∷ fs), t, (one ∷ a_sign symbols.CloseBracket ∷ ends fs, (start, refl), (a_sign symbols.CloseBracket ∷ ends fs, refl, (start, refl)))))
close (frame.MaybeFunction at n p q ∷ fs) k s e u xs ys F t =
    let a = F.2 in let bs = MoreBounds tree.NoBounds (n ∷ []) e in
    close fs k.1 s.1 (tree.Function at bs one_tree) (suits (tree.Function at bs one_tree) fs k.0) xs F.0 F.1 (
      a.0,
      a.1,
      (
        ends (frame.MaybeFunction at n p q ∷ fs),
        (a.0, refl, (a.2.0, (p, a.2.1), (ys, (q, a.2.2), t))),
        (one ∷ a_sign symbols.CloseBracket ∷ ends fs, (start, refl), (a_sign symbols.CloseBracket ∷ ends fs, refl, (start, refl))),
      ),
    )
close (frame.FunctionBody at bs ∷ fs) k s e u xs ys F t =
    let a = F.2 in
    close fs k.1 s.1 (tree.Function at bs e) (suits (tree.Function at bs e) fs k.0) xs F.0 F.1
    (a.0, a.1, (a.2.0, a.2.1, (ys, a.2.2, (a_sign symbols.CloseBracket ∷ ends fs, t, (start, refl)))))
close (frame.FunctionRange at d ∷ fs) k s e u xs ys F t =
    let a = F.2 in
    close fs k.1 s.1 (tree.FunctionSet at d e) (suits (tree.FunctionSet at d e) fs k.0) xs F.0 F.1
    (a.0, a.1, (a.2.0, a.2.1, (ys, a.2.2, (a_sign symbols.CloseBracket ∷ ends fs, t, (start, refl)))))
close (frame.Record c at hs n ∷ fs) k s e u xs ys F t =
    let b = record_ends c at hs n e F.0 ys (ends fs) s.0 F.2 t in close fs k.1 s.1 b.tree (suits b.tree fs k.0) xs F.0 F.1 b.text
close (frame.BoundSet b ns ∷ fs) k s e u xs ys F t =
    let a = F.2 in
    let c = binder_closed b.binder (MoreBounds b.bounds ns e) F.0 a.1.0 (ends fs) s.0 k.0.1 a.1.1 (a.0, a.1.2, (a.2.0, a.2.1, (ys, a.2.2, t))) in
    close fs k.1 s.1 c.tree (suits c.tree fs k.0.0) xs F.0 F.1 c.text
close (frame.ExceptIndex at d cs ss p es ∷ fs) k s e u xs ys F t =
    let a = F.2 in let i = tree.Index (MoreTrees es e) in let r : List Laid = a_sign symbols.CloseBracket ∷ ends fs in
    let c = tree.Except at d (MoreChanges cs (MoreSteps ss p i) one_tree) in
    close fs k.1 s.1 c (suits c fs k.0) xs F.0 F.1 (
      a.1.1.0,
      a.1.1.1,
      (
        a.1.1.2.0,
        a.1.1.2.1,
        (
          a.1.1.2.2.0,
          a.1.1.2.2.1,
          (
            r,
            (
              a.1.0,
              a.1.1.2.2.2,
              (
                path_of ss p i s.0 tt,
                (
                  a.1.2.0,
                  a.1.2.1,
                  (
                    a_sign symbols.Equal ∷ one ∷ r,
                    (a.0, a.1.2.2, (a.2.0, a.2.1, (ends (frame.ExceptIndex at d cs ss p es ∷ fs), (ys, a.2.2, t), (start, refl)))),
                    (one ∷ r, (start, refl), refl),
                  ),
                ),
              ),
            ),
            (start, refl),
          ),
        ),
      ),
    )
close (frame.ExceptValue at d cs ss ∷ fs) k s e u xs ys F t =
    let a = F.2 in let c = tree.Except at d (MoreChanges cs ss e) in
    close fs k.1 s.1 c (suits c fs k.0) xs F.0 F.1 (
      a.1.1.0,
      a.1.1.1,
      (
        a.1.1.2.0,
        a.1.1.2.1,
        (
          a.1.1.2.2.0,
          a.1.1.2.2.1,
          (
            a_sign symbols.CloseBracket ∷ ends fs,
            (a.1.0, a.1.1.2.2.2, (s.0, (a.1.2.0, a.1.2.1, (a.0, a.1.2.2, (ys, a.2, t))))),
            (start, refl),
          ),
        ),
      ),
    )
close (frame.QuantifierBody q p bs ∷ fs) k s e u xs ys F t =
    let a = F.2 in close fs k.1 s.1 (tree.Quantified p q bs e) (suits (tree.Quantified p q bs e) fs k.0) xs F.0 F.1 (a.0, a.1, (a.2.0, a.2.1, (ys, a.2.2, t)))
close (frame.ChooseSet p n ∷ fs) k s e u xs ys F t =
    let a = F.2 in
    close fs k.1 s.1 (tree.Choose p n e one_tree) (suits (tree.Choose p n e one_tree) fs k.0) xs F.0 F.1
    (a.0, a.1, (a.2.0, a.2.1, (ys, a.2.2, (ends (frame.ChooseSet p n ∷ fs), t, (one ∷ ends fs, (start, refl), refl)))))
close (frame.ChooseBody p n d ∷ fs) k s e u xs ys F t =
    let a = F.2 in
    close fs k.1 s.1 (tree.Choose p n d e) (suits (tree.Choose p n d e) fs k.0) xs F.0 F.1
    (a.0, a.1, (a.2.0, a.2.1, (a.2.2.0, a.2.2.1, (a.2.2.2.0, a.2.2.2.1, (ys, a.2.2.2.2, t)))))
close (frame.IfTest p ∷ fs) k s e u xs ys F t =
    close fs k.1 s.1 (tree.If p e one_tree one_tree) (suits (tree.If p e one_tree one_tree) fs k.0) xs F.0 F.1
    (ys, F.2, (ends (frame.IfTest p ∷ fs), t, (one ∷ a_word words.Else ∷ one ∷ ends fs, (start, refl), (a_word words.Else ∷ one ∷ ends fs, refl, (one ∷ ends fs, (start, refl), refl)))))
close (frame.IfThen p d ∷ fs) k s e u xs ys F t =
    let a = F.2 in
    close fs k.1 s.1 (tree.If p d e one_tree) (suits (tree.If p d e one_tree) fs k.0) xs F.0 F.1
    (a.0, a.1, (a.2.0, a.2.1, (ys, a.2.2, (a_word words.Else ∷ one ∷ ends fs, t, (one ∷ ends fs, (start, refl), refl)))))
close (frame.IfElse p d b ∷ fs) k s e u xs ys F t =
    let a = F.2 in
    close fs k.1 s.1 (tree.If p d b e) (suits (tree.If p d b e) fs k.0) xs F.0 F.1
    (a.0, a.1, (a.2.0, a.2.1, (a.2.2.0, a.2.2.1, (a.2.2.2.0, a.2.2.2.1, (ys, a.2.2.2.2, t)))))
close (frame.CaseTest p arms ∷ fs) k s e u xs ys F t =
    let a = F.2 in let c = tree.Case p (MoreArms arms e one_tree) in
    close fs k.1 s.1 c (suits c fs k.0) xs F.0 F.1 (a.0, a.1, (ys, a.2, (ends (frame.CaseTest p arms ∷ fs), t, (one ∷ ends fs, (start, refl), refl))))
close (frame.CaseValue p arms d ∷ fs) k s e u xs ys F t =
    let a = F.2 in let c = tree.Case p (MoreArms arms d e) in
    close fs k.1 s.1 c (suits c fs k.0) xs F.0 F.1 (a.0, a.1, (a.2.0, a.2.1, (a.2.2.0, a.2.2.1, (ys, a.2.2.2, t))))
close (frame.CaseOther p arms ∷ fs) k s e u xs ys F t =
    let a = F.2 in
    close fs k.1 s.1 (tree.CaseOther p arms e) (suits (tree.CaseOther p arms e) fs k.0) xs F.0 F.1
    (a.0, a.1, (a.2.0, a.2.1, (a.2.2.0, a.2.2.1, (ys, a.2.2.2, t))))
close (frame.DefinitionBody (scopes.Let at ds) n p form ∷ fs) k s e u xs ys F t =
    let a = F.2 in let c = tree.Let at (MoreDefinitions ds n p (parameters_of form) (form_of form) (body_of form e)) one_tree in let r : List Laid = a_word words.In ∷ one ∷ ends fs in
    close fs k.1 s.1 c (suits c fs k.0.0) xs F.0 F.1
    (a.1.0, a.1.1, (r, (a.0, a.1.2, (a.2.0, a.2.1, definition_rest form e a.2.0 a.2.2.0 ys r a.2.2.1 a.2.2.2 t)), (one ∷ ends fs, (start, refl), refl)))
close (frame.DefinitionBody scopes.Unit n p form ∷ fs) k s e u xs ys F t = absurd k.0.1
close (frame.LetBody p ds ∷ fs) k s e u xs ys F t =
    let a = F.2 in close fs k.1 s.1 (tree.Let p ds e) (suits (tree.Let p ds e) fs k.0) xs F.0 F.1 (a.0, a.1, (a.2.0, a.2.1, (ys, a.2.2, t)))
close (frame.Subscript actions.Box at d ∷ fs) k s e u xs ys F t =
    let a = F.2 in
    close fs k.1 s.1 (tree.BoxAction at d e) (suits (tree.BoxAction at d e) fs k.0) xs F.0 F.1 (u, (a.0, a.1, (a.2.0, a.2.1, (ys, a.2.2, t))))
close (frame.Subscript actions.Angle at d ∷ fs) k s e u xs ys F t =
    let a = F.2 in
    close fs k.1 s.1 (tree.AngleAction at d e) (suits (tree.AngleAction at d e) fs k.0) xs F.0 F.1 (u, (a.0, a.1, (a.2.0, a.2.1, (ys, a.2.2, t))))
close (frame.FairSubscript at ∷ fs) k s e u xs ys F t =
    close fs k.1 s.1 (tree.Fairness at e one_tree) (suits (tree.Fairness at e one_tree) fs k.0) xs F.0 F.1
    (u, (ys, F.2, (ends (frame.FairSubscript at ∷ fs), t, (one ∷ a_sign symbols.CloseParenthesis ∷ ends fs, (start, refl), (a_sign symbols.CloseParenthesis ∷ ends fs, refl, (start, refl))))))
close (frame.FairBody at v ∷ fs) k s e u xs ys F t =
    let a = F.2 in
    close fs k.1 s.1 (tree.Fairness at v e) (suits (tree.Fairness at v e) fs k.0) xs F.0 F.1
    (s.0, (a.0, a.1, (a.2.0, a.2.1, (ys, a.2.2, (a_sign symbols.CloseParenthesis ∷ ends fs, t, (start, refl))))))

-- what fits is sound
binder_sound : (b : Binder) (fs : List Frame) → BinderFits b fs → BinderSound b
binder_sound (binders.Map at e) fs h = h.1
binder_sound _ fs h = tt

pub sound : (fs : List Frame) → FramesFit fs → FramesSound fs
sound [] h = tt
sound (frame.Index e at es ∷ fs) h = (h.0.0, sound fs h.1)
sound (frame.Record k at hs n ∷ fs) h = ((h.0.1, h.0.2), sound fs h.1)
sound (frame.BoundSet b ns ∷ fs) h = (binder_sound b.binder fs h.0.0, sound fs h.1)
sound (frame.ExceptIndex at e cs ss q es ∷ fs) h = (h.0.3, sound fs h.1)
sound (frame.ExceptValue at e cs ss ∷ fs) h = (h.0.3, sound fs h.1)
sound (frame.FairBody at v ∷ fs) h = (h.0.0, sound fs h.1)
sound (f ∷ fs) h = (tt, sound fs h.1)
