-- The reader goes over the text of each open row but an operator behind its operands, from behind the rows around it.
use Rattle.std.proofs.Common.{◌≡◌, inl, inr, ℕ, ◌≤◌, Bool, false, List, [], ◌∷◌, refl, sym, ap, subst, ◌∙◌, arith}
use Rattle.base_core.specs.declared.place.Place.{Place}
use Rattle.reading_trees.specs.declared.laid.Laid.{Laid}
use Rattle.reading_tokens.specs.declared.token.Kind.{Kind}
use Rattle.reading_tokens.specs.declared.token.Kind.TheVariants as kinds
use Rattle.reading_tokens.specs.declared.token.Word.{Word}
use Rattle.reading_tokens.specs.declared.token.Word.TheVariants as words
use Rattle.reading_tokens.specs.declared.token.Symbol.{Symbol}
use Rattle.reading_tokens.specs.declared.token.Symbol.TheVariants as symbols
use Rattle.reading_trees.specs.Precedence.{prefix_kind, quantifier_symbol}
use Rattle.reading_trees.specs.Fits.{LeftAbove}
use Rattle.reading_trees.specs.Grammar.{Text, begins_member}
use Rattle.reading_trees.specs.Trees as tree
use Rattle.reading_trees.specs.Trees.{Tree, Trees, NoTrees, MoreTrees, Arms, NoArms, MoreArms}
use Rattle.reading_machine.specs.declared.frame.Action.TheVariants as actions
use Rattle.reading_machine.specs.declared.frame.Binding.{Binding}
use Rattle.reading_machine.specs.declared.frame.Frame.{Frame}
use Rattle.reading_machine.specs.declared.frame.Frame.TheVariants as frame
use Rattle.reading_machine.specs.declared.frame.Mode.TheVariants as mode
use Rattle.reading_machine.specs.Machine.{is_subscript}
use Rattle.reading_open_rows.specs.Unfinished.{of_binder, of_frames}
use Rattle.reading_machine.specs.OpenFits.{FrameStands, in_frame, IsOperand, FrameFits, Outermost}
use Rattle.reading_machine.specs.OpenRows.{FrameText}
use Rattle.reading_machine.proofs.Edges.{operand_left}
use Rattle.reading_expressions.proofs.ReadingBrackets.{maybe_function_goes, function_body_goes, function_range_goes, record_goes, except_index_goes, except_value_goes, box_goes, angle_goes}
use Rattle.reading_expressions.proofs.ReadingLike.{Like, is_row, one_row, ready, scope_stands, binder_stands, Stands}
use Rattle.reading_expressions.proofs.ReadingRows.{call_goes, qualified_call_goes, junction_goes, prefix_goes, index_goes, elements_go, brace_goes, maybe_filter_goes, filter_test_goes, tuple_goes, fair_body_goes}
use Rattle.reading_expressions.proofs.ReadingScopes.{quantifier_open, form_goes, let_body_goes, bounds_state, SetRead, set_read, named_goes, binder_goes}
use Rattle.reading_expressions.proofs.ReadingStarts.{Inner, Ready, top_all, Fresh, enter, enters_fresh, enters_by, enters_parenthesis, enters_tuple}
use Rattle.reading_expressions.proofs.ReadingWords.{quantifier_goes, choose_set_goes, choose_body_goes, then_goes, else_goes, arms_go, case_value_goes, case_other_goes}
use Rattle.reading_machine.proofs.Runner.{Runner, run}
use Rattle.reading_machine.proofs.RunsBrackets.{is_special, special}
use Rattle.reading_machine.proofs.RunsCases.{arms_state}
use Rattle.reading_machine.proofs.RunsParts.{plain}
use Rattle.reading_machine.proofs.RunsStarts.{OpenKind, Clear, NamedKind, opened, named, prefix_open, prefix_named}

pub ready_subscript : (unit : Bool) (fs : List Frame) → Ready unit fs → is_subscript fs ≡ false
ready_subscript unit [] r = refl
ready_subscript unit (frame.Subscript k at e ∷ fs) r = absurd r
ready_subscript unit (frame.FairSubscript at ∷ fs) r = absurd r
ready_subscript unit (f ∷ fs) r = refl

operand_begins : (e : Tree) → IsOperand e → begins_member e ≡ false
operand_begins (tree.Infix at o es e) h = absurd h
operand_begins _ h = refl

-- an operand begins, and no symbol stands behind it that is read otherwise behind a name
pub operand_fresh : (e : Tree) → IsOperand e → (xs ys : List Laid) → Text e xs ys → Clear is_special ys → Fresh xs
operand_fresh e o xs ys h c = (opened e xs ys h, named is_special special e (operand_begins e o) xs ys h (λ q. c))

pub call_fresh : (n : List ℕ) (at p : Place) (xs ys zs : List Laid) → xs ≡ plain (kinds.Name n) at ∷ ys → ys ≡ plain (kinds.Symbol symbols.OpenParenthesis) p ∷ zs → Fresh xs
call_fresh n at p xs ys zs h k = subst Fresh (sym h) (tt, subst (Clear is_special) (sym k) refl)

pub instance_fresh : (i : List ℕ) (at p : Place) (xs ys zs : List Laid) → xs ≡ plain (kinds.Name i) at ∷ ys → ys ≡ plain (kinds.Symbol symbols.Exclamation) p ∷ zs → Fresh xs
instance_fresh i at p xs ys zs h k = subst Fresh (sym h) (tt, subst (Clear is_special) (sym k) refl)

-- a row that is no chain of operands
abbrev pub NoChain : Frame → Type 0
NoChain (frame.Infix o es p) = ⊥
NoChain _ = Unit {0}

module _ (reader : Runner) (unit : Bool) where
  arms_enter : (p : Place) (arms : Arms) (gs : List Frame) (ys : List Laid) → arms_state reader p arms gs ys ≡ enter reader unit ys (frame.CaseTest p arms ∷ gs)
  arms_enter p NoArms gs ys = refl
  arms_enter p (MoreArms arms q e) gs ys = refl

  module _ (fs gs : List Frame) (l : Like unit fs gs) where
    abbrev pub After : Frame → List Laid → List Laid → Type 0
    After f xs ys = Stands reader unit (enter reader unit xs gs) ys (f ∷ fs)

    -- the reader has that very row
    pub kept : (f : Frame) (xs ys : List Laid) → enter reader unit xs gs ≡ enter reader unit ys (f ∷ gs) → After f xs ys
    kept f xs ys q = record { rows = f ∷ gs; runs = q; like = one_row unit f fs gs l }

    -- a row that begins with a token of this kind
    begun : (f : Frame) (xs ys : List Laid) → Ready unit gs → (k : Kind) (at : Place) (zs : List Laid) → xs ≡ plain k at ∷ zs → OpenKind k → NamedKind is_special k zs → run reader xs gs mode.Want ≡ enter reader unit ys (f ∷ gs) → After f xs ys
    begun f xs ys r k at zs h o n q = kept f xs ys (enters_by reader unit gs r k at xs zs h o n ∙ q)

    bound_after : (b : Binding) (ns : List (List ℕ)) (xs ys : List Laid) → SetRead reader (enter reader unit xs gs) b.binder b.bounds ns gs ys → After (frame.BoundSet b ns) xs ys
    bound_after b ns xs ys (inl q) = kept (frame.BoundSet b ns) xs ys q
    bound_after b ns xs ys (inr (at, n, p, q, c, e)) =
        let k : of_frames gs ≤ of_frames fs = l.count in
        let one : 1 ≡ of_binder b.binder = ap of_binder (sym c) in
        record {
          rows = frame.MaybeFunction at n p q ∷ gs;
          runs = e;
          like = record { none = λ u. absurd (is_row (frame.BoundSet b ns) fs u); inner = λ o. tt; open_so = λ o. tt; top = λ o es h. tt; count = omega (arith, k, one) };
        }

    symbol : (f : Frame) (xs ys : List Laid) → Ready unit gs → (s : Symbol) (at : Place) (zs : List Laid) → xs ≡ plain (kinds.Symbol s) at ∷ zs → OpenKind (kinds.Symbol s) → run reader xs gs mode.Want ≡ enter reader unit ys (f ∷ gs) → After f xs ys
    symbol f xs ys r s at zs h o q = begun f xs ys r (kinds.Symbol s) at zs h o tt q

    word : (f : Frame) (xs ys : List Laid) → Ready unit gs → (w : Word) (at : Place) (zs : List Laid) → xs ≡ plain (kinds.Word w) at ∷ zs → OpenKind (kinds.Word w) → run reader xs gs mode.Want ≡ enter reader unit ys (f ∷ gs) → After f xs ys
    word f xs ys r w at zs h o q = begun f xs ys r (kinds.Word w) at zs h o tt q

    tuple_after : (at : Place) (es : Trees) → FrameFits (frame.Tuple at es) fs → Inner unit gs → (xs ys : List Laid) → FrameText (frame.Tuple at es) xs ys → After (frame.Tuple at es) xs ys
    tuple_after at NoTrees f i xs ys h = kept (frame.Tuple at NoTrees) xs ys (enters_tuple reader unit gs i at xs h.0 h.1 ∙ ap (λ v. run reader v gs (mode.TupleStart at)) h.2)
    tuple_after at (MoreTrees es e) f i xs ys h = kept (frame.Tuple at (MoreTrees es e)) xs ys (enters_tuple reader unit gs i at xs h.0 h.1 ∙ tuple_goes reader at es e f gs h.0 ys h.2)

    braces_after : (at : Place) (es : Trees) → FrameFits (frame.Braces at es) fs → Ready unit gs → (xs ys : List Laid) → FrameText (frame.Braces at es) xs ys → After (frame.Braces at es) xs ys
    braces_after at NoTrees f r xs ys h = symbol (frame.Braces at NoTrees) xs ys r symbols.OpenBrace at h.0 h.1 refl (brace_goes reader at gs xs ys h)
    braces_after at (MoreTrees es e) f r xs ys h = symbol (frame.Braces at (MoreTrees es e)) xs ys r symbols.OpenBrace at h.0 h.1 refl (elements_go reader at es e f gs xs ys h)

    pub frame_goes : (f : Frame) → NoChain f → FrameFits f fs → FrameStands f fs → Outermost unit fs (in_frame f) → (xs ys : List Laid) → FrameText f xs ys → After f xs ys
    frame_goes (frame.Parenthesis at) c f d o xs ys h = kept (frame.Parenthesis at) xs ys (enters_parenthesis reader unit gs (l.inner o) at xs ys h)
    frame_goes (frame.Call n at es) c f d o xs ys h =
        kept (frame.Call n at es) xs ys (enters_fresh reader unit gs (ready unit fs gs l d o) xs (call_fresh n at h.2.1.0 xs h.0 h.2.0 h.1 h.2.1.1) ∙ call_goes reader n at es f gs xs ys h)
    frame_goes (frame.QualifiedCall n at es) c f d o xs ys h =
        let i = h.1.3 in
        kept (frame.QualifiedCall n at es) xs ys (enters_fresh reader unit gs (ready unit fs gs l d o) xs (instance_fresh h.1.0 at i.2.1.0 xs i.0 i.2.0 i.1 i.2.1.1) ∙ qualified_call_goes reader n at es f gs xs ys h)
    frame_goes (frame.Junction b at es) c f d o xs ys h =
        kept (frame.Junction b at es) xs ys (enters_fresh reader unit gs (ready unit fs gs l d o) xs (subst Fresh (sym h.1) (tt, tt)) ∙ junction_goes reader b at es f gs xs ys h)
    frame_goes (frame.Prefix q p) c f d o xs ys h =
        begun (frame.Prefix q p) xs ys (ready unit fs gs l d o) (prefix_kind q) p ys h (prefix_open q) (prefix_named is_special q ys) (prefix_goes reader q p gs xs ys h)
    frame_goes (frame.Infix q es p) c f d o xs ys h = absurd c
    frame_goes (frame.Index e at es) c f d o xs ys h =
        let r = ready unit fs gs l d o in
        kept (frame.Index e at es) xs ys (enters_fresh reader unit gs r xs (operand_fresh e f.0 xs h.0 h.1 (subst (Clear is_special) (sym h.2.1) refl))
        ∙ index_goes reader e at es f.0 f.1 f.2 gs (top_all unit gs r (λ v. LeftAbove v e) (λ v. operand_left v e f.0)) xs ys h)
    frame_goes (frame.Braces at es) c f d o xs ys h = braces_after at es f (ready unit fs gs l d o) xs ys h
    frame_goes (frame.MaybeFilter at n p q) c f d o xs ys h = symbol (frame.MaybeFilter at n p q) xs ys (ready unit fs gs l d o) symbols.OpenBrace at h.0 h.1 refl (maybe_filter_goes reader at n p q gs xs ys h)
    frame_goes (frame.FilterTest at n s) c f d o xs ys h = symbol (frame.FilterTest at n s) xs ys (ready unit fs gs l d o) symbols.OpenBrace at h.0 h.1 refl (filter_test_goes reader at n s f gs xs ys h)
    frame_goes (frame.Tuple at es) c f d o xs ys h = tuple_after at es f (l.inner o) xs ys h
    frame_goes (frame.Bracket at) c f d o xs ys h = symbol (frame.Bracket at) xs ys (ready unit fs gs l d o) symbols.OpenBracket at ys h refl (ap (λ v. run reader v gs mode.Want) h)
    frame_goes (frame.MaybeFunction at n p q) c f d o xs ys h = symbol (frame.MaybeFunction at n p q) xs ys (ready unit fs gs l d o) symbols.OpenBracket at h.0 h.1 refl (maybe_function_goes reader at n p q gs xs ys h)
    frame_goes (frame.FunctionBody at bs) c f d o xs ys h = symbol (frame.FunctionBody at bs) xs ys (ready unit fs gs l d o) symbols.OpenBracket at h.0 h.1 refl (function_body_goes reader at bs f gs xs ys h)
    frame_goes (frame.FunctionRange at s) c f d o xs ys h = symbol (frame.FunctionRange at s) xs ys (ready unit fs gs l d o) symbols.OpenBracket at h.0 h.1 refl (function_range_goes reader at s f gs xs ys h)
    frame_goes (frame.Record k at hs n) c f d o xs ys h = symbol (frame.Record k at hs n) xs ys (ready unit fs gs l d o) symbols.OpenBracket at h.0 h.1 refl (record_goes reader k at hs n f.0 f.1 f.2 gs xs ys h)
    frame_goes (frame.BoundSet b ns) c f d o xs ys h =
        let e : enter reader unit xs gs ≡ bounds_state reader b.binder b.bounds gs h.0 = binder_goes reader unit b.binder b.bounds f.1 gs (binder_stands unit b.binder fs gs l f.0 d o) xs h.0 h.1 in
        bound_after b ns xs ys (subst (λ v. SetRead reader v b.binder b.bounds ns gs ys) (sym e) (set_read reader b.binder b.bounds ns gs h.0 h.2.0 ys h.2.1 h.2.2))
    frame_goes (frame.ExceptIndex at e cs ss q es) c f d o xs ys h =
        symbol (frame.ExceptIndex at e cs ss q es) xs ys (ready unit fs gs l d o) symbols.OpenBracket at h.1.1.0 h.1.1.1 refl (except_index_goes reader at e cs ss q es f.0 f.1 f.2 f.3 f.4 gs xs ys h)
    frame_goes (frame.ExceptValue at e cs ss) c f d o xs ys h =
        symbol (frame.ExceptValue at e cs ss) xs ys (ready unit fs gs l d o) symbols.OpenBracket at h.1.1.0 h.1.1.1 refl (except_value_goes reader at e cs ss f.0 f.1 f.2 f.3 gs xs ys h)
    frame_goes (frame.QuantifierBody q p bs) c f d o xs ys h =
        symbol (frame.QuantifierBody q p bs) xs ys (ready unit fs gs l d o) (quantifier_symbol q) p h.0 h.1 (quantifier_open q) (quantifier_goes reader q p bs f gs xs ys h)
    frame_goes (frame.ChooseSet p n) c f d o xs ys h = word (frame.ChooseSet p n) xs ys (ready unit fs gs l d o) words.Choose p h.0 h.1 refl (choose_set_goes reader p n gs xs ys h)
    frame_goes (frame.ChooseBody p n s) c f d o xs ys h = word (frame.ChooseBody p n s) xs ys (ready unit fs gs l d o) words.Choose p h.0 h.1 refl (choose_body_goes reader p n s f gs xs ys h)
    frame_goes (frame.IfTest p) c f d o xs ys h = word (frame.IfTest p) xs ys (ready unit fs gs l d o) words.If p ys h refl (ap (λ v. run reader v gs mode.Want) h)
    frame_goes (frame.IfThen p a) c f d o xs ys h = word (frame.IfThen p a) xs ys (ready unit fs gs l d o) words.If p h.0 h.1 refl (then_goes reader p a f gs xs ys h)
    frame_goes (frame.IfElse p a b) c f d o xs ys h = word (frame.IfElse p a b) xs ys (ready unit fs gs l d o) words.If p h.0 h.1 refl (else_goes reader p a b f.0 f.1 gs xs ys h)
    frame_goes (frame.CaseTest p arms) c f d o xs ys h = word (frame.CaseTest p arms) xs ys (ready unit fs gs l d o) words.Case p h.0 h.1 refl (arms_go reader p arms f gs xs ys h ∙ arms_enter p arms gs ys)
    frame_goes (frame.CaseValue p arms a) c f d o xs ys h = word (frame.CaseValue p arms a) xs ys (ready unit fs gs l d o) words.Case p h.0 h.1 refl (case_value_goes reader p arms a f.0 f.1 gs xs ys h)
    frame_goes (frame.CaseOther p arms) c f d o xs ys h = word (frame.CaseOther p arms) xs ys (ready unit fs gs l d o) words.Case p h.0 h.1 refl (case_other_goes reader p arms f gs xs ys h)
    frame_goes (frame.DefinitionBody s n p form) c f d o xs ys h =
        kept (frame.DefinitionBody s n p form) xs ys (named_goes reader unit s n p gs (scope_stands unit s fs gs l f.0 d o) xs h.2.0 (h.0, h.1, h.2.1) ∙ form_goes reader s n p form f.1 gs h.2.0 h.2.2.0 ys h.2.2.1 h.2.2.2)
    frame_goes (frame.LetBody p ds) c f d o xs ys h = word (frame.LetBody p ds) xs ys (ready unit fs gs l d o) words.Let p h.0 h.1 refl (let_body_goes reader p ds f gs xs ys h)
    frame_goes (frame.Subscript actions.Box at a) c f d o xs ys h = symbol (frame.Subscript actions.Box at a) xs ys (ready unit fs gs l d o) symbols.OpenBracket at h.0 h.1 refl (box_goes reader at a f gs xs ys h)
    frame_goes (frame.Subscript actions.Angle at a) c f d o xs ys h =
        let r = ready unit fs gs l d o in
        symbol (frame.Subscript actions.Angle at a) xs ys r symbols.OpenTuple at h.0 h.1 refl (angle_goes reader at a f gs (ready_subscript unit gs r) xs ys h)
    frame_goes (frame.FairSubscript at) c f d o xs ys h = begun (frame.FairSubscript at) xs ys (ready unit fs gs l d o) kinds.Fair at ys h tt tt (ap (λ v. run reader v gs mode.Want) h)
    frame_goes (frame.FairBody at v) c f d o xs ys h = begun (frame.FairBody at v) xs ys (ready unit fs gs l d o) kinds.Fair at h.0 h.1 tt tt (fair_body_goes reader at v f.0 f.1 gs xs ys h)
