-- Where the reader finds a clash, two operators meet at its places.
use Rattle.std.proofs.Common.{◌≡◌, ◌⊎◌, ℕ, false, List, [], ◌∷◌, ◌++◌, append_assoc, inl, inr, refl, sym, ap, subst, ◌∙◌}
use Rattle.std.proofs.lemmas.List.{append-nil, append_cancel_right}
use Rattle.std.specs.Prelude.{Bool, true, pos}
use Rattle.base_core.specs.declared.place.Place.{Place}
use Rattle.reading_trees.specs.declared.laid.Laid.{Laid}
use Rattle.reading_trees.specs.declared.laid.Laid.TheVariants.{Plain, ListOpen, ListItem, ListClose}
use Rattle.reading_tokens.specs.declared.token.Kind.{Kind}
use Rattle.reading_tokens.specs.declared.token.Kind.TheVariants as kinds
use Rattle.reading_tokens.specs.declared.token.Symbol.{Symbol}
use Rattle.reading_tokens.specs.declared.token.Symbol.TheVariants as symbols
use Rattle.reading_tokens.specs.declared.token.Token.{Token}
use Rattle.reading_tokens.specs.declared.token.Word.TheVariants as words
use Rattle.reading_trees.specs.declared.operators.InfixOperator.{InfixOperator}
use Rattle.reading_trees.specs.Begun.{Begun}
use Rattle.reading_trees.specs.Precedence.{infix_symbol, prefix_range, infix_range}
use Rattle.reading_trees.specs.Grammar.{◌⨟◌, token, sign_at, Text}
use Rattle.reading_trees.specs.Fits.{Fits, LeftAbove, RightAbove}
use Rattle.reading_trees.specs.Trees as tree
use Rattle.reading_trees.specs.Trees.{Tree, NoTrees}
use Rattle.reading_machine.specs.LawsOfRefusals.{ClashedMeets}
use Rattle.reading_machine.specs.Meeting.{OfPrefix, OfInfix, right_edge, MeetsOn, MeetsMember, at_place, ExpressionNext, IsKind, OnlyOperator, MeetsBehind, MeetsLate, Meets}
use Rattle.reading_machine.specs.declared.frame.Frame.{Frame}
use Rattle.reading_machine.specs.declared.frame.Frame.TheVariants as frame
use Rattle.reading_machine.specs.declared.frame.Mode.{Mode}
use Rattle.reading_machine.specs.declared.frame.Mode.TheVariants as mode
use Rattle.reading_machine.specs.declared.frame.Scope.TheVariants as scopes
use Rattle.reading_machine.specs.Machine.{Stepped, Clashes, StopsAt, ClashesAt, above, goes_on, infix_step, is_case_mark, settle, run}
use Rattle.reading_machine.specs.OpenFits.{IsOperand, Top, FramesFit, FramesStand, Outermost}
use Rattle.reading_machine.specs.OpenRows.{FramesText}
use Rattle.reading_machine.proofs.Opened.{laid_symbol}
use Rattle.reading_machine.proofs.Edges.{operand_left, operand_right, operand_ends, top_all, above_is, one_of_two}
use Rattle.reading_machine.proofs.Settling.{IsSettled, settles}
use Rattle.reading_machine.proofs.NoUnits as units
use Rattle.reading_machine.proofs.OpenEnds.{start}
use Rattle.reading_machine.proofs.Paths.{Reach, reach, reach_clashes}
use Rattle.reading_machine.proofs.RefusalsClash.{ran_begun}
use Rattle.reading_machine.proofs.UniqueSpans.{Front, tree_local}
use Rattle.reading_machine.proofs.FittingWalk.{Held, EndsElement, EndsOperand, FrameMeets, LaidMeets, FramesMeet, FollowMeets, ModeMeets, settle_held, clash_held}
use Rattle.reading_machine.proofs.FittingEnds.{first_mode, State, path_state, first_state, Hungry, hungry}
use Rattle.reading_machine.proofs.MeetsEdges.{overlap, no_chain, over, meets_member}

module _ (unit : Bool) (Begins : List Laid → Type 0) (begun : (read : List Laid) → run read [] (first_mode unit) ≡ StopsAt [] → Begins read) where
  next_begins : (xs ys : List Laid) → (h : Hungry unit xs ys) → ExpressionNext Begins h.before
  next_begins xs ys h = (pos 1, start, begun (h.before ++ at_place (kinds.Number (pos 1)) start ∷ []) (h.accepts (pos 1) start))

  module _ (read rest : List Laid) (x : Laid) where
    abbrev All : List Laid
    All = read ++ x ∷ rest

    -- the operator here meets one on the right edge of the operand d, which stands in these frames
    behind : (o : InfixOperator) (p q : Place) (gs : List Frame) (d : Tree) (ys : List Laid) → x ≡ laid_symbol (infix_symbol o) q → FramesText gs All ys → Text d ys (x ∷ rest) → FramesFit gs → Held gs → Outermost unit gs false → Fits d → MeetsOn o (right_edge d) p → MeetsBehind Begins read x p q
    behind o p q gs d ys i F t g h u k m =
        let n : Hungry unit All ys = hungry unit gs All ys u h g F in
        let f : Front (Text d) ys (x ∷ rest) = tree_local d ys (x ∷ rest) t in
        record {
          before = n.before;
          text = f.front;
          operand = d;
          operator = o;
          whole = append_cancel_right read (n.before ++ f.front) (x ∷ rest) (n.here ∙ ap (λ v. n.before ++ v) f.here ∙ sym (append_assoc n.before f.front (x ∷ rest)));
          next = next_begins All ys n;
          spelled = record { text = subst (λ v. Text d v []) (append-nil f.front) (f.anywhere []); fits = k };
          is = i;
          meets = m;
        }

    abbrev Met : Stepped → Type 0
    Met (Clashes p q) = MeetsBehind Begins read x p q
    Met _ = Unit {0}

    infix_meets : (o : InfixOperator) (q : Place) → x ≡ laid_symbol (infix_symbol o) q → (fs : List Frame) (e : Tree) (ys : List Laid) → FramesText fs All ys → Text e ys (x ∷ rest) → FramesFit fs → FramesStand fs → Outermost unit fs false → Fits e → Top fs (λ s. LeftAbove s e) → RightAbove (infix_range o) e → Met (infix_step o q fs e)
    infix_meets o q i [] e ys F t g h u k l r = tt
    infix_meets o q i (frame.Prefix c p ∷ fs) e ys F t g h u k l r =
        one_of_two Met (above (prefix_range c) (infix_range o)) _ _
        (λ a. infix_meets o q i fs (tree.Prefix p c e) F.0 F.1 (ys, F.2, t) g.1 h.1 u.1 (k, l) (top_all fs (λ s. Unit {0}) (λ s. tt)) (above_is (prefix_range c) (infix_range o) a, r))
        (λ a. one_of_two Met (above (infix_range o) (prefix_range c)) _ _ (λ b. tt)
        (λ b. behind o p q fs (tree.Prefix p c e) F.0 i F.1 (ys, F.2, t) g.1 h u.1 (k, l) (over o p e (OfPrefix c p ∷ []) r (inr (overlap (prefix_range c) (infix_range o) a b, refl)))))
    infix_meets o q i (frame.Infix c es p ∷ fs) e ys F t g h u k l r =
        one_of_two Met (above (infix_range c) (infix_range o)) _ _
        (λ a. infix_meets o q i fs (tree.Infix p c es e) F.0 F.1 (F.2.0, F.2.1, (ys, F.2.2, t)) g.1 h.1 u.1 (g.0.0, k, l) g.0.1 (above_is (infix_range c) (infix_range o) a, r))
        (λ a. one_of_two Met (above (infix_range o) (infix_range c)) _ _ (λ b. tt)
        (λ b. one_of_two Met (goes_on c o) _ _ (λ v. tt)
        (λ v. behind o p q fs (tree.Infix p c es e) F.0 i F.1 (F.2.0, F.2.1, (ys, F.2.2, t)) g.1 h u.1 (g.0.0, k, l) (over o p e (OfInfix c p ∷ []) r (inr (overlap (infix_range c) (infix_range o) a b, no_chain c o v, refl))))))
    infix_meets o q i (f ∷ fs) e ys F t g h u k l r = tt

    -- a late `\in` meets an operator on the left edge of the expression d behind it
    late : (s : Symbol) (at : Place) (n : List ℕ) (p q m : Place) (gs : List Frame) (d : Tree) (ys zs : List Laid) → OnlyOperator (at_place (kinds.Symbol s) at) x
        → FramesText gs All ys → (sign_at at s ⨟ token p (kinds.Name n) ⨟ sign_at q symbols.Member) ys zs → Text d zs (x ∷ rest) → FramesFit gs → Held gs → Outermost unit gs false → Fits d → MeetsMember d m → MeetsLate Begins read x q m
    late s at n p q m gs d ys zs w F a t g h u k j =
        let c : Hungry unit All ys = hungry unit gs All ys u h g F in
        let f : Front (Text d) zs (x ∷ rest) = tree_local d zs (x ∷ rest) t in
        let opening : Laid = at_place (kinds.Symbol s) at in
        let named : Laid = at_place (kinds.Name n) p in
        let member : Laid = at_place (kinds.Symbol symbols.Member) q in
        let b : ys ≡ opening ∷ named ∷ member ∷ f.front ++ x ∷ rest = a.1 ∙ ap (λ v. opening ∷ v) (a.2.1 ∙ ap (λ v. named ∷ v) (a.2.2 ∙ ap (λ v. member ∷ v) f.here)) in
        record {
          before = c.before;
          opening = opening;
          name = n;
          at = p;
          text = f.front;
          operand = d;
          whole = append_cancel_right read (c.before ++ opening ∷ named ∷ member ∷ f.front) (x ∷ rest) (c.here ∙ ap (λ v. c.before ++ v) b ∙ sym (append_assoc c.before (opening ∷ named ∷ member ∷ f.front) (x ∷ rest)));
          next = next_begins All ys c;
          only = w;
          spelled = record { text = subst (λ v. Text d v []) (append-nil f.front) (f.anywhere []); fits = k };
          meets = j;
        }

    abbrev Told : Place → Place → Type 0
    Told p q = Meets Begins read x p q

    -- a kind of the token here
    is_kind : (t : Token) (k : Kind) → x ≡ Plain t → t.kind ≡ k → IsKind k x
    is_kind t k i e = (t.place, i ∙ ap (λ v. at_place v t.place) e)

    element : (t : Token) → x ≡ Plain t → EndsElement t.kind → IsKind (kinds.Symbol symbols.Comma) x ⊎ IsKind (kinds.Symbol symbols.CloseBrace) x
    element t i (inl e) = inl (is_kind t (kinds.Symbol symbols.Comma) i e)
    element t i (inr e) = inr (is_kind t (kinds.Symbol symbols.CloseBrace) i e)

    operand : (t : Token) → x ≡ Plain t → EndsOperand t.kind → IsKind (kinds.Symbol symbols.Arrow) x ⊎ IsKind (kinds.Symbol symbols.CloseBracketSubscript) x ⊎ IsKind (kinds.Word words.Except) x
    operand t i (inl e) = inl (is_kind t (kinds.Symbol symbols.Arrow) i e)
    operand t i (inr (inl e)) = inr (inl (is_kind t (kinds.Symbol symbols.CloseBracketSubscript) i e))
    operand t i (inr (inr e)) = inr (inr (is_kind t (kinds.Word words.Except) i e))

    frame_meets : (t : Token) → x ≡ Plain t → (f : Frame) (fs : List Frame) (d : Tree) → (FramesText (f ∷ fs) ⨟ Text d) All (x ∷ rest) → FramesFit (f ∷ fs) → FramesStand (f ∷ fs) → Outermost unit (f ∷ fs) false → Fits d → FrameMeets Told t.kind f d
    frame_meets t i (frame.MaybeFilter at n p q) fs d a g h u k =
        λ m j l. inr (late symbols.OpenBrace at n p q m fs d a.1.0 a.0 (inl ((at, refl), element t i l)) a.1.1 a.1.2 a.2 g.1 h u.1 k (meets_member (tree.Name p n) q d m j))
    frame_meets t i (frame.MaybeFunction at n p q) fs d a g h u k =
        λ m j l. inr (late symbols.OpenBracket at n p q m fs d a.1.0 a.0 (inr ((at, refl), operand t i l)) a.1.1 a.1.2 a.2 g.1 h u.1 k (meets_member (tree.Name p n) q d m j))
    frame_meets t i f fs d a g h u k = tt

    laid_meets : (y : Laid) → x ≡ y → (f : Frame) (fs : List Frame) (d : Tree) → (FramesText (f ∷ fs) ⨟ Text d) All (x ∷ rest) → FramesFit (f ∷ fs) → FramesStand (f ∷ fs) → Outermost unit (f ∷ fs) false → Fits d → LaidMeets Told y f d
    laid_meets (Plain t) i f fs d a g h u k = frame_meets t i f fs d a g h u k
    laid_meets (ListOpen b at) i f fs d a g h u k = tt
    laid_meets (ListItem b at) i f fs d a g h u k = tt
    laid_meets (ListClose at) i f fs d a g h u k = tt

    frames_meet : (fs : List Frame) (d : Tree) → (FramesText fs ⨟ Text d) All (x ∷ rest) → FramesFit fs → FramesStand fs → Outermost unit fs false → Fits d → FramesMeet Told x fs d
    frames_meet [] d a g h u k = tt
    frames_meet (f ∷ fs) d a g h u k = laid_meets x refl f fs d a g h u k

    follow : (fs : List Frame) (e : Tree) (ys : List Laid) → FramesText fs All ys → Text e ys (x ∷ rest) → FramesFit fs → Held fs → Outermost unit fs false → IsOperand e → Fits e → FollowMeets Told x fs e
    follow fs e ys F t g h u o k =
        let left : Top fs (λ s. LeftAbove s e) = top_all fs (λ s. LeftAbove s e) (λ s. operand_left s e o) in
        let case = is_case_mark x in
        let s : IsSettled case All (x ∷ rest) (settle case fs e) = settles All (x ∷ rest) case fs e ys F t g k left (λ i. operand_ends e o) in (
          λ c at i p q j. inl (subst Met j (infix_meets c at i fs e ys F t g h.1 u k left (operand_right (infix_range c) e o))),
          frames_meet (settle case fs e).frames (settle case fs e).tree s.0 s.1 (settle_held case fs e h).1 (units.settle_kept unit case fs e u) s.2,
        )

    mode_meets : (fs : List Frame) (m : Mode) → State unit All fs m (x ∷ rest) → ModeMeets Told x m fs
    mode_meets fs (mode.Have e) s = follow fs e s.0.0.0 s.0.0.1 s.0.0.2 s.0.1 s.1 s.2 s.0.2.0 s.0.2.1
    mode_meets fs (mode.BracketName at n p) s =
        let a = s.0.0.2 in follow (frame.Bracket at ∷ fs) (tree.Name p n) a.0 (s.0.0.0, s.0.0.1, a.1) a.2 (tt, s.0.1) (tt, s.1) (refl, s.2) tt tt
    mode_meets fs (mode.BraceName at n p) s =
        let a = s.0.0.2 in follow (frame.Braces at NoTrees ∷ fs) (tree.Name p n) a.0 (s.0.0.0, s.0.0.1, (a.0, a.1, refl)) a.2 (tt, s.0.1) (tt, s.1) (refl, s.2) tt tt
    mode_meets fs _ s = tt

    clash_meets : (p q : Place) → run (read ++ x ∷ rest) [] (first_mode unit) ≡ ClashesAt p q (x ∷ rest) → Meets Begins read x p q
    clash_meets p q i =
        let h : Reach read [] (first_mode unit) x rest (ClashesAt p q (x ∷ rest)) = reach read x rest [] (first_mode unit) (ClashesAt p q (x ∷ rest)) i refl in
        let s : State unit All h.frames h.expects (x ∷ rest) = path_state unit read (x ∷ rest) All [] (first_mode unit) h.frames h.expects h.path (first_state unit All) in
        clash_held Told x h.frames h.expects p q (reach_clashes read [] (first_mode unit) x rest (x ∷ rest) p q h) s.1 (mode_meets h.frames h.expects s)

pub clashed_meets : ClashedMeets
clashed_meets read rest x p q i = clash_meets false Begun ran_begun read rest x p q i

pub definition_clash_meets : (Begins : List Laid → Type 0) → ((read : List Laid) → run read [] (mode.DefinitionName scopes.Unit) ≡ StopsAt [] → Begins read) → (read rest : List Laid) (x : Laid) (p q : Place)
    → run (read ++ x ∷ rest) [] (mode.DefinitionName scopes.Unit) ≡ ClashesAt p q (x ∷ rest) → Meets Begins read x p q
definition_clash_meets Begins begun read rest x p q i = clash_meets true Begins begun read rest x p q i
