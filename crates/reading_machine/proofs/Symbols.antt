-- What a symbol does at the innermost frame that waits.
use Rattle.std.proofs.Common.{◌≡◌, ℕ, true, List, ◌∷◌, ap}
use Rattle.base_core.specs.declared.place.Place.{Place}
use Rattle.reading_trees.specs.declared.laid.Laid.{Laid}
use Rattle.reading_tokens.specs.declared.token.Symbol.{Symbol}
use Rattle.reading_trees.specs.Grammar.{Text}
use Rattle.reading_trees.specs.Fits.{EndsNoCase, Fits}
use Rattle.reading_trees.specs.Trees.{Tree, MoreTrees, Fields, MoreFields, MoreChanges}
use Rattle.reading_machine.specs.declared.frame.RecordKind.{RecordKind}
use Rattle.reading_machine.specs.declared.frame.Frame.{Frame}
use Rattle.reading_machine.specs.Machine.{Stepped, Reads, with_step, of_records, symbol_closes, is_always_symbol}
use Rattle.reading_machine.proofs.Opened.{Good, laid_symbol}
use Rattle.reading_machine.proofs.Rows.{sign_is, only_parenthesis, only_bracket, only_brace, only_colon, only_arrow, only_always, comma_parenthesis, comma_bracket, step_good, want_good, have_good, stepped_good, deliver_good}
use Rattle.reading_machine.proofs.Enclosed.{braces_good, bracket_good, tuple_good, filter_good, function_good, bound_good}
use Rattle.reading_tokens.specs.declared.token.Symbol.TheVariants as symbols
use Rattle.reading_trees.specs.Trees as tree
use Rattle.reading_machine.specs.declared.frame.RecordKind.TheVariants as records
use Rattle.reading_machine.specs.declared.frame.Frame.TheVariants as frame
use Rattle.reading_machine.specs.declared.frame.Mode.TheVariants as mode
use Rattle.reading_machine.specs.OpenFits.{FrameFits, FramesFit}
use Rattle.reading_machine.specs.OpenRows.{FrameText, FramesText}

module _ (xs r : List Laid) (s : Symbol) (q : Place) where
  abbrev here : List Laid
  here = laid_symbol s q ∷ r

  abbrev IsGood : Stepped → Type 0
  IsGood = Good xs here r

  record_good : (c : RecordKind) (at : Place) (hs : Fields) (n : List ℕ) (fs : List Frame) (e : Tree) (ys zs : List Laid) → FramesText fs xs ys → FrameText (frame.Record c at hs n) ys zs → Text e zs here → FrameFits (frame.Record c at hs n) fs → FramesFit fs → Fits e → s ≡ symbols.CloseBracket → IsGood (Reads fs (mode.Have (of_records c at (MoreFields hs n e))))
  record_good records.Record at hs n fs e ys zs F a t f h k i =
      have_good xs here r fs (tree.Record at (MoreFields hs n e)) ys F ((f.1, f.2), (a.0, a.1, (here, (a.2.0, a.2.1, (a.2.2.0, a.2.2.1, (zs, a.2.2.2, t))), sign_is r s symbols.CloseBracket q i))) h tt (f.0, k)
  record_good records.Set at hs n fs e ys zs F a t f h k i =
      have_good xs here r fs (tree.RecordSet at (MoreFields hs n e)) ys F ((f.1, f.2), (a.0, a.1, (here, (a.2.0, a.2.1, (a.2.2.0, a.2.2.1, (zs, a.2.2.2, t))), sign_is r s symbols.CloseBracket q i))) h tt (f.0, k)

  pub symbol_good : (g : Frame) (fs : List Frame) (e : Tree) (ys zs : List Laid) → FramesText fs xs ys → FrameText g ys zs → Text e zs here → FrameFits g fs → FramesFit fs → Fits e → (is_always_symbol s ≡ true → EndsNoCase e) → IsGood (symbol_closes s g fs e)
  symbol_good (frame.Parenthesis at) fs e ys zs F a t f h k n =
      only_parenthesis IsGood tt s _ (λ i. deliver_good xs here r (tree.Parenthesized at e) fs ys F (zs, a, (here, t, sign_is r s symbols.CloseParenthesis q i)) h tt tt k)
  symbol_good (frame.Call n at es) fs e ys zs F a t f h k m =
      comma_parenthesis IsGood tt s _ _
      (λ i. want_good xs here r (frame.Call n at (MoreTrees es e)) fs ys F (a.0, a.1, (a.2.0, a.2.1, (zs, a.2.2, (here, t, sign_is r s symbols.Comma q i)))) (f, k) h)
      (λ i. have_good xs here r fs (tree.Call at n (MoreTrees es e)) ys F (a.0, a.1, (a.2.0, a.2.1, (here, (zs, a.2.2, t), sign_is r s symbols.CloseParenthesis q i))) h tt (f, k))
  symbol_good (frame.QualifiedCall n at es) fs e ys zs F a t f h k m =
      comma_parenthesis IsGood tt s _ _
      (λ i. want_good xs here r (frame.QualifiedCall n at (MoreTrees es e)) fs ys F (a.0, a.1, (a.2.0, a.2.1, (zs, a.2.2, (here, t, sign_is r s symbols.Comma q i)))) (f, k) h)
      (λ i. have_good xs here r fs (tree.Qualified at n (MoreTrees es e)) ys F (a.0, a.1, (a.2.0, a.2.1, (here, (zs, a.2.2, t), sign_is r s symbols.CloseParenthesis q i))) h tt (f, k))
  symbol_good (frame.Index d at es) fs e ys zs F a t f h k n =
      comma_bracket IsGood tt s _ _
      (λ i. want_good xs here r (frame.Index d at (MoreTrees es e)) fs ys F (a.0, a.1, (a.2.0, a.2.1, (zs, a.2.2, (here, t, sign_is r s symbols.Comma q i)))) (f.0, f.1, (f.2, k)) h)
      (λ i. stepped_good xs here r fs (with_step d at (tree.Index (MoreTrees es e))) ys F h (step_good d at (tree.Index (MoreTrees es e)) ys a.0 r f.0 f.1 (f.2, k) a.1 (a.2.0, a.2.1, (here, (zs, a.2.2, t), sign_is r s symbols.CloseBracket q i))))
  symbol_good (frame.Braces at es) fs e ys zs F a t f h k n = braces_good xs r q s at es fs e ys zs F a t f h k
  symbol_good (frame.MaybeFilter at n p o) fs e ys zs F a t f h k m = filter_good xs r q s at n p o fs e ys zs F a t h k
  symbol_good (frame.FilterTest at n d) fs e ys zs F a t f h k m =
      only_brace IsGood tt s _ (λ i. have_good xs here r fs (tree.Filter at n d e) ys F (a.0, a.1, (a.2.0, a.2.1, (a.2.2.0, a.2.2.1, (a.2.2.2.0, a.2.2.2.1, (zs, a.2.2.2.2, (here, t, sign_is r s symbols.CloseBrace q i)))))) h tt (f, k))
  symbol_good (frame.Tuple at es) fs e ys zs F a t f h k n = tuple_good xs r q s at es fs e ys zs F a t f h k
  symbol_good (frame.Bracket at) fs e ys zs F a t f h k n = bracket_good xs r q s at fs e ys zs F a t h k
  symbol_good (frame.MaybeFunction at n p o) fs e ys zs F a t f h k m = function_good xs r q s at n p o fs e ys zs F a t h k
  symbol_good (frame.FunctionBody at bs) fs e ys zs F a t f h k n =
      only_bracket IsGood tt s _ (λ i. have_good xs here r fs (tree.Function at bs e) ys F (a.0, a.1, (a.2.0, a.2.1, (zs, a.2.2, (here, t, sign_is r s symbols.CloseBracket q i)))) h tt (f, k))
  symbol_good (frame.FunctionRange at d) fs e ys zs F a t f h k n =
      only_bracket IsGood tt s _ (λ i. have_good xs here r fs (tree.FunctionSet at d e) ys F (a.0, a.1, (a.2.0, a.2.1, (zs, a.2.2, (here, t, sign_is r s symbols.CloseBracket q i)))) h tt (f, k))
  symbol_good (frame.Record c at hs n) fs e ys zs F a t f h k m =
      comma_bracket IsGood tt s _ _
      (λ i. ((ys, F, (a.0, a.1, (a.2.0, a.2.1, (a.2.2.0, a.2.2.1, (zs, a.2.2.2, (here, t, sign_is r s symbols.Comma q i)))))), h, ((f.0, k), (f.1, f.2))))
      (λ i. record_good c at hs n fs e ys zs F a t f h k i)
  symbol_good (frame.BoundSet b ns) fs e ys zs F a t f h k n = bound_good xs r q s b ns fs e ys zs F a t f h k
  symbol_good (frame.ExceptIndex at d cs ss p es) fs e ys zs F a t f h k n =
      comma_bracket IsGood tt s _ _
      (λ i. want_good xs here r (frame.ExceptIndex at d cs ss p (MoreTrees es e)) fs ys F (a.0, a.1, (a.2.0, a.2.1, (zs, a.2.2, (here, t, sign_is r s symbols.Comma q i)))) (f.0, f.1, f.2, f.3, (f.4, k)) h)
      (λ i. ((ys, F, (a.1.0, a.1.1, (a.1.2.0, a.1.2.1, (a.0, a.1.2.2, (a.2.0, a.2.1, (here, (zs, a.2.2, t), sign_is r s symbols.CloseBracket q i)))))), h, (f.0, f.1, (f.2, (f.4, k)), (f.3, tt))))
  symbol_good (frame.ExceptValue at d cs ss) fs e ys zs F a t f h k n =
      comma_bracket IsGood tt s _ _
      (λ i. ((ys, F, (a.1.1.0, a.1.1.1, (a.1.1.2.0, a.1.1.2.1, (a.1.1.2.2.0, a.1.1.2.2.1, (a.1.0, a.1.1.2.2.2, (here, (f.3, (a.1.2.0, a.1.2.1, (a.0, a.1.2.2, (zs, a.2, t)))), sign_is r s symbols.Comma q i)))))), h, (f.0, (f.1, f.2, k))))
      (λ i. have_good xs here r fs (tree.Except at d (MoreChanges cs ss e)) ys F (a.1.1.0, a.1.1.1, (a.1.1.2.0, a.1.1.2.1, (a.1.1.2.2.0, a.1.1.2.2.1, (here, (a.1.0, a.1.1.2.2.2, (f.3, (a.1.2.0, a.1.2.1, (a.0, a.1.2.2, (zs, a.2, t))))), sign_is r s symbols.CloseBracket q i)))) h tt (f.0, (f.1, f.2, k)))
  symbol_good (frame.ChooseSet at n) fs e ys zs F a t f h k m =
      only_colon IsGood tt s _ (λ i. want_good xs here r (frame.ChooseBody at n e) fs ys F (a.0, a.1, (a.2.0, a.2.1, (zs, a.2.2, (here, t, sign_is r s symbols.Colon q i)))) k h)
  symbol_good (frame.CaseTest at arms) fs e ys zs F a t f h k n =
      only_arrow IsGood tt s _ (λ i. want_good xs here r (frame.CaseValue at arms e) fs ys F (a.0, a.1, (zs, a.2, (here, t, sign_is r s symbols.Arrow q i))) (f, k) h)
  symbol_good (frame.CaseValue at arms d) fs e ys zs F a t f h k n =
      only_always IsGood tt s _ (λ i. ((ys, F, (a.0, a.1, (a.2.0, a.2.1, (a.2.2.0, a.2.2.1, (zs, a.2.2.2, (here, t, sign_is r s symbols.Always q i)))))), h, (f.0, f.1, k, n (ap is_always_symbol i))))
  symbol_good (frame.FairBody at v) fs e ys zs F a t f h k n =
      only_parenthesis IsGood tt s _ (λ i. have_good xs here r fs (tree.Fairness at v e) ys F (f.0, (a.0, a.1, (a.2.0, a.2.1, (zs, a.2.2, (here, t, sign_is r s symbols.CloseParenthesis q i))))) h tt (f.1, k))
  symbol_good g fs e ys zs F a t f h k n = tt
