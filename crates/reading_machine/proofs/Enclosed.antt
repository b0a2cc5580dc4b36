-- What a symbol does at the end of an expression in braces, brackets and tuples, and at the end of a bound.
use Rattle.std.proofs.Common.{ℕ, List, ◌∷◌, refl, sym, subst}
use Rattle.base_core.specs.declared.place.Place.{Place}
use Rattle.reading_trees.specs.declared.laid.Laid.{Laid}
use Rattle.reading_tokens.specs.declared.token.Symbol.{Symbol}
use Rattle.reading_trees.specs.Grammar.{◌⨟◌, token, sign, sign_at, NamesText, begins_member, Text, CommasBefore, BoundsText}
use Rattle.reading_trees.specs.Fits.{Fits, AllFit, BoundsFit}
use Rattle.reading_trees.specs.Trees.{Tree, Trees, NoTrees, MoreTrees, Bounds, MoreBounds}
use Rattle.reading_machine.specs.declared.frame.Binder.{Binder}
use Rattle.reading_machine.specs.declared.frame.Binding.{Binding}
use Rattle.reading_machine.specs.declared.frame.Frame.{Frame}
use Rattle.reading_machine.specs.Machine.{Stepped, Reads, Stops, Joined, Joins, Meets, join, begin_binding, braces_close, bracket_close, on_joined, filter_close, function_close, is_subscript, tuple_close, binder_close, bound_close}
use Rattle.reading_machine.proofs.Opened.{Good, laid_symbol}
use Rattle.reading_machine.proofs.Edges.{one_of_two}
use Rattle.reading_machine.proofs.JoinedTexts.{IsJoined, join_good}
use Rattle.reading_machine.proofs.Rows.{deliver_good}
use Rattle.reading_tokens.specs.declared.token.Kind.TheVariants as kinds
use Rattle.reading_tokens.specs.declared.token.Symbol.TheVariants as symbols
use Rattle.reading_trees.specs.Trees as tree
use Rattle.reading_machine.specs.declared.frame.Action.TheVariants as actions
use Rattle.reading_machine.specs.declared.frame.Binder.TheVariants as binders
use Rattle.reading_machine.specs.declared.frame.Mode.TheVariants as mode
use Rattle.reading_machine.specs.OpenFits.{BinderFits, BindingFits, FramesFit}
use Rattle.reading_machine.specs.OpenRows.{BinderText, BindingText, FramesText}

module _ (xs r : List Laid) (q : Place) where
  pub braces_good : (s : Symbol) (at : Place) (es : Trees) (fs : List Frame) (e : Tree) (ys zs : List Laid) → FramesText fs xs ys → (sign_at at symbols.OpenBrace ⨟ CommasBefore es) ys zs → Text e zs (laid_symbol s q ∷ r) → AllFit es → FramesFit fs → Fits e → Good xs (laid_symbol s q ∷ r) r (braces_close s at es fs e)
  braces_good symbols.Comma at es fs e ys zs F a t f h k = ((r, (ys, F, (a.0, a.1, (zs, a.2, (laid_symbol symbols.Comma q ∷ r, t, (q, refl))))), refl), ((f, k), h), tt)
  braces_good symbols.CloseBrace at es fs e ys zs F a t f h k = ((ys, F, (a.0, a.1, (laid_symbol symbols.CloseBrace q ∷ r, (zs, a.2, t), (q, refl)))), h, (tt, (f, k)))
  braces_good symbols.Colon at NoTrees fs e ys zs F a t f h k =
      one_of_two (Good xs (laid_symbol symbols.Colon q ∷ r) r) (begins_member e) Stops (Reads fs (begin_binding (binders.Map at e))) (λ b. tt)
      (λ b. ((ys, F, (r, (r, (a.0, a.1, (laid_symbol symbols.Colon q ∷ r, subst (λ w. Text e w (laid_symbol symbols.Colon q ∷ r)) (sym a.2) t, (q, refl))), refl), refl)), h, ((k, b), tt)))
  braces_good symbols.Colon at (MoreTrees es d) fs e ys zs F a t f h k = tt
  braces_good _ at es fs e ys zs F a t f h k = tt

  pub bracket_good : (s : Symbol) (at : Place) (fs : List Frame) (e : Tree) (ys zs : List Laid) → FramesText fs xs ys → sign_at at symbols.OpenBracket ys zs → Text e zs (laid_symbol s q ∷ r) → FramesFit fs → Fits e → Good xs (laid_symbol s q ∷ r) r (bracket_close s at fs e)
  bracket_good symbols.Arrow at fs e ys zs F a t h k = ((r, (ys, F, (zs, a, (laid_symbol symbols.Arrow q ∷ r, t, (q, refl)))), refl), (k, h), tt)
  bracket_good symbols.CloseBracketSubscript at fs e ys zs F a t h k = ((ys, F, (zs, a, (laid_symbol symbols.CloseBracketSubscript q ∷ r, t, (q, refl)))), h, k)
  bracket_good _ at fs e ys zs F a t h k = tt

  pub tuple_good : (s : Symbol) (at : Place) (es : Trees) (fs : List Frame) (e : Tree) (ys zs : List Laid) → FramesText fs xs ys → (sign_at at symbols.OpenTuple ⨟ CommasBefore es) ys zs → Text e zs (laid_symbol s q ∷ r) → AllFit es → FramesFit fs → Fits e → Good xs (laid_symbol s q ∷ r) r (tuple_close s at es fs e)
  tuple_good symbols.Comma at es fs e ys zs F a t f h k = ((r, (ys, F, (a.0, a.1, (zs, a.2, (laid_symbol symbols.Comma q ∷ r, t, (q, refl))))), refl), ((f, k), h), tt)
  tuple_good symbols.CloseTuple at es fs e ys zs F a t f h k =
      deliver_good xs (laid_symbol symbols.CloseTuple q ∷ r) r (tree.Tuple at (MoreTrees es e)) fs ys F (a.0, a.1, (laid_symbol symbols.CloseTuple q ∷ r, (zs, a.2, t), (q, refl))) h tt tt (f, k)
  tuple_good symbols.CloseTupleSubscript at NoTrees fs e ys zs F a t f h k =
      one_of_two (Good xs (laid_symbol symbols.CloseTupleSubscript q ∷ r) r) (is_subscript fs) Stops (Reads fs (mode.SubscriptStart actions.Angle at e)) (λ b. tt)
      (λ b. ((ys, F, (a.0, a.1, (laid_symbol symbols.CloseTupleSubscript q ∷ r, subst (λ w. Text e w (laid_symbol symbols.CloseTupleSubscript q ∷ r)) (sym a.2) t, (q, refl)))), h, k))
  tuple_good symbols.CloseTupleSubscript at (MoreTrees es d) fs e ys zs F a t f h k = tt
  tuple_good _ at es fs e ys zs F a t f h k = tt

  joined_good : (here ys zs : List Laid) (e : Tree) (p : Place) (next : Tree → Stepped) (x : Joined Tree) → IsJoined ys zs e x → ((t : Tree) → Text t ys zs → Fits t → Good xs here r (next t)) → Good xs here r (on_joined x p next)
  joined_good here ys zs e p next (Joins t) j g = g t j.0 j.1
  joined_good here ys zs e p next (Meets m) j g = tt

  -- an expression that begins with a name and `\in`
  pub member_good : (here : List Laid) (n : List ℕ) (p o : Place) (e : Tree) (ys zs : List Laid) (next : Tree → Stepped) → (token p (kinds.Name n) ⨟ sign_at o symbols.Member) ys zs → Text e zs here → Fits e → ((t : Tree) → Text t ys here → Fits t → Good xs here r (next t)) → Good xs here r (on_joined (join (tree.Name p n) o e) o next)
  member_good here n p o e ys zs next a t k g = joined_good here ys here e o next (join (tree.Name p n) o e) (join_good p n o ys zs a e here t k) g

  pub filter_good : (s : Symbol) (at : Place) (n : List ℕ) (p o : Place) (fs : List Frame) (e : Tree) (ys zs : List Laid) → FramesText fs xs ys → (sign_at at symbols.OpenBrace ⨟ token p (kinds.Name n) ⨟ sign_at o symbols.Member) ys zs → Text e zs (laid_symbol s q ∷ r) → FramesFit fs → Fits e → Good xs (laid_symbol s q ∷ r) r (filter_close s at n p o fs e)
  filter_good symbols.Colon at n p o fs e ys zs F a t h k =
      ((r, (ys, F, (a.0, a.1, (a.2.0, (p, a.2.1), (zs, (o, a.2.2), (laid_symbol symbols.Colon q ∷ r, t, (q, refl)))))), refl), (k, h), tt)
  filter_good symbols.Comma at n p o fs e ys zs F a t h k =
      member_good (laid_symbol symbols.Comma q ∷ r) n p o e a.0 zs _ a.2 t k (λ u v w. braces_good symbols.Comma at NoTrees fs u ys a.0 F (a.0, a.1, refl) v tt h w)
  filter_good symbols.CloseBrace at n p o fs e ys zs F a t h k =
      member_good (laid_symbol symbols.CloseBrace q ∷ r) n p o e a.0 zs _ a.2 t k (λ u v w. braces_good symbols.CloseBrace at NoTrees fs u ys a.0 F (a.0, a.1, refl) v tt h w)
  filter_good _ at n p o fs e ys zs F a t h k = tt

  pub function_good : (s : Symbol) (at : Place) (n : List ℕ) (p o : Place) (fs : List Frame) (e : Tree) (ys zs : List Laid) → FramesText fs xs ys → (sign_at at symbols.OpenBracket ⨟ token p (kinds.Name n) ⨟ sign_at o symbols.Member) ys zs → Text e zs (laid_symbol s q ∷ r) → FramesFit fs → Fits e → Good xs (laid_symbol s q ∷ r) r (function_close s at n p o fs e)
  function_good symbols.Comma at n p o fs e ys zs F a t h k =
      ((ys, F, (r, (a.0, a.1, (a.0, refl, (a.2.0, (p, a.2.1), (zs, (o, a.2.2), (laid_symbol symbols.Comma q ∷ r, t, (q, refl)))))), refl)), h, (tt, (tt, k)))
  function_good symbols.MapsTo at n p o fs e ys zs F a t h k =
      ((r, (ys, F, (a.0, a.1, (laid_symbol symbols.MapsTo q ∷ r, (a.0, refl, (a.2.0, (p, a.2.1), (zs, (o, a.2.2), t))), (q, refl)))), refl), ((tt, k), h), tt)
  function_good symbols.Arrow at n p o fs e ys zs F a t h k =
      member_good (laid_symbol symbols.Arrow q ∷ r) n p o e a.0 zs _ a.2 t k (λ u v w. bracket_good symbols.Arrow at fs u ys a.0 F a.1 v h w)
  function_good symbols.CloseBracketSubscript at n p o fs e ys zs F a t h k =
      member_good (laid_symbol symbols.CloseBracketSubscript q ∷ r) n p o e a.0 zs _ a.2 t k (λ u v w. bracket_good symbols.CloseBracketSubscript at fs u ys a.0 F a.1 v h w)
  function_good _ at n p o fs e ys zs F a t h k = tt

  -- all bounds of a binder
  binder_good : (s : Symbol) (b : Binder) (bs : Bounds) (fs : List Frame) (ys zs : List Laid) → FramesText fs xs ys → BinderText b ys zs → BoundsText bs zs (laid_symbol s q ∷ r) → BinderFits b fs → BoundsFit bs → FramesFit fs → Good xs (laid_symbol s q ∷ r) r (binder_close s b bs fs)
  binder_good symbols.Colon (binders.Quantifier c at) bs fs ys zs F a t f k h = ((r, (ys, F, (zs, a, (laid_symbol symbols.Colon q ∷ r, t, (q, refl)))), refl), (k, h), tt)
  binder_good symbols.MapsTo (binders.Function at) bs fs ys zs F a t f k h = ((r, (ys, F, (zs, a, (laid_symbol symbols.MapsTo q ∷ r, t, (q, refl)))), refl), (k, h), tt)
  binder_good symbols.CloseBrace (binders.Map at e) bs fs ys zs F a t f k h = ((ys, F, (f.1, (a.0, a.1, (a.2.0, a.2.1, (zs, a.2.2, (laid_symbol symbols.CloseBrace q ∷ r, t, (q, refl))))))), h, (tt, (f.0, k)))
  binder_good symbols.CloseBracket (binders.Defined s n p o) bs fs ys zs F a t f k h = ((ys, F, (a.0, a.1, (a.2.0, a.2.1, (zs, a.2.2, (laid_symbol symbols.CloseBracket q ∷ r, t, (q, refl)))))), h, (f, k))
  binder_good _ _ bs fs ys zs F a t f k h = tt

  pub bound_good : (s : Symbol) (b : Binding) (ns : List (List ℕ)) (fs : List Frame) (e : Tree) (ys zs : List Laid) → FramesText fs xs ys → (BindingText b ⨟ NamesText ns ⨟ sign symbols.Member) ys zs → Text e zs (laid_symbol s q ∷ r) → BindingFits b fs → FramesFit fs → Fits e → Good xs (laid_symbol s q ∷ r) r (bound_close s b ns fs e)
  bound_good symbols.Comma b ns fs e ys zs F a t f h k =
      ((ys, F, (r, (a.1.0, a.1.1, (a.0, a.1.2, (a.2.0, a.2.1, (zs, a.2.2, (laid_symbol symbols.Comma q ∷ r, t, (q, refl)))))), refl)), h, (f.0, (f.1, k)))
  bound_good s b ns fs e ys zs F a t f h k =
      binder_good s b.binder (MoreBounds b.bounds ns e) fs ys a.1.0 F a.1.1 (a.0, a.1.2, (a.2.0, a.2.1, (zs, a.2.2, t))) f.0 (f.1, k) h
