-- Parts that rows have in common.
use Rattle.std.proofs.Common.{◌≡◌, List, ◌∷◌, refl, ap}
use Rattle.base_core.specs.declared.place.Place.{Place}
use Rattle.reading_trees.specs.declared.laid.Laid.{Laid}
use Rattle.reading_tokens.specs.declared.token.Symbol.{Symbol}
use Rattle.reading_trees.specs.Grammar.{sign, IsPrimary, IsSubscript, Text, StepText}
use Rattle.reading_trees.specs.Fits.{Fits, StepFits}
use Rattle.reading_trees.specs.Trees.{Tree, Step, NoSteps}
use Rattle.reading_machine.specs.declared.frame.Frame.{Frame}
use Rattle.reading_machine.specs.Machine.{Stepped, Reads, Stops, want, with_step, deliver, comma_or, only_at}
use Rattle.reading_machine.proofs.Opened.{Good, laid_symbol}
use Rattle.reading_tokens.specs.declared.token.Symbol.TheVariants as symbols
use Rattle.reading_trees.specs.Trees as tree
use Rattle.reading_machine.specs.declared.frame.Action.TheVariants as actions
use Rattle.reading_machine.specs.declared.frame.Frame.TheVariants as frame
use Rattle.reading_machine.specs.declared.frame.Mode.TheVariants as mode
use Rattle.reading_machine.specs.OpenFits.{IsOperand, FrameFits, FramesFit}
use Rattle.reading_machine.specs.OpenRows.{FrameText, FramesText}

-- a symbol is the one that is looked for
pub sign_is : (r : List Laid) (s t : Symbol) (q : Place) → s ≡ t → sign t (laid_symbol s q ∷ r) r
sign_is r s t q e = (q, ap (λ x. laid_symbol x q ∷ r) e)

module _ (G : Stepped → Type 0) (stop : G Stops) where
  pub only_parenthesis : (s : Symbol) (d : Stepped) → (s ≡ symbols.CloseParenthesis → G d) → G (only_at s symbols.CloseParenthesis d)
  only_parenthesis symbols.CloseParenthesis d h = h refl
  only_parenthesis _ d h = stop

  pub only_bracket : (s : Symbol) (d : Stepped) → (s ≡ symbols.CloseBracket → G d) → G (only_at s symbols.CloseBracket d)
  only_bracket symbols.CloseBracket d h = h refl
  only_bracket _ d h = stop

  pub only_brace : (s : Symbol) (d : Stepped) → (s ≡ symbols.CloseBrace → G d) → G (only_at s symbols.CloseBrace d)
  only_brace symbols.CloseBrace d h = h refl
  only_brace _ d h = stop

  pub only_colon : (s : Symbol) (d : Stepped) → (s ≡ symbols.Colon → G d) → G (only_at s symbols.Colon d)
  only_colon symbols.Colon d h = h refl
  only_colon _ d h = stop

  pub only_arrow : (s : Symbol) (d : Stepped) → (s ≡ symbols.Arrow → G d) → G (only_at s symbols.Arrow d)
  only_arrow symbols.Arrow d h = h refl
  only_arrow _ d h = stop

  pub only_always : (s : Symbol) (d : Stepped) → (s ≡ symbols.Always → G d) → G (only_at s symbols.Always d)
  only_always symbols.Always d h = h refl
  only_always _ d h = stop

  pub comma_parenthesis : (s : Symbol) (more done : Stepped) → (s ≡ symbols.Comma → G more) → (s ≡ symbols.CloseParenthesis → G done) → G (comma_or s symbols.CloseParenthesis more done)
  comma_parenthesis symbols.Comma more done g h = g refl
  comma_parenthesis symbols.CloseParenthesis more done g h = h refl
  comma_parenthesis _ more done g h = stop

  pub comma_bracket : (s : Symbol) (more done : Stepped) → (s ≡ symbols.Comma → G more) → (s ≡ symbols.CloseBracket → G done) → G (comma_or s symbols.CloseBracket more done)
  comma_bracket symbols.Comma more done g h = g refl
  comma_bracket symbols.CloseBracket more done g h = h refl
  comma_bracket _ more done g h = stop

-- a primary with one more step behind it
abbrev pub IsStepped : Tree → List Laid → List Laid → Type 0
IsStepped e xs zs = Text e xs zs × IsOperand e × Fits e

first_step : (e : Tree) (at : Place) (t : Step) (xs ys zs : List Laid) → IsPrimary e → Fits e → StepFits t → Text e xs ys → StepText at t ys zs → IsStepped (tree.Postfix at e NoSteps t) xs zs
first_step e at t xs ys zs p f g a b = ((p, (ys, a, (ys, refl, b))), tt, (f, tt, g))

pub step_good : (e : Tree) (q : Place) (t : Step) (xs ys zs : List Laid) → IsOperand e → Fits e → StepFits t → Text e xs ys → StepText q t ys zs → IsStepped (with_step e q t) xs zs
step_good (tree.Postfix p e ss s) q t xs ys zs o f g a b = ((a.0, (a.1.0, a.1.1, (ys, (a.1.2.0, a.1.2.1, a.1.2.2), b))), tt, (f.0, (f.1, f.2), g))
step_good (tree.Prefix at o e) c d us vs ws i j k l m = absurd i
step_good (tree.Infix at o es e) c d us vs ws i j k l m = absurd i
step_good (tree.Quantified at q bs e) c d us vs ws i j k l m = absurd i
step_good (tree.Choose at n s e) c d us vs ws i j k l m = absurd i
step_good (tree.If at p e f) c d us vs ws i j k l m = absurd i
step_good (tree.Case at arms) c d us vs ws i j k l m = absurd i
step_good (tree.CaseOther at arms e) c d us vs ws i j k l m = absurd i
step_good (tree.Let at ds e) c d us vs ws i j k l m = absurd i
step_good e q t xs ys zs o f g a b = first_step e q t xs ys zs tt f g a b

module _ (xs here r : List Laid) where
  pub want_good : (f : Frame) (fs : List Frame) (ys : List Laid) → FramesText fs xs ys → FrameText f ys r → FrameFits f fs → FramesFit fs → Good xs here r (want (f ∷ fs))
  want_good f fs ys F t a h = ((r, (ys, F, t), refl), (a, h), tt)

  pub have_good : (fs : List Frame) (e : Tree) (ys : List Laid) → FramesText fs xs ys → Text e ys r → FramesFit fs → IsOperand e → Fits e → Good xs here r (Reads fs (mode.Have e))
  have_good fs e ys F t h o k = ((ys, F, t), h, (o, k))

  pub stepped_good : (fs : List Frame) (e : Tree) (ys : List Laid) → FramesText fs xs ys → FramesFit fs → IsStepped e ys r → Good xs here r (Reads fs (mode.Have e))
  stepped_good fs e ys F h s = ((ys, F, s.0), h, (s.1, s.2))

  -- a name, a tuple or an expression in parentheses, which may be a subscript
  pub deliver_good : (e : Tree) (fs : List Frame) (ys : List Laid) → FramesText fs xs ys → Text e ys r → FramesFit fs → IsOperand e → IsSubscript e → Fits e → Good xs here r (deliver e fs)
  deliver_good e (frame.Subscript actions.Box at a ∷ fs) ys F t h o s k =
      ((F.0, F.1, (s, (F.2.0, F.2.1, (F.2.2.0, F.2.2.1, (ys, F.2.2.2, t))))), h.1, (tt, (h.0, k)))
  deliver_good e (frame.Subscript actions.Angle at a ∷ fs) ys F t h o s k =
      ((F.0, F.1, (s, (F.2.0, F.2.1, (F.2.2.0, F.2.2.1, (ys, F.2.2.2, t))))), h.1, (tt, (h.0, k)))
  deliver_good e (frame.FairSubscript at ∷ fs) ys F t h o s k = ((F.0, F.1, (ys, F.2, t)), h.1, (s, k))
  deliver_good e fs ys F t h o s k = ((ys, F, t), h, (o, k))
