-- The reader goes over the text of an open row: quantifiers, CHOOSE, IF and CASE.
use Rattle.std.proofs.Common.{◌≡◌, ℕ, List, ◌∷◌, refl, ap, ◌∙◌}
use Rattle.base_core.specs.declared.place.Place.{Place}
use Rattle.reading_trees.specs.declared.laid.Laid.{Laid}
use Rattle.reading_tokens.specs.declared.token.Kind.TheVariants as kinds
use Rattle.reading_tokens.specs.declared.token.Symbol.TheVariants as symbols
use Rattle.reading_trees.specs.declared.operators.Quantifier.{Quantifier}
use Rattle.reading_trees.specs.Precedence.{quantifier_symbol}
use Rattle.reading_trees.specs.Fits.{Fits, BoundsFit, ArmsBeforeFit}
use Rattle.reading_trees.specs.Trees.{Tree, Bounds, Arms, NoArms, MoreArms}
use Rattle.reading_machine.specs.declared.frame.Binder.TheVariants as binders
use Rattle.reading_machine.specs.declared.frame.Frame.{Frame}
use Rattle.reading_machine.specs.declared.frame.Frame.TheVariants as frame
use Rattle.reading_machine.specs.declared.frame.Mode.TheVariants as mode
use Rattle.reading_machine.specs.OpenRows.{FrameText, ModeText}
use Rattle.reading_machine.proofs.Runner.{Runner, after, run}
use Rattle.reading_machine.proofs.RunsStarts.{opened}
use Rattle.reading_machine.proofs.RunsParts.{plain, part}
use Rattle.reading_machine.proofs.RunsBounds.{quantifier_begins, bounds_run}
use Rattle.reading_machine.proofs.RunsCases.{arms_state, test_starts, arms_before}
use Rattle.reading_machine.proofs.RunsTrees.{good, bounds_good, arms_before_good}

module _ (reader : Runner) where
  -- ---- quantifiers and CHOOSE

  pub quantifier_goes : (q : Quantifier) (p : Place) (bs : Bounds) → BoundsFit bs → (gs : List Frame) (xs ys : List Laid) → FrameText (frame.QuantifierBody q p bs) xs ys
      → run reader xs gs mode.Want ≡ run reader ys (frame.QuantifierBody q p bs ∷ gs) mode.Want
  quantifier_goes q p bs f gs xs ys h =
      ap (λ v. run reader v gs mode.Want) h.1
      ∙ ap (λ s. after reader s (plain (kinds.Symbol (quantifier_symbol q)) p ∷ h.0) (run reader h.0)) (quantifier_begins q p gs)
      ∙ bounds_run reader symbols.Colon h.2.2.0 (binders.Quantifier q p) bs (bounds_good reader bs f) gs h.0 h.2.0 ys h.2.1 h.2.2.1 refl (λ hs a. refl) (λ b cs ns s hs. refl)

  pub choose_named_goes : (p : Place) (n : List ℕ) (gs : List Frame) (xs ys : List Laid) → ModeText (mode.ChooseNamed p n) xs ys → run reader xs gs mode.Want ≡ run reader ys gs (mode.ChooseNamed p n)
  choose_named_goes p n gs xs ys h = ap (λ v. run reader v gs mode.Want) h.1 ∙ ap (λ v. run reader v gs (mode.ChooseName p)) h.2.1

  pub choose_set_goes : (p : Place) (n : List ℕ) (gs : List Frame) (xs ys : List Laid) → FrameText (frame.ChooseSet p n) xs ys → run reader xs gs mode.Want ≡ run reader ys (frame.ChooseSet p n ∷ gs) mode.Want
  choose_set_goes p n gs xs ys h =
      choose_named_goes p n gs xs h.2.0 (h.0, h.1, h.2.1) ∙ ap (λ v. run reader v gs (mode.ChooseNamed p n)) h.2.2.1

  pub choose_body_goes : (p : Place) (n : List ℕ) (s : Tree) → Fits s → (gs : List Frame) (xs ys : List Laid) → FrameText (frame.ChooseBody p n s) xs ys → run reader xs gs mode.Want ≡ run reader ys (frame.ChooseBody p n s ∷ gs) mode.Want
  choose_body_goes p n s f gs xs ys h =
      choose_set_goes p n gs xs h.2.2.0 (h.0, h.1, (h.2.0, h.2.1, h.2.2.1))
      ∙ part reader _ _ s (frame.ChooseSet p n ∷ gs) (good reader s f).runs tt h.2.2.2.1 h.2.2.2.2.1 refl (λ hs a. refl)

  -- ---- IF

  pub then_goes : (p : Place) (a : Tree) → Fits a → (gs : List Frame) (xs ys : List Laid) → FrameText (frame.IfThen p a) xs ys → run reader xs gs mode.Want ≡ run reader ys (frame.IfThen p a ∷ gs) mode.Want
  then_goes p a f gs xs ys h =
      ap (λ v. run reader v gs mode.Want) h.1 ∙ part reader _ _ a (frame.IfTest p ∷ gs) (good reader a f).runs tt h.2.1 h.2.2.1 refl (λ hs b. refl)

  pub else_goes : (p : Place) (a b : Tree) → Fits a → Fits b → (gs : List Frame) (xs ys : List Laid) → FrameText (frame.IfElse p a b) xs ys → run reader xs gs mode.Want ≡ run reader ys (frame.IfElse p a b ∷ gs) mode.Want
  else_goes p a b f g gs xs ys h =
      then_goes p a f gs xs h.2.2.0 (h.0, h.1, (h.2.0, h.2.1, h.2.2.1))
      ∙ part reader _ _ b (frame.IfThen p a ∷ gs) (good reader b g).runs tt h.2.2.2.1 h.2.2.2.2.1 refl (λ hs c. refl)

  -- ---- CASE

  pub arms_go : (p : Place) (arms : Arms) → ArmsBeforeFit arms → (gs : List Frame) (xs ys : List Laid) → FrameText (frame.CaseTest p arms) xs ys → run reader xs gs mode.Want ≡ arms_state reader p arms gs ys
  arms_go p arms f gs xs ys h = ap (λ v. run reader v gs mode.Want) h.1 ∙ arms_before reader p arms (arms_before_good reader arms f) f gs h.0 ys h.2

  pub case_value_goes : (p : Place) (arms : Arms) (a : Tree) → ArmsBeforeFit arms → Fits a → (gs : List Frame) (xs ys : List Laid) → FrameText (frame.CaseValue p arms a) xs ys
      → run reader xs gs mode.Want ≡ run reader ys (frame.CaseValue p arms a ∷ gs) mode.Want
  case_value_goes p arms a f g gs xs ys h =
      arms_go p arms f gs xs h.2.0 (h.0, h.1, h.2.1)
      ∙ test_starts reader p arms gs h.2.0 (opened a h.2.0 h.2.2.0 h.2.2.1)
      ∙ part reader _ _ a (frame.CaseTest p arms ∷ gs) (good reader a g).runs tt h.2.2.1 h.2.2.2.1 refl (λ hs b. refl)

  -- behind at least one arm
  pub case_next_goes : (p : Place) (arms : Arms) → ArmsBeforeFit arms → (gs : List Frame) (xs ys : List Laid) → ModeText (mode.CaseNext p arms) xs ys → run reader xs gs mode.Want ≡ run reader ys gs (mode.CaseNext p arms)
  case_next_goes p NoArms f gs xs ys h = absurd h.2
  case_next_goes p (MoreArms arms q e) f gs xs ys h = arms_go p (MoreArms arms q e) f gs xs ys h

  pub other_goes : (p : Place) (arms : Arms) → ArmsBeforeFit arms → (gs : List Frame) (xs ys : List Laid) → ModeText (mode.OtherArrow p arms) xs ys → run reader xs gs mode.Want ≡ run reader ys gs (mode.OtherArrow p arms)
  other_goes p arms f gs xs ys h = case_next_goes p arms f gs xs h.2.0 (h.0, h.1, h.2.1) ∙ ap (λ v. run reader v gs (mode.CaseNext p arms)) h.2.2.1

  pub case_other_goes : (p : Place) (arms : Arms) → ArmsBeforeFit arms → (gs : List Frame) (xs ys : List Laid) → FrameText (frame.CaseOther p arms) xs ys
      → run reader xs gs mode.Want ≡ run reader ys (frame.CaseOther p arms ∷ gs) mode.Want
  case_other_goes p arms f gs xs ys h =
      other_goes p arms f gs xs h.2.2.0 (h.0, h.1, (h.2.0, h.2.1, h.2.2.1)) ∙ ap (λ v. run reader v gs (mode.OtherArrow p arms)) h.2.2.2.1
