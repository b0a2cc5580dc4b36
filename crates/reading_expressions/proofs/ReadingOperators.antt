-- The reader goes over the text of an operator behind its operands. Where that begins with a name and `\in` in braces or brackets, the
-- reader has another row there, and no more is unfinished.
use Rattle.std.proofs.Common.{◌≡◌, ◌+◌, ◌≤◌, Bool, true, false, List, [], ◌∷◌, refl, sym, ap, ◌∙◌, arith}
use Rattle.base_core.specs.declared.place.Place.{Place}
use Rattle.reading_trees.specs.declared.laid.Laid.{Laid}
use Rattle.reading_trees.specs.declared.operators.InfixOperator.{InfixOperator}
use Rattle.reading_trees.specs.declared.operators.InfixOperator.TheVariants as infixes
use Rattle.reading_trees.specs.Precedence.{Above, infix_range}
use Rattle.reading_trees.specs.Fits.{FirstAbove, ChainFits}
use Rattle.reading_trees.specs.Grammar.{first_begins}
use Rattle.reading_trees.specs.Trees as tree
use Rattle.reading_trees.specs.Trees.{NoTrees, MoreTrees, Operands, First, Next}
use Rattle.reading_machine.specs.declared.frame.Frame.{Frame}
use Rattle.reading_machine.specs.declared.frame.Frame.TheVariants as frame
use Rattle.reading_machine.specs.declared.frame.Mode.TheVariants as mode
use Rattle.reading_open_rows.specs.Unfinished.{of_frame, of_frames}
use Rattle.reading_machine.specs.OpenFits.{FrameStands, FramesStand, Open, in_frame, FrameFits, FramesFit, Outermost}
use Rattle.reading_machine.specs.OpenRows.{FrameText, FramesText}
use Rattle.reading_machine.proofs.FittingEnds.{first_mode}
use Rattle.reading_expressions.proofs.ReadingFrames.{kept, frame_goes}
use Rattle.reading_expressions.proofs.ReadingLike.{Chains, Like, no_rows, is_row, ready, Stands}
use Rattle.reading_expressions.proofs.ReadingRows.{infix_goes}
use Rattle.reading_expressions.proofs.ReadingStarts.{Ready, ready_top, is_naming, enter, enters}
use Rattle.reading_machine.proofs.Runner.{Runner, run}
use Rattle.reading_machine.proofs.RunsBrackets.{is_special, special}
use Rattle.reading_machine.proofs.RunsJoin.{direct, chain_begun, ChainBegun, meets_without, chain_without}
use Rattle.reading_machine.proofs.RunsParts.{without_first}
use Rattle.reading_machine.proofs.RunsPlain.{chain_meets, chain_runs}
use Rattle.reading_machine.proofs.RunsStarts.{chain_opened, chain_named}
use Rattle.reading_machine.proofs.RunsTrees.{chain_good}

not_naming : false ≡ true → ⊥
not_naming q = cc

-- the row of the name and `\in` stands there instead of the bracket or the brace, and the chain without them in it
chain_over : (unit : Bool) (fs gs : List Frame) (f g : Frame) (o : InfixOperator) (es us : Operands) (p : Place) → Like unit fs (f ∷ gs) → of_frame g ≤ of_frame f → Like unit (frame.Infix o es p ∷ fs) (frame.Infix o us p ∷ g ∷ gs)
chain_over unit fs gs f g o es us p l k =
    let c : of_frame f + of_frames gs ≤ of_frames fs = l.count in
    record { none = λ q. absurd (is_row (frame.Infix o es p) fs q); inner = λ q. tt; open_so = λ q. tt; top = λ q vs h. h; count = omega (arith, c, k) }

-- or that row is all
chain_gone : (unit : Bool) (fs gs : List Frame) (f g : Frame) (o : InfixOperator) (es : Operands) (p : Place) → Like unit fs (f ∷ gs) → of_frame g ≤ of_frame f → Open (g ∷ gs) → ((q : InfixOperator) (us : Operands) → Chains (g ∷ gs) q us)
    → Like unit (frame.Infix o es p ∷ fs) (g ∷ gs)
chain_gone unit fs gs f g o es p l k a b =
    let c : of_frame f + of_frames gs ≤ of_frames fs = l.count in
    record { none = λ q. absurd (is_row (frame.Infix o es p) fs q); inner = λ q. tt; open_so = λ q. a; top = λ q us h. b q us; count = omega (arith, c, k) }

module _ (reader : Runner) (unit : Bool) (fs : List Frame) where
  abbrev After : List Frame → InfixOperator → Operands → Place → List Laid → List Laid → Type 0
  After gs o es p xs ys = Stands reader unit (enter reader unit xs gs) ys (frame.Infix o es p ∷ fs)

  direct_after : (gs : List Frame) → Like unit fs gs → is_naming gs ≡ true → (o : InfixOperator) (es : Operands) (p : Place) → ChainFits o es → direct o es ≡ true → (xs ys : List Laid) → FrameText (frame.Infix o es p) xs ys → After gs o es p xs ys
  direct_after (frame.Bracket at ∷ gs) l i infixes.Member (First (tree.Name q n)) p f d xs ys h =
      record {
        rows = frame.MaybeFunction at n q p ∷ gs;
        runs = ap (λ v. run reader v gs (mode.BracketStart at)) h.1 ∙ ap (λ v. run reader v gs (mode.BracketName at n q)) h.2;
        like = chain_gone unit fs gs (frame.Bracket at) (frame.MaybeFunction at n q p) infixes.Member (First (tree.Name q n)) p l (omega arith) tt (λ v us. tt);
      }
  direct_after (frame.Braces at NoTrees ∷ gs) l i infixes.Member (First (tree.Name q n)) p f d xs ys h =
      record {
        rows = frame.MaybeFilter at n q p ∷ gs;
        runs = ap (λ v. run reader v gs (mode.BraceStart at)) h.1 ∙ ap (λ v. run reader v gs (mode.BraceName at n q)) h.2;
        like = chain_gone unit fs gs (frame.Braces at NoTrees) (frame.MaybeFilter at n q p) infixes.Member (First (tree.Name q n)) p l (omega arith) tt (λ v us. tt);
      }
  direct_after gs l i infixes.Member (First (tree.Name q n)) p f d xs ys h = absurd (not_naming i)
  direct_after gs l i infixes.Member (First x) p f d xs ys h = absurd (not_naming d)
  direct_after gs l i infixes.Member (Next es q x) p f d xs ys h = absurd (not_naming f.4)
  direct_after gs l i o es p f d xs ys h = absurd (not_naming d)

  begun_after : (gs : List Frame) → Like unit fs gs → is_naming gs ≡ true → (o : InfixOperator) (es : Operands) (p : Place) → ChainFits o es → first_begins o es ≡ true → direct o es ≡ false → (xs ys : List Laid) → (h : FrameText (frame.Infix o es p) xs ys)
      → ChainBegun o es xs h.0 → After gs o es p xs ys
  begun_after (frame.Bracket at ∷ gs) l i o es p f m d xs ys h b =
      let g = frame.MaybeFunction at b.name b.place b.sign in
      record {
        rows = frame.Infix o (without_first es) p ∷ g ∷ gs;
        runs = ap (λ v. run reader v gs (mode.BracketStart at)) b.here
            ∙ chain_runs reader o (without_first es) (chain_without reader o es (chain_good reader o es f) m d) (meets_without o es (chain_meets o es f)) p (g ∷ gs) tt b.behind h.0 ys b.text h.2;
        like = chain_over unit fs gs (frame.Bracket at) g o es (without_first es) p l (omega arith);
      }
  begun_after (frame.Braces at NoTrees ∷ gs) l i o es p f m d xs ys h b =
      let g = frame.MaybeFilter at b.name b.place b.sign in
      record {
        rows = frame.Infix o (without_first es) p ∷ g ∷ gs;
        runs = ap (λ v. run reader v gs (mode.BraceStart at)) b.here
            ∙ chain_runs reader o (without_first es) (chain_without reader o es (chain_good reader o es f) m d) (meets_without o es (chain_meets o es f)) p (g ∷ gs) tt b.behind h.0 ys b.text h.2;
        like = chain_over unit fs gs (frame.Braces at NoTrees) g o es (without_first es) p l (omega arith);
      }
  begun_after gs l i o es p f m d xs ys h b = absurd (not_naming i)

  named_after : (gs : List Frame) → Like unit fs gs → is_naming gs ≡ true → (o : InfixOperator) (es : Operands) (p : Place) → ChainFits o es → first_begins o es ≡ true → (xs ys : List Laid) → FrameText (frame.Infix o es p) xs ys
      → (d : Bool) → direct o es ≡ d → After gs o es p xs ys
  named_after gs l i o es p f m xs ys h true d = direct_after gs l i o es p f d xs ys h
  named_after gs l i o es p f m xs ys h false d = begun_after gs l i o es p f m d xs ys h (chain_begun o es f m d xs h.0 h.1)

  -- the reader has that very row
  plain_after : (gs : List Frame) → Like unit fs gs → Ready unit gs → (o : InfixOperator) (es : Operands) (p : Place) → FrameFits (frame.Infix o es p) fs → (xs ys : List Laid) → (h : FrameText (frame.Infix o es p) xs ys)
      → (is_naming gs ≡ true → first_begins o es ≡ false) → After gs o es p xs ys
  plain_after gs l r o es p f xs ys h n =
      kept reader unit fs gs l (frame.Infix o es p) xs ys
      (enters reader unit gs r xs (chain_opened o es xs h.0 h.1) (λ q. chain_named is_special special o es (n q) xs h.0 h.1 p ys h.2)
      ∙ infix_goes reader o es p f.0 gs (ready_top unit gs r (λ v. Above (infix_range o) v × FirstAbove v es) (l.top o es f.1)) xs ys h)

  either_after : (gs : List Frame) → Like unit fs gs → Ready unit gs → (o : InfixOperator) (es : Operands) (p : Place) → FrameFits (frame.Infix o es p) fs → (xs ys : List Laid) → FrameText (frame.Infix o es p) xs ys
      → (b c : Bool) → first_begins o es ≡ b → is_naming gs ≡ c → After gs o es p xs ys
  either_after gs l r o es p f xs ys h false c m i = plain_after gs l r o es p f xs ys h (λ q. m)
  either_after gs l r o es p f xs ys h true false m i = plain_after gs l r o es p f xs ys h (λ q. absurd (not_naming (sym i ∙ q)))
  either_after gs l r o es p f xs ys h true true m i = named_after gs l i o es p f.0 m xs ys h (direct o es) refl

  any_goes : (gs : List Frame) → Like unit fs gs → (f : Frame) → FrameFits f fs → FrameStands f fs → Outermost unit fs (in_frame f) → (xs ys : List Laid) → FrameText f xs ys → Stands reader unit (enter reader unit xs gs) ys (f ∷ fs)
  any_goes gs l (frame.Infix o es p) f d u xs ys h = either_after gs l (ready unit fs gs l d u) o es p f xs ys h (first_begins o es) (is_naming gs) refl refl
  any_goes gs l g f d u xs ys h = frame_goes reader unit fs gs l g tt f d u xs ys h

-- ---- all rows

module _ (reader : Runner) (unit : Bool) where
  pub rows_go : (fs : List Frame) (b : Bool) → FramesFit fs → FramesStand fs → Outermost unit fs b → (xs ys : List Laid) → FramesText fs xs ys → Stands reader unit (run reader xs [] (first_mode unit)) ys fs
  rows_go [] b f d o xs ys h = record { rows = []; runs = ap (λ v. run reader v [] (first_mode unit)) h; like = no_rows unit }
  rows_go (g ∷ fs) b f d o xs ys h =
      let s = rows_go fs (in_frame g) f.1 d.1 o.1 xs h.0 h.1 in
      let t = any_goes reader unit fs s.rows s.like g f.0 d.0 o.1 h.0 ys h.2 in
      record { rows = t.rows; runs = s.runs ∙ t.runs; like = t.like }
