-- Rows that end where their last expression does, put together.
use Rattle.std.proofs.Common.{◌≡◌, Bool, true, false, List, [], ◌∷◌}
use Rattle.reading_trees.specs.declared.laid.Laid.{Laid}
use Rattle.reading_trees.specs.Grammar.{◌⨟◌, Text}
use Rattle.reading_trees.specs.Fits.{Fits, LeftAbove, EndsNoCase}
use Rattle.reading_trees.specs.Trees as tree
use Rattle.reading_trees.specs.Trees.{Tree, Arms, MoreArms}
use Rattle.base_core.specs.declared.place.Place.{Place}
use Rattle.reading_machine.specs.declared.frame.Frame.{Frame}
use Rattle.reading_machine.specs.declared.frame.Frame.TheVariants as frame
use Rattle.reading_machine.specs.Machine.{Settled, settle}
use Rattle.reading_machine.specs.OpenFits.{Top, FramesFit}
use Rattle.reading_machine.specs.OpenRows.{FramesText}
use Rattle.reading_machine.proofs.Edges.{top_all}

-- the frames that are left, and the expression in them up to `here`
abbrev pub IsSettled : Bool → List Laid → List Laid → Settled → Type 0
IsSettled case xs here s = (FramesText s.frames ⨟ Text s.tree) xs here × FramesFit s.frames × Fits s.tree × (case ≡ true → EndsNoCase s.tree)

no_case : false ≡ true → ⊥
no_case e = cc

module _ (xs here : List Laid) where
  abbrev Settles : Bool → List Frame → Tree → Type 0
  Settles case fs e = (ys : List Laid) → FramesText fs xs ys → Text e ys here → FramesFit fs → Fits e → Top fs (λ s. LeftAbove s e) → (case ≡ true → EndsNoCase e) → IsSettled case xs here (settle case fs e)

  -- a CASE goes on where there is a `[]`, and else it ends
  case_settles : (case : Bool) (p : Place) (arms : Arms) (a : Tree) (fs : List Frame) (e : Tree) → Settles case fs (tree.Case p (MoreArms arms a e)) → Settles case (frame.CaseValue p arms a ∷ fs) e
  case_settles true p arms a fs e go ys F t h f l n = ((ys, F, t), h, f, n)
  case_settles false p arms a fs e go ys F t h f l n =
      go F.0 F.1 (F.2.0, F.2.1, (F.2.2.0, F.2.2.1, (F.2.2.2.0, F.2.2.2.1, (ys, F.2.2.2.2, t)))) h.1 (h.0.0, h.0.1, f) (top_all fs (λ s. Unit {0}) (λ s. tt)) (λ w. absurd (no_case w))

  pub settles : (case : Bool) (fs : List Frame) (e : Tree) → Settles case fs e
  settles case [] e ys F t h f l n = ((ys, F, t), h, f, n)
  settles case (frame.Prefix o p ∷ fs) e ys F t h f l n =
      settles case fs (tree.Prefix p o e) F.0 F.1 (ys, F.2, t) h.1 (f, l) (top_all fs (λ s. Unit {0}) (λ s. tt)) n
  settles case (frame.Infix o es p ∷ fs) e ys F t h f l n =
      settles case fs (tree.Infix p o es e) F.0 F.1 (F.2.0, F.2.1, (ys, F.2.2, t)) h.1 (h.0.0, f, l) h.0.1 n
  settles case (frame.QuantifierBody q p bs ∷ fs) e ys F t h f l n =
      settles case fs (tree.Quantified p q bs e) F.0 F.1 (F.2.0, F.2.1, (F.2.2.0, F.2.2.1, (ys, F.2.2.2, t))) h.1 (h.0, f) (top_all fs (λ s. Unit {0}) (λ s. tt)) n
  settles case (frame.ChooseBody p m s ∷ fs) e ys F t h f l n =
      settles case fs (tree.Choose p m s e) F.0 F.1 (F.2.0, F.2.1, (F.2.2.0, F.2.2.1, (F.2.2.2.0, F.2.2.2.1, (F.2.2.2.2.0, F.2.2.2.2.1, (ys, F.2.2.2.2.2, t))))) h.1 (h.0, f) (top_all fs (λ s. Unit {0}) (λ s. tt)) n
  settles case (frame.IfElse p a b ∷ fs) e ys F t h f l n =
      settles case fs (tree.If p a b e) F.0 F.1 (F.2.0, F.2.1, (F.2.2.0, F.2.2.1, (F.2.2.2.0, F.2.2.2.1, (F.2.2.2.2.0, F.2.2.2.2.1, (ys, F.2.2.2.2.2, t))))) h.1 (h.0.0, h.0.1, f) (top_all fs (λ s. Unit {0}) (λ s. tt)) n
  settles case (frame.CaseValue p arms a ∷ fs) e ys F t h f l n = case_settles case p arms a fs e (settles case fs (tree.Case p (MoreArms arms a e))) ys F t h f l n
  settles case (frame.CaseOther p arms ∷ fs) e ys F t h f l n =
      settles case fs (tree.CaseOther p arms e) F.0 F.1 (F.2.0, F.2.1, (F.2.2.0, F.2.2.1, (F.2.2.2.0, F.2.2.2.1, (ys, F.2.2.2.2, t)))) h.1 (h.0, f) (top_all fs (λ s. Unit {0}) (λ s. tt)) n
  settles case (frame.LetBody p ds ∷ fs) e ys F t h f l n =
      settles case fs (tree.Let p ds e) F.0 F.1 (F.2.0, F.2.1, (F.2.2.0, F.2.2.1, (ys, F.2.2.2, t))) h.1 (h.0, f) (top_all fs (λ s. Unit {0}) (λ s. tt)) n
  settles case (g ∷ fs) e ys F t h f l n = ((ys, F, t), h, f, n)
