-- Postfix steps, and the paths and values of EXCEPT.
use Rattle.std.proofs.Common.{◌≡◌, List, ◌∷◌, refl, ap, ◌∙◌}
use Rattle.base_core.specs.declared.place.Place.{Place}
use Rattle.reading_trees.specs.declared.laid.Laid.{Laid}
use Rattle.reading_tokens.specs.declared.token.Symbol.TheVariants as symbols
use Rattle.reading_trees.specs.Fits.{LeftAbove}
use Rattle.reading_trees.specs.Grammar.{Commas, StepText, StepsText, ChangesBefore, ChangesText, IsPrimary, IsPath, IsKey, sign}
use Rattle.reading_trees.specs.Trees as tree
use Rattle.reading_trees.specs.Trees.{Tree, Trees, NoTrees, MoreTrees, Step, Prime, Index, Field, Steps, NoSteps, MoreSteps, Changes, NoChanges, MoreChanges}
use Rattle.reading_machine.specs.declared.frame.Frame.{Frame}
use Rattle.reading_machine.specs.declared.frame.Frame.TheVariants as frame
use Rattle.reading_machine.specs.declared.frame.Mode.TheVariants as mode
use Rattle.reading_machine.specs.Machine.{with_step}
use Rattle.reading_machine.proofs.Runner.{Runner, run}
use Rattle.reading_machine.proofs.RunsEdges.{last, top_map, primary_spine, primary_last, primary_left}
use Rattle.reading_machine.proofs.RunsParts.{Runs, AllGood, StepGood, StepsGood, ChangesGood, part, commas}

abbrev steps_on : Tree → Steps → Tree
steps_on a NoSteps = a
steps_on a (MoreSteps ss at s) = with_step (steps_on a ss) at s

first_step : (a : Tree) (at : Place) (s : Step) → IsPrimary a → with_step a at s ≡ tree.Postfix at a NoSteps s
first_step (tree.Postfix p e ss t) at s h = absurd h
first_step _ at s h = refl

last_step : (a : Tree) (ss : Steps) (at : Place) (s : Step) → IsPrimary a → with_step (steps_on a ss) at s ≡ tree.Postfix at a ss s
last_step a NoSteps at s h = first_step a at s h
last_step a (MoreSteps ss p t) at s h = ap (λ v. with_step v at s) (last_step a ss p t h)

abbrev pub AreKeys : Steps → Type 0
AreKeys NoSteps = Unit {0}
AreKeys (MoreSteps ss at s) = AreKeys ss × IsKey s

path_keys : (ss : Steps) → IsPath ss → AreKeys ss
path_keys NoSteps h = absurd h
path_keys (MoreSteps NoSteps at s) h = (tt, h)
path_keys (MoreSteps (MoreSteps ss p s) at t) h = (path_keys (MoreSteps ss p s) h.0, h.1)

module _ (reader : Runner) where
  -- ---- postfix steps

  index_arguments : (a : Tree) (at : Place) (es : Trees) → AllGood reader es → (fs : List Frame) (xs ys zs : List Laid) → Commas es xs ys → sign symbols.CloseBracket ys zs
      → run reader xs (frame.Index a at NoTrees ∷ fs) mode.Want ≡ run reader zs fs (mode.Have (with_step a at (Index es)))
  index_arguments a at NoTrees g fs xs ys zs h s = absurd h
  index_arguments a at (MoreTrees es e) g fs xs ys zs h s =
      commas reader (λ bs. frame.Index a at bs) fs (λ bs b. tt) (λ bs p b. refl) es g.0 xs h.0 h.1
      ∙ part reader _ _ e (frame.Index a at es ∷ fs) g.1.runs tt h.2 s.1 refl (λ gs b. refl)

  step_runs : (at : Place) (s : Step) → StepGood reader s → (fs : List Frame) (a : Tree) (xs ys : List Laid) → StepText at s xs ys → run reader xs fs (mode.Have a) ≡ run reader ys fs (mode.Have (with_step a at s))
  step_runs at Prime g fs a xs ys h = ap (λ v. run reader v fs (mode.Have a)) h
  step_runs at (Index es) g fs a xs ys h =
      ap (λ v. run reader v fs (mode.Have a)) h.1 ∙ index_arguments a at es g fs h.0 h.2.0 ys h.2.1 h.2.2
  step_runs at (Field n) g fs a xs ys h =
      ap (λ v. run reader v fs (mode.Have a)) h.1 ∙ ap (λ v. run reader v fs (mode.FieldName a at)) h.2.1

  steps_run : (ss : Steps) → StepsGood reader ss → (fs : List Frame) (a : Tree) (xs ys : List Laid) → StepsText ss xs ys → run reader xs fs (mode.Have a) ≡ run reader ys fs (mode.Have (steps_on a ss))
  steps_run NoSteps g fs a xs ys h = ap (λ v. run reader v fs (mode.Have a)) h
  steps_run (MoreSteps ss at s) g fs a xs ys h = steps_run ss g.0 fs a xs h.0 h.1 ∙ step_runs at s g.1 fs (steps_on a ss) h.0 ys h.2

  pub postfix_runs : (at : Place) (e : Tree) (ss : Steps) (s : Step) → Runs reader e → StepsGood reader ss → StepGood reader s → Runs reader (tree.Postfix at e ss s)
  postfix_runs at e ss s r gs g fs top xs ys h =
      r fs (top_map fs (λ r. Unit {0}) (λ r. LeftAbove r e) (λ r k. primary_left r e h.0) top) xs h.1.0 h.1.1
      ∙ ap (λ v. run reader h.1.0 v (mode.Have (last e))) (primary_spine e fs h.0)
      ∙ ap (λ v. run reader h.1.0 fs (mode.Have v)) (primary_last e h.0)
      ∙ steps_run ss gs fs e h.1.0 h.1.2.0 h.1.2.1
      ∙ step_runs at s g fs (steps_on e ss) h.1.2.0 ys h.1.2.2
      ∙ ap (λ v. run reader ys fs (mode.Have v)) (last_step e ss at s h.0)

  -- ---- EXCEPT

  except_arguments : (at : Place) (a : Tree) (cs : Changes) (ss : Steps) (p : Place) (es : Trees) → AllGood reader es → (fs : List Frame) (xs ys zs : List Laid) → Commas es xs ys → sign symbols.CloseBracket ys zs
      → run reader xs (frame.ExceptIndex at a cs ss p NoTrees ∷ fs) mode.Want ≡ run reader zs fs (mode.ExceptPath at a cs (MoreSteps ss p (Index es)))
  except_arguments at a cs ss p NoTrees g fs xs ys zs h s = absurd h
  except_arguments at a cs ss p (MoreTrees es e) g fs xs ys zs h s =
      commas reader (λ bs. frame.ExceptIndex at a cs ss p bs) fs (λ bs b. tt) (λ bs q b. refl) es g.0 xs h.0 h.1
      ∙ part reader _ _ e (frame.ExceptIndex at a cs ss p es ∷ fs) g.1.runs tt h.2 s.1 refl (λ gs b. refl)

  key_runs : (at : Place) (a : Tree) (cs : Changes) (ss : Steps) (p : Place) (s : Step) → StepGood reader s → IsKey s → (fs : List Frame) (xs ys : List Laid) → StepText p s xs ys
      → run reader xs fs (mode.ExceptPath at a cs ss) ≡ run reader ys fs (mode.ExceptPath at a cs (MoreSteps ss p s))
  key_runs at a cs ss p Prime g k fs xs ys h = absurd k
  key_runs at a cs ss p (Index es) g k fs xs ys h =
      ap (λ v. run reader v fs (mode.ExceptPath at a cs ss)) h.1 ∙ except_arguments at a cs ss p es g fs h.0 h.2.0 ys h.2.1 h.2.2
  key_runs at a cs ss p (Field n) g k fs xs ys h =
      ap (λ v. run reader v fs (mode.ExceptPath at a cs ss)) h.1 ∙ ap (λ v. run reader v fs (mode.ExceptField at a cs ss p)) h.2.1

  pub path_runs : (at : Place) (a : Tree) (cs : Changes) (ss : Steps) → StepsGood reader ss → AreKeys ss → (fs : List Frame) (xs ys : List Laid) → StepsText ss xs ys
      → run reader xs fs (mode.ExceptPath at a cs NoSteps) ≡ run reader ys fs (mode.ExceptPath at a cs ss)
  path_runs at a cs NoSteps g k fs xs ys h = ap (λ v. run reader v fs (mode.ExceptPath at a cs NoSteps)) h
  path_runs at a cs (MoreSteps ss p s) g k fs xs ys h =
      path_runs at a cs ss g.0 k.0 fs xs h.0 h.1 ∙ key_runs at a cs ss p s g.1 k.1 fs h.0 ys h.2

  pub path_ended : (at : Place) (a : Tree) (cs : Changes) (ss : Steps) → IsPath ss → (fs : List Frame) (xs ys : List Laid) → sign symbols.Equal xs ys
      → run reader xs fs (mode.ExceptPath at a cs ss) ≡ run reader ys (frame.ExceptValue at a cs ss ∷ fs) mode.Want
  path_ended at a cs NoSteps k fs xs ys h = absurd k
  path_ended at a cs (MoreSteps ss p s) k fs xs ys h = ap (λ v. run reader v fs (mode.ExceptPath at a cs (MoreSteps ss p s))) h.1

  -- up to where the value of a change begins
  change_begins : (at : Place) (a : Tree) (cs : Changes) (ss : Steps) → StepsGood reader ss → IsPath ss → (fs : List Frame) (xs ys zs ws : List Laid) → sign symbols.Exclamation xs ys → StepsText ss ys zs → sign symbols.Equal zs ws
      → run reader xs fs (mode.ExceptMark at a cs) ≡ run reader ws (frame.ExceptValue at a cs ss ∷ fs) mode.Want
  change_begins at a cs ss g k fs xs ys zs ws m h q =
      ap (λ v. run reader v fs (mode.ExceptMark at a cs)) m.1 ∙ path_runs at a cs ss g (path_keys ss k) fs ys zs h ∙ path_ended at a cs ss k fs zs ws q

  pub changes_before : (at : Place) (a : Tree) (cs : Changes) → ChangesGood reader cs → (fs : List Frame) (xs ys : List Laid) → ChangesBefore cs xs ys
      → run reader xs fs (mode.ExceptMark at a NoChanges) ≡ run reader ys fs (mode.ExceptMark at a cs)
  changes_before at a NoChanges g fs xs ys h = ap (λ v. run reader v fs (mode.ExceptMark at a NoChanges)) h
  changes_before at a (MoreChanges cs ss e) g fs xs ys h =
      let c = h.2.1 in
      changes_before at a cs g.0 fs xs h.0 h.1
      ∙ change_begins at a cs ss g.1 c.0 fs h.0 c.1.0 c.1.2.0 c.1.2.2.0 c.1.1 c.1.2.1 c.1.2.2.1
      ∙ part reader _ _ e (frame.ExceptValue at a cs ss ∷ fs) g.2.runs tt c.1.2.2.2 h.2.2.1 refl (λ gs b. refl)

  pub changes_run : (at : Place) (a : Tree) (cs : Changes) → ChangesGood reader cs → (fs : List Frame) (xs ys zs : List Laid) → ChangesText cs xs ys → sign symbols.CloseBracket ys zs
      → run reader xs fs (mode.ExceptMark at a NoChanges) ≡ run reader zs fs (mode.Have (tree.Except at a cs))
  changes_run at a NoChanges g fs xs ys zs h s = absurd h
  changes_run at a (MoreChanges cs ss e) g fs xs ys zs h s =
      let c = h.2 in
      changes_before at a cs g.0 fs xs h.0 h.1
      ∙ change_begins at a cs ss g.1 c.0 fs h.0 c.1.0 c.1.2.0 c.1.2.2.0 c.1.1 c.1.2.1 c.1.2.2.1
      ∙ part reader _ _ e (frame.ExceptValue at a cs ss ∷ fs) g.2.runs tt c.1.2.2.2 s.1 refl (λ gs b. refl)
