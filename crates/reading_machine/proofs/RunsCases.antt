-- CASE.
use Rattle.std.proofs.Common.{◌≡◌, List, [], ◌∷◌, refl, ap, ◌∙◌}
use Rattle.std.specs.Prelude.{if◌then◌else◌}
use Rattle.base_core.specs.declared.place.Place.{Place}
use Rattle.reading_trees.specs.declared.laid.Laid.{Laid}
use Rattle.reading_trees.specs.declared.laid.Laid.TheVariants.{Plain, ListOpen, ListItem, ListClose}
use Rattle.reading_tokens.specs.declared.token.Kind.{Kind}
use Rattle.reading_tokens.specs.declared.token.Kind.TheVariants as kinds
use Rattle.reading_trees.specs.Trees as tree
use Rattle.reading_machine.specs.declared.frame.Frame.{Frame}
use Rattle.reading_machine.specs.declared.frame.Frame.TheVariants as frame
use Rattle.reading_machine.specs.declared.frame.Mode.TheVariants as mode
use Rattle.reading_trees.specs.Fits.{ArmsBeforeFit, ArmsFit}
use Rattle.reading_trees.specs.Grammar.{ArmsBefore}
use Rattle.reading_trees.specs.Trees.{Tree, Arms, NoArms, MoreArms}
use Rattle.reading_machine.specs.Machine.{Reads, begins}
use Rattle.reading_machine.proofs.Runner.{Runner, after, run}
use Rattle.reading_machine.proofs.RunsParts.{Runs, ArmsGood, plain, part, arm_part}
use Rattle.reading_machine.proofs.RunsStarts.{OpenKind, Opened, opened}

module _ (reader : Runner) where
  start_kind : (at : Place) (arms : Arms) (fs : List Frame) (q : Place) (xs : List Laid) (k : Kind) → OpenKind k
      → run reader (plain k q ∷ xs) fs (mode.CaseNext at arms) ≡ run reader (plain k q ∷ xs) (frame.CaseTest at arms ∷ fs) mode.Want
  start_kind at arms fs q xs (kinds.Word w) o =
      ap (λ b. after reader (if b then Reads fs (mode.OtherArrow at arms) else begins (plain (kinds.Word w) q) (frame.CaseTest at arms ∷ fs)) (plain (kinds.Word w) q ∷ xs) (run reader xs)) o
  start_kind at arms fs q xs _ o = refl

  pub starts : (at : Place) (arms : Arms) (fs : List Frame) (xs : List Laid) → Opened xs → run reader xs fs (mode.CaseNext at arms) ≡ run reader xs (frame.CaseTest at arms ∷ fs) mode.Want
  starts at arms fs [] o = absurd o
  starts at arms fs (Plain t ∷ xs) o = start_kind at arms fs t.place xs t.kind o
  starts at arms fs (ListOpen b q ∷ xs) o = refl
  starts at arms fs (ListItem b q ∷ xs) o = refl
  starts at arms fs (ListClose q ∷ xs) o = refl

  -- behind arms, each with a `[]` behind it
  abbrev pub arms_state : Place → Arms → List Frame → List Laid → reader.Told
  arms_state at NoArms fs xs = run reader xs (frame.CaseTest at NoArms ∷ fs) mode.Want
  arms_state at (MoreArms arms p e) fs xs = run reader xs fs (mode.CaseNext at (MoreArms arms p e))

  pub test_starts : (at : Place) (arms : Arms) (fs : List Frame) (xs : List Laid) → Opened xs → arms_state at arms fs xs ≡ run reader xs (frame.CaseTest at arms ∷ fs) mode.Want
  test_starts at NoArms fs xs o = refl
  test_starts at (MoreArms arms p e) fs xs o = starts at (MoreArms arms p e) fs xs o

  pub arms_before : (at : Place) (arms : Arms) → ArmsGood reader arms → ArmsBeforeFit arms → (fs : List Frame) (xs ys : List Laid) → ArmsBefore arms xs ys → run reader xs (frame.CaseTest at NoArms ∷ fs) mode.Want ≡ arms_state at arms fs ys
  arms_before at NoArms g f fs xs ys h = ap (λ v. run reader v (frame.CaseTest at NoArms ∷ fs) mode.Want) h
  arms_before at (MoreArms arms p e) g f fs xs ys h =
      arms_before at arms g.0 f.0 fs xs h.0 h.1
      ∙ test_starts at arms fs h.0 (opened p h.0 h.2.0 h.2.1)
      ∙ part reader _ _ p (frame.CaseTest at arms ∷ fs) g.1.runs tt h.2.1 h.2.2.1.1 refl (λ gs a. refl)
      ∙ arm_part reader _ _ e (frame.CaseValue at arms p ∷ fs) h.2.2.2.2.0 g.2.runs tt f.3 h.2.2.2.1 h.2.2.2.2.1

  pub case_runs : (at : Place) (arms : Arms) → ArmsGood reader arms → ArmsFit arms → Runs reader (tree.Case at arms)
  case_runs at NoArms g f fs top xs ys h = absurd h.2
  case_runs at (MoreArms arms p e) g f fs top xs ys h =
      let k = h.2 in
      ap (λ v. run reader v fs mode.Want) h.1
      ∙ arms_before at arms g.0 f.0 fs h.0 k.0 k.1
      ∙ test_starts at arms fs k.0 (opened p k.0 k.2.0 k.2.1)
      ∙ part reader _ _ p (frame.CaseTest at arms ∷ fs) g.1.runs tt k.2.1 k.2.2.1.1 refl (λ gs a. refl)
      ∙ g.2.runs (frame.CaseValue at arms p ∷ fs) tt k.2.2.0 ys k.2.2.2

  pub case_other_runs : (at : Place) (arms : Arms) (e : Tree) → ArmsGood reader arms → ArmsBeforeFit arms → Runs reader e → Runs reader (tree.CaseOther at arms e)
  case_other_runs at NoArms e g f r fs top xs ys h = absurd h.2.1
  case_other_runs at (MoreArms arms p d) e g f r fs top xs ys h =
      ap (λ v. run reader v fs mode.Want) h.1
      ∙ arms_before at (MoreArms arms p d) g f fs h.0 h.2.0 h.2.1
      ∙ ap (λ v. run reader v fs (mode.CaseNext at (MoreArms arms p d))) h.2.2.1.1
      ∙ ap (λ v. run reader v fs (mode.OtherArrow at (MoreArms arms p d))) h.2.2.2.1.1
      ∙ r (frame.CaseOther at (MoreArms arms p d) ∷ fs) tt h.2.2.2.0 ys h.2.2.2.2
