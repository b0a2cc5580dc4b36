-- The reader goes over the text of an open row: brackets, and actions with their subscripts.
use Rattle.std.proofs.Common.{◌≡◌, ℕ, false, List, ◌∷◌, refl, ap, ◌∙◌}
use Rattle.std.specs.Prelude.{if◌then◌else◌}
use Rattle.base_core.specs.declared.place.Place.{Place}
use Rattle.reading_trees.specs.declared.laid.Laid.{Laid}
use Rattle.reading_tokens.specs.declared.token.Kind.TheVariants as kinds
use Rattle.reading_tokens.specs.declared.token.Word.TheVariants as words
use Rattle.reading_tokens.specs.declared.token.Symbol.TheVariants as symbols
use Rattle.reading_trees.specs.Fits.{Fits, AllFit, StepsFit, BoundsFit, FieldsFit, ChangesFit}
use Rattle.reading_trees.specs.Grammar.{IsPath, IsNew, AreOnce}
use Rattle.reading_trees.specs.Trees.{Tree, Trees, NoTrees, Steps, NoSteps, MoreSteps, Bounds, Fields, Changes, NoChanges}
use Rattle.reading_machine.specs.declared.frame.Action.TheVariants as actions
use Rattle.reading_machine.specs.declared.frame.RecordKind.{RecordKind}
use Rattle.reading_machine.specs.declared.frame.Frame.{Frame}
use Rattle.reading_machine.specs.declared.frame.Frame.TheVariants as frame
use Rattle.reading_machine.specs.declared.frame.Mode.TheVariants as mode
use Rattle.reading_machine.specs.Machine.{Reads, Stops, is_subscript, want}
use Rattle.reading_machine.specs.OpenFits.{AreKeys}
use Rattle.reading_machine.specs.OpenRows.{FrameText, ModeText}
use Rattle.reading_machine.proofs.Runner.{Runner, after, run}
use Rattle.reading_machine.proofs.RunsStarts.{opened}
use Rattle.reading_machine.proofs.RunsParts.{plain, part, commas}
use Rattle.reading_machine.proofs.RunsSteps as steps
use Rattle.reading_machine.proofs.RunsBrackets.{first_in_brackets, function_bounds, fields_state, field_begins, fields_before}
use Rattle.reading_machine.proofs.RunsTrees.{good, all_good, bounds_good, fields_good, changes_good, steps_good}
use Rattle.reading_machine.proofs.RunsTuples.{starts}

keys : (ss : Steps) → AreKeys ss → steps.AreKeys ss
keys NoSteps h = tt
keys (MoreSteps ss p s) h = (keys ss h.0, h.1)

path_keys : (ss : Steps) → IsPath ss → AreKeys ss
path_keys NoSteps h = absurd h
path_keys (MoreSteps NoSteps at s) h = (tt, h)
path_keys (MoreSteps (MoreSteps ss p s) at t) h = (path_keys (MoreSteps ss p s) h.0, h.1)

module _ (reader : Runner) where
  -- ---- functions and records

  pub maybe_function_goes : (at : Place) (n : List ℕ) (p q : Place) (gs : List Frame) (xs ys : List Laid) → FrameText (frame.MaybeFunction at n p q) xs ys
      → run reader xs gs mode.Want ≡ run reader ys (frame.MaybeFunction at n p q ∷ gs) mode.Want
  maybe_function_goes at n p q gs xs ys h =
      ap (λ v. run reader v gs mode.Want) h.1
      ∙ ap (λ v. run reader v gs (mode.BracketStart at)) h.2.1
      ∙ ap (λ v. run reader v gs (mode.BracketName at n p)) h.2.2

  pub function_body_goes : (at : Place) (bs : Bounds) → BoundsFit bs → (gs : List Frame) (xs ys : List Laid) → FrameText (frame.FunctionBody at bs) xs ys
      → run reader xs gs mode.Want ≡ run reader ys (frame.FunctionBody at bs ∷ gs) mode.Want
  function_body_goes at bs f gs xs ys h =
      ap (λ v. run reader v gs mode.Want) h.1 ∙ function_bounds reader at bs (bounds_good reader bs f) gs h.0 h.2.0 ys h.2.1 h.2.2

  pub function_range_goes : (at : Place) (s : Tree) → Fits s → (gs : List Frame) (xs ys : List Laid) → FrameText (frame.FunctionRange at s) xs ys
      → run reader xs gs mode.Want ≡ run reader ys (frame.FunctionRange at s ∷ gs) mode.Want
  function_range_goes at s f gs xs ys h =
      ap (λ v. run reader v gs mode.Want) h.1
      ∙ first_in_brackets reader s (good reader s f) f (plain (kinds.Symbol symbols.Arrow) h.2.2.0) at gs (λ a. want (frame.FunctionRange at a ∷ gs))
      (record { clear = refl; closing = λ hs a. refl; no_case = refl; plainly = λ a. refl; joined = λ n p q a. refl })
      h.0 h.2.0 ys h.2.1 h.2.2.1

  pub fields_go : (k : RecordKind) (at : Place) (hs : Fields) → FieldsFit hs → AreOnce hs → (gs : List Frame) (xs ys : List Laid) → ModeText (mode.RecordName k at hs) xs ys
      → run reader xs gs mode.Want ≡ fields_state reader k at hs gs ys
  fields_go k at hs f o gs xs ys h = ap (λ v. run reader v gs mode.Want) h.1 ∙ fields_before reader k at hs (fields_good reader hs f) o gs h.0 ys h.2

  pub record_goes : (k : RecordKind) (at : Place) (hs : Fields) (n : List ℕ) → FieldsFit hs → AreOnce hs → IsNew n hs → (gs : List Frame) (xs ys : List Laid) → FrameText (frame.Record k at hs n) xs ys
      → run reader xs gs mode.Want ≡ run reader ys (frame.Record k at hs n ∷ gs) mode.Want
  record_goes k at hs n f o i gs xs ys h =
      fields_go k at hs f o gs xs h.2.0 (h.0, h.1, h.2.1) ∙ field_begins reader k at hs n i gs h.2.0 h.2.2.0 ys h.2.2.1 h.2.2.2

  -- ---- EXCEPT

  pub except_mark_goes : (at : Place) (e : Tree) (cs : Changes) → Fits e → ChangesFit cs → (gs : List Frame) (xs ys : List Laid) → ModeText (mode.ExceptMark at e cs) xs ys
      → run reader xs gs mode.Want ≡ run reader ys gs (mode.ExceptMark at e cs)
  except_mark_goes at e cs f c gs xs ys h =
      ap (λ v. run reader v gs mode.Want) h.1
      ∙ first_in_brackets reader e (good reader e f) f (plain (kinds.Word words.Except) h.2.2.1.0) at gs (λ a. Reads gs (mode.ExceptMark at a NoChanges))
      (record { clear = tt; closing = λ hs a. refl; no_case = refl; plainly = λ a. refl; joined = λ n p q a. refl })
      h.0 h.2.0 h.2.2.0 h.2.1 h.2.2.1.1
      ∙ steps.changes_before reader at e cs (changes_good reader cs c) gs h.2.2.0 ys h.2.2.2

  pub path_goes : (at : Place) (e : Tree) (cs : Changes) (ss : Steps) → Fits e → ChangesFit cs → StepsFit ss → AreKeys ss → (gs : List Frame) (xs ys : List Laid) → ModeText (mode.ExceptPath at e cs ss) xs ys
      → run reader xs gs mode.Want ≡ run reader ys gs (mode.ExceptPath at e cs ss)
  path_goes at e cs ss f c s k gs xs ys h =
      except_mark_goes at e cs f c gs xs h.0 h.1
      ∙ ap (λ v. run reader v gs (mode.ExceptMark at e cs)) h.2.1.1
      ∙ steps.path_runs reader at e cs ss (steps_good reader ss s) (keys ss k) gs h.2.0 ys h.2.2

  pub except_index_goes : (at : Place) (e : Tree) (cs : Changes) (ss : Steps) (q : Place) (es : Trees) → Fits e → ChangesFit cs → StepsFit ss → AreKeys ss → AllFit es → (gs : List Frame) (xs ys : List Laid)
      → FrameText (frame.ExceptIndex at e cs ss q es) xs ys → run reader xs gs mode.Want ≡ run reader ys (frame.ExceptIndex at e cs ss q es ∷ gs) mode.Want
  except_index_goes at e cs ss q es f c s k a gs xs ys h =
      path_goes at e cs ss f c s k gs xs h.0 h.1
      ∙ ap (λ v. run reader v gs (mode.ExceptPath at e cs ss)) h.2.1
      ∙ commas reader (λ bs. frame.ExceptIndex at e cs ss q bs) gs (λ bs b. tt) (λ bs p b. refl) es (all_good reader es a) h.2.0 ys h.2.2

  pub except_value_goes : (at : Place) (e : Tree) (cs : Changes) (ss : Steps) → Fits e → ChangesFit cs → StepsFit ss → IsPath ss → (gs : List Frame) (xs ys : List Laid)
      → FrameText (frame.ExceptValue at e cs ss) xs ys → run reader xs gs mode.Want ≡ run reader ys (frame.ExceptValue at e cs ss ∷ gs) mode.Want
  except_value_goes at e cs ss f c s k gs xs ys h =
      path_goes at e cs ss f c s (path_keys ss k) gs xs h.0 h.1 ∙ steps.path_ended reader at e cs ss k gs h.0 ys h.2

  -- ---- subscripts

  pub box_goes : (at : Place) (e : Tree) → Fits e → (gs : List Frame) (xs ys : List Laid) → FrameText (frame.Subscript actions.Box at e) xs ys → run reader xs gs mode.Want ≡ run reader ys gs (mode.SubscriptStart actions.Box at e)
  box_goes at e f gs xs ys h =
      ap (λ v. run reader v gs mode.Want) h.1
      ∙ first_in_brackets reader e (good reader e f) f (plain (kinds.Symbol symbols.CloseBracketSubscript) h.2.2.0) at gs (λ a. Reads gs (mode.SubscriptStart actions.Box at a))
      (record { clear = refl; closing = λ hs a. refl; no_case = refl; plainly = λ a. refl; joined = λ n p q a. refl })
      h.0 h.2.0 ys h.2.1 h.2.2.1

  pub angle_goes : (at : Place) (e : Tree) → Fits e → (gs : List Frame) → is_subscript gs ≡ false → (xs ys : List Laid) → FrameText (frame.Subscript actions.Angle at e) xs ys
      → run reader xs gs mode.Want ≡ run reader ys gs (mode.SubscriptStart actions.Angle at e)
  angle_goes at e f gs i xs ys h =
      ap (λ v. run reader v gs mode.Want) h.1
      ∙ starts reader at gs h.0 (opened e h.0 h.2.0 h.2.1)
      ∙ part reader _ _ e (frame.Tuple at NoTrees ∷ gs) (good reader e f).runs tt h.2.1 h.2.2.1 refl (λ hs a. refl)
      ∙ ap (λ b. after reader (if b then Stops else Reads gs (mode.SubscriptStart actions.Angle at e)) (plain (kinds.Symbol symbols.CloseTupleSubscript) h.2.2.0 ∷ ys) (run reader ys)) i
