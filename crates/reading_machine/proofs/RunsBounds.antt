-- Bounds, and the rows that have them, but functions.
use Rattle.std.proofs.Common.{◌≡◌, ℕ, false, List, [], ◌∷◌, ◌++◌, append_assoc, refl, ap, ◌∙◌}
use Rattle.base_core.specs.declared.place.Place.{Place}
use Rattle.reading_trees.specs.declared.laid.Laid.{Laid}
use Rattle.reading_tokens.specs.declared.token.Kind.TheVariants as kinds
use Rattle.reading_tokens.specs.declared.token.Symbol.{Symbol}
use Rattle.reading_tokens.specs.declared.token.Symbol.TheVariants as symbols
use Rattle.reading_trees.specs.declared.operators.Quantifier.{Quantifier}
use Rattle.reading_trees.specs.declared.operators.Quantifier.TheVariants as quantifiers
use Rattle.reading_trees.specs.Precedence.{quantifier_symbol}
use Rattle.reading_trees.specs.Grammar.{BoundsBefore, BoundsText, NamesText, sign}
use Rattle.reading_trees.specs.Trees as tree
use Rattle.reading_trees.specs.Trees.{Tree, Bounds, NoBounds, MoreBounds}
use Rattle.reading_machine.specs.declared.frame.Binder.{Binder}
use Rattle.reading_machine.specs.declared.frame.Binder.TheVariants as binders
use Rattle.reading_machine.specs.declared.frame.Binding.{Binding}
use Rattle.reading_machine.specs.declared.frame.Frame.{Frame}
use Rattle.reading_machine.specs.declared.frame.Frame.TheVariants as frame
use Rattle.reading_machine.specs.declared.frame.Mode.TheVariants as mode
use Rattle.reading_machine.specs.Machine.{Reads, begins, begin_binding, is_always_symbol, binder_close, behind}
use Rattle.reading_machine.proofs.Runner.{Runner, after, run}
use Rattle.reading_machine.proofs.RunsParts.{Runs, BoundsGood, Closing, plain, part}

abbrev pub binding : Binder → Bounds → Binding
binding b bs = record { binder = b; bounds = bs }

-- a symbol behind the last bound, which is no comma
abbrev pub Ending : Symbol → Place → Type 0
Ending c at = (b : Binder) (bs : Bounds) (ns : List (List ℕ)) (s : Tree) (fs : List Frame)
    → behind (plain (kinds.Symbol c) at) (frame.BoundSet (binding b bs) ns ∷ fs) s ≡ binder_close c b (MoreBounds bs ns s) fs

pub quantifier_begins : (q : Quantifier) (at : Place) (fs : List Frame) → begins (plain (kinds.Symbol (quantifier_symbol q)) at) fs ≡ Reads fs (begin_binding (binders.Quantifier q at))
quantifier_begins quantifiers.ForAll at fs = refl
quantifier_begins quantifiers.Exists at fs = refl

module _ (reader : Runner) where
  -- names and `\in`, behind other names
  pub names_run : (b : Binding) (ms ns : List (List ℕ)) (fs : List Frame) (xs ys zs : List Laid) → NamesText ns xs ys → sign symbols.Member ys zs
      → run reader xs fs (mode.BoundName b ms) ≡ run reader zs (frame.BoundSet b (ms ++ ns) ∷ fs) mode.Want
  names_run b ms [] fs xs ys zs h s = absurd h
  names_run b ms (n ∷ []) fs xs ys zs h s = ap (λ v. run reader v fs (mode.BoundName b ms)) h.1 ∙ ap (λ v. run reader v fs (mode.BoundNamed b (ms ++ n ∷ []))) s.1
  names_run b ms (n ∷ m ∷ ns) fs xs ys zs h s =
      ap (λ v. run reader v fs (mode.BoundName b ms)) h.1.1
      ∙ ap (λ v. run reader v fs (mode.BoundNamed b (ms ++ n ∷ []))) h.2.1.1
      ∙ names_run b (ms ++ n ∷ []) (m ∷ ns) fs h.2.0 ys zs h.2.2 s
      ∙ ap (λ v. run reader zs (frame.BoundSet b v ∷ fs) mode.Want) (append_assoc ms (n ∷ []) (m ∷ ns))

  -- each with a comma behind it
  pub bounds_before : (b : Binder) (bs : Bounds) → BoundsGood reader bs → (fs : List Frame) (xs ys : List Laid) → BoundsBefore bs xs ys
      → run reader xs fs (begin_binding b) ≡ run reader ys fs (mode.BoundName (binding b bs) [])
  bounds_before b NoBounds g fs xs ys h = ap (λ v. run reader v fs (begin_binding b)) h
  bounds_before b (MoreBounds bs ns s) g fs xs ys h =
      bounds_before b bs g.0 fs xs h.0 h.1
      ∙ names_run (binding b bs) [] ns fs h.0 h.2.0 h.2.2.0 h.2.1 h.2.2.1
      ∙ part reader _ _ s (frame.BoundSet (binding b bs) ns ∷ fs) g.1.runs tt h.2.2.2.1 h.2.2.2.2.1 refl (λ gs a. refl)

  pub bounds_run : (c : Symbol) (at : Place) (b : Binder) (bs : Bounds) → BoundsGood reader bs → (fs : List Frame) (xs ys zs : List Laid) → BoundsText bs xs ys → ys ≡ plain (kinds.Symbol c) at ∷ zs
      → is_always_symbol c ≡ false → Closing (plain (kinds.Symbol c) at) → Ending c at
      → run reader xs fs (begin_binding b) ≡ after reader (binder_close c b bs fs) (plain (kinds.Symbol c) at ∷ zs) (run reader zs)
  bounds_run c at b NoBounds g fs xs ys zs h q i j k = absurd h
  bounds_run c at b (MoreBounds bs ns s) g fs xs ys zs h q i j k =
      bounds_before b bs g.0 fs xs h.0 h.1
      ∙ names_run (binding b bs) [] ns fs h.0 h.2.0 h.2.2.0 h.2.1 h.2.2.1
      ∙ part reader _ _ s (frame.BoundSet (binding b bs) ns ∷ fs) g.1.runs tt h.2.2.2 q i j
      ∙ ap (λ v. after reader v (plain (kinds.Symbol c) at ∷ zs) (run reader zs)) (k b bs ns s fs)

  pub quantified_runs : (at : Place) (q : Quantifier) (bs : Bounds) (e : Tree) → BoundsGood reader bs → Runs reader e → Runs reader (tree.Quantified at q bs e)
  quantified_runs at q bs e g r fs top xs ys h =
      ap (λ v. run reader v fs mode.Want) h.1
      ∙ ap (λ s. after reader s (plain (kinds.Symbol (quantifier_symbol q)) at ∷ h.0) (run reader h.0)) (quantifier_begins q at fs)
      ∙ bounds_run symbols.Colon h.2.2.1.0 (binders.Quantifier q at) bs g fs h.0 h.2.0 h.2.2.0 h.2.1 h.2.2.1.1 refl (λ gs a. refl) (λ b cs ns s gs. refl)
      ∙ r (frame.QuantifierBody q at bs ∷ fs) tt h.2.2.0 ys h.2.2.2

  pub choose_runs : (at : Place) (n : List ℕ) (s e : Tree) → Runs reader s → Runs reader e → Runs reader (tree.Choose at n s e)
  choose_runs at n s e rs r fs top xs ys h =
      ap (λ v. run reader v fs mode.Want) h.1
      ∙ ap (λ v. run reader v fs (mode.ChooseName at)) h.2.1.1
      ∙ ap (λ v. run reader v fs (mode.ChooseNamed at n)) h.2.2.1.1
      ∙ part reader _ _ s (frame.ChooseSet at n ∷ fs) rs tt h.2.2.2.1 h.2.2.2.2.1.1 refl (λ gs a. refl)
      ∙ r (frame.ChooseBody at n s ∷ fs) tt h.2.2.2.2.0 ys h.2.2.2.2.2
