-- Tuples, and what has a subscript.
use Rattle.std.proofs.Common.{◌≡◌, ℕ, true, false, List, [], ◌∷◌, refl, sym, ap, subst, ◌∙◌}
use Rattle.std.specs.Prelude.{if◌then◌else◌}
use Rattle.base_core.specs.declared.place.Place.{Place}
use Rattle.reading_trees.specs.declared.laid.Laid.{Laid}
use Rattle.reading_trees.specs.declared.laid.Laid.TheVariants.{Plain, ListOpen, ListItem, ListClose}
use Rattle.reading_tokens.specs.declared.token.Kind.{Kind}
use Rattle.reading_tokens.specs.declared.token.Kind.TheVariants as kinds
use Rattle.reading_tokens.specs.declared.token.Symbol.{Symbol}
use Rattle.reading_tokens.specs.declared.token.Symbol.TheVariants as symbols
use Rattle.reading_trees.specs.Trees as tree
use Rattle.reading_machine.specs.declared.frame.Frame.{Frame}
use Rattle.reading_machine.specs.declared.frame.Frame.TheVariants as frame
use Rattle.reading_machine.specs.declared.frame.Mode.{Mode}
use Rattle.reading_machine.specs.declared.frame.Mode.TheVariants as mode
use Rattle.reading_trees.specs.Fits.{LeftAbove}
use Rattle.reading_trees.specs.Grammar.{CommasBefore, MaybeCommas, sign}
use Rattle.reading_trees.specs.Trees.{Tree, Trees, NoTrees, MoreTrees}
use Rattle.reading_machine.specs.declared.frame.Action.{Action}
use Rattle.reading_machine.specs.declared.frame.Action.TheVariants as actions
use Rattle.reading_machine.specs.Machine.{Reads, Stops, begins, tuple_started, deliver}
use Rattle.reading_machine.proofs.Runner.{Runner, after, run}
use Rattle.reading_machine.proofs.RunsEdges.{delivers, no_subscript}
use Rattle.reading_machine.proofs.RunsParts.{Runs, AllGood, Delivers, run_subscript, plain, part, commas}
use Rattle.reading_machine.proofs.RunsStarts.{is_closer, OpenKind, Opened, opened}

-- ---- where a tree begins in a tuple

start_symbol : (at : Place) (fs : List Frame) (q : Place) (s : Symbol) → is_closer s ≡ false → tuple_started (plain (kinds.Symbol s) q) at fs s q ≡ begins (plain (kinds.Symbol s) q) (frame.Tuple at NoTrees ∷ fs)
start_symbol at fs q symbols.CloseTuple h = absurd (let e : true ≡ false = h in cc)
start_symbol at fs q _ h = refl

pub list_opened : (es : Trees) (xs ys : List Laid) → CommasBefore es xs ys → Opened ys → Opened xs
list_opened NoTrees xs ys h o = subst Opened (sym h) o
list_opened (MoreTrees es e) xs ys h o = list_opened es xs h.0 h.1 (opened e h.0 h.2.0 h.2.1)

module _ (reader : Runner) where
  start_kind : (at : Place) (fs : List Frame) (q : Place) (xs : List Laid) (k : Kind) → OpenKind k → run reader (plain k q ∷ xs) fs (mode.TupleStart at) ≡ run reader (plain k q ∷ xs) (frame.Tuple at NoTrees ∷ fs) mode.Want
  start_kind at fs q xs (kinds.Symbol s) o = ap (λ v. after reader v (plain (kinds.Symbol s) q ∷ xs) (run reader xs)) (start_symbol at fs q s o)
  start_kind at fs q xs _ o = refl

  pub starts : (at : Place) (fs : List Frame) (xs : List Laid) → Opened xs → run reader xs fs (mode.TupleStart at) ≡ run reader xs (frame.Tuple at NoTrees ∷ fs) mode.Want
  starts at fs [] o = absurd o
  starts at fs (Plain t ∷ xs) o = start_kind at fs t.place xs t.kind o
  starts at fs (ListOpen b q ∷ xs) o = refl
  starts at fs (ListItem b q ∷ xs) o = refl
  starts at fs (ListClose q ∷ xs) o = refl

  -- a tuple goes to what expects it
  tuple_reads : (at : Place) (es : Trees) → AllGood reader es → (gs fs : List Frame) (m : Mode) → deliver (tree.Tuple at es) gs ≡ Reads fs m → (xs ys zs : List Laid) → MaybeCommas es xs ys → sign symbols.CloseTuple ys zs
      → run reader xs gs (mode.TupleStart at) ≡ run reader zs fs m
  tuple_reads at NoTrees g gs fs m d xs ys zs h s =
      ap (λ v. run reader v gs (mode.TupleStart at)) (h ∙ s.1) ∙ ap (λ v. after reader v (plain (kinds.Symbol symbols.CloseTuple) s.0 ∷ zs) (run reader zs)) d
  tuple_reads at (MoreTrees es e) g gs fs m d xs ys zs h s =
      starts at gs xs (list_opened es xs h.0 h.1 (opened e h.0 ys h.2))
      ∙ commas reader (λ bs. frame.Tuple at bs) gs (λ bs b. tt) (λ bs p b. refl) es g.0 xs h.0 h.1
      ∙ part reader _ _ e (frame.Tuple at es ∷ gs) g.1.runs tt h.2 s.1 refl (λ hs b. refl)
      ∙ ap (λ v. after reader v (plain (kinds.Symbol symbols.CloseTuple) s.0 ∷ zs) (run reader zs)) d

  pub tuple_runs : (at : Place) (es : Trees) → AllGood reader es → Runs reader (tree.Tuple at es)
  tuple_runs at es g fs top xs ys h =
      ap (λ v. run reader v fs mode.Want) h.1
      ∙ tuple_reads at es g fs fs (mode.Have (tree.Tuple at es)) (delivers fs (λ r. LeftAbove r (tree.Tuple at es)) (tree.Tuple at es) top) h.0 h.2.0 ys h.2.1 h.2.2

  -- ---- subscripts

  pub tuple_delivers : (at : Place) (es : Trees) → AllGood reader es → Delivers reader (tree.Tuple at es)
  tuple_delivers at es g s gs fs m d xs ys h =
      ap (λ v. run_subscript reader v gs) h.1 ∙ tuple_reads at es g gs fs m d h.0 h.2.0 ys h.2.1 h.2.2

  pub name_delivers : (at : Place) (n : List ℕ) → Delivers reader (tree.Name at n)
  name_delivers at n s gs fs m d xs ys h =
      ap (λ v. run_subscript reader v gs) h ∙ ap (λ v. after reader v (plain (kinds.Name n) at ∷ ys) (run reader ys)) d

  pub parenthesized_delivers : (at : Place) (e : Tree) → Runs reader e → Delivers reader (tree.Parenthesized at e)
  parenthesized_delivers at e r s gs fs m d xs ys h =
      ap (λ v. run_subscript reader v gs) h.1
      ∙ part reader _ _ e (frame.Parenthesis at ∷ gs) r tt h.2.1 h.2.2.1 refl (λ hs a. refl)
      ∙ ap (λ v. after reader v (plain (kinds.Symbol symbols.CloseParenthesis) h.2.2.0 ∷ ys) (run reader ys)) d

  pub action_subscript : (k : Action) (at : Place) (e : Tree) (fs : List Frame) (xs : List Laid) → run reader xs fs (mode.SubscriptStart k at e) ≡ run_subscript reader xs (frame.Subscript k at e ∷ fs)
  action_subscript k at e fs [] = reader.subscript k at e fs
  action_subscript k at e fs (x ∷ xs) = refl

  pub fair_subscript : (at : Place) (fs : List Frame) (xs : List Laid) → run reader xs fs (mode.FairStart at) ≡ run_subscript reader xs (frame.FairSubscript at ∷ fs)
  fair_subscript at fs [] = reader.fair at fs
  fair_subscript at fs (x ∷ xs) = refl

  pub angle_runs : (at : Place) (e v : Tree) → Runs reader e → Delivers reader v → Runs reader (tree.AngleAction at e v)
  angle_runs at e v r d fs top xs ys h =
      let k = h.1 in
      ap (λ v. run reader v fs mode.Want) k.1
      ∙ starts at fs k.0 (opened e k.0 k.2.0 k.2.1)
      ∙ part reader _ _ e (frame.Tuple at NoTrees ∷ fs) r tt k.2.1 k.2.2.1.1 refl (λ hs a. refl)
      ∙ ap (λ b. after reader (if b then Stops else Reads fs (mode.SubscriptStart actions.Angle at e)) (plain (kinds.Symbol symbols.CloseTupleSubscript) k.2.2.1.0 ∷ k.2.2.0) (run reader k.2.2.0))
      (no_subscript fs (λ r. LeftAbove r (tree.AngleAction at e v)) top)
      ∙ action_subscript actions.Angle at e fs k.2.2.0
      ∙ d h.0 (frame.Subscript actions.Angle at e ∷ fs) fs (mode.Have (tree.AngleAction at e v)) refl k.2.2.0 ys k.2.2.2

  pub fairness_runs : (at : Place) (v e : Tree) → Delivers reader v → Runs reader e → Runs reader (tree.Fairness at v e)
  fairness_runs at v e d r fs top xs ys h =
      let k = h.1 in
      ap (λ v. run reader v fs mode.Want) k.1
      ∙ fair_subscript at fs k.0
      ∙ d h.0 (frame.FairSubscript at ∷ fs) fs (mode.FairOpen at v) refl k.0 k.2.0 k.2.1
      ∙ ap (λ w. run reader w fs (mode.FairOpen at v)) k.2.2.1.1
      ∙ part reader _ _ e (frame.FairBody at v ∷ fs) r tt k.2.2.2.1 k.2.2.2.2.1 refl (λ hs a. refl)
