-- The reader goes over the text of an open row: rows that begin with a token of their own.
use Rattle.std.proofs.Common.{◌≡◌, ℕ, List, ◌∷◌, refl, ap, ◌∙◌}
use Rattle.base_core.specs.declared.place.Place.{Place}
use Rattle.reading_trees.specs.declared.laid.Bullet.{Bullet}
use Rattle.reading_trees.specs.declared.laid.Laid.{Laid}
use Rattle.reading_tokens.specs.declared.token.Kind.TheVariants as kinds
use Rattle.reading_trees.specs.declared.operators.PrefixOperator.{PrefixOperator}
use Rattle.reading_trees.specs.declared.operators.InfixOperator.{InfixOperator}
use Rattle.reading_trees.specs.Precedence.{Above, infix_range, prefix_kind}
use Rattle.reading_trees.specs.Fits.{FirstAbove, LeftAbove, Fits, AllFit, ChainFits}
use Rattle.reading_trees.specs.Grammar.{◌⨟◌, Text, CommasBefore, IsSubscript, token}
use Rattle.reading_trees.specs.Trees as tree
use Rattle.reading_trees.specs.Trees.{Tree, Trees, NoTrees, MoreTrees, Operands, Bounds, Arms, NoArms, MoreArms}
use Rattle.reading_machine.specs.declared.frame.Frame.{Frame}
use Rattle.reading_machine.specs.declared.frame.Frame.TheVariants as frame
use Rattle.reading_machine.specs.declared.frame.Mode.TheVariants as mode
use Rattle.reading_machine.specs.OpenFits.{IsOperand}
use Rattle.reading_machine.specs.OpenRows.{FrameText}
use Rattle.reading_machine.proofs.Runner.{Runner, after, run}
use Rattle.reading_machine.proofs.RunsEdges.{spine, last, Top}
use Rattle.reading_machine.proofs.RunsStarts.{opened}
use Rattle.reading_machine.proofs.RunsParts.{plain, part, commas}
use Rattle.reading_machine.proofs.RunsPlain.{prefix_begins, chain_meets, chain_runs, qualified_name, items}
use Rattle.reading_machine.proofs.RunsBraces.{elements}
use Rattle.reading_machine.proofs.RunsTrees.{good, all_good, all_run, chain_good}
use Rattle.reading_machine.proofs.RunsTuples.{starts, list_opened, fair_subscript}

-- ---- an operand ends with itself

pub operand_spine : (e : Tree) (fs : List Frame) → IsOperand e → spine e fs ≡ fs
operand_spine (tree.Prefix at o e) fs h = absurd h
operand_spine (tree.Infix at o es e) fs h = absurd h
operand_spine (tree.Quantified at q bs e) fs h = absurd h
operand_spine (tree.Choose at n s e) fs h = absurd h
operand_spine (tree.If at p e f) fs h = absurd h
operand_spine (tree.Case at arms) fs h = absurd h
operand_spine (tree.CaseOther at arms e) fs h = absurd h
operand_spine (tree.Let at ds e) fs h = absurd h
operand_spine _ fs h = refl

pub operand_last : (e : Tree) → IsOperand e → last e ≡ e
operand_last (tree.Prefix at o e) h = absurd h
operand_last (tree.Infix at o es e) h = absurd h
operand_last (tree.Quantified at q bs e) h = absurd h
operand_last (tree.Choose at n s e) h = absurd h
operand_last (tree.If at p e f) h = absurd h
operand_last (tree.Case at arms) h = absurd h
operand_last (tree.CaseOther at arms e) h = absurd h
operand_last (tree.Let at ds e) h = absurd h
operand_last _ h = refl

module _ (reader : Runner) where
  pub operand_goes : (e : Tree) → IsOperand e → Fits e → (gs : List Frame) → Top gs (λ r. LeftAbove r e) → (xs ys : List Laid) → Text e xs ys → run reader xs gs mode.Want ≡ run reader ys gs (mode.Have e)
  operand_goes e o f gs top xs ys h =
      (good reader e f).runs gs top xs ys h
      ∙ ap (λ v. run reader ys v (mode.Have (last e))) (operand_spine e gs o)
      ∙ ap (λ v. run reader ys gs (mode.Have v)) (operand_last e o)

  -- ---- calls, lists, operators, steps

  pub call_goes : (n : List ℕ) (at : Place) (es : Trees) → AllFit es → (gs : List Frame) (xs ys : List Laid) → FrameText (frame.Call n at es) xs ys
      → run reader xs gs mode.Want ≡ run reader ys (frame.Call n at es ∷ gs) mode.Want
  call_goes n at es f gs xs ys h =
      ap (λ v. run reader v gs mode.Want) h.1
      ∙ ap (λ v. run reader v gs (mode.Have (tree.Name at n))) h.2.1.1
      ∙ commas reader (λ bs. frame.Call n at bs) gs (λ bs a. tt) (λ bs p a. refl) es (all_good reader es f) h.2.0 ys h.2.2

  pub qualified_call_goes : (n : List ℕ) (at : Place) (es : Trees) → AllFit es → (gs : List Frame) (xs ys : List Laid) → FrameText (frame.QualifiedCall n at es) xs ys
      → run reader xs gs mode.Want ≡ run reader ys (frame.QualifiedCall n at es ∷ gs) mode.Want
  qualified_call_goes n at es f gs xs ys h =
      qualified_name reader at n gs xs h.0 h.1
      ∙ ap (λ v. run reader v gs (mode.Have (tree.Qualified at n NoTrees))) h.2.1.1
      ∙ commas reader (λ bs. frame.QualifiedCall n at bs) gs (λ bs a. tt) (λ bs p a. refl) es (all_good reader es f) h.2.0 ys h.2.2

  pub junction_goes : (b : Bullet) (at : Place) (es : Trees) → AllFit es → (gs : List Frame) (xs ys : List Laid) → FrameText (frame.Junction b at es) xs ys
      → run reader xs gs mode.Want ≡ run reader ys (frame.Junction b at es ∷ gs) mode.Want
  junction_goes b at es f gs xs ys h =
      ap (λ v. run reader v gs mode.Want) h.1 ∙ items reader at b es (all_good reader es f) gs h.0 h.2.0 ys h.2.1 h.2.2

  pub prefix_goes : (o : PrefixOperator) (p : Place) (gs : List Frame) (xs ys : List Laid) → FrameText (frame.Prefix o p) xs ys → run reader xs gs mode.Want ≡ run reader ys (frame.Prefix o p ∷ gs) mode.Want
  prefix_goes o p gs xs ys h =
      ap (λ v. run reader v gs mode.Want) h ∙ ap (λ s. after reader s (plain (prefix_kind o) p ∷ ys) (run reader ys)) (prefix_begins o p gs)

  pub infix_goes : (o : InfixOperator) (es : Operands) (p : Place) → ChainFits o es → (gs : List Frame) → Top gs (λ r. Above (infix_range o) r × FirstAbove r es) → (xs ys : List Laid) → FrameText (frame.Infix o es p) xs ys
      → run reader xs gs mode.Want ≡ run reader ys (frame.Infix o es p ∷ gs) mode.Want
  infix_goes o es p f gs top xs ys h = chain_runs reader o es (all_run reader es (chain_good reader o es f)) (chain_meets o es f) p gs top xs h.0 ys h.1 h.2

  pub index_goes : (e : Tree) (at : Place) (es : Trees) → IsOperand e → Fits e → AllFit es → (gs : List Frame) → Top gs (λ r. LeftAbove r e) → (xs ys : List Laid) → FrameText (frame.Index e at es) xs ys
      → run reader xs gs mode.Want ≡ run reader ys (frame.Index e at es ∷ gs) mode.Want
  index_goes e at es o f fs gs top xs ys h =
      operand_goes e o f gs top xs h.0 h.1
      ∙ ap (λ v. run reader v gs (mode.Have e)) h.2.1
      ∙ commas reader (λ bs. frame.Index e at bs) gs (λ bs a. tt) (λ bs p a. refl) es (all_good reader es fs) h.2.0 ys h.2.2

  -- ---- braces

  pub elements_go : (at : Place) (es : Trees) (e : Tree) → AllFit (MoreTrees es e) → (gs : List Frame) (xs ys : List Laid) → FrameText (frame.Braces at (MoreTrees es e)) xs ys
      → run reader xs gs mode.Want ≡ run reader ys (frame.Braces at (MoreTrees es e) ∷ gs) mode.Want
  elements_go at es e f gs xs ys h =
      ap (λ v. run reader v gs mode.Want) h.1 ∙ elements reader at es e (all_good reader es f.0) f.0 (good reader e f.1) f.1 gs h.0 ys h.2

  pub brace_goes : (at : Place) (gs : List Frame) (xs ys : List Laid) → FrameText (frame.Braces at NoTrees) xs ys → run reader xs gs mode.Want ≡ run reader ys gs (mode.BraceStart at)
  brace_goes at gs xs ys h = ap (λ v. run reader v gs mode.Want) h.1 ∙ ap (λ v. run reader v gs (mode.BraceStart at)) h.2

  pub maybe_filter_goes : (at : Place) (n : List ℕ) (p q : Place) (gs : List Frame) (xs ys : List Laid) → FrameText (frame.MaybeFilter at n p q) xs ys
      → run reader xs gs mode.Want ≡ run reader ys (frame.MaybeFilter at n p q ∷ gs) mode.Want
  maybe_filter_goes at n p q gs xs ys h =
      ap (λ v. run reader v gs mode.Want) h.1
      ∙ ap (λ v. run reader v gs (mode.BraceStart at)) h.2.1
      ∙ ap (λ v. run reader v gs (mode.BraceName at n p)) h.2.2

  pub filter_test_goes : (at : Place) (n : List ℕ) (s : Tree) → Fits s → (gs : List Frame) (xs ys : List Laid) → FrameText (frame.FilterTest at n s) xs ys
      → run reader xs gs mode.Want ≡ run reader ys (frame.FilterTest at n s ∷ gs) mode.Want
  filter_test_goes at n s f gs xs ys h =
      ap (λ v. run reader v gs mode.Want) h.1
      ∙ ap (λ v. run reader v gs (mode.BraceStart at)) h.2.1.1
      ∙ ap (λ v. run reader v gs (mode.BraceName at n h.2.1.0)) h.2.2.1.1
      ∙ part reader _ _ s (frame.MaybeFilter at n h.2.1.0 h.2.2.1.0 ∷ gs) (good reader s f).runs tt h.2.2.2.1 h.2.2.2.2.1 refl (λ hs a. refl)

  -- ---- tuples and fairness

  -- from behind `<<` on
  pub tuple_goes : (at : Place) (es : Trees) (e : Tree) → AllFit (MoreTrees es e) → (gs : List Frame) (xs ys : List Laid) → CommasBefore (MoreTrees es e) xs ys
      → run reader xs gs (mode.TupleStart at) ≡ run reader ys (frame.Tuple at (MoreTrees es e) ∷ gs) mode.Want
  tuple_goes at es e f gs xs ys h =
      starts reader at gs xs (list_opened es xs h.0 h.1 (opened e h.0 h.2.0 h.2.1))
      ∙ commas reader (λ bs. frame.Tuple at bs) gs (λ bs b. tt) (λ bs p b. refl) (MoreTrees es e) (all_good reader (MoreTrees es e) f) xs ys h

  pub fair_open_goes : (at : Place) (v : Tree) → IsSubscript v → Fits v → (gs : List Frame) (xs ys : List Laid) → (token at kinds.Fair ⨟ Text v) xs ys
      → run reader xs gs mode.Want ≡ run reader ys gs (mode.FairOpen at v)
  fair_open_goes at v s f gs xs ys h =
      ap (λ w. run reader w gs mode.Want) h.1
      ∙ fair_subscript reader at gs h.0
      ∙ (good reader v f).delivers s (frame.FairSubscript at ∷ gs) gs (mode.FairOpen at v) refl h.0 ys h.2

  pub fair_body_goes : (at : Place) (v : Tree) → IsSubscript v → Fits v → (gs : List Frame) (xs ys : List Laid) → FrameText (frame.FairBody at v) xs ys
      → run reader xs gs mode.Want ≡ run reader ys (frame.FairBody at v ∷ gs) mode.Want
  fair_body_goes at v s f gs xs ys h =
      fair_open_goes at v s f gs xs h.2.0 (h.0, h.1, h.2.1) ∙ ap (λ w. run reader w gs (mode.FairOpen at v)) h.2.2.1
