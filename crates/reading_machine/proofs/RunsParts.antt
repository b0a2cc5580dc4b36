-- How the reader goes over the text of a tree, and over the token behind it.
use Rattle.std.proofs.Common.{◌≡◌, true, false, List, [], ◌∷◌, refl, sym, ap, ◌∙◌}
use Rattle.base_core.specs.declared.place.Place.{Place}
use Rattle.reading_trees.specs.declared.laid.Laid.{Laid}
use Rattle.reading_trees.specs.declared.laid.Laid.TheVariants.{Plain}
use Rattle.reading_tokens.specs.declared.token.Kind.{Kind}
use Rattle.reading_tokens.specs.declared.token.Kind.TheVariants as kinds
use Rattle.reading_tokens.specs.declared.token.Symbol.TheVariants as symbols
use Rattle.reading_trees.specs.Fits.{LeftAbove, EndsNoCase}
use Rattle.reading_trees.specs.Grammar.{Text, CommasBefore, IsSubscript, begins_member, is_member, is_name}
use Rattle.reading_trees.specs.Trees as tree
use Rattle.reading_trees.specs.Trees.{Tree, Trees, NoTrees, MoreTrees, Operands, First, Next, Step, Steps, NoSteps, MoreSteps, Bounds, NoBounds, MoreBounds, Fields, NoFields, MoreFields, Changes, NoChanges, MoreChanges, Arms, NoArms, MoreArms, Definitions, NoDefinitions, MoreDefinitions}
use Rattle.std.specs.Prelude.{◌&&◌, if◌then◌else◌}
use Rattle.reading_machine.specs.declared.frame.Frame.{Frame}
use Rattle.reading_machine.specs.declared.frame.Mode.{Mode}
use Rattle.reading_machine.specs.declared.frame.Mode.TheVariants as mode
use Rattle.reading_machine.specs.Machine.{Reads, settle, settled_closes, is_case_mark, behind, follows, want, deliver, subscript_started}
use Rattle.reading_machine.proofs.Runner.{Runner, after, run}
use Rattle.reading_machine.proofs.RunsEdges.{spine, last, Top, settles, settles_case}

-- a tree that begins with a name and `\in`, without them
abbrev mutual
  pub without : Tree → Tree
  without (tree.Infix at o (First x) e) = if is_member o && is_name x then e else tree.Infix at o (First (without x)) e
  without (tree.Infix at o (Next es p y) e) = tree.Infix at o (Next (without_first es) p y) e
  without e = e

  pub without_first : Operands → Operands
  without_first (First x) = First (without x)
  without_first (Next es p y) = Next (without_first es) p y

-- ---- the token behind a tree

abbrev pub plain : Kind → Place → Laid
plain k at = Plain (record { kind = k; place = at })

-- a token that is neither a step nor an infix operator
abbrev pub Closing : Laid → Type 0
Closing x = (fs : List Frame) (e : Tree) → follows x fs e ≡ behind x fs e

pub closed : (x : Laid) (e : Tree) (fs : List Frame) → is_case_mark x ≡ false → behind x (spine e fs) (last e) ≡ behind x fs e
closed x e fs h =
    ap (λ c. settled_closes x (settle c (spine e fs) (last e))) h ∙ ap (λ s. settled_closes x s) (settles e fs)
    ∙ sym (ap (λ c. settled_closes x (settle c fs e)) h)

module _ (reader : Runner) where
  -- the reader goes over the text of a tree, from where an expression is expected to behind it
  abbrev pub Runs : Tree → Type 0
  Runs e = (fs : List Frame) → Top fs (λ r. LeftAbove r e) → (xs ys : List Laid) → Text e xs ys → run reader xs fs mode.Want ≡ run reader ys (spine e fs) (mode.Have (last e))

  -- where a subscript is expected
  abbrev pub run_subscript : List Laid → List Frame → reader.Told
  run_subscript [] fs = reader.ends fs mode.Want
  run_subscript (x ∷ xs) fs = after reader (subscript_started x fs) (x ∷ xs) (run reader xs)

  abbrev pub Delivers : Tree → Type 0
  Delivers v = IsSubscript v → (gs fs : List Frame) (m : Mode) → deliver v gs ≡ Reads fs m → (xs ys : List Laid) → Text v xs ys → run_subscript xs gs ≡ run reader ys fs m

  pub record Good (e : Tree) : Type 0 where
    pub runs : Runs e
    pub rest : begins_member e ≡ true → Runs (without e)
    pub delivers : Delivers e

  abbrev pub AllGood : Trees → Type 0
  AllGood NoTrees = Unit {0}
  AllGood (MoreTrees es e) = AllGood es × Good e

  abbrev pub ChainGood : Operands → Type 0
  ChainGood (First e) = Good e
  ChainGood (Next es at e) = ChainGood es × Good e

  abbrev pub StepGood : Step → Type 0
  StepGood tree.Prime = Unit {0}
  StepGood (tree.Index es) = AllGood es
  StepGood (tree.Field h) = Unit {0}

  abbrev pub StepsGood : Steps → Type 0
  StepsGood NoSteps = Unit {0}
  StepsGood (MoreSteps ss at s) = StepsGood ss × StepGood s

  abbrev pub BoundsGood : Bounds → Type 0
  BoundsGood NoBounds = Unit {0}
  BoundsGood (MoreBounds bs ns s) = BoundsGood bs × Good s

  abbrev pub FieldsGood : Fields → Type 0
  FieldsGood NoFields = Unit {0}
  FieldsGood (MoreFields hs h e) = FieldsGood hs × Good e

  abbrev pub ChangesGood : Changes → Type 0
  ChangesGood NoChanges = Unit {0}
  ChangesGood (MoreChanges cs ss e) = ChangesGood cs × StepsGood ss × Good e

  abbrev pub ArmsGood : Arms → Type 0
  ArmsGood NoArms = Unit {0}
  ArmsGood (MoreArms arms p e) = ArmsGood arms × Good p × Good e

  -- the parts of a function, which stand in another order where it is defined
  abbrev pub FunctionGood : Tree → Type 0
  FunctionGood (tree.Function at bs e) = BoundsGood bs × Good e
  FunctionGood _ = Unit {0}

  abbrev pub DefinitionsGood : Definitions → Type 0
  DefinitionsGood NoDefinitions = Unit {0}
  DefinitionsGood (MoreDefinitions ds n at ns form e) = DefinitionsGood ds × Good e × FunctionGood e

  pub part : {x : Laid} {zs : List Laid} (xs ys : List Laid) (e : Tree) (fs : List Frame) → Runs e → Top fs (λ r. LeftAbove r e) → Text e xs ys → ys ≡ x ∷ zs → is_case_mark x ≡ false → Closing x
      → run reader xs fs mode.Want ≡ after reader (behind x fs e) (x ∷ zs) (run reader zs)
  part {x} {zs} xs ys e fs r top text q c h =
      r fs top xs ys text ∙ ap (λ v. run reader v (spine e fs) (mode.Have (last e))) q
      ∙ ap (λ s. after reader s (x ∷ zs) (run reader zs)) (h (spine e fs) (last e) ∙ closed x e fs c)

  -- `[]` behind the value of an arm
  pub arm_part : {zs : List Laid} (xs ys : List Laid) (e : Tree) (fs : List Frame) (at : Place) → Runs e → Top fs (λ r. LeftAbove r e) → EndsNoCase e → Text e xs ys → ys ≡ plain (kinds.Symbol symbols.Always) at ∷ zs
      → run reader xs fs mode.Want ≡ after reader (behind (plain (kinds.Symbol symbols.Always) at) fs e) (plain (kinds.Symbol symbols.Always) at ∷ zs) (run reader zs)
  arm_part {zs} xs ys e fs at r top n text q =
      let x : Laid = plain (kinds.Symbol symbols.Always) at in
      r fs top xs ys text ∙ ap (λ v. run reader v (spine e fs) (mode.Have (last e))) q
      ∙ ap (λ s. after reader (settled_closes x s) (x ∷ zs) (run reader zs)) (settles_case e fs n)

  -- expressions, each with a comma behind it, in a frame that takes them
  pub commas : (F : Trees → Frame) (fs : List Frame) → ((es : Trees) (e : Tree) → Top (F es ∷ fs) (λ r. LeftAbove r e))
      → ((es : Trees) (at : Place) (e : Tree) → behind (plain (kinds.Symbol symbols.Comma) at) (F es ∷ fs) e ≡ want (F (MoreTrees es e) ∷ fs))
      → (es : Trees) → AllGood es → (xs ys : List Laid) → CommasBefore es xs ys → run reader xs (F NoTrees ∷ fs) mode.Want ≡ run reader ys (F es ∷ fs) mode.Want
  commas F fs top comma NoTrees g xs ys h = ap (λ v. run reader v (F NoTrees ∷ fs) mode.Want) h
  commas F fs top comma (MoreTrees es e) g xs ys h =
      commas F fs top comma es g.0 xs h.0 h.1
      ∙ part _ _ e (F es ∷ fs) g.1.runs (top es e) h.2.1 h.2.2.1 refl (λ gs a. refl)
      ∙ ap (λ s. after reader s (plain (kinds.Symbol symbols.Comma) h.2.2.0 ∷ ys) (run reader ys)) (comma es h.2.2.0 e)
