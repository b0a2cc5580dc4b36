-- The right edge of a tree as frames, and what is done behind it.
use Rattle.std.proofs.Common.{◌≡◌, ◌≤◌, Bool, true, false, cond, List, [], ◌∷◌, refl, ◌∙◌, arith}
use Rattle.std.proofs.lemmas.Bool.Decides.{nat_tests}
use Rattle.base_core.specs.declared.place.Place.{Place}
use Rattle.reading_trees.specs.declared.operators.PrefixOperator.{PrefixOperator}
use Rattle.reading_trees.specs.declared.operators.PrefixOperator.TheVariants as prefixes
use Rattle.reading_trees.specs.declared.operators.InfixOperator.{InfixOperator}
use Rattle.reading_trees.specs.declared.operators.InfixOperator.TheVariants as infixes
use Rattle.reading_trees.specs.Precedence.{Range, Above, prefix_range, infix_range, chains}
use Rattle.reading_trees.specs.Fits.{RightAbove, LeftAbove, EndsNoCase}
use Rattle.reading_trees.specs.Grammar.{IsPrimary}
use Rattle.reading_trees.specs.Trees as tree
use Rattle.reading_trees.specs.Trees.{Tree, Operands, First, Next, Arms, NoArms, MoreArms}
use Rattle.reading_machine.specs.declared.frame.Frame.{Frame}
use Rattle.reading_machine.specs.declared.frame.Frame.TheVariants as frame
use Rattle.reading_machine.specs.declared.frame.Mode.TheVariants as mode
use Rattle.reading_machine.specs.Machine.{Reads, above, goes_on, infix_step, settle, want, deliver, is_subscript}

abbrev mutual
  -- the frames of the right edge of a tree, over those around it
  pub spine : Tree → List Frame → List Frame
  spine (tree.Prefix at o e) fs = spine e (frame.Prefix o at ∷ fs)
  spine (tree.Infix at o es e) fs = spine e (frame.Infix o es at ∷ fs)
  spine (tree.Quantified at q bs e) fs = spine e (frame.QuantifierBody q at bs ∷ fs)
  spine (tree.Choose at n s e) fs = spine e (frame.ChooseBody at n s ∷ fs)
  spine (tree.If at p e f) fs = spine f (frame.IfElse at p e ∷ fs)
  spine (tree.Case at arms) fs = arms_spine at arms fs
  spine (tree.CaseOther at arms e) fs = spine e (frame.CaseOther at arms ∷ fs)
  spine (tree.Let at ds e) fs = spine e (frame.LetBody at ds ∷ fs)
  spine _ fs = fs

  pub arms_spine : Place → Arms → List Frame → List Frame
  arms_spine at NoArms fs = fs
  arms_spine at (MoreArms arms p e) fs = spine e (frame.CaseValue at arms p ∷ fs)

abbrev mutual
  -- the primary at the end of that edge
  pub last : Tree → Tree
  last (tree.Prefix at o e) = last e
  last (tree.Infix at o es e) = last e
  last (tree.Quantified at q bs e) = last e
  last (tree.Choose at n s e) = last e
  last (tree.If at p e f) = last f
  last (tree.Case at arms) = arms_last at arms
  last (tree.CaseOther at arms e) = last e
  last (tree.Let at ds e) = last e
  last e = e

  pub arms_last : Place → Arms → Tree
  arms_last at NoArms = tree.Case at NoArms
  arms_last at (MoreArms arms p e) = last e

-- a fact of the range of the innermost frame where that is an operator's; a subscript is read otherwise
abbrev pub Top : List Frame → (Range → Type 0) → Type 0
Top [] P = Unit {0}
Top (frame.Prefix o p ∷ fs) P = P (prefix_range o)
Top (frame.Infix o es p ∷ fs) P = P (infix_range o)
Top (frame.Subscript k at e ∷ fs) P = ⊥
Top (frame.FairSubscript at ∷ fs) P = ⊥
Top (f ∷ fs) P = Unit {0}

pub top_map : (fs : List Frame) (P Q : Range → Type 0) → ((r : Range) → P r → Q r) → Top fs P → Top fs Q
top_map [] P Q f h = tt
top_map (frame.Prefix o p ∷ fs) P Q f h = f (prefix_range o) h
top_map (frame.Infix o es p ∷ fs) P Q f h = f (infix_range o) h
top_map (frame.Subscript k at e ∷ fs) P Q f h = absurd h
top_map (frame.FairSubscript at ∷ fs) P Q f h = absurd h
top_map (g ∷ fs) P Q f h = tt

pub delivers : (fs : List Frame) (P : Range → Type 0) (e : Tree) → Top fs P → deliver e fs ≡ Reads fs (mode.Have e)
delivers [] P e h = refl
delivers (frame.Subscript k at a ∷ fs) P e h = absurd h
delivers (frame.FairSubscript at ∷ fs) P e h = absurd h
delivers (g ∷ fs) P e h = refl

pub no_subscript : (fs : List Frame) (P : Range → Type 0) → Top fs P → is_subscript fs ≡ false
no_subscript [] P h = refl
no_subscript (frame.Subscript k at a ∷ fs) P h = absurd h
no_subscript (frame.FairSubscript at ∷ fs) P h = absurd h
no_subscript (g ∷ fs) P h = refl

mutual
  pub settles : (e : Tree) (fs : List Frame) → settle false (spine e fs) (last e) ≡ settle false fs e
  settles (tree.Prefix at o e) fs = settles e (frame.Prefix o at ∷ fs)
  settles (tree.Infix at o es e) fs = settles e (frame.Infix o es at ∷ fs)
  settles (tree.Quantified at q bs e) fs = settles e (frame.QuantifierBody q at bs ∷ fs)
  settles (tree.Choose at n s e) fs = settles e (frame.ChooseBody at n s ∷ fs)
  settles (tree.If at p e f) fs = settles f (frame.IfElse at p e ∷ fs)
  settles (tree.Case at arms) fs = arms_settle at arms fs
  settles (tree.CaseOther at arms e) fs = settles e (frame.CaseOther at arms ∷ fs)
  settles (tree.Let at ds e) fs = settles e (frame.LetBody at ds ∷ fs)
  settles _ fs = refl

  arms_settle : (at : Place) (arms : Arms) (fs : List Frame) → settle false (arms_spine at arms fs) (arms_last at arms) ≡ settle false fs (tree.Case at arms)
  arms_settle at NoArms fs = refl
  arms_settle at (MoreArms arms p e) fs = settles e (frame.CaseValue at arms p ∷ fs)

pub settles_case : (e : Tree) (fs : List Frame) → EndsNoCase e → settle true (spine e fs) (last e) ≡ settle true fs e
settles_case (tree.Prefix at o e) fs h = settles_case e (frame.Prefix o at ∷ fs) h
settles_case (tree.Infix at o es e) fs h = settles_case e (frame.Infix o es at ∷ fs) h
settles_case (tree.Quantified at q bs e) fs h = settles_case e (frame.QuantifierBody q at bs ∷ fs) h
settles_case (tree.Choose at n s e) fs h = settles_case e (frame.ChooseBody at n s ∷ fs) h
settles_case (tree.If at p e f) fs h = settles_case f (frame.IfElse at p e ∷ fs) h
settles_case (tree.Case at arms) fs h = absurd h
settles_case (tree.CaseOther at arms e) fs h = settles_case e (frame.CaseOther at arms ∷ fs) h
settles_case (tree.Let at ds e) fs h = settles_case e (frame.LetBody at ds ∷ fs) h
settles_case _ fs h = refl

pub first_of : {X : Type 0} (x : Bool) (a b : X) → x ≡ true → cond x a b ≡ a
first_of true a b e = refl
first_of false a b e = cc

pub rest_of : {X : Type 0} (x : Bool) (a b : X) → x ≡ false → cond x a b ≡ b
rest_of true a b e = cc
rest_of false a b e = refl

second_of : {X : Type 0} (x y : Bool) (a b c : X) → x ≡ false → y ≡ true → cond x a (cond y b c) ≡ b
second_of true y a b c e f = cc
second_of false true a b c e f = refl
second_of false false a b c e f = cc

third_of : {X : Type 0} (x y z : Bool) (a b c d : X) → x ≡ false → y ≡ false → z ≡ true → cond x a (cond y b (cond z c d)) ≡ c
third_of true y z a b c d e f g = cc
third_of false true z a b c d e f g = cc
third_of false false true a b c d e f g = refl
third_of false false false a b c d e f g = cc

-- ranges are not empty
abbrev pub Ordered : Range → Type 0
Ordered r = r.low ≤ r.high

prefix_ordered : (o : PrefixOperator) → Ordered (prefix_range o)
prefix_ordered prefixes.Not = omega arith
prefix_ordered prefixes.Powerset = omega arith
prefix_ordered prefixes.BigUnion = omega arith
prefix_ordered prefixes.Domain = omega arith
prefix_ordered prefixes.Negate = omega arith
prefix_ordered _ = omega arith

pub infix_ordered : (o : InfixOperator) → Ordered (infix_range o)
infix_ordered infixes.Implies = omega arith
infix_ordered _ = omega arith

pub is_above : (a b : Range) → Above a b → above a b ≡ true
is_above a b h = grind (arith, nat_tests)

pub not_above : (a b : Range) → Ordered a → Ordered b → Above b a → above a b ≡ false
not_above a b p q h = grind (arith, nat_tests)

not_itself : (a : Range) → Ordered a → above a a ≡ false
not_itself a p = grind (arith, nat_tests)

chains_itself : (o : InfixOperator) → chains o ≡ true → goes_on o o ≡ true
chains_itself o h = grind (arith, nat_tests)

pub infix_steps : (q : InfixOperator) (at : Place) (e : Tree) (fs : List Frame) → RightAbove (infix_range q) e → infix_step q at (spine e fs) (last e) ≡ infix_step q at fs e
infix_steps q at (tree.Prefix p o e) fs h =
    infix_steps q at e (frame.Prefix o p ∷ fs) h.1 ∙ first_of (above (prefix_range o) (infix_range q)) _ _ (is_above (prefix_range o) (infix_range q) h.0)
infix_steps q at (tree.Infix p o es e) fs h =
    infix_steps q at e (frame.Infix o es p ∷ fs) h.1 ∙ first_of (above (infix_range o) (infix_range q)) _ _ (is_above (infix_range o) (infix_range q) h.0)
infix_steps q at (tree.Quantified p b bs e) fs h = absurd h
infix_steps q at (tree.Choose p n s e) fs h = absurd h
infix_steps q at (tree.If p a e f) fs h = absurd h
infix_steps q at (tree.Case p arms) fs h = absurd h
infix_steps q at (tree.CaseOther p arms e) fs h = absurd h
infix_steps q at (tree.Let p ds e) fs h = absurd h
infix_steps q at _ fs h = refl

-- an operator that lies above what is open begins a chain
pub pushes : (q : InfixOperator) (at : Place) (fs : List Frame) (e : Tree) → Top fs (λ r. Above (infix_range q) r) → infix_step q at fs e ≡ want (frame.Infix q (First e) at ∷ fs)
pushes q at [] e h = refl
pushes q at (frame.Prefix o p ∷ fs) e h =
    second_of (above (prefix_range o) (infix_range q)) (above (infix_range q) (prefix_range o)) _ _ _
    (not_above (prefix_range o) (infix_range q) (prefix_ordered o) (infix_ordered q) h) (is_above (infix_range q) (prefix_range o) h)
pushes q at (frame.Infix o es p ∷ fs) e h =
    second_of (above (infix_range o) (infix_range q)) (above (infix_range q) (infix_range o)) _ _ _
    (not_above (infix_range o) (infix_range q) (infix_ordered o) (infix_ordered q) h) (is_above (infix_range q) (infix_range o) h)
pushes q at (g ∷ fs) e h = refl

-- the same operator goes on with its chain
pub extends : (q : InfixOperator) (at p : Place) (es : Operands) (fs : List Frame) (e : Tree) → chains q ≡ true → infix_step q at (frame.Infix q es p ∷ fs) e ≡ want (frame.Infix q (Next es p e) at ∷ fs)
extends q at p es fs e h =
    third_of (above (infix_range q) (infix_range q)) (above (infix_range q) (infix_range q)) (goes_on q q) _ _ _ _
    (not_itself (infix_range q) (infix_ordered q)) (not_itself (infix_range q) (infix_ordered q)) (chains_itself q h)

pub primary_spine : (e : Tree) (fs : List Frame) → IsPrimary e → spine e fs ≡ fs
primary_spine (tree.Prefix at o e) fs h = absurd h
primary_spine (tree.Infix at o es e) fs h = absurd h
primary_spine (tree.Quantified at q bs e) fs h = absurd h
primary_spine (tree.Choose at n s e) fs h = absurd h
primary_spine (tree.If at p e f) fs h = absurd h
primary_spine (tree.Case at arms) fs h = absurd h
primary_spine (tree.CaseOther at arms e) fs h = absurd h
primary_spine (tree.Let at ds e) fs h = absurd h
primary_spine _ fs h = refl

pub primary_last : (e : Tree) → IsPrimary e → last e ≡ e
primary_last (tree.Prefix at o e) h = absurd h
primary_last (tree.Infix at o es e) h = absurd h
primary_last (tree.Quantified at q bs e) h = absurd h
primary_last (tree.Choose at n s e) h = absurd h
primary_last (tree.If at p e f) h = absurd h
primary_last (tree.Case at arms) h = absurd h
primary_last (tree.CaseOther at arms e) h = absurd h
primary_last (tree.Let at ds e) h = absurd h
primary_last _ h = refl

pub primary_left : (r : Range) (e : Tree) → IsPrimary e → LeftAbove r e
primary_left r (tree.Infix at o es e) h = absurd h
primary_left r _ h = tt
