-- Ranges on the edges, and an infix operator behind an operand.
use Rattle.std.proofs.Common.{◌≡◌, ℕ, zero, suc, Bool, true, false, ◌&&◌, List, [], ◌∷◌, refl, sym, ap, subst, ◌∙◌, arith}
use Rattle.std.specs.Prelude.{if◌then◌else◌, nat_eq}
use Rattle.std.proofs.lemmas.Bool.Decides.{nat_tests}
use Rattle.base_core.specs.declared.place.Place.{Place}
use Rattle.reading_trees.specs.declared.laid.Laid.{Laid}
use Rattle.reading_trees.specs.declared.operators.InfixOperator.{InfixOperator}
use Rattle.reading_trees.specs.declared.operators.InfixOperator.TheVariants as infixes
use Rattle.reading_trees.specs.Precedence.{Range, Above, infix_symbol, prefix_range, infix_range, chains}
use Rattle.reading_trees.specs.Grammar.{Text}
use Rattle.reading_trees.specs.Fits.{Fits, LeftAbove, RightAbove, EndsNoCase}
use Rattle.reading_trees.specs.Trees as tree
use Rattle.reading_trees.specs.Trees.{Tree, First}
use Rattle.reading_machine.specs.declared.frame.Frame.{Frame}
use Rattle.reading_machine.specs.declared.frame.Frame.TheVariants as frame
use Rattle.reading_machine.specs.Machine.{Stepped, want, above, operator_number, goes_on, infix_step}
use Rattle.reading_machine.specs.OpenFits.{IsOperand, Top, FramesFit}
use Rattle.reading_machine.specs.OpenRows.{FramesText}
use Rattle.reading_machine.proofs.Opened.{Good, laid_symbol}

pub operand_left : (r : Range) (e : Tree) → IsOperand e → LeftAbove r e
operand_left r (tree.Infix at o es e) h = absurd h
operand_left r _ h = tt

pub operand_right : (r : Range) (e : Tree) → IsOperand e → RightAbove r e
operand_right r (tree.Prefix at o e) h = absurd h
operand_right r (tree.Infix at o es e) h = absurd h
operand_right r (tree.Quantified at q bs e) h = absurd h
operand_right r (tree.Choose at n s e) h = absurd h
operand_right r (tree.If at p e f) h = absurd h
operand_right r (tree.Case at arms) h = absurd h
operand_right r (tree.CaseOther at arms e) h = absurd h
operand_right r (tree.Let at ds e) h = absurd h
operand_right r _ h = tt

pub operand_ends : (e : Tree) → IsOperand e → EndsNoCase e
operand_ends (tree.Prefix at o e) h = absurd h
operand_ends (tree.Infix at o es e) h = absurd h
operand_ends (tree.Quantified at q bs e) h = absurd h
operand_ends (tree.Choose at n s e) h = absurd h
operand_ends (tree.If at p e f) h = absurd h
operand_ends (tree.Case at arms) h = absurd h
operand_ends (tree.CaseOther at arms e) h = absurd h
operand_ends (tree.Let at ds e) h = absurd h
operand_ends _ h = tt

pub top_all : (fs : List Frame) (P : Range → Type 0) → ((r : Range) → P r) → Top fs P
top_all [] P h = tt
top_all (frame.Prefix o p ∷ fs) P h = h _
top_all (frame.Infix o es p ∷ fs) P h = h _
top_all (f ∷ fs) P h = tt

pub above_is : (a b : Range) → above a b ≡ true → Above a b
above_is a b e = grind (arith, nat_tests)

abbrev operator_in : List InfixOperator → ℕ → InfixOperator
operator_in [] n = infixes.Implies
operator_in (o ∷ os) zero = o
operator_in (o ∷ os) (suc n) = operator_in os n

abbrev operator_at : ℕ → InfixOperator
operator_at n =
    operator_in
    (infixes.Implies ∷ infixes.Equivalent ∷ infixes.LeadsTo ∷ infixes.And ∷ infixes.Or ∷ infixes.Equal ∷ infixes.NotEqual ∷ infixes.Less ∷ infixes.Greater ∷ infixes.LessOrEqual ∷ infixes.GreaterOrEqual ∷ infixes.Member ∷ infixes.NotMember ∷ infixes.SubsetOrEqual ∷ infixes.MergedFunctions ∷ infixes.SingleFunction ∷ infixes.Union ∷ infixes.Intersection ∷ infixes.Difference ∷ infixes.Interval ∷ infixes.Plus ∷ infixes.Remainder ∷ infixes.Minus ∷ infixes.CartesianProduct ∷ infixes.Times ∷ infixes.Concatenation ∷ infixes.Quotient ∷ infixes.Power ∷ [])
    n

operator_is : (o : InfixOperator) → operator_at (operator_number o) ≡ o
operator_is infixes.Implies = refl
operator_is infixes.Equivalent = refl
operator_is infixes.LeadsTo = refl
operator_is infixes.And = refl
operator_is infixes.Or = refl
operator_is infixes.Equal = refl
operator_is infixes.NotEqual = refl
operator_is infixes.Less = refl
operator_is infixes.Greater = refl
operator_is infixes.LessOrEqual = refl
operator_is infixes.GreaterOrEqual = refl
operator_is infixes.Member = refl
operator_is infixes.NotMember = refl
operator_is infixes.SubsetOrEqual = refl
operator_is infixes.MergedFunctions = refl
operator_is infixes.SingleFunction = refl
operator_is infixes.Union = refl
operator_is infixes.Intersection = refl
operator_is infixes.Difference = refl
operator_is infixes.Interval = refl
operator_is infixes.Plus = refl
operator_is infixes.Remainder = refl
operator_is infixes.Minus = refl
operator_is infixes.CartesianProduct = refl
operator_is infixes.Times = refl
operator_is infixes.Concatenation = refl
operator_is infixes.Quotient = refl
operator_is infixes.Power = refl

second_true : (a b : Bool) → (a && b) ≡ true → b ≡ true
second_true true b e = e
second_true false b e = cc

first_true : (a b : Bool) → (a && b) ≡ true → a ≡ true
first_true true b e = refl
first_true false b e = e

number_same : (m n : ℕ) → nat_eq m n ≡ true → m ≡ n
number_same m n e = grind (arith, nat_tests)

pub operator_same : (o q : InfixOperator) → goes_on o q ≡ true → o ≡ q
operator_same o q e =
    sym (operator_is o) ∙ ap operator_at (number_same (operator_number o) (operator_number q) (first_true (nat_eq (operator_number o) (operator_number q)) (chains o) e)) ∙ operator_is q

pub operator_chains : (o q : InfixOperator) → goes_on o q ≡ true → chains o ≡ true
operator_chains o q e = second_true (nat_eq (operator_number o) (operator_number q)) (chains o) e

pub one_of_two : (G : Stepped → Type 0) (b : Bool) (x y : Stepped) → (b ≡ true → G x) → (b ≡ false → G y) → G (if b then x else y)
one_of_two G true x y f g = f refl
one_of_two G false x y f g = g refl

module _ (xs r : List Laid) (q : InfixOperator) (at : Place) where
  pushed_good : (fs : List Frame) (e : Tree) (ys : List Laid) → FramesText fs xs ys → Text e ys (laid_symbol (infix_symbol q) at ∷ r) → FramesFit fs → Fits e → RightAbove (infix_range q) e → Top fs (λ s. Above (infix_range q) s × LeftAbove s e) → Good xs (laid_symbol (infix_symbol q) at ∷ r) r (want (frame.Infix q (First e) at ∷ fs))
  pushed_good fs e ys F t h f k l = ((r, (ys, F, (laid_symbol (infix_symbol q) at ∷ r, t, refl)), refl), (((f, k), l), h), tt)

  pub infix_good : (fs : List Frame) (e : Tree) (ys : List Laid) → FramesText fs xs ys → Text e ys (laid_symbol (infix_symbol q) at ∷ r) → FramesFit fs → Fits e → Top fs (λ s. LeftAbove s e) → RightAbove (infix_range q) e → Good xs (laid_symbol (infix_symbol q) at ∷ r) r (infix_step q at fs e)
  infix_good [] e ys F t h f l k = pushed_good [] e ys F t h f k tt
  infix_good (frame.Prefix o p ∷ fs) e ys F t h f l k =
      one_of_two (Good xs (laid_symbol (infix_symbol q) at ∷ r) r) (above (prefix_range o) (infix_range q)) _ _
      (λ a. infix_good fs (tree.Prefix p o e) F.0 F.1 (ys, F.2, t) h.1 (f, l) (top_all fs (λ s. Unit {0}) (λ s. tt)) (above_is (prefix_range o) (infix_range q) a, k))
      (λ a. one_of_two (Good xs (laid_symbol (infix_symbol q) at ∷ r) r) (above (infix_range q) (prefix_range o)) _ _
      (λ b. pushed_good (frame.Prefix o p ∷ fs) e ys F t h f k (above_is (infix_range q) (prefix_range o) b, l)) (λ b. tt))
  infix_good (frame.Infix o es p ∷ fs) e ys F t h f l k =
      one_of_two (Good xs (laid_symbol (infix_symbol q) at ∷ r) r) (above (infix_range o) (infix_range q)) _ _
      (λ a. infix_good fs (tree.Infix p o es e) F.0 F.1 (F.2.0, F.2.1, (ys, F.2.2, t)) h.1 (h.0.0, f, l) h.0.1 (above_is (infix_range o) (infix_range q) a, k))
      (λ a. one_of_two (Good xs (laid_symbol (infix_symbol q) at ∷ r) r) (above (infix_range q) (infix_range o)) _ _
      (λ b. pushed_good (frame.Infix o es p ∷ fs) e ys F t h f k (above_is (infix_range q) (infix_range o) b, l))
      (λ b. one_of_two (Good xs (laid_symbol (infix_symbol q) at ∷ r) r) (goes_on o q) _ _
      (λ c. ((r, (F.0, F.1, (laid_symbol (infix_symbol q) at ∷ r, (F.2.0, F.2.1, (ys, F.2.2, t)), ap (λ x. laid_symbol (infix_symbol x) at ∷ r) (sym (operator_same o q c)))), refl), (((h.0.0, f, l, subst (λ x. RightAbove (infix_range x) e) (sym (operator_same o q c)) k, operator_chains o q c), h.0.1), h.1), tt))
      (λ c. tt)))
  infix_good (g ∷ fs) e ys F t h f l k = pushed_good (g ∷ fs) e ys F t h f k tt
