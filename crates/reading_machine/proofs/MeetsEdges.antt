-- Where two operators meet, on the right edge of an operand and on the left edge of one.
use Rattle.std.proofs.Common.{◌≡◌, ℕ, Bool, true, false, ◌&&◌, List, [], ◌∷◌, ◌++◌, append_assoc, inl, inr, refl, sym, subst, ◌∙◌, arith}
use Rattle.std.specs.Prelude.{if◌then◌else◌, nat_eq}
use Rattle.std.proofs.lemmas.Bool.Decides.{nat_tests}
use Rattle.base_core.specs.declared.place.Place.{Place}
use Rattle.reading_trees.specs.declared.operators.InfixOperator.{InfixOperator}
use Rattle.reading_trees.specs.declared.operators.InfixOperator.TheVariants as infixes
use Rattle.reading_trees.specs.Precedence.{Range, Above, infix_range, chains}
use Rattle.reading_trees.specs.Fits.{RightAbove}
use Rattle.reading_trees.specs.Trees as tree
use Rattle.reading_trees.specs.Trees.{Tree, Operands, First, Next}
use Rattle.reading_machine.specs.Machine.{above, operator_number, goes_on, first_place, Joined, Joins, Meets, joins_in, joins_first, joins_next, join, join_first}
use Rattle.reading_machine.specs.Meeting.{OnEdge, OfPrefix, OfInfix, right_edge, Overlap, NoChain, MeetsOn, first_operator, MeetsMember, FirstMeetsMember}
use Rattle.reading_machine.proofs.Edges.{above_is}

not_above : (a b : Range) → above a b ≡ false → ¬ (Above a b)
not_above a b e h = grind (arith, nat_tests)

pub overlap : (a b : Range) → above a b ≡ false → above b a ≡ false → Overlap a b
overlap a b e f = (not_above a b e, not_above b a f)

same_number : (n : ℕ) → nat_eq n n ≡ true
same_number n = grind (arith, nat_tests)

differ : true ≡ false → ⊥
differ e = cc

both_true : (a b : Bool) → a ≡ true → b ≡ true → (a && b) ≡ true
both_true a b p q = cc

pub no_chain : (o q : InfixOperator) → goes_on o q ≡ false → NoChain o q
no_chain o q e h =
    let n : nat_eq (operator_number o) (operator_number q) ≡ true = subst (λ v. nat_eq (operator_number o) (operator_number v) ≡ true) h.0 (same_number (operator_number o)) in
    differ (sym (both_true (nat_eq (operator_number o) (operator_number q)) (chains o) n h.1) ∙ e)

-- over an edge that lies above q
pub over : (q : InfixOperator) (p : Place) (e : Tree) (os : List OnEdge) → RightAbove (infix_range q) e → MeetsOn q os p → MeetsOn q (right_edge e ++ os) p
over q p (tree.Prefix at o e) os k m =
    subst (λ v. MeetsOn q v p) (sym (append_assoc (right_edge e) (OfPrefix o at ∷ []) os)) (over q p e (OfPrefix o at ∷ os) k.1 (inl (k.0, m)))
over q p (tree.Infix at o es e) os k m =
    subst (λ v. MeetsOn q v p) (sym (append_assoc (right_edge e) (OfInfix o at ∷ []) os)) (over q p e (OfInfix o at ∷ os) k.1 (inl (k.0, m)))
over q p (tree.Quantified at c bs e) os k m = absurd k
over q p (tree.Choose at n s e) os k m = absurd k
over q p (tree.If at a e f) os k m = absurd k
over q p (tree.Case at arms) os k m = absurd k
over q p (tree.CaseOther at arms e) os k m = absurd k
over q p (tree.Let at ds e) os k m = absurd k
over q p _ os k m = m

-- ---- `\in` and the left edge

first_same : (es : Operands) (at : Place) → first_operator es at ≡ first_place es at
first_same (First e) at = refl
first_same (Next es p e) at = first_same es p

-- where the two are no tree, they meet
abbrev Late : Tree → Joined Tree → Type 0
Late e (Joins t) = Unit {0}
Late e (Meets m) = MeetsMember e m

abbrev LateFirst : Operands → Joined Operands → Type 0
LateFirst es (Joins t) = Unit {0}
LateFirst es (Meets m) = FirstMeetsMember es m

one_of_two : (G : Joined Tree → Type 0) (b : Bool) (x y : Joined Tree) → (b ≡ true → G x) → (b ≡ false → G y) → G (if b then x else y)
one_of_two G true x y f g = f refl
one_of_two G false x y f g = g refl

in_late : (at : Place) (o : InfixOperator) (es : Operands) (e : Tree) (x : Joined Operands) → Above (infix_range infixes.Member) (infix_range o) → LateFirst es x → Late (tree.Infix at o es e) (joins_in at o e x)
in_late at o es e (Joins t) a h = tt
in_late at o es e (Meets m) a h = inl (a, h)

first_late : (e : Tree) (x : Joined Tree) → Late e x → LateFirst (First e) (joins_first x)
first_late e (Joins t) h = tt
first_late e (Meets m) h = h

next_late : (es : Operands) (p : Place) (e : Tree) (x : Joined Operands) → LateFirst es x → LateFirst (Next es p e) (joins_next x p e)
next_late es p e (Joins t) h = tt
next_late es p e (Meets m) h = h

mutual
  late : (x : Tree) (q : Place) (e : Tree) → Late e (join x q e)
  late x q (tree.Infix at o es e) =
      one_of_two (Late (tree.Infix at o es e)) (above (infix_range o) (infix_range infixes.Member)) _ _ (λ a. tt)
      (λ a. one_of_two (Late (tree.Infix at o es e)) (above (infix_range infixes.Member) (infix_range o)) _ _
      (λ b. in_late at o es e (join_first x q es) (above_is (infix_range infixes.Member) (infix_range o) b) (late_first x q es))
      (λ b. inr (overlap (infix_range infixes.Member) (infix_range o) b a, first_same es at)))
  late x q e = tt

  late_first : (x : Tree) (q : Place) (es : Operands) → LateFirst es (join_first x q es)
  late_first x q (First e) = first_late e (join x q e) (late x q e)
  late_first x q (Next es p e) = next_late es p e (join_first x q es) (late_first x q es)

pub meets_member : (x : Tree) (q : Place) (e : Tree) (m : Place) → join x q e ≡ Meets m → MeetsMember e m
meets_member x q e m i = subst (λ v. Late e v) i (late x q e)
