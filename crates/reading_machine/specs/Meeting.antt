-- Where two operators meet whose ranges allow neither of them to have the other's term as its operand.
use Rattle.std.specs.Prelude.{◌≡◌, ◌⊎◌, ℕ, ℤ, true, List, [], ◌∷◌, ◌++◌}
use Rattle.base_core.specs.declared.place.Place.{Place}
use Rattle.reading_trees.specs.declared.laid.Laid.{Laid}
use Rattle.reading_trees.specs.declared.laid.Laid.TheVariants.{Plain}
use Rattle.reading_tokens.specs.declared.token.Kind.{Kind}
use Rattle.reading_tokens.specs.declared.token.Kind.TheVariants as kinds
use Rattle.reading_tokens.specs.declared.token.Symbol.TheVariants as symbols
use Rattle.reading_tokens.specs.declared.token.Word.TheVariants as words
use Rattle.reading_trees.specs.declared.operators.PrefixOperator.{PrefixOperator}
use Rattle.reading_trees.specs.declared.operators.InfixOperator.{InfixOperator}
use Rattle.reading_trees.specs.declared.operators.InfixOperator.TheVariants as infixes
use Rattle.reading_trees.specs.Precedence.{Range, Above, prefix_range, infix_range, infix_symbol, chains}
use Rattle.reading_trees.specs.Trees.{Tree, Prefix, Infix, Quantified, Choose, If, Case, CaseOther, Let, Operands, First, Next}
use Rattle.reading_trees.specs.Fits.{Spells}

-- ---- the right edge of an operand

-- What stands on it: an operator at its place, or a row that reaches as far right as it can.
pub data OnEdge : Type 0 where
  OfPrefix : PrefixOperator → Place → OnEdge
  OfInfix : InfixOperator → Place → OnEdge
  Reaching : OnEdge

-- the right edge from the inside out, as far as to a row that reaches as far right as it can
abbrev pub right_edge : Tree → List OnEdge
right_edge (Prefix at o e) = right_edge e ++ OfPrefix o at ∷ []
right_edge (Infix at o es e) = right_edge e ++ OfInfix o at ∷ []
right_edge (Quantified at q bs e) = Reaching ∷ []
right_edge (Choose at n s e) = Reaching ∷ []
right_edge (If at p e f) = Reaching ∷ []
right_edge (Case at arms) = Reaching ∷ []
right_edge (CaseOther at arms e) = Reaching ∷ []
right_edge (Let at ds e) = Reaching ∷ []
right_edge _ = []

-- neither range lies wholly above the other
abbrev pub Overlap : Range → Range → Type 0
Overlap a b = ¬ (Above a b) × ¬ (Above b a)

-- an operator of this range, which another operator may go on with as a chain, meets that operator
abbrev pub NoChain : InfixOperator → InfixOperator → Type 0
NoChain o q = ¬ ((o ≡ q) × (chains o ≡ true))

-- Out along the edge, over each operator that lies wholly above q: the first that does not stands at p. Its range overlaps that of q,
-- and the two form no chain.
abbrev pub MeetsOn : InfixOperator → List OnEdge → Place → Type 0
MeetsOn q [] p = ⊥
MeetsOn q (OfPrefix o at ∷ os) p = (Above (prefix_range o) (infix_range q) × MeetsOn q os p) ⊎ (Overlap (prefix_range o) (infix_range q) × (at ≡ p))
MeetsOn q (OfInfix o at ∷ os) p = (Above (infix_range o) (infix_range q) × MeetsOn q os p) ⊎ (Overlap (infix_range o) (infix_range q) × NoChain o q × (at ≡ p))
MeetsOn q (Reaching ∷ os) p = ⊥

-- ---- the left edge of an operand of `\in`

-- the place of the first operator of a chain, whose last operator has this place
abbrev pub first_operator : Operands → Place → Place
first_operator (First e) at = at
first_operator (Next es p e) at = first_operator es p

-- In along the edge, over each operator that lies wholly below `\in`: the first that does not stands at q, and the ranges overlap.
abbrev mutual
  pub MeetsMember : Tree → Place → Type 0
  MeetsMember (Infix at o es e) q = (Above (infix_range infixes.Member) (infix_range o) × FirstMeetsMember es q) ⊎ (Overlap (infix_range infixes.Member) (infix_range o) × (first_operator es at ≡ q))
  MeetsMember _ q = ⊥

  pub FirstMeetsMember : Operands → Place → Type 0
  FirstMeetsMember (First e) q = MeetsMember e q
  FirstMeetsMember (Next es p e) q = FirstMeetsMember es q

-- ---- in a text

abbrev pub at_place : Kind → Place → Laid
at_place kind at = Plain (record { kind = kind; place = at })

-- an expression can begin behind these tokens: a number can stand there
abbrev pub ExpressionNext : (List Laid → Type 0) → List Laid → Type 0
ExpressionNext Begins before = (z : ℤ) × (at : Place) × Begins (before ++ at_place (kinds.Number z) at ∷ [])

-- the token here is an infix operator at q, and meets one at p on the right edge of the operand before it
pub record MeetsBehind (Begins : List Laid → Type 0) (read : List Laid) (here : Laid) (p q : Place) : Type 0 where
  pub before : List Laid
  pub text : List Laid
  pub operand : Tree
  pub operator : InfixOperator
  pub whole : read ≡ before ++ text
  pub next : ExpressionNext Begins before
  pub spelled : Spells operand text []
  pub is : here ≡ at_place (kinds.Symbol (infix_symbol operator)) q
  pub meets : MeetsOn operator (right_edge operand) p

-- a token of this kind
abbrev pub IsKind : Kind → Laid → Type 0
IsKind kind x = (at : Place) × (x ≡ at_place kind at)

-- Behind a `{` or a `[`, a name, a `\in` and an expression, a token at which the name and the `\in` can only be an operand and its operator:
-- behind a `{` a comma or the `}`; behind a `[` an arrow, EXCEPT or `]_`.
abbrev pub OnlyOperator : Laid → Laid → Type 0
OnlyOperator opening here =
    (IsKind (kinds.Symbol symbols.OpenBrace) opening × (IsKind (kinds.Symbol symbols.Comma) here ⊎ IsKind (kinds.Symbol symbols.CloseBrace) here))
    ⊎ (IsKind (kinds.Symbol symbols.OpenBracket) opening × (IsKind (kinds.Symbol symbols.Arrow) here ⊎ IsKind (kinds.Symbol symbols.CloseBracketSubscript) here ⊎ IsKind (kinds.Word words.Except) here))

-- Directly behind a `{`, or behind a `[` that begins an expression, a name and a `\in` at p are read as those of a binder for as long as
-- they can be. The token here is one that only the reading as an operator allows, and the `\in` meets an operator at q on the left edge of
-- the operand behind it.
pub record MeetsLate (Begins : List Laid → Type 0) (read : List Laid) (here : Laid) (p q : Place) : Type 0 where
  pub before : List Laid
  pub opening : Laid
  pub name : List ℕ
  pub at : Place
  pub text : List Laid
  pub operand : Tree
  pub whole : read ≡ before ++ opening ∷ at_place (kinds.Name name) at ∷ at_place (kinds.Symbol symbols.Member) p ∷ text
  pub next : ExpressionNext Begins before
  pub only : OnlyOperator opening here
  pub spelled : Spells operand text []
  pub meets : MeetsMember operand q

-- the operators at p and q meet at the token here, behind the tokens that were read
abbrev pub Meets : (List Laid → Type 0) → List Laid → Laid → Place → Place → Type 0
Meets Begins read here p q = MeetsBehind Begins read here p q ⊎ MeetsLate Begins read here p q
