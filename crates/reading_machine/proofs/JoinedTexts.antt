-- A name and `\in` before an expression, as the first operand that they are.
use Rattle.std.proofs.Common.{◌≡◌, ℕ, ◌≤◌, Bool, true, false, List, refl, arith}
use Rattle.std.specs.Prelude.{if◌then◌else◌}
use Rattle.base_core.specs.declared.place.Place.{Place}
use Rattle.reading_trees.specs.declared.laid.Laid.{Laid}
use Rattle.reading_tokens.specs.declared.token.Kind.TheVariants as kinds
use Rattle.reading_tokens.specs.declared.token.Symbol.TheVariants as symbols
use Rattle.reading_trees.specs.declared.operators.InfixOperator.{InfixOperator}
use Rattle.reading_trees.specs.declared.operators.InfixOperator.TheVariants as infixes
use Rattle.reading_trees.specs.Precedence.{Range, Above, infix_symbol, infix_range}
use Rattle.reading_trees.specs.Grammar.{◌⨟◌, token, sign_at, Text, Chain}
use Rattle.reading_trees.specs.Fits.{Fits, ChainFits, LeftAbove, FirstAbove, RightAbove}
use Rattle.reading_trees.specs.Trees as tree
use Rattle.reading_trees.specs.Trees.{Tree, Operands, First, Next}
use Rattle.reading_machine.specs.Machine.{above, Joined, Joins, Meets, joins_in, joins_first, joins_next, join, join_first}
use Rattle.reading_machine.proofs.Edges.{above_is}

ordered : (o : InfixOperator) → (infix_range o).low ≤ (infix_range o).high
ordered infixes.Implies = omega arith
ordered infixes.Equivalent = omega arith
ordered infixes.LeadsTo = omega arith
ordered infixes.And = omega arith
ordered infixes.Or = omega arith
ordered infixes.Equal = omega arith
ordered infixes.NotEqual = omega arith
ordered infixes.Less = omega arith
ordered infixes.Greater = omega arith
ordered infixes.LessOrEqual = omega arith
ordered infixes.GreaterOrEqual = omega arith
ordered infixes.Member = omega arith
ordered infixes.NotMember = omega arith
ordered infixes.SubsetOrEqual = omega arith
ordered infixes.MergedFunctions = omega arith
ordered infixes.SingleFunction = omega arith
ordered infixes.Union = omega arith
ordered infixes.Intersection = omega arith
ordered infixes.Difference = omega arith
ordered infixes.Interval = omega arith
ordered infixes.Plus = omega arith
ordered infixes.Remainder = omega arith
ordered infixes.Minus = omega arith
ordered infixes.CartesianProduct = omega arith
ordered infixes.Times = omega arith
ordered infixes.Concatenation = omega arith
ordered infixes.Quotient = omega arith
ordered infixes.Power = omega arith

higher : (o : InfixOperator) (r s : Range) → r.high ≤ s.high → Above (infix_range o) s → Above (infix_range o) r
higher o r s h a = omega arith

still : (o : InfixOperator) (r : Range) → Above (infix_range o) r → r.high ≤ (infix_range o).high
still o r a = omega (arith, ordered o)

mutual
  -- what is above s on its right edge is above on its left edge what s is above
  left_of : (e : Tree) (r s : Range) → r.high ≤ s.high → Fits e → RightAbove s e → LeftAbove r e
  left_of (tree.Infix at o es e) r s h f k = let a = higher o r s h k.0 in (a, chain_left es o r a f.0)
  left_of _ r s h f k = tt

  chain_left : (es : Operands) (o : InfixOperator) (r : Range) → Above (infix_range o) r → ChainFits o es → FirstAbove r es
  chain_left (First e) o r a f = left_of e r (infix_range o) (still o r a) f.0 f.1
  chain_left (Next es p e) o r a f = chain_left es o r a f.0

-- the text of a name and `\in` and then of e is that of a tree that fits, whose right edge is that of e but for `\in`
abbrev pub IsJoined : List Laid → List Laid → Tree → Joined Tree → Type 0
IsJoined xs zs e (Joins t) = Text t xs zs × Fits t × ((r : Range) → Above (infix_range infixes.Member) r → RightAbove r e → RightAbove r t)
IsJoined xs zs e (Meets p) = Unit {0}

abbrev pub IsJoinedFirst : List Laid → List Laid → InfixOperator → Joined Operands → Type 0
IsJoinedFirst xs zs o (Joins es) = Chain o es xs zs × ChainFits o es
IsJoinedFirst xs zs o (Meets p) = Unit {0}

one_of_two : (G : Joined Tree → Type 0) (b : Bool) (x y : Joined Tree) → (b ≡ true → G x) → (b ≡ false → G y) → G (if b then x else y)
one_of_two G true x y f g = f refl
one_of_two G false x y f g = g refl

module _ (p : Place) (n : List ℕ) (q : Place) (xs ws : List Laid) (start : (token p (kinds.Name n) ⨟ sign_at q symbols.Member) xs ws) where
  in_good : (at : Place) (o : InfixOperator) (es : Operands) (e : Tree) (ys zs : List Laid) (x : Joined Operands) → IsJoinedFirst xs ys o x → (sign_at at (infix_symbol o) ⨟ Text e) ys zs → Fits e → LeftAbove (infix_range o) e → IsJoined xs zs (tree.Infix at o es e) (joins_in at o e x)
  in_good at o es e ys zs (Joins fs) h t f l = ((ys, h.0, t), (h.1, f, l), λ r a k. k)
  in_good at o es e ys zs (Meets m) h t f l = tt

  first_good : (o : InfixOperator) (e : Tree) (ys : List Laid) (x : Joined Tree) → Above (infix_range infixes.Member) (infix_range o) → RightAbove (infix_range o) e → IsJoined xs ys e x → IsJoinedFirst xs ys o (joins_first x)
  first_good o e ys (Joins t) a k h = (h.0, (h.1, h.2 (infix_range o) a k))
  first_good o e ys (Meets m) a k h = tt

  next_good : (o : InfixOperator) (es : Operands) (at : Place) (e : Tree) (ys zs : List Laid) (x : Joined Operands) → IsJoinedFirst xs ys o x → (sign_at at (infix_symbol o) ⨟ Text e) ys zs → ChainFits o (Next es at e) → IsJoinedFirst xs zs o (joins_next x at e)
  next_good o es at e ys zs (Joins fs) h t f = ((ys, h.0, t), (h.1, f.1, f.2, f.3, f.4))
  next_good o es at e ys zs (Meets m) h t f = tt

  plain_good : (e : Tree) (zs : List Laid) → Text e ws zs → Fits e → LeftAbove (infix_range infixes.Member) e → IsJoined xs zs e (Joins (tree.Infix q infixes.Member (First (tree.Name p n)) e))
  plain_good e zs t f l = ((start.0, start.1, (ws, start.2, t)), ((tt, tt), f, l), λ r a k. (a, k))

  mutual
    pub join_good : (e : Tree) (zs : List Laid) → Text e ws zs → Fits e → IsJoined xs zs e (join (tree.Name p n) q e)
    join_good (tree.Infix at o es e) zs t f =
        one_of_two (IsJoined xs zs (tree.Infix at o es e)) (above (infix_range o) (infix_range infixes.Member)) _ _
        (λ a. let b = above_is (infix_range o) (infix_range infixes.Member) a in plain_good (tree.Infix at o es e) zs t f (b, chain_left es o (infix_range infixes.Member) b f.0))
        (λ b. one_of_two (IsJoined xs zs (tree.Infix at o es e)) (above (infix_range infixes.Member) (infix_range o)) _ _
        (λ a. in_good at o es e t.0 zs (join_first (tree.Name p n) q es) (join_first_good es o t.0 t.1 f.0 (above_is (infix_range infixes.Member) (infix_range o) a)) t.2 f.1 f.2)
        (λ a. tt))
    join_good e zs t f = plain_good e zs t f tt

    join_first_good : (es : Operands) (o : InfixOperator) (ys : List Laid) → Chain o es ws ys → ChainFits o es → Above (infix_range infixes.Member) (infix_range o) → IsJoinedFirst xs ys o (join_first (tree.Name p n) q es)
    join_first_good (First e) o ys t f a = first_good o e ys (join (tree.Name p n) q e) a f.1 (join_good e ys t f.0)
    join_first_good (Next es at e) o ys t f a = next_good o es at e t.0 ys (join_first (tree.Name p n) q es) (join_first_good es o t.0 t.1 f.0 a) t.2 f
