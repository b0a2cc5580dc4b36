-- Operators: the tokens that are theirs, and their ranges of precedence, as this project's profile has them (after the table of
-- Lamport's Specifying Systems). Where two operators meet, the ranges decide which of them has the other's term as its operand.
use Rattle.std.specs.Prelude.{ℕ, ◌<◌, Bool, true, false}
use Rattle.reading_tokens.specs.declared.token.Kind.{Kind}
use Rattle.reading_tokens.specs.declared.token.Kind.TheVariants as kinds
use Rattle.reading_tokens.specs.declared.token.Word.TheVariants as words
use Rattle.reading_tokens.specs.declared.token.Symbol.{Symbol}
use Rattle.reading_tokens.specs.declared.token.Symbol.TheVariants as symbols
use Rattle.reading_trees.specs.declared.operators.PrefixOperator.{PrefixOperator}
use Rattle.reading_trees.specs.declared.operators.PrefixOperator.TheVariants as prefixes
use Rattle.reading_trees.specs.declared.operators.InfixOperator.{InfixOperator}
use Rattle.reading_trees.specs.declared.operators.InfixOperator.TheVariants as infixes
use Rattle.reading_trees.specs.declared.operators.Quantifier.{Quantifier}
use Rattle.reading_trees.specs.declared.operators.Quantifier.TheVariants as quantifiers
use Rattle.reading_trees.specs.declared.operators.BuiltinSet.{BuiltinSet}
use Rattle.reading_trees.specs.declared.operators.BuiltinSet.TheVariants as builtins

abbrev pub prefix_kind : PrefixOperator → Kind
prefix_kind prefixes.Not = kinds.Symbol symbols.Not
prefix_kind prefixes.Unchanged = kinds.Word words.Unchanged
prefix_kind prefixes.Enabled = kinds.Word words.Enabled
prefix_kind prefixes.Always = kinds.Symbol symbols.Always
prefix_kind prefixes.Eventually = kinds.Symbol symbols.Eventually
prefix_kind prefixes.Powerset = kinds.Word words.Subset
prefix_kind prefixes.BigUnion = kinds.Word words.Union
prefix_kind prefixes.Domain = kinds.Word words.Domain
prefix_kind prefixes.Negate = kinds.Symbol symbols.Minus

abbrev pub infix_symbol : InfixOperator → Symbol
infix_symbol infixes.Implies = symbols.Implies
infix_symbol infixes.Equivalent = symbols.Equivalent
infix_symbol infixes.LeadsTo = symbols.LeadsTo
infix_symbol infixes.And = symbols.And
infix_symbol infixes.Or = symbols.Or
infix_symbol infixes.Equal = symbols.Equal
infix_symbol infixes.NotEqual = symbols.NotEqual
infix_symbol infixes.Less = symbols.Less
infix_symbol infixes.Greater = symbols.Greater
infix_symbol infixes.LessOrEqual = symbols.LessOrEqual
infix_symbol infixes.GreaterOrEqual = symbols.GreaterOrEqual
infix_symbol infixes.Member = symbols.Member
infix_symbol infixes.NotMember = symbols.NotMember
infix_symbol infixes.SubsetOrEqual = symbols.SubsetOrEqual
infix_symbol infixes.MergedFunctions = symbols.MergedFunctions
infix_symbol infixes.SingleFunction = symbols.SingleFunction
infix_symbol infixes.Union = symbols.Union
infix_symbol infixes.Intersection = symbols.Intersection
infix_symbol infixes.Difference = symbols.Difference
infix_symbol infixes.Interval = symbols.Interval
infix_symbol infixes.Plus = symbols.Plus
infix_symbol infixes.Remainder = symbols.Remainder
infix_symbol infixes.Minus = symbols.Minus
infix_symbol infixes.CartesianProduct = symbols.CartesianProduct
infix_symbol infixes.Times = symbols.Times
infix_symbol infixes.Concatenation = symbols.Concatenation
infix_symbol infixes.Quotient = symbols.Quotient
infix_symbol infixes.Power = symbols.Power

abbrev pub quantifier_symbol : Quantifier → Symbol
quantifier_symbol quantifiers.ForAll = symbols.ForAll
quantifier_symbol quantifiers.Exists = symbols.Exists

abbrev pub truth_kind : Bool → Kind
truth_kind true = kinds.Word words.True
truth_kind false = kinds.Word words.False

abbrev pub builtin_kind : BuiltinSet → Kind
builtin_kind builtins.Booleans = kinds.Word words.Boolean
builtin_kind builtins.Strings = kinds.Word words.String

-- ---- ranges

-- from which precedence to which an operator may stand
pub record Range : Type 0 where
  pub low : ℕ
  pub high : ℕ

abbrev pub range : ℕ → ℕ → Range
range a b = record { low = a; high = b }

abbrev pub prefix_range : PrefixOperator → Range
prefix_range prefixes.Not = range 4 4
prefix_range prefixes.Unchanged = range 4 15
prefix_range prefixes.Enabled = range 4 15
prefix_range prefixes.Always = range 4 15
prefix_range prefixes.Eventually = range 4 15
prefix_range prefixes.Powerset = range 8 8
prefix_range prefixes.BigUnion = range 8 8
prefix_range prefixes.Domain = range 9 9
prefix_range prefixes.Negate = range 12 12

abbrev pub infix_range : InfixOperator → Range
infix_range infixes.Implies = range 1 1
infix_range infixes.Equivalent = range 2 2
infix_range infixes.LeadsTo = range 2 2
infix_range infixes.And = range 3 3
infix_range infixes.Or = range 3 3
infix_range infixes.Equal = range 5 5
infix_range infixes.NotEqual = range 5 5
infix_range infixes.Less = range 5 5
infix_range infixes.Greater = range 5 5
infix_range infixes.LessOrEqual = range 5 5
infix_range infixes.GreaterOrEqual = range 5 5
infix_range infixes.Member = range 5 5
infix_range infixes.NotMember = range 5 5
infix_range infixes.SubsetOrEqual = range 5 5
infix_range infixes.MergedFunctions = range 6 6
infix_range infixes.SingleFunction = range 7 7
infix_range infixes.Union = range 8 8
infix_range infixes.Intersection = range 8 8
infix_range infixes.Difference = range 8 8
infix_range infixes.Interval = range 9 9
infix_range infixes.Plus = range 10 10
infix_range infixes.Remainder = range 10 11
infix_range infixes.Minus = range 11 11
infix_range infixes.CartesianProduct = range 10 13
infix_range infixes.Times = range 13 13
infix_range infixes.Concatenation = range 13 13
infix_range infixes.Quotient = range 13 13
infix_range infixes.Power = range 14 14

-- a chain of this operator may have more than two operands
abbrev pub chains : InfixOperator → Bool
chains infixes.And = true
chains infixes.Or = true
chains infixes.MergedFunctions = true
chains infixes.Union = true
chains infixes.Intersection = true
chains infixes.Plus = true
chains infixes.Minus = true
chains infixes.Times = true
chains infixes.Concatenation = true
chains infixes.CartesianProduct = true
chains _ = false

-- a range that lies wholly above another
abbrev pub Above : Range → Range → Type 0
Above a b = b.high < a.low
