-- What the operators answer whose operands are all evaluated first: each by what the operation of its name says of values. An operator that has no
-- such operation answers nothing here.
use Rattle.std.specs.Prelude.{◌≡◌, ◌⊎◌, ◌↔◌, Bool, true, List, [], ◌∷◌, Result, Ok, Err, IsTrue, int_lt, int_le}
use Rattle.values_core.specs.Data.{Val, truth}
use Rattle.values_core.specs.Sets.{IsSet}
use Rattle.values_core.specs.Integers.{sum_of, difference_of, product_of, negation_of, quotient_of, remainder_of, power_of, is_less, is_at_most, on_ints, int_operands}
use Rattle.values_core.specs.SetOperations.{Unites, Intersects, TakesAway, UnitesMembers, cardinality_of}
use Rattle.values_core.specs.FunctionOperations.{ListsDomain, MapsOne, Merges, GivesLength, GivesHead, GivesTail, Appends, Concatenates, TakesPart}
use Rattle.values_core.specs.declared.fault.EvalKind.TheVariants.{NotSet}
use Rattle.values_core.specs.declared.fault.OpFault.{OpFault}
use Rattle.values_core.specs.declared.fault.OpFault.TheVariants.{Refused}
use Rattle.reading_trees.specs.declared.operators.PrefixOperator.{PrefixOperator}
use Rattle.reading_trees.specs.declared.operators.PrefixOperator.TheVariants as prefix
use Rattle.reading_trees.specs.declared.operators.InfixOperator.{InfixOperator}
use Rattle.reading_trees.specs.declared.operators.InfixOperator.TheVariants as infix_operator
use Rattle.names_terms.specs.declared.standard.StandardOperator.{StandardOperator}
use Rattle.names_terms.specs.declared.standard.StandardOperator.TheVariants as standard

-- what an operation on values answers
abbrev pub Answer : Type 1
Answer = Result Val OpFault → Type 0

-- whether a statement on the operands is true, which they may always be asked
abbrev pub IsWhether : Type 0 → Answer
IsWhether P r = (b : Bool) × (IsTrue b ↔ P) × (r ≡ Ok (truth b))

-- the truth value that a test answers
abbrev pub tested : Result Bool OpFault → Result Val OpFault
tested (Ok b) = Ok (truth b)
tested (Err f) = Err f

-- a > b and a >= b. They are no b < a: of two operands that are no integers the left one is refused.
abbrev pub is_greater : Val → Val → Result Bool OpFault
is_greater a b = on_ints (λ y z. Ok (int_lt z y)) (int_operands a b)

abbrev pub is_at_least : Val → Val → Result Bool OpFault
is_at_least a b = on_ints (λ y z. Ok (int_le z y)) (int_operands a b)

-- every set is finite, and what is no set is refused
abbrev pub IsFinite : Val → Answer
IsFinite a r = (IsSet a × (r ≡ Ok (truth true))) ⊎ (¬ IsSet a × (r ≡ Err (Refused NotSet 0)))

abbrev pub InfixAnswers : InfixOperator → Val → Val → Answer
InfixAnswers infix_operator.Equal a b r = IsWhether (a ≡ b) r
InfixAnswers infix_operator.NotEqual a b r = IsWhether (¬ (a ≡ b)) r
InfixAnswers infix_operator.Less a b r = r ≡ tested (is_less a b)
InfixAnswers infix_operator.Greater a b r = r ≡ tested (is_greater a b)
InfixAnswers infix_operator.LessOrEqual a b r = r ≡ tested (is_at_most a b)
InfixAnswers infix_operator.GreaterOrEqual a b r = r ≡ tested (is_at_least a b)
InfixAnswers infix_operator.MergedFunctions a b r = Merges a b r
InfixAnswers infix_operator.SingleFunction a b r = MapsOne a b r
InfixAnswers infix_operator.Union a b r = Unites a b r
InfixAnswers infix_operator.Intersection a b r = Intersects a b r
InfixAnswers infix_operator.Difference a b r = TakesAway a b r
InfixAnswers infix_operator.Plus a b r = r ≡ sum_of a b
InfixAnswers infix_operator.Minus a b r = r ≡ difference_of a b
InfixAnswers infix_operator.Times a b r = r ≡ product_of a b
InfixAnswers infix_operator.Quotient a b r = r ≡ quotient_of a b
InfixAnswers infix_operator.Remainder a b r = r ≡ remainder_of a b
InfixAnswers infix_operator.Power a b r = r ≡ power_of a b
InfixAnswers infix_operator.Concatenation a b r = Concatenates a b r
InfixAnswers o a b r = ⊥

abbrev pub PrefixAnswers : PrefixOperator → Val → Answer
PrefixAnswers prefix.Negate a r = r ≡ negation_of a
PrefixAnswers prefix.BigUnion a r = UnitesMembers a r
PrefixAnswers prefix.Domain a r = ListsDomain a r
PrefixAnswers o a r = ⊥

abbrev pub StandardAnswers : StandardOperator → List Val → Answer
StandardAnswers standard.Len (a ∷ []) r = GivesLength a r
StandardAnswers standard.Head (a ∷ []) r = GivesHead a r
StandardAnswers standard.Tail (a ∷ []) r = GivesTail a r
StandardAnswers standard.Append (a ∷ b ∷ []) r = Appends a b r
StandardAnswers standard.SubSeq (a ∷ b ∷ c ∷ []) r = TakesPart a b c r
StandardAnswers standard.Cardinality (a ∷ []) r = r ≡ cardinality_of a
StandardAnswers standard.IsFiniteSet (a ∷ []) r = IsFinite a r
StandardAnswers o vs r = ⊥
