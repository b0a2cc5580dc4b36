-- What the operations on integers answer.
use Rattle.std.specs.Prelude.{◌≡◌, ℕ, zero, Bool, ℤ, pos, negsuc, neg_ℤ, ◌+ℤ◌, ◌-ℤ◌, ◌*ℤ◌, ◌≤ℤ◌, ◌<ℤ◌, nat_lt, int_lt, int_le, if◌then◌else◌, Result, Ok, Err}
use Rattle.std.specs.Int.{int_div_euclid, int_rem_euclid, int_pow}
use Rattle.values_core.specs.Data.{Val, integer}
use Rattle.values_core.specs.declared.fault.EvalKind.TheVariants.{NotInteger, Overflow, BadDivisor, BadPower}
use Rattle.values_core.specs.declared.fault.OpFault.{OpFault}
use Rattle.values_core.specs.declared.fault.OpFault.TheVariants.{Refused}

-- the number that the fault of a whole term has in place of an operand's
abbrev pub the_term : ℕ
the_term = 255

-- the integer that the operand is, or that it is none
abbrev pub int_operand : Val → Result ℤ OpFault
int_operand (integer z) = Ok z
int_operand _ = Err (Refused NotInteger 0)

-- the integers that the operands are, or the number of the first that is none
abbrev pub int_operands : Val → Val → Result (ℤ × ℤ) OpFault
int_operands (integer y) (integer z) = Ok (y, z)
int_operands (integer y) _ = Err (Refused NotInteger 1)
int_operands _ _ = Err (Refused NotInteger 0)

abbrev pub on_int : {X : Type 0} → (ℤ → Result X OpFault) → Result ℤ OpFault → Result X OpFault
on_int f (Ok z) = f z
on_int f (Err e) = Err e

abbrev pub on_ints : {X : Type 0} → (ℤ → ℤ → Result X OpFault) → Result (ℤ × ℤ) OpFault → Result X OpFault
on_ints f (Ok p) = f p.0 p.1
on_ints f (Err e) = Err e

-- whether an integer has 64 bits
abbrev pub is_i64 : ℤ → Bool
is_i64 (pos n) = nat_lt n 0x8000000000000000
is_i64 (negsuc n) = nat_lt n 0x8000000000000000

-- the integer where it has 64 bits, and else that the term overflows
abbrev pub fitted : ℤ → Result Val OpFault
fitted z = if is_i64 z then Ok (integer z) else Err (Refused Overflow the_term)

abbrev pub sum_of : Val → Val → Result Val OpFault
sum_of a b = on_ints (λ y z. fitted (y +ℤ z)) (int_operands a b)

abbrev pub difference_of : Val → Val → Result Val OpFault
difference_of a b = on_ints (λ y z. fitted (y -ℤ z)) (int_operands a b)

abbrev pub product_of : Val → Val → Result Val OpFault
product_of a b = on_ints (λ y z. fitted (y *ℤ z)) (int_operands a b)

abbrev pub negation_of : Val → Result Val OpFault
negation_of a = on_int (λ z. fitted (neg_ℤ z)) (int_operand a)

-- the quotient whose remainder lies from 0 to below the divisor, which must be above 0
abbrev pub quotient_of : Val → Val → Result Val OpFault
quotient_of a b = on_ints (λ y z. if int_lt (pos 0) z then Ok (integer (int_div_euclid y z)) else Err (Refused BadDivisor the_term)) (int_operands a b)

-- that remainder
abbrev pub remainder_of : Val → Val → Result Val OpFault
remainder_of a b = on_ints (λ y z. if int_lt (pos 0) z then Ok (integer (int_rem_euclid y z)) else Err (Refused BadDivisor the_term)) (int_operands a b)

-- y to the power z, which must not be negative, nor 0 to the power 0
abbrev pub power : ℤ → ℤ → Result Val OpFault
power y (negsuc n) = Err (Refused BadPower the_term)
power (pos zero) (pos zero) = Err (Refused BadPower the_term)
power y (pos n) = fitted (int_pow y n)

abbrev pub power_of : Val → Val → Result Val OpFault
power_of a b = on_ints power (int_operands a b)

abbrev pub is_less : Val → Val → Result Bool OpFault
is_less a b = on_ints (λ y z. Ok (int_lt y z)) (int_operands a b)

abbrev pub is_at_most : Val → Val → Result Bool OpFault
is_at_most a b = on_ints (λ y z. Ok (int_le y z)) (int_operands a b)

-- what division means: a number is its divisor times the quotient and the remainder, which lies from 0
-- to below the divisor
abbrev pub Division : Type 0
Division = (y z : ℤ) → pos 0 <ℤ z → (y ≡ (z *ℤ int_div_euclid y z) +ℤ int_rem_euclid y z) × (pos 0 ≤ℤ int_rem_euclid y z) × (int_rem_euclid y z <ℤ z)
