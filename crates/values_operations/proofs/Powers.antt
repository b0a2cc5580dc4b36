-- Powers to exponents of more than 32 bits.
use Rattle.std.proofs.Common.{◌≡◌, ℕ, zero, suc, ◌^◌, ◌%◌, ◌<◌, ◌≤◌, ℤ, pos, negsuc, Bool, true, false, Result, Ok, Err, cond, arith, refl, nat_eq, nat_lt}
use Rattle.std.specs.Prelude.{◌≤ℤ◌, neg_ℤ}
use Rattle.std.proofs.Math.Nat.{pow-le-pow_left, pow-le-pow_right, pow-zero, pow-suc}
use Rattle.std.proofs.lemmas.Int.{ints}
use Rattle.std.proofs.lemmas.Bool.Decides.{nat_tests}
use Rattle.values_core.specs.Data.{Val, integer}
use Rattle.values_core.specs.Integers.{fitted, power, the_term}
use Rattle.values_core.specs.declared.fault.EvalKind.TheVariants.{Overflow}
use Rattle.values_core.specs.declared.fault.OpFault.{OpFault}
use Rattle.values_core.specs.declared.fault.OpFault.TheVariants.{Refused}

zero_to : (n : ℕ) → 0 ^ suc n ≡ 0
zero_to n = rw (pow-suc 0 n) (omega arith)

one_to : (n : ℕ) → 1 ^ n ≡ 1
one_to zero = pow-zero 1
one_to (suc n) = rw (pow-suc 1 n, one_to n) (omega arith)

pub at_zero : (x y : ℤ) → x ≡ pos 0 → pos 4294967296 ≤ℤ y → Ok (integer (pos 0)) ≡ power x y
at_zero x (negsuc n) e h = absurd (omega (arith, ints))
at_zero x (pos zero) e h = absurd (omega (arith, ints))
at_zero x (pos (suc n)) e h = rw (e, zero_to n) refl

pub at_one : (x y : ℤ) → x ≡ pos 1 → pos 4294967296 ≤ℤ y → Ok (integer (pos 1)) ≡ power x y
at_one x (negsuc n) e h = absurd (omega (arith, ints))
at_one x (pos n) e h = rw (e, one_to n) refl

pub at_minus_one : (x y : ℤ) (v : Val) → x ≡ negsuc 0 → pos 4294967296 ≤ℤ y → ((n : ℕ) → y ≡ pos n → v ≡ cond (nat_eq (n % 2) 0) (integer (pos 1)) (integer (negsuc 0))) → Ok v ≡ power x y
at_minus_one x (negsuc n) v e h f = absurd (omega (arith, ints))
at_minus_one x (pos n) v e h f = rw (e, f n refl, one_to n) (either (nat_eq (n % 2) 0))
  where
    either : (b : Bool) → ◌≡◌ {A = Result Val OpFault} (Ok (cond b (integer (pos 1)) (integer (negsuc 0)))) (fitted (cond b (pos 1) (neg_ℤ (pos 1))))
    either true = refl
    either false = refl

big : (a n : ℕ) → 4294967296 ≤ n → 18446744073709551616 ≤ suc (suc a) ^ n
big a n h =
    let two : 2 ≤ suc (suc a) = omega arith in
    let first : 2 ^ n ≤ suc (suc a) ^ n = pow-le-pow_left two n in
    let wide : 64 ≤ n = omega arith in
    let one : zero < 2 = omega arith in
    let second : 2 ^ 64 ≤ 2 ^ n = pow-le-pow_right one wide in
    omega (arith, first, second)

too_big : (p : ℕ) → 18446744073709551616 ≤ p → Err (Refused Overflow the_term) ≡ fitted (pos p)
too_big p h = let f : nat_lt p 0x8000000000000000 ≡ false = grind (arith, nat_tests) in rw f refl

too_small : (p : ℕ) → 18446744073709551616 ≤ p → Err (Refused Overflow the_term) ≡ fitted (neg_ℤ (pos p))
too_small zero h = absurd (omega arith)
too_small (suc p) h = let f : nat_lt p 0x8000000000000000 ≡ false = grind (arith, nat_tests) in rw f refl

pub too_large : (x y : ℤ) → (x ≡ pos 0 → ⊥) → (x ≡ pos 1 → ⊥) → (x ≡ negsuc 0 → ⊥) → pos 4294967296 ≤ℤ y → Err (Refused Overflow the_term) ≡ power x y
too_large x (negsuc n) e f g h = absurd (omega (arith, ints))
too_large (pos zero) (pos n) e f g h = absurd (e refl)
too_large (pos (suc zero)) (pos n) e f g h = absurd (f refl)
too_large (pos (suc (suc a))) (pos n) e f g h = too_big (suc (suc a) ^ n) (big a n (omega (arith, ints)))
too_large (negsuc zero) (pos n) e f g h = absurd (g refl)
too_large (negsuc (suc a)) (pos n) e f g h = either (nat_eq (n % 2) 0)
  where
    long : 4294967296 ≤ n
    long = omega (arith, ints)

    either : (b : Bool) → Err (Refused Overflow the_term) ≡ fitted (cond b (pos (suc (suc a) ^ n)) (neg_ℤ (pos (suc (suc a) ^ n))))
    either true = too_big (suc (suc a) ^ n) (big a n long)
    either false = too_small (suc (suc a) ^ n) (big a n long)
