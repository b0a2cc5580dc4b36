-- What `parse` reads of decimal digits.
use Rattle.std.proofs.Common.{◌≡◌, sym, subst, refl, ℕ, ◌<◌, ◌^◌, true, false, List, [], ◌∷◌, arith}
use Rattle.std.specs.Prelude.{nat_eq}
use Rattle.std.specs.List.{list_all}
use Rattle.std.specs.Char.{digit_value}
use Rattle.std.specs.Str.Parse.{AllDigits, IsNumeral, digits_value, without_leading_plus}
use Rattle.std.proofs.lemmas.Bool.{and_parts}
use Rattle.std.proofs.lemmas.Bool.Decides.{nat_tests}
use Rattle.reading_tokens.specs.Shapes.{is_digit}
use Rattle.run_words.specs.Job.{IsNumber}

digit_below : (b : ℕ) → is_digit b ≡ true → digit_value b < 10
digit_below b h = grind (arith, nat_tests)

all_digits : (bs : List ℕ) → list_all is_digit bs ≡ true → AllDigits 10 bs
all_digits [] h = tt
all_digits (b ∷ bs) h = let p = and_parts (is_digit b) (list_all is_digit bs) h in (digit_below b p.0, all_digits bs p.1)

no_plus_at : (b : ℕ) (bs : List ℕ) → is_digit b ≡ true → without_leading_plus (b ∷ bs) ≡ b ∷ bs
no_plus_at b bs h = let e : nat_eq b 43 ≡ false = grind (arith, nat_tests) in rw e refl

-- a digit is no sign
no_plus : (bs : List ℕ) → list_all is_digit bs ≡ true → without_leading_plus bs ≡ bs
no_plus [] h = refl
no_plus (b ∷ bs) h = let p = and_parts (is_digit b) (list_all is_digit bs) h in no_plus_at b bs p.0

pub no_number : (text : List ℕ) (least most n : ℕ) → most < 2 ^ 32
    → (IsNumeral 10 (without_leading_plus text) × (digits_value 10 (without_leading_plus text) < 2 ^ 32) → ⊥) → IsNumber text least most n → ⊥
no_number text least most n fits none h =
    let same = no_plus text h.digits in
    let P : List ℕ → Type 0 = λ t. IsNumeral 10 t × (digits_value 10 t < 2 ^ 32) in
    let v = h.value in
    none (subst P (sym same) ((omega (arith, h.some), all_digits text h.digits), omega (arith, h.value, h.below)))
