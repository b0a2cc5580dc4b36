-- The tables of the code are those of the definition.
use Rattle.std.proofs.Common.{◌≡◌, refl, ℕ, List, Bool, true, false, ◌&&◌, ◌||◌, sym, ◌∙◌}
use Rattle.std.specs.Prelude.{codes}
use Rattle.std.specs.List.{list_any}
use Rattle.std.specs.Str.{bytes_eq}
use Rattle.reading_modules.specs.declared.standard.TheConstants.{MODULES, NATURALS, INTEGERS, SEQUENCES, FINITE_SETS}
use Rattle.reading_modules.specs.Standard.{is_among, is_standard, is_brought, standard_modules}

pub standard_is : (name : List ℕ) → list_any (λ word. bytes_eq word.now name) MODULES ≡ is_standard name
unfolding standard_modules
standard_is name = refl

abbrev pub naturals : List (List ℕ) → List ℕ → Bool
naturals e n = is_among (codes "Naturals") e && list_any (λ word. bytes_eq word.now n) NATURALS

abbrev pub integers : List (List ℕ) → List ℕ → Bool
integers e n = is_among (codes "Integers") e && list_any (λ word. bytes_eq word.now n) INTEGERS

abbrev pub sequences : List (List ℕ) → List ℕ → Bool
sequences e n = is_among (codes "Sequences") e && list_any (λ word. bytes_eq word.now n) SEQUENCES

abbrev pub finite_sets : List (List ℕ) → List ℕ → Bool
finite_sets e n = is_among (codes "FiniteSets") e && list_any (λ word. bytes_eq word.now n) FINITE_SETS

-- a module without names brings none
none : (b : Bool) → ((b && false) || false) ≡ false
none true = refl
none false = refl

brought_is : (e : List (List ℕ)) (n : List ℕ)
    → is_brought e n ≡ (naturals e n || (integers e n || (sequences e n || (finite_sets e n || ((is_among (codes "TLC") e && false) || false)))))
unfolding standard_modules
brought_is e n = refl

pub any_or : (a b : Bool) → b ≡ true → (a || b) ≡ true
any_or true b e = refl
any_or false b e = e

pub first_or : (a b : Bool) → a ≡ true → (a || b) ≡ true
first_or true b e = refl
first_or false b e = absurd (cc)

pub none_or : (a b : Bool) → a ≡ false → (a || b) ≡ b
none_or true b e = absurd (cc)
none_or false b e = refl

or_false : (a b : Bool) → b ≡ false → (a || b) ≡ a
or_false true b e = refl
or_false false b e = e

pub by_first : (e : List (List ℕ)) (n : List ℕ) → naturals e n ≡ true → true ≡ is_brought e n
by_first e n h = sym (brought_is e n ∙ first_or _ _ h)

pub by_second : (e : List (List ℕ)) (n : List ℕ) → integers e n ≡ true → true ≡ is_brought e n
by_second e n h = sym (brought_is e n ∙ any_or (naturals e n) _ (first_or _ _ h))

pub by_third : (e : List (List ℕ)) (n : List ℕ) → sequences e n ≡ true → true ≡ is_brought e n
by_third e n h = sym (brought_is e n ∙ any_or (naturals e n) _ (any_or (integers e n) _ (first_or _ _ h)))

pub by_fourth : (e : List (List ℕ)) (n : List ℕ) (r : Bool) → r ≡ finite_sets e n → naturals e n ≡ false → integers e n ≡ false
    → sequences e n ≡ false → r ≡ is_brought e n
by_fourth e n r f h i s =
    f ∙ sym (brought_is e n ∙ (none_or (naturals e n) _ h ∙ (none_or (integers e n) _ i ∙ (none_or (sequences e n) _ s
    ∙ or_false (finite_sets e n) _ (none (is_among (codes "TLC") e))))))
