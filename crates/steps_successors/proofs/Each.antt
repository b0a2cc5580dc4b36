-- A list that is gone through to its end.
use Rattle.std.proofs.Common.{◌≡◌, sym, ◌∙◌, List, [], ◌∷◌, ◌++◌, length, arith, rules}

-- nothing is left behind
pub all_left : {A : Type 0} (xs rest all : List A) → length rest ≡ 0 → xs ++ rest ≡ all → xs ≡ all
all_left xs [] all z e = sym (to_end xs) ∙ e
  where
    to_end : {A : Type 0} (xs : List A) → xs ++ [] ≡ xs
    to_end xs = search rules
all_left xs (x ∷ rest) all z e = absurd (omega (arith, z))
