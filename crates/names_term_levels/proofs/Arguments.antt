-- Arguments, one more.
use Rattle.std.proofs.Common.{◌≡◌, ◌∙◌, sym, ap, refl, List, [], ◌∷◌, ◌++◌, length, take, ◌<◌, ◌≤◌, arith, add-zero, get_or}
use Rattle.std.specs.Prelude.{ℕ, zero, suc, ◌+◌, ◌||◌, Bool, Option}
use Rattle.names_terms.specs.Terms.{Term}
use Rattle.names_term_parts.specs.Parts.{part}
use Rattle.names_term_parts.specs.declared.fault.LevelFault.{LevelFault}
use Rattle.names_term_levels.specs.Arguments.{argued, argued_from, arguments_from}
use Rattle.names_term_parts.proofs.Lists.{taken}
use Rattle.names_term_parts.specs.Marks.{has}

length_taken : {A : Type 0} (xs : List A) (i : ℕ) → i ≤ length xs → length (take i xs) ≡ i
length_taken [] zero le = refl
length_taken [] (suc i) le = absurd (omega arith)
length_taken (x ∷ xs) zero le = refl
length_taken (x ∷ xs) (suc i) le = omega (arith, length_taken xs i (omega arith))

arguments_from-push : (primed : List Bool) (outer : ℕ) (b : Bool) (i : ℕ) (xs : List Term) (x : Term) → arguments_from primed outer b i (xs ++ x ∷ []) ≡ arguments_from primed outer b i xs ++ part (b || has primed (outer + (i + length xs))) x ∷ []
arguments_from-push primed outer b i [] x = ap (λ n. part (b || has primed (outer + n)) x ∷ []) (sym (add-zero i))
arguments_from-push primed outer b i (y ∷ xs) x =
    let shifted : (i + 1) + length xs ≡ i + suc (length xs) = omega arith in
    ap (λ ps. part (b || has primed (outer + i)) y ∷ ps) (arguments_from-push primed outer b (i + 1) xs x ∙ ap (λ n. arguments_from primed outer b (i + 1) xs ++ part (b || has primed (outer + n)) x ∷ []) shifted)

pub arguments_more : (primed : List Bool) (outer : ℕ) (b : Bool) (xs : List Term) (i : ℕ) (x : Term) → i < length xs → x ≡ get_or xs i x → arguments_from primed outer b 0 (take (i + 1) xs) ≡ arguments_from primed outer b 0 (take i xs) ++ part (b || has primed (outer + i)) x ∷ []
arguments_more primed outer b xs i x lt e =
    let count : 0 + length (take i xs) ≡ i = omega (arith, length_taken xs i (omega arith)) in
    ap (arguments_from primed outer b 0) (taken xs i x lt e) ∙ arguments_from-push primed outer b 0 (take i xs) x ∙ ap (λ n. arguments_from primed outer b 0 (take i xs) ++ part (b || has primed (outer + n)) x ∷ []) count

argued_from-push : (primed : List Bool) (outer i : ℕ) (xs : List Term) (x : Term) (o : Option LevelFault) → argued_from primed outer i (xs ++ x ∷ []) o ≡ argued (has primed (outer + (i + length xs))) x (argued_from primed outer i xs o)
argued_from-push primed outer i [] x o = ap (λ n. argued (has primed (outer + n)) x o) (sym (add-zero i))
argued_from-push primed outer i (y ∷ xs) x o =
    let shifted : (i + 1) + length xs ≡ i + suc (length xs) = omega arith in
    argued_from-push primed outer (i + 1) xs x (argued (has primed (outer + i)) y o) ∙ ap (λ n. argued (has primed (outer + n)) x (argued_from primed outer (i + 1) xs (argued (has primed (outer + i)) y o))) shifted

pub argued_more : (primed : List Bool) (outer : ℕ) (xs : List Term) (i : ℕ) (x : Term) (o now next : Option LevelFault) (b : Bool) → i < length xs → x ≡ get_or xs i x → now ≡ argued_from primed outer 0 (take i xs) o → b ≡ has primed (outer + i) → next ≡ argued b x now → next ≡ argued_from primed outer 0 (take (i + 1) xs) o
argued_more primed outer xs i x o now next b lt e h q r =
    let count : 0 + length (take i xs) ≡ i = omega (arith, length_taken xs i (omega arith)) in
    r ∙ ap (λ z. argued z x now) q ∙ ap (λ f. argued (has primed (outer + i)) x f) h ∙ ap (λ n. argued (has primed (outer + n)) x (argued_from primed outer 0 (take i xs) o)) (sym count) ∙ sym (argued_from-push primed outer 0 (take i xs) x o) ∙ ap (λ ys. argued_from primed outer 0 ys o) (sym (taken xs i x lt e))
