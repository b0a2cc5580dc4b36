-- A text in quotes, pushed piece by piece.
use Rattle.std.proofs.Common.{◌≡◌, ◌++◌, ◌∷◌, [], List, ℕ, suc, Result, Ok, Err, OnOk, if◌then◌else◌, ap, sym, ◌∙◌, refl, append_assoc, arith}
use Rattle.std.specs.Result.{is_ok}
use Rattle.std.specs.declared.alloc.AllocError.{AllocError}
use Rattle.json.specs.Print.{escape, quoted}
use Rattle.json.proofs.Printed.Strings.{escape_byte_plain}
use Rattle.run_texts.specs.Quoting.{IsPlain}

escaped_so : (s : List ℕ) → IsPlain s → escape s ≡ s
escaped_so [] h = refl
escaped_so (x ∷ xs) h =
    let first = h 0 0 (omega arith) in
    λ i. escape_byte_plain x first.1 first.2 first.0 i ++ escaped_so xs (λ k d p. h (suc k) d (omega arith)) i

three_pushed : (old a b new s : List ℕ) → IsPlain s → a ≡ old ++ 34 ∷ [] → b ≡ a ++ s → new ≡ b ++ 34 ∷ [] → new ≡ old ++ quoted s
three_pushed old a b new s h p q r =
    r ∙ ap (λ (t : List ℕ). t ++ 34 ∷ []) (q ∙ ap (λ (t : List ℕ). t ++ s) p)
    ∙ append_assoc (old ++ 34 ∷ []) s (34 ∷ []) ∙ append_assoc old (34 ∷ []) (s ++ 34 ∷ [])
    ∙ ap (λ (t : List ℕ). old ++ 34 ∷ (t ++ 34 ∷ [])) (sym (escaped_so s h))

-- what the push of the second quote leaves
pub quotes_pushed : (r : Result (Unit {0}) AllocError) (old a b new s : List ℕ) → IsPlain s → a ≡ old ++ 34 ∷ [] → b ≡ a ++ s
    → new ≡ (if is_ok r then b ++ 34 ∷ [] else b) → OnOk r (new ≡ old ++ quoted s)
quotes_pushed (Ok u) old a b new s h p q r = three_pushed old a b new s h p q r
quotes_pushed (Err x) old a b new s h p q r = tt
